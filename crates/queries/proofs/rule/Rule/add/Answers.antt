use Rattle.std.proofs.Common.{◌≡◌, length, Ok, refl, ap, ◌∙◌, arith, rules, sym}
use Rattle.std.proofs.lemmas.Result.{err_from_is_err_and}
use Rattle.queries.specs.Checks.{next_is}
use Rattle.queries.specs.RuleChecks.{heads_fine, heads_numbered}
use Rattle.queries.specs.Rules.{heads_of}
use Rattle.queries.proofs.Adding.{heads_more, fine_push, numbered_push, full_is, more_is}
use Rattle.queries.proofs.Valid.{fine_from_check, next_from_some, some_from_next, at_scope}
use Rattle.queries.proofs.rule.Rule.add.Goals as goal

pub returns-then-self-eq4 : goal.returns-then-self-eq4
returns-then-self-eq4 c =
    let arity = c.args.arity.now in
    (refl, full_is c.args.self.now arity c.args.atoms.now (search rules) _ c.if-self-eq4.true (c.too_many.ensures arity))

pub returns-in_err-atoms : goal.returns-in_err-atoms
returns-in_err-atoms c =
    let p = err_from_is_err_and c.from_residual.result c.from_residual.ensures.1 in
    simp (p.1, p.2) (refl, more_is c.args.self.now c.args.arity.now c.args.atoms.now (search rules) c.new.result _ c.if-self-eq4.false c.new.ensures c.in_err-atoms.ensures.fault)

pub invariant_of-self : goal.invariant_of-self
invariant_of-self c =
    let r = c.args.self.now in
    let as' = c.args.atoms.now in
    let four : length r.heads ≡ 4 = search rules in
    let e = c.in_ok-atoms.ensures in
    let p = fine_from_check 4 r.body.next r.next r.next c.args.arity.now as' _ (at_scope 4 c.args.arity.now c.args.atoms.now c.new.ensures e.next) in
    let more = heads_more r.heads r.count record { atoms = c.in_ok-atoms.atoms } as' (omega (arith, r.within, c.if-self-eq4.false)) e.held in record {
      some = omega arith;
      within = omega (arith, r.within, c.if-self-eq4.false);
      proper = ap heads_fine more ∙ fine_push (heads_of r) as' r.proper p.0;
      counted = ap (λ hs. next_is (heads_numbered r.body.next r.body.next hs) c.in_ok-atoms.next) more
          ∙ next_from_some _ _ (numbered_push r.body.next r.body.next r.next _ (heads_of r) as' (some_from_next _ _ r.counted) p.1);
    }

pub returns : goal.returns
returns c =
    let r = c.args.self.now in
    let as' = c.args.atoms.now in
    let four : length r.heads ≡ 4 = search rules in
    let e = c.in_ok-atoms.ensures in
    let more = heads_more r.heads r.count record { atoms = c.in_ok-atoms.atoms } as' (omega (arith, r.within, c.if-self-eq4.false)) e.held in
    (refl, more_is r c.args.arity.now as' four c.new.result _ c.if-self-eq4.false c.new.ensures e.next ∙ ap Ok (sym more))
