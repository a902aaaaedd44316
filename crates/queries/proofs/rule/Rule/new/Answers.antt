use Rattle.std.proofs.Common.{Some, option_and_then, refl, ap, ◌∙◌, arith}
use Rattle.std.proofs.lemmas.Bool.{and_from, eq-eqb}
use Rattle.queries.specs.Checks.{all_terms, numbered, next_is, fine}
use Rattle.queries.proofs.Valid.{fine_from_check, at_scope}
use Rattle.queries.proofs.rule.Rule.new.Goals as goal

pub invariant_of-result : goal.invariant_of-result
invariant_of-result c =
    let k = c.args.body.next in
    let m = c.in_ok-atoms.next in
    let e = c.in_ok-atoms.ensures in
    let p = fine_from_check 4 k k k c.args.arity.now c.args.atoms.now m (at_scope 4 c.args.arity.now c.args.atoms.now c.new.ensures e.next) in record {
      some = omega arith;
      within = omega arith;
      proper = and_from _ _ (ap (fine 4) e.held ∙ p.0) refl;
      counted = ap (λ l. next_is (option_and_then (λ n. Some n) (numbered k k k (all_terms l))) m) e.held
          ∙ ap (λ o. next_is (option_and_then (λ n. Some n) o) m) p.1
          ∙ eq-eqb m m refl;
    }
