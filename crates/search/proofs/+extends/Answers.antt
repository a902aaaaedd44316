use Rattle.std.proofs.Common.{◌≤◌, map, length, sym, refl, ◌∙◌, subst, rules}
use Rattle.std.proofs.lemmas.List.{nil_from_length}
use Rattle.std.proofs.lemmas.Bool.{false≢true}
use Rattle.std.proofs.lemmas.Bool.Decides.{not_from_Decides}
use Rattle.notation.specs.Logic.{query_atom, fact_atom}
use Rattle.search.specs.Bindings.{HoldsFrom}
use Rattle.search.proofs.Narrowing.{met_some, met_none}
use Rattle.search.proofs.Extending.{At, found, at_other, at_clash, at_below, left_next, left_none, first_left}
use Rattle.search.proofs.Starting.{first, others, first_others, none_left}
use Rattle.search.proofs.+extends.Goals as goal
use Rattle.search.proofs.+extends.Goals.{else-is_some-via-then-is_some+else-extends, else-is_some-via-else-is_some}

pub returns-then-extends : goal.returns-then-extends
returns-then-extends g t c =
    let facts = g.G.Source.facts c.args.s.now in
    let q = c.args.q.now in
    let b = c.args.b.now in
    let rest = map query_atom (others q) in
    let some : 1 ≤ length q = search rules in
    let is = first_left (λ h. ⊥) facts (first q) rest b _ _ _ c.in-Some.ensures.steps c.loop-f.invariant in
    let h = found facts (first q) rest b c.in-Some.f c.matched.new.self is (met_some _ _ c.matched.result _ (sym c.is_some.ensures ∙ c.if-is_some.true) c.matched.ensures) (c.extends.ensures.0 c.if-extends.true) in
    ((λ _. subst (λ l. HoldsFrom (map query_atom l) b facts) (sym (first_others q some)) h), λ _. refl)

pub loop-f-preserved-else-is_some : goal.loop-f-preserved-else-is_some
loop-f-preserved-else-is_some g t c =
    let facts = g.G.Source.facts c.args.s.now in
    let a = first c.args.q.now in
    let rest = map query_atom (others c.args.q.now) in
    let b = c.args.b.now in
    let f = c.in-Some.f in
    let m = c.matched.new.self in
    let now : At (λ h. ⊥) facts a rest b (fact_atom f) = elim c.else-is_some.branch [
      | else-is_some-via-else-is_some w ↦ at_clash (λ h. ⊥) facts a rest b f (met_none _ m c.matched.result _ (sym c.is_some.ensures ∙ w.if-is_some.false) c.matched.ensures)
      | else-is_some-via-then-is_some+else-extends w ↦
          let to = met_some _ m c.matched.result _ (sym c.is_some.ensures ∙ w.if-is_some.true) c.matched.ensures in
          at_below (λ h. ⊥) facts a rest b f m to (λ h ag made. not_from_Decides _ w.extends.ensures w.if-extends.false (h, (ag, made)))
    ] in
    left_next (λ h. ⊥) facts a rest b _ _ _ c.in-Some.ensures.steps now c.loop-f.invariant

pub loop-f-preserved : goal.loop-f-preserved
loop-f-preserved g t c =
    let facts = g.G.Source.facts c.args.s.now in
    let a = first c.args.q.now in
    let rest = map query_atom (others c.args.q.now) in
    let b = c.args.b.now in
    let f = c.in-Some.f in
    let now = at_other (λ h. ⊥) facts a rest b f (not_from_Decides _ c.may_match.ensures c.if-may_match.false) in
    left_next (λ h. ⊥) facts a rest b _ _ _ c.in-Some.ensures.steps now c.loop-f.invariant

pub returns-in-empty : goal.returns-in-empty
returns-in-empty g t c =
    let none = nil_from_length c.args.q.now (search rules) in
    ((λ _. simp none (none_left (g.G.Source.facts c.args.s.now) c.args.b.now)), λ _. refl)

pub returns-in-None : goal.returns-in-None
returns-in-None g t c =
    let facts = g.G.Source.facts c.args.s.now in
    let q = c.args.q.now in
    let b = c.args.b.now in
    let some : 1 ≤ length q = search rules in
    ((λ e. absurd (false≢true e)), λ p. let p' = subst (λ l. HoldsFrom (map query_atom l) b facts) (first_others q some) p in absurd (left_none (λ h. ⊥) facts (first q) (map query_atom (others q)) b _ c.in-None.ensures.steps.0 c.loop-f.invariant p'.0 p'.1.0 p'.1.1))
