use Rattle.std.proofs.Common.{◌≤◌, map, length, sym, refl, ◌∙◌, subst, rules}
use Rattle.std.proofs.lemmas.List.{nil_from_length}
use Rattle.std.proofs.lemmas.Bool.Decides.{not_from_Decides}
use Rattle.notation.specs.Logic.{query_atom, fact_atom}
use Rattle.search.specs.Bindings.{HoldsFrom}
use Rattle.search.specs.Checking.{read_head}
use Rattle.search.proofs.Narrowing.{met_some, met_none}
use Rattle.search.proofs.Extending.{At, found, at_other, at_clash, at_below, left_next, left_none, first_left}
use Rattle.search.proofs.Heads.{any_at, any_more, atoms_fit}
use Rattle.search.proofs.Starting.{first, others, first_others, first_fits, others_fit, none_left}
use Rattle.search.proofs.rules.some_head.Goals as goal
use Rattle.search.proofs.rules.some_head.Goals.{else-is_some-via-then-is_some+else-extends, else-is_some-via-else-is_some}

pub new-f-items-requires : goal.new-f-items-requires
new-f-items-requires g c =
    let q = c.atoms.result.now in
    let some : 1 ≤ length q = search rules in
    first_fits q some (atoms_fit c.args.heads.now c.loop-h.h-index c.h-item.result q c.loop-h-test.true c.h-item.is c.atoms.ensures c.requires)

pub may_match-requires : goal.may_match-requires
may_match-requires g c =
    let q = c.atoms.result.now in
    let some : 1 ≤ length q = search rules in
    first_fits q some (atoms_fit c.args.heads.now c.loop-h.h-index c.h-item.result q c.loop-h-test.true c.h-item.is c.atoms.ensures c.requires)

pub matched-requires : goal.matched-requires
matched-requires g c =
    let q = c.atoms.result.now in
    let some : 1 ≤ length q = search rules in
    first_fits q some (atoms_fit c.args.heads.now c.loop-h.h-index c.h-item.result q c.loop-h-test.true c.h-item.is c.atoms.ensures c.requires)

pub extends-requires : goal.extends-requires
extends-requires g c =
    let q = c.atoms.result.now in
    let some : 1 ≤ length q = search rules in
    others_fit q some (atoms_fit c.args.heads.now c.loop-h.h-index c.h-item.result q c.loop-h-test.true c.h-item.is c.atoms.ensures c.requires)

pub loop-f-preserved-else-is_some : goal.loop-f-preserved-else-is_some
loop-f-preserved-else-is_some g c =
    let facts = g.G.Source.facts c.args.s.now in
    let a = first c.atoms.result.now in
    let rest = map query_atom (others c.atoms.result.now) in
    let b = c.args.b.now in
    let f = c.in-Some.f in
    let m = c.matched.new.self in
    let now : At (λ h. ⊥) facts a rest b (fact_atom f) = elim c.else-is_some.branch [
      | else-is_some-via-else-is_some w ↦ at_clash (λ h. ⊥) facts a rest b f (met_none _ m c.matched.result _ (sym c.is_some.ensures ∙ w.if-is_some.false) c.matched.ensures)
      | else-is_some-via-then-is_some+else-extends w ↦
          let to = met_some _ m c.matched.result _ (sym c.is_some.ensures ∙ w.if-is_some.true) c.matched.ensures in
          at_below (λ h. ⊥) facts a rest b f m to (λ h ag made. not_from_Decides _ w.extends.ensures w.if-extends.false (h, (ag, made)))
    ] in
    left_next (λ h. ⊥) facts a rest b _ _ _ c.in-Some.ensures.steps now c.loop-f.invariant

pub loop-f-preserved : goal.loop-f-preserved
loop-f-preserved g c =
    let facts = g.G.Source.facts c.args.s.now in
    let a = first c.atoms.result.now in
    let rest = map query_atom (others c.atoms.result.now) in
    let b = c.args.b.now in
    let f = c.in-Some.f in
    let now = at_other (λ h. ⊥) facts a rest b f (not_from_Decides _ c.may_match.ensures c.if-may_match.false) in
    left_next (λ h. ⊥) facts a rest b _ _ _ c.in-Some.ensures.steps now c.loop-f.invariant

pub loop-h-preserved : goal.loop-h-preserved
loop-h-preserved g c =
    let facts = g.G.Source.facts c.args.s.now in
    let q = c.atoms.result.now in
    let b = c.args.b.now in
    let d = c.h-item.result in
    let some : 1 ≤ length q = search rules in
    let none : HoldsFrom (read_head d) b facts → ⊥ =
    λ p. let p' = subst (λ l. HoldsFrom (map query_atom l) b facts) (sym c.atoms.ensures ∙ first_others q some) p in
    left_none (λ h. ⊥) facts (first q) (map query_atom (others q)) b _ c.in-None.ensures.steps.0 c.loop-f.invariant p'.0 p'.1.0 p'.1.1 in
    any_more (λ d. HoldsFrom (read_head d) b facts) c.args.heads.now c.loop-h.h-index d c.loop-h-test.true c.h-item.is c.loop-h.invariant none

pub returns-in-empty : goal.returns-in-empty
returns-in-empty g c =
    let facts = g.G.Source.facts c.args.s.now in
    let b = c.args.b.now in
    let empty = nil_from_length c.atoms.result.now (search rules) in
    let h = subst (λ l. HoldsFrom (map query_atom l) b facts) (sym empty ∙ c.atoms.ensures) (none_left facts b) in
    ((λ _. any_at (λ d. HoldsFrom (read_head d) b facts) c.args.heads.now c.loop-h.h-index c.h-item.result c.loop-h-test.true c.h-item.is h), λ _. refl)

pub returns-then-extends : goal.returns-then-extends
returns-then-extends g c =
    let facts = g.G.Source.facts c.args.s.now in
    let q = c.atoms.result.now in
    let b = c.args.b.now in
    let rest = map query_atom (others q) in
    let some : 1 ≤ length q = search rules in
    let is = first_left (λ h. ⊥) facts (first q) rest b _ _ _ c.in-Some.ensures.steps c.loop-f.invariant in
    let p = found facts (first q) rest b c.in-Some.f c.matched.new.self is (met_some _ _ c.matched.result _ (sym c.is_some.ensures ∙ c.if-is_some.true) c.matched.ensures) (c.extends.ensures.0 c.if-extends.true) in
    let h = subst (λ l. HoldsFrom (map query_atom l) b facts) (sym (first_others q some) ∙ c.atoms.ensures) p in
    ((λ _. any_at (λ d. HoldsFrom (read_head d) b facts) c.args.heads.now c.loop-h.h-index c.h-item.result c.loop-h-test.true c.h-item.is h), λ _. refl)
