use Rattle.std.proofs.Common.{◌∷◌, ◌≤◌, map, length, Decides, sym, refl, ◌∙◌, subst, rules}
use Rattle.std.proofs.lemmas.List.{nil_from_length}
use Rattle.std.proofs.lemmas.Bool.{false≢true}
use Rattle.std.proofs.lemmas.Bool.Decides.{not_from_Decides}
use Rattle.notation.specs.Logic.{query_atom, fact_atom}
use Rattle.search.specs.Checking.{Reached, KeepsFrom}
use Rattle.search.proofs.Bodies.{keeps_none, reached_more, keeps_rest}
use Rattle.search.proofs.Narrowing.{met_some, met_none}
use Rattle.search.proofs.Extending.{At, at_other, at_clash, at_below, left_next, left_none, first_left}
use Rattle.search.proofs.Starting.{first, others, first_others}
use Rattle.search.proofs.rules.+kept_from.Goals as goal
use Rattle.search.proofs.rules.+kept_from.Goals.{else-is_some-via-then-is_some+else-not-kept_from, else-is_some-via-else-is_some}

pub returns-then-not-kept_from : goal.returns-then-not-kept_from
returns-then-not-kept_from g t c =
    let facts = g.G.Source.facts c.args.s.now in
    let q = c.args.body.now in
    let heads = c.args.heads.now in
    let b = c.args.b.now in
    let rest = map query_atom (others q) in
    let some : 1 ≤ length q = search rules in
    let is = first_left (Reached (query_atom (first q) ∷ rest) heads b facts) facts (first q) rest b _ _ _ c.in-Some.ensures.steps c.loop-f.invariant in (
      (λ e. absurd (false≢true e)),
      λ keeps.
          let keeps' = subst (λ l. KeepsFrom (map query_atom l) heads b facts) (first_others q some) keeps in
          absurd (not_from_Decides _ c.kept_from.ensures c.if-not-kept_from.true (keeps_rest facts heads (first q) rest b c.in-Some.f c.matched.new.self (met_some _ _ c.matched.result _ (sym c.is_some.ensures ∙ c.if-is_some.true) c.matched.ensures) is keeps')),
    )

pub loop-f-preserved-else-is_some : goal.loop-f-preserved-else-is_some
loop-f-preserved-else-is_some g t c =
    let facts = g.G.Source.facts c.args.s.now in
    let a = first c.args.body.now in
    let rest = map query_atom (others c.args.body.now) in
    let heads = c.args.heads.now in
    let b = c.args.b.now in
    let f = c.in-Some.f in
    let m = c.matched.new.self in
    let now : At (Reached (query_atom a ∷ rest) heads b facts) facts a rest b (fact_atom f) = elim c.else-is_some.branch [
      | else-is_some-via-else-is_some w ↦ at_clash (Reached (query_atom a ∷ rest) heads b facts) facts a rest b f (met_none _ m c.matched.result _ (sym c.is_some.ensures ∙ w.if-is_some.false) c.matched.ensures)
      | else-is_some-via-then-is_some+else-not-kept_from w ↦
          let to = met_some _ m c.matched.result _ (sym c.is_some.ensures ∙ w.if-is_some.true) c.matched.ensures in
          at_below (Reached (query_atom a ∷ rest) heads b facts) facts a rest b f m to (reached_more facts heads a rest b f m to (w.kept_from.ensures.0 w.if-not-kept_from.false))
    ] in
    left_next (Reached (query_atom a ∷ rest) heads b facts) facts a rest b _ _ _ c.in-Some.ensures.steps now c.loop-f.invariant

pub loop-f-preserved : goal.loop-f-preserved
loop-f-preserved g t c =
    let facts = g.G.Source.facts c.args.s.now in
    let a = first c.args.body.now in
    let rest = map query_atom (others c.args.body.now) in
    let heads = c.args.heads.now in
    let b = c.args.b.now in
    let f = c.in-Some.f in
    let now = at_other (Reached (query_atom a ∷ rest) heads b facts) facts a rest b f (not_from_Decides _ c.may_match.ensures c.if-may_match.false) in
    left_next (Reached (query_atom a ∷ rest) heads b facts) facts a rest b _ _ _ c.in-Some.ensures.steps now c.loop-f.invariant

pub returns-in-empty : goal.returns-in-empty
returns-in-empty g t c =
    let facts = g.G.Source.facts c.args.s.now in
    let heads = c.args.heads.now in
    let b = c.args.b.now in
    let none = nil_from_length c.args.body.now (search rules) in
    subst (λ l. Decides c.some_head.result (KeepsFrom (map query_atom l) heads b facts)) (sym none) (keeps_none facts heads b c.some_head.result c.some_head.ensures)

pub returns-in-None : goal.returns-in-None
returns-in-None g t c =
    let facts = g.G.Source.facts c.args.s.now in
    let q = c.args.body.now in
    let a = first q in
    let rest = map query_atom (others q) in
    let heads = c.args.heads.now in
    let b = c.args.b.now in
    let some : 1 ≤ length q = search rules in
    let keeps : KeepsFrom (query_atom a ∷ rest) heads b facts = left_none (Reached (query_atom a ∷ rest) heads b facts) facts a rest b _ c.in-None.ensures.steps.0 c.loop-f.invariant in
    ((λ _. subst (λ l. KeepsFrom (map query_atom l) heads b facts) (sym (first_others q some)) keeps), λ _. refl)
