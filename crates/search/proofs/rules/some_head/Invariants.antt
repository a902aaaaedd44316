use Rattle.std.proofs.Common.{map, drop}
use Rattle.notation.specs.Logic.{query_atom}
use Rattle.search.specs.Checking.{SomeFrom}
use Rattle.search.specs.Candidates.{facts_ahead}
use Rattle.search.proofs.Extending.{Left}
use Rattle.search.proofs.rules.some_head.Given as goal

abbrev pub invariant-loop-f : goal.invariant-loop-f
invariant-loop-f g l =
    let it = l.f-iterator in
    Left (λ h. ⊥) (g.G.Source.facts l.s) l.a (map query_atom l.rest) l.b (facts_ahead (g.G.Guide.on it.guide.now it.route) (g.G.Source.facts it.guide.now) it.ahead)

abbrev pub invariant-loop-h : goal.invariant-loop-h
invariant-loop-h g l = SomeFrom l.heads l.b (g.G.Source.facts l.s) → SomeFrom (drop l.h-index l.heads) l.b (g.G.Source.facts l.s)
