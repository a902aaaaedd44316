use Rattle.std.proofs.Common.{map, length}
use Rattle.notation.specs.Logic.{query_atom}
use Rattle.search.specs.Candidates.{facts_ahead}
use Rattle.search.proofs.Extending.{Left}
use Rattle.search.proofs.+extends.Given as goal

abbrev pub decreases-extends : goal.decreases-extends
decreases-extends g l = length l.q.now

abbrev pub invariant-loop-f : goal.invariant-loop-f
invariant-loop-f g l =
    let it = l.f-iterator in
    Left (λ h. ⊥) (g.G.Source.facts l.s) l.a (map query_atom l.rest) l.b (facts_ahead (g.G.Guide.on it.guide.now it.route) (g.G.Source.facts it.guide.now) it.ahead)
