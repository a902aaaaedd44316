use Rattle.std.proofs.Common.{arith}
use Rattle.notation.specs.Logic.{query_atom}
use Rattle.search.proofs.Routing.{candidates_first}
use Rattle.search.proofs.candidates.Candidates.new.Goals as goal

pub returns : goal.returns
returns g c = candidates_first (g.G.Guide.on c.args.s.now c.route-route.result) (g.G.Source.facts c.args.s.now) (query_atom c.args.a.now) c.args.b.now c.first_within.result c.route-route.ensures c.first_within.ensures

pub invariant_of-result : goal.invariant_of-result
invariant_of-result g c = record { whole = omega (arith, c.len-end.ensures); along = λ k e. let place = c.first_within.ensures.found k e in (place.1, place.2) }
