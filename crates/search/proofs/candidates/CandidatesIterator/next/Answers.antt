use Rattle.std.proofs.Common.{ap, ◌∙◌, length, arith}
use Rattle.notation.specs.Logic.{fact_atom}
use Rattle.search.specs.Routes.{facts_from}
use Rattle.search.proofs.Routing.{candidates_here}
use Rattle.search.proofs.candidates.CandidatesIterator.next.Goals as goal

pub at-requires : goal.at-requires
at-requires g c = let place = c.place.ensures.found _ c.in_ok-k.was in place.0

pub returns-clause-steps : goal.returns-clause-steps
returns-clause-steps g c =
    let s = c.args.self.now in
    let on = g.G.Guide.on s.guide.now s.route in
    let facts = g.G.Source.facts s.guide.now in
    let place = c.place.ensures.found _ c.in_ok-k.was in
    c.place.ensures.ahead ∙ ap (facts_from on facts) c.in_ok-k.was ∙ candidates_here on facts c.in_ok-k.k (fact_atom c.at.result) c.at.ensures place.0 place.1

pub returns-clause-goes : goal.returns-clause-goes
returns-clause-goes g c =
    let s = c.args.self.now in
    let on = g.G.Guide.on s.guide.now s.route in
    let facts = g.G.Source.facts s.guide.now in
    let place = c.place.ensures.found _ c.in_ok-k.was in
    let steps = c.place.ensures.ahead ∙ ap (facts_from on facts) c.in_ok-k.was ∙ candidates_here on facts c.in_ok-k.k (fact_atom c.at.result) c.at.ensures place.0 place.1 in
    record { on = λ _. (tt, tt, omega (arith, ap length steps)); keeps = tt; rests = λ _. tt }
