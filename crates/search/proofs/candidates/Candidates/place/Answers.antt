use Rattle.std.proofs.Common.{ap, ◌∙◌}
use Rattle.search.specs.Candidates.{facts_ahead, place_told}
use Rattle.search.proofs.Routing.{candidates_after}
use Rattle.search.proofs.candidates.Candidates.place.Goals as goal

pub after_within-requires-clause-inside : goal.after_within-requires-clause-inside
after_within-requires-clause-inside g c = let place = c.args.self.now.along _ (ap place_told c.in-After.is) in place.0

pub returns-in-At-clause-found : goal.returns-in-At-clause-found
returns-in-At-clause-found g c = λ x e. c.args.self.now.along x (ap place_told c.in-At.is ∙ e)

pub returns-in-After-clause-found : goal.returns-in-After-clause-found
returns-in-After-clause-found g c = λ x e. let place = c.after_within.ensures.found x e in (place.1, place.2)

pub returns-in-After-clause-ahead : goal.returns-in-After-clause-ahead
returns-in-After-clause-ahead g c =
    let s = c.args.self.now in
    let place = s.along _ (ap place_told c.in-After.is) in
    ap (facts_ahead (g.G.Guide.on s.guide.now s.route) (g.G.Source.facts s.guide.now)) c.in-After.is
    ∙ candidates_after (g.G.Guide.on s.guide.now s.route) (g.G.Source.facts s.guide.now) c.in-After.k c.after_within.result place.0 c.after_within.ensures
