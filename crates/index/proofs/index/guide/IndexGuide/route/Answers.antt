use Rattle.std.proofs.Common.{arith}
use Rattle.index.proofs.Covered.{covered_by_term}
use Rattle.index.proofs.index.guide.IndexGuide.route.Goals as goal

pub returns-in-Some : goal.returns-in-Some
returns-in-Some c = covered_by_term c.args.self.now c.args.a.now c.args.b.now c.blend.result c.loop-at.at (omega arith) c.in-Some.x c.blend.ensures c.in-Some.ensures
