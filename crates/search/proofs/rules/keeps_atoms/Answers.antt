use Rattle.std.proofs.Common.{map}
use Rattle.notation.specs.Logic.{query_atom}
use Rattle.search.proofs.Bodies.{open_keeps}
use Rattle.search.proofs.rules.keeps_atoms.Goals as goal

pub returns : goal.returns
returns g c = open_keeps (g.G.Source.facts c.args.s.now) (map query_atom c.args.body.now) c.args.heads.now 32 c.new.result c.kept_from.result c.new.ensures c.kept_from.ensures
