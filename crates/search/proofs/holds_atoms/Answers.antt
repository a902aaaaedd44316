use Rattle.search.proofs.Starting.{open_start}
use Rattle.search.proofs.holds_atoms.Goals as goal

pub returns : goal.returns
returns g c = open_start (g.G.Source.facts c.args.s.now) _ 32 c.new.result c.extends.result c.new.ensures c.extends.ensures
