use Rattle.search.proofs.Composing.{held_where_mapped}
use Rattle.search.proofs.laws.held_where_mapped.Goals as goal

pub returns : goal.returns
returns c = held_where_mapped
