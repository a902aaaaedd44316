use Rattle.search.proofs.Composing.{held_by_general}
use Rattle.search.proofs.laws.held_by_general.Goals as goal

pub returns : goal.returns
returns c = held_by_general
