use Rattle.laws.proofs.Wrong.{wrong_ledgers_break}
use Rattle.laws.proofs.wrong_ledgers_break_the_law.Goals as goal

pub returns : goal.returns
returns c = wrong_ledgers_break
