use Rattle.laws.proofs.Law.{law_holds}
use Rattle.laws.proofs.runs_keep_the_law.Goals as goal

pub returns : goal.returns
returns c = law_holds
