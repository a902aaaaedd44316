use Rattle.laws.proofs.Published.{derivations_can_be_offered}
use Rattle.laws.proofs.derivations_can_be_offered.Goals as goal

pub returns : goal.returns
returns c = derivations_can_be_offered
