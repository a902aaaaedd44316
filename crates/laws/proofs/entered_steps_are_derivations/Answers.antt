use Rattle.laws.proofs.Offered.{steps_are_offered}
use Rattle.laws.proofs.entered_steps_are_derivations.Goals as goal

pub returns : goal.returns
returns c = steps_are_offered
