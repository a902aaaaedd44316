use Rattle.laws.proofs.Worked.{derivation_holds}
use Rattle.laws.proofs.a_worked_derivation_is_entered.Goals as goal

pub returns : goal.returns
returns c = derivation_holds
