use Rattle.rewriting.proofs.Classing.{names_are_classes, constants_apart}
use Rattle.rewriting.proofs.laws.names_are_classes.Goals as goal

pub returns : goal.returns
returns c = record { names = names_are_classes; constants = constants_apart }
