use Rattle.notation.proofs.Back.{atoms_print_apart}
use Rattle.notation.proofs.laws.atoms_print_apart.Goals as goal

pub returns : goal.returns
returns c = atoms_print_apart
