use Rattle.notation.proofs.Back.{atoms_read_back}
use Rattle.notation.proofs.laws.atoms_read_back.Goals as goal

pub returns : goal.returns
returns c = atoms_read_back
