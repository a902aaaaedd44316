use Rattle.notation.proofs.Back.{terms_read_back}
use Rattle.notation.proofs.laws.terms_read_back.Goals as goal

pub returns : goal.returns
returns c = terms_read_back
