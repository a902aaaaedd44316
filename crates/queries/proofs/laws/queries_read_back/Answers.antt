use Rattle.queries.proofs.Back.{queries_read_back}
use Rattle.queries.proofs.laws.queries_read_back.Goals as goal

pub returns : goal.returns
returns c = queries_read_back
