use Rattle.queries.proofs.Back.{query_lines_read_back}
use Rattle.queries.proofs.laws.query_lines_read_back.Goals as goal

pub returns : goal.returns
returns c = query_lines_read_back
