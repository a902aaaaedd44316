use Rattle.queries.proofs.Back.{queries_print_apart}
use Rattle.queries.proofs.laws.queries_print_apart.Goals as goal

pub returns : goal.returns
returns c = queries_print_apart
