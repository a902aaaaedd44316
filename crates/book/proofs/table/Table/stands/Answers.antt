use Rattle.std.proofs.Common.{vec_items, arith}
use Rattle.book.proofs.Listed.{stands_at}
use Rattle.book.proofs.table.Table.stands.Goals as goal

pub returns-then-k-len-clause-value : goal.returns-then-k-len-clause-value
returns-then-k-len-clause-value c = stands_at (vec_items c.self.inside.list) c.args.self.now c.self.view_is c.args.k c.index.result.now (omega (arith, c.self.inside.list.ok.0)) c.index.ensures
