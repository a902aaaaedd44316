use Rattle.std.proofs.Common.{sym, ap, ◌∙◌, arith}
use Rattle.std.proofs.lemmas.Bool.{le-ltb}
use Rattle.rewriting.specs.Written.{first_stands}
use Rattle.rewriting.proofs.Nth.{nth_at, nth_past}
use Rattle.rewriting.proofs.rows.stands_at.Goals as goal

pub returns-then-k-rows : goal.returns-then-k-rows
returns-then-k-rows c = sym (ap first_stands (nth_at c.args.k c.args.rows.now _ (omega arith)))

pub returns-else-k-rows : goal.returns-else-k-rows
returns-else-k-rows c = le-ltb _ _ (omega arith) ∙ sym (ap first_stands (nth_past c.args.k c.args.rows.now (omega arith)))
