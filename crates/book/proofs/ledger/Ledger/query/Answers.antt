use Rattle.std.proofs.Common.{ap, ◌∙◌}
use Rattle.queries.specs.Checks.{valid}
use Rattle.book.specs.Rows.{queries_in}
use Rattle.book.proofs.Listed.{valid_at}
use Rattle.book.proofs.ledger.Ledger.query.Goals as goal

pub of_valid-requires : goal.of_valid-requires
of_valid-requires c =
    let l = c.args.self.now in
    ap valid c.atoms.ensures ∙ valid_at (queries_in l.table) c.args.k c.requires l.sound
