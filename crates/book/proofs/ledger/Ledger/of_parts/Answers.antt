use Rattle.std.proofs.Common.{ap, ◌∙◌, arith}
use Rattle.std.proofs.lemmas.Grind.{common_steps}
use Rattle.book.specs.Rows.{queries_in, standing_in, all_valid}
use Rattle.book.proofs.Listed.{all_queries, entered_queries, entered_standing}
use Rattle.book.proofs.ledger.Ledger.of_parts.Goals as goal

pub invariant_of-result-clause-sound : goal.invariant_of-result-clause-sound
invariant_of-result-clause-sound c = ap (λ es. all_valid (queries_in es)) c.in_ok-table.ensures ∙ all_queries c.args.queries.now

pub returns : goal.returns
returns c =
    let qs = c.args.queries.now in
    let queries = ap queries_in c.in_ok-table.ensures ∙ entered_queries qs in
    let standing = ap standing_in c.in_ok-table.ensures ∙ entered_standing qs in
    grind (arith, common_steps)
