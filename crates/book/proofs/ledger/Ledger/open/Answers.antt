use Rattle.std.proofs.Common.{◌++◌, map, Ok, sym, ap, ◌∙◌}
use lib.ListN.{length-map}
use Rattle.notation.proofs.Failing.{fault_answered}
use Rattle.queries.specs.Queries.{atoms_of}
use Rattle.queries.specs.Rules.{rule_of}
use Rattle.book.specs.Ledgers.{new_book}
use Rattle.book.proofs.Opening.{opened}
use Rattle.book.proofs.ledger.Ledger.open.Goals as goal

pub returns-in_err-check_counts : goal.returns-in_err-check_counts
returns-in_err-check_counts c =
    let p = fault_answered c.from_residual.result c.from_residual.ensures.1 in
    let rs = c.args.rules.now in
    let qs = c.args.queries.now in
    rw (p.1, p.2) (opened (map rule_of rs) (map atoms_of qs) _ _ _ (length-map rs rule_of) (length-map qs atoms_of) c.in_err-check_counts.ensures)

pub returns : goal.returns
returns c =
    let rs = c.args.rules.now in
    let qs = c.args.queries.now in
    opened (map rule_of rs) (map atoms_of qs) _ _ _ (length-map rs rule_of) (length-map qs atoms_of) c.in_ok-check_counts.ensures
    ∙ ap Ok (sym (c.in_ok-of_parts.ensures ∙ ap (λ v. new_book (map rule_of v) (map atoms_of qs)) (c.in_ok-extend_from_slice.ensures.items ∙ ap (λ v. v ++ rs) c.new-held.ensures.items)))
