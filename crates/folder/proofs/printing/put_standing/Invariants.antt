use Rattle.std.proofs.Common.{◌≡◌, ◌++◌, string_bytes}
use Rattle.book.specs.Ledgers.{book_of}
use Rattle.folder.specs.Printing.{print_standing}
use Rattle.folder.proofs.Printed.{left}
use Rattle.folder.proofs.printing.put_standing.Given as goal

abbrev pub invariant-loop-k : goal.invariant-loop-k
invariant-loop-k l = string_bytes l.out ++ left (book_of l.ledger).queries (book_of l.ledger).standing l.k-counter ≡ string_bytes l.initial.out ++ print_standing 0 (book_of l.ledger).queries (book_of l.ledger).standing
