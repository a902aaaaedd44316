use Rattle.std.proofs.Common.{map, take, string_bytes}
use Rattle.book.specs.Ledgers.{book_of}
use Rattle.folder.specs.Folders.{strike_of}
use Rattle.folder.specs.Printouts.{Struck}
use Rattle.folder.proofs.printout.strike_all.Given as goal

abbrev pub invariant-loop-s : goal.invariant-loop-s
invariant-loop-s l = Struck (book_of l.initial.ledger) (map strike_of (take l.s-index l.strikes)) (book_of l.ledger) (string_bytes l.initial.out) (string_bytes l.out)
