use Rattle.std.proofs.Common.{ℕ, ◌<◌}
use Rattle.search.specs.Answers.{HoldsAt}
use Rattle.book.specs.Ledgers.{book_of}
use Rattle.book.proofs.ledger.Ledger.opening.Given as goal

abbrev pub invariant-loop-k : goal.invariant-loop-k
invariant-loop-k g l = (j : ℕ) → j < l.k → HoldsAt (book_of l.self).queries (g.G.Source.facts l.s) j → ⊥
