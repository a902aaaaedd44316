-- What the three questions answer.
use Rattle.std.specs.Prelude.{ℕ, length, Option}
use Rattle.notation.specs.Logic.{Facts}
use Rattle.search.specs.Answers.{Lowest, HoldsAt}
use Rattle.search.specs.Rules.{LowestBroken}
use Rattle.book.specs.Strikes.{Book, Stands}

-- the lowest standing query that holds in the list, or none
abbrev pub LowestStanding : Book → Facts → Option ℕ → Type 0
LowestStanding b l o = Lowest (λ k. Stands b k × HoldsAt b.queries l k) (length b.queries) o

-- the lowest opening query that holds in the list, struck or not, or none
abbrev pub LowestOpening : Book → Facts → Option ℕ → Type 0
LowestOpening b l o = Lowest (HoldsAt b.queries l) b.opened o

-- the lowest rule that the list does not keep, or none where it keeps them all
abbrev pub LowestBrokenRule : Book → Facts → Option ℕ → Type 0
LowestBrokenRule b l o = LowestBroken b.rules l o
