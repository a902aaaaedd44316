-- What a question answers: the lowest number, or none.
use Rattle.std.specs.Prelude.{ℕ, ◌<◌, List, [], map, length, Some, None, Option, slice_index_or}
use Rattle.notation.specs.declared.terms.Atom.{Atom}
use Rattle.notation.specs.declared.terms.Term.{Term}
use Rattle.notation.specs.Logic.{Facts, query_atom}
use Rattle.search.specs.Holding.{Holds}

-- the lowest number below n of which P holds, or none
abbrev pub Lowest : (ℕ → Type 0) → ℕ → Option ℕ → Type 0
Lowest P n (Some k) = (k < n) × P k × ((j : ℕ) → j < k → P j → ⊥)
Lowest P n None = (j : ℕ) → j < n → P j → ⊥

-- the query with number k holds in the list
abbrev pub HoldsAt : List (List (Atom Term)) → Facts → ℕ → Type 0
HoldsAt qs l k = Holds (map query_atom (slice_index_or qs k [])) l

-- the lowest query that holds in the list, or none
abbrev pub LowestHeld : List (List (Atom Term)) → Facts → Option ℕ → Type 0
LowestHeld qs l o = Lowest (HoldsAt qs l) (length qs) o
