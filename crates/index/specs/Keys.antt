-- The keys of facts: those of equal facts are equal, and those of others may be.
use Rattle.std.specs.Prelude.{ℕ, ◌+◌, ◌*◌, ◌%◌, List, map, Some, None, Option}
use Rattle.std.specs.List.{slice_get}
use Rattle.notation.specs.Logic.{Term, con, var, Atom, at, Facts}

-- the number of a term, and 0 for none
abbrev pub coded : Option Term → ℕ
coded (Some (con n)) = n
coded (Some (var n)) = 1000 + n
coded None = 0

-- the key of a predicate and a term, or of the predicate alone
abbrev pub blended : ℕ → Option Term → ℕ
blended p t = (p * 2000 + coded t) % 65536

-- the key of a fact at a position; past its last term, that of its predicate
abbrev pub keyed : ℕ → Atom Term → ℕ
keyed k (at p ts) = blended p (slice_get ts k)

-- the keys of facts at a position
abbrev pub keys_at : ℕ → Facts → List ℕ
keys_at k l = map (keyed k) l
