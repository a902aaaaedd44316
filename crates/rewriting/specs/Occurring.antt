-- Where variables occur, and which terms may stand in the class of an unnamed variable.
use Rattle.std.specs.Prelude.{◌≡◌, ℕ, ◌+◌, ◌-◌, ◌*◌, ◌<◌, Bool, true, not, ◌&&◌, ◌||◌, List, ◌==◌, nat_le, nat_lt, slice_index}
use Rattle.notation.specs.Logic.{Term, var, Atom, at}
use Rattle.rewriting.specs.Computing.{same_term, any}
use Rattle.rewriting.specs.Steps.{Query, at_numbers, off_numbers}

-- the variable v occurs in the atom
abbrev pub mentions : ℕ → Atom Term → Bool
mentions v (at p ts) = any (same_term (var v)) ts

-- the variable v occurs in the atoms
abbrev pub occurs : ℕ → List (Atom Term) → Bool
occurs v xs = any (mentions v) xs

-- it occurs in atoms at the numbers and in no other
abbrev pub only_at : List ℕ → Query → ℕ → Bool
only_at ns qu v = occurs v (at_numbers ns 0 qu) && not (occurs v (off_numbers ns 0 qu))

-- the term at place p is the rule's variable z, or one of copy i that occurs in atoms at the numbers and in no other
abbrev pub may_stand : ℕ → ℕ → List ℕ → Query → ℕ → Bool
may_stand i z ns qu p = p == 1000 + z || (nat_le (1032 + 32 * i) p && (nat_lt p (1064 + 32 * i) && only_at ns qu (p - (1032 + 32 * i))))

-- each place with the entry of the rule's variable z has such a term
abbrev pub AllMayStand : List ℕ → ℕ → List ℕ → Query → ℕ → Type 0
AllMayStand t i ns qu z = (p : ℕ) → p < 1160 → slice_index t p ≡ slice_index t (1000 + z) → may_stand i z ns qu p ≡ true
