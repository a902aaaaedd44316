-- The state of a ledger as lists, and what a strike does to it.
use Rattle.std.specs.Prelude.{◌≡◌, ℕ, Bool, true, false, List, [], map, Ok, Err, Result, ◌≢◌, slice_index_or, slice_set}
use Rattle.notation.specs.declared.terms.Atom.{Atom}
use Rattle.notation.specs.declared.terms.Term.{Term}
use Rattle.notation.specs.Logic.{query_atom}
use Rattle.search.specs.Holding.{Holds}
use Rattle.book.specs.declared.refusal.Refusal.{Refusal}
use Rattle.book.specs.declared.refusal.Refusal.TheVariants.{NotStanding, SameQuery, NotHeld}

-- the rules, each a body and its heads, how many queries were opened, the queries entered in the order of their numbers, and whether each stands
pub record Book : Type 0 where
  pub rules : List (List (Atom Term) × List (List (Atom Term)))
  pub opened : ℕ
  pub queries : List (List (Atom Term))
  pub standing : List Bool

-- query k was entered and is not struck
abbrev pub Stands : Book → ℕ → Type 0
Stands b k = slice_index_or b.standing k false ≡ true

-- the query with number k, as logic has it
abbrev pub query_at : Book → ℕ → List (Atom Term)
query_at b k = slice_index_or b.queries k []

-- query y holds in query x read as facts
abbrev pub HoldsIn : Book → ℕ → ℕ → Type 0
HoldsIn b y x = Holds (map query_atom (query_at b y)) (map query_atom (query_at b x))

-- the book with query x struck
abbrev pub struck : Book → ℕ → Book
struck b x = record { rules = b.rules; opened = b.opened; queries = b.queries; standing = slice_set b.standing x false }

-- what the strike of x by y answers, and the book afterwards: done exactly when both stand, they differ, and y holds in
-- x read as facts; a refusal changes nothing
abbrev pub Strikes : Book → ℕ → ℕ → Result (Unit {0}) Refusal → Book → Type 0
Strikes b x y (Ok u) new = Stands b x × Stands b y × (x ≢ y) × HoldsIn b y x × (new ≡ struck b x)
Strikes b x y (Err NotStanding) new = (Stands b x → Stands b y → ⊥) × (new ≡ b)
Strikes b x y (Err SameQuery) new = Stands b x × Stands b y × (x ≡ y) × (new ≡ b)
Strikes b x y (Err NotHeld) new = Stands b x × Stands b y × (x ≢ y) × (HoldsIn b y x → ⊥) × (new ≡ b)

-- the number of a refusal, with its place
abbrev pub refusal_number : Refusal → ℕ × ℕ
refusal_number NotStanding = (12, 0)
refusal_number SameQuery = (20, 0)
refusal_number NotHeld = (21, 0)
