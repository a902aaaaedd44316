-- When a list of facts keeps a rule, and when one list maps into another.
use Rattle.std.specs.Prelude.{◌≡◌, ℕ, ◌⊎◌, List, [], ◌∷◌}
use Rattle.notation.specs.Logic.{Term, var, Atom, In, terms, Facts}
use Rattle.search.specs.Holding.{Makes, Holds}

-- a body, and heads of which one has to follow
pub record Rule : Type 0 where
  pub body : List (Atom Term)
  pub heads : List (List (Atom Term))

-- the term x occurs in the atoms
abbrev pub Occurs : {X : Type 0} → X → List (Atom X) → Type 0
Occurs x q = In x (terms q)

-- h and g give the same to each variable of the atoms
abbrev pub Agree : List (Atom Term) → (ℕ → Term) → (ℕ → Term) → Type 0
Agree b h g = (n : ℕ) → Occurs (var n) b → g n ≡ h n

-- some head becomes facts under an extension of h
abbrev pub SomeHead : List (Atom Term) → (ℕ → Term) → List (List (Atom Term)) → Facts → Type 0
SomeHead b h [] l = ⊥
SomeHead b h (d ∷ ds) l = ((g : ℕ → Term) × Agree b h g × Makes g d l) ⊎ SomeHead b h ds l

-- each giving that makes the body facts can be extended so that some head becomes facts
abbrev pub Keeps : Rule → Facts → Type 0
Keeps r l = (h : ℕ → Term) → Makes h r.body l → SomeHead r.body h r.heads l

-- a list maps into another: its unknowns can be given terms so that each fact becomes a fact of the other
abbrev pub Maps : Facts → Facts → Type 0
Maps l m = Holds l m
