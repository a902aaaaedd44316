-- When a query holds in a list of facts.
use Rattle.std.specs.Prelude.{ℕ, List}
use Rattle.notation.specs.Logic.{Term, con, var, Atom, In, rename, Facts}

-- a giving of terms, at a term: a constant is only itself
abbrev pub put : (ℕ → Term) → Term → Term
put h (con k) = con k
put h (var n) = h n

-- the giving h makes each atom a fact of the list
abbrev pub Makes : (ℕ → Term) → List (Atom Term) → Facts → Type 0
Makes h q l = (a : Atom Term) → In a q → In (rename (put h) a) l

-- some giving of terms to its variables makes each atom of the query a fact of the list
abbrev pub Holds : List (Atom Term) → Facts → Type 0
Holds q l = (h : ℕ → Term) × Makes h q l
