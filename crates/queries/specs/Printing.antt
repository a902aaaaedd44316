-- What is printed of a query: its atoms, with ";" between them.
use Rattle.std.specs.Prelude.{ℕ, List, [], ◌∷◌, ◌++◌}
use Rattle.notation.specs.declared.terms.Atom.{Atom}
use Rattle.notation.specs.declared.terms.Term.{Term}
use Rattle.notation.specs.Printing.{print_term, print_atom}

-- the atoms after the first
abbrev pub print_further : List (Atom Term) → List ℕ
print_further [] = []
print_further (a ∷ as') = 59 ∷ (print_atom print_term a ++ print_further as')

abbrev pub print_atoms : List (Atom Term) → List ℕ
print_atoms [] = []
print_atoms (a ∷ as') = print_atom print_term a ++ print_further as'
