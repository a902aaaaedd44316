-- What is printed reads back, and no two values print alike.
use Rattle.std.specs.Prelude.{◌≡◌, ℕ, true, false, List, ◌++◌, Ok}
use Rattle.notation.specs.declared.terms.Term.{Term}
use Rattle.notation.specs.declared.terms.Value.{Value}
use Rattle.notation.specs.declared.terms.Atom.{Atom}
use Rattle.notation.specs.Fits.{term_fits, value_fits, atom_fits}
use Rattle.notation.specs.Numbers.{starts_digit}
use Rattle.notation.specs.Printing.{print_term, print_value, print_atom}
use Rattle.notation.specs.Reading.{term_of, value_of, read_word, read_atom}

-- what is printed of a term is read back, with the text after it
pub record TermsReadBack : Type 0 where
  pub of_queries : (t : Term) (rest : List ℕ) → term_fits t ≡ true → starts_digit rest ≡ false → read_word term_of (print_term t ++ rest) ≡ Ok (t, rest)
  pub of_facts : (t : Value) (rest : List ℕ) → value_fits t ≡ true → starts_digit rest ≡ false → read_word value_of (print_value t ++ rest) ≡ Ok (t, rest)

-- what is printed of an atom is read back, with the text after it
pub record AtomsReadBack : Type 0 where
  pub of_queries : (a : Atom Term) (rest : List ℕ) → atom_fits term_fits a ≡ true → read_atom term_of (print_atom print_term a ++ rest) ≡ Ok (a, rest)
  pub of_facts : (a : Atom Value) (rest : List ℕ) → atom_fits value_fits a ≡ true → read_atom value_of (print_atom print_value a ++ rest) ≡ Ok (a, rest)

-- no two atoms print alike
pub record AtomsPrintApart : Type 0 where
  pub of_queries : (a b : Atom Term) → atom_fits term_fits a ≡ true → atom_fits term_fits b ≡ true → print_atom print_term a ≡ print_atom print_term b → a ≡ b
  pub of_facts : (a b : Atom Value) → atom_fits value_fits a ≡ true → atom_fits value_fits b ≡ true → print_atom print_value a ≡ print_atom print_value b → a ≡ b
