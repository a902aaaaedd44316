-- Which variables there are: v0 to v31.
use Rattle.std.specs.Prelude.{Bool, true, ◌&&◌, List, [], ◌∷◌, nat_lt}
use Rattle.notation.specs.Fits.{terms_fit}
use Rattle.notation.specs.declared.terms.Term.{Term}
use Rattle.notation.specs.declared.terms.Term.TheVariants.{Constant, Variable}
use Rattle.notation.specs.declared.terms.Atom.{Atom}

-- a variable of the term is one of the 32
abbrev pub slot_fits : Term → Bool
slot_fits (Constant k) = true
slot_fits (Variable v) = nat_lt v 32

-- so is each variable of the atom
abbrev pub slots_fit : Atom Term → Bool
slots_fit a = terms_fit slot_fits a.terms

-- and each variable of the atoms
abbrev pub variables_fit : List (Atom Term) → Bool
variables_fit [] = true
variables_fit (a ∷ q) = slots_fit a && variables_fit q
