-- Which terms and atoms can be written: predicates p0 to p31, constants c0 to c999, unknowns n0 to n999, variables v0 to v31.
use Rattle.std.specs.Prelude.{Bool, ◌&&◌, nat_lt}
use Rattle.notation.specs.declared.terms.Term.{Term}
use Rattle.notation.specs.declared.terms.Term.TheVariants as term
use Rattle.notation.specs.declared.terms.Value.{Value}
use Rattle.notation.specs.declared.terms.Value.TheVariants as value
use Rattle.notation.specs.declared.terms.Terms.{Terms}
use Rattle.notation.specs.declared.terms.Terms.TheVariants.{One, Two, Three, Four}
use Rattle.notation.specs.declared.terms.Atom.{Atom}

abbrev pub term_fits : Term → Bool
term_fits (term.Constant k) = nat_lt k 1000
term_fits (term.Variable k) = nat_lt k 32

abbrev pub value_fits : Value → Bool
value_fits (value.Constant k) = nat_lt k 1000
value_fits (value.Unknown k) = nat_lt k 1000

-- each of the terms fits
abbrev pub terms_fit : {X : Type 0} → (X → Bool) → Terms X → Bool
terms_fit fits (One a) = fits a
terms_fit fits (Two a b) = fits a && fits b
terms_fit fits (Three a b d) = fits a && (fits b && fits d)
terms_fit fits (Four a b d e) = fits a && (fits b && (fits d && fits e))

abbrev pub atom_fits : {X : Type 0} → (X → Bool) → Atom X → Bool
atom_fits fits a = nat_lt a.predicate 32 && terms_fit fits a.terms
