-- Which lists of atoms are queries, and what is wrong with the others.
use Rattle.std.specs.Prelude.{ℕ, ◌+◌, Bool, true, false, cond, not, ◌&&◌, ◌||◌, List, [], ◌∷◌, ◌++◌, length, is_some, Some, None, Ok, Err, Option, Result, ◌==◌, nat_le, nat_lt}
use Rattle.std.specs.List.{slice_get}
use Rattle.notation.specs.declared.faults.TermFault.TheVariants.{BadNumber, Misnumbered}
use Rattle.notation.specs.declared.faults.AtomFault.{AtomFault}
use Rattle.notation.specs.declared.faults.AtomFault.TheVariants.{InTerm, Broken, Unlisted, WrongCount, Repeated}
use Rattle.notation.specs.declared.faults.LineFault.{LineFault}
use Rattle.notation.specs.declared.faults.LineFault.TheVariants.{InAtom, TooMany}
use Rattle.notation.specs.declared.terms.Term.{Term}
use Rattle.notation.specs.declared.terms.Term.TheVariants.{Constant, Variable}
use Rattle.notation.specs.declared.terms.Atom.{Atom}
use Rattle.notation.specs.Fits.{term_fits, terms_fit, atom_fits}
use Rattle.notation.specs.Logic.{terms_of}
use Rattle.notation.specs.Reading.{carry}

abbrev pub atom_terms : Atom Term → List Term
atom_terms a = terms_of a.terms

-- the terms of all the atoms, in order
abbrev pub all_terms : List (Atom Term) → List Term
all_terms [] = []
all_terms (a ∷ as') = atom_terms a ++ all_terms as'

-- the first fault that f finds
abbrev pub each : {X E : Type 0} → (X → Result (Unit {0}) E) → List X → Result (Unit {0}) E
each f [] = Ok tt
each f (x ∷ xs) = carry (λ e. e) (f x) (λ _. each f xs)

-- ---------------------------------------------------------------- numbers out of range

abbrev pub ranged : Atom Term → Result (Unit {0}) AtomFault
ranged a = cond (nat_lt a.predicate 32) (cond (terms_fit term_fits a.terms) (Ok tt) (Err (InTerm BadNumber))) (Err Broken)

-- ---------------------------------------------------------------- predicates and their numbers of terms

abbrev pub counted : ℕ → Option ℕ → Result (Unit {0}) AtomFault
counted n None = Err Unlisted
counted n (Some m) = cond (m == n) (Ok tt) (Err WrongCount)

-- the predicate is listed with the atom's number of terms
abbrev pub listed : List ℕ → Atom Term → Result (Unit {0}) AtomFault
listed arity a = counted (length (atom_terms a)) (slice_get arity a.predicate)

-- ---------------------------------------------------------------- variables

-- the variable v may stand here: it is one of the first `known`, or one from `start` on that has appeared, n being the next
abbrev pub allowed : ℕ → ℕ → ℕ → ℕ → Bool
allowed known start n v = nat_lt v known || (nat_le start v && nat_lt v n)

-- the next variable after these terms, with n the next before; none where a number is passed over or not allowed
abbrev pub numbered : ℕ → ℕ → ℕ → List Term → Option ℕ
numbered known start n [] = Some n
numbered known start n (Constant k ∷ ts) = numbered known start n ts
numbered known start n (Variable v ∷ ts) = cond (allowed known start n v) (numbered known start n ts) (cond (v == n) (numbered known start (n + 1) ts) None)

-- the next variable is n
abbrev pub next_is : Option ℕ → ℕ → Bool
next_is (Some m) n = m == n
next_is None n = false

-- ---------------------------------------------------------------- repeats

abbrev pub same_term : Term → Term → Bool
same_term (Constant k) (Constant m) = k == m
same_term (Constant k) (Variable m) = false
same_term (Variable k) (Constant m) = false
same_term (Variable k) (Variable m) = k == m

abbrev pub same_terms : List Term → List Term → Bool
same_terms [] [] = true
same_terms [] (u ∷ us) = false
same_terms (t ∷ ts) [] = false
same_terms (t ∷ ts) (u ∷ us) = same_term t u && same_terms ts us

abbrev pub same_atom : Atom Term → Atom Term → Bool
same_atom a b = a.predicate == b.predicate && same_terms (atom_terms a) (atom_terms b)

-- a is among the atoms
abbrev pub among : Atom Term → List (Atom Term) → Bool
among a [] = false
among a (b ∷ bs) = same_atom a b || among a bs

-- no atom occurs twice
abbrev pub distinct : List (Atom Term) → Bool
distinct [] = true
distinct (a ∷ bs) = not (among a bs) && distinct bs

-- ---------------------------------------------------------------- queries

abbrev pub atoms_all_fit : List (Atom Term) → Bool
atoms_all_fit [] = true
atoms_all_fit (a ∷ bs) = atom_fits term_fits a && atoms_all_fit bs

-- one to `most` different atoms, each in range
abbrev pub fine : ℕ → List (Atom Term) → Bool
fine most as' = (nat_le 1 (length as') && nat_le (length as') most) && (atoms_all_fit as' && distinct as')

-- one to sixteen different atoms, with variables numbered from v0 by first appearance without a gap
abbrev pub valid : List (Atom Term) → Bool
valid as' = fine 16 as' && is_some (numbered 0 0 0 (all_terms as'))

abbrev pub if_so : {E : Type 0} → Bool → E → Result (Unit {0}) E
if_so true e = Ok tt
if_so false e = Err e

abbrev pub if_some : {X E : Type 0} → Option X → E → Result X E
if_some (Some x) e = Ok x
if_some None e = Err e

-- the next variable after the atoms, of which there may be `most`, under the listed numbers of terms; or their first
-- fault: none, numbers out of range, too many atoms, predicates, variables, repeats
abbrev pub check_atoms : ℕ → ℕ → ℕ → ℕ → List ℕ → List (Atom Term) → Result ℕ LineFault
check_atoms most known start n arity as' =
    carry (λ e. e) (if_so (nat_le 1 (length as')) (InAtom Broken)) (λ _.
    carry InAtom (each ranged as') (λ _.
    carry (λ e. e) (if_so (nat_le (length as') most) TooMany) (λ _.
    carry InAtom (each (listed arity) as') (λ _.
    carry (λ e. e) (if_some (numbered known start n (all_terms as')) (InAtom (InTerm Misnumbered))) (λ m.
    carry (λ e. e) (if_so (distinct as') (InAtom Repeated)) (λ _.
    Ok m))))))

-- the query of the atoms, or their first fault
abbrev pub make_query : List ℕ → List (Atom Term) → Result (List (Atom Term)) LineFault
make_query arity as' = carry (λ e. e) (check_atoms 16 0 0 0 arity as') (λ _. Ok as')
