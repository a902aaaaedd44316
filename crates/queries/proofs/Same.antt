-- The test of two atoms decides whether they are the same.
use Rattle.std.proofs.Common.{◌≡◌, Bool, ◌||◌, List, [], ◌∷◌, Decides, sym, refl, ap, ◌∙◌}
use Rattle.std.specs.List.{list_any}
use Rattle.std.proofs.lemmas.Bool.Decides.{same_from_decides}
use Rattle.std.proofs.lemmas.List.Recursion.{same_from_clauses}
use Rattle.std.proofs.lemmas.Bool.{eqb-true, eq-eqb, and_parts, and_from, false≢true}
use Rattle.notation.specs.declared.terms.Atom.{Atom}
use Rattle.notation.specs.declared.terms.Term.{Term}
use Rattle.notation.specs.declared.terms.Term.TheVariants.{Constant, Variable}
use Rattle.notation.specs.declared.terms.Terms.{Terms}
use Rattle.notation.specs.declared.terms.Terms.TheVariants.{One, Two, Three, Four}
use Rattle.notation.specs.Logic.{terms_of}
use Rattle.notation.specs.contracts.terms.Term.{the_row}
use Rattle.notation.specs.contracts.terms.TermPartialEq.TheImpl as term_eq
use Rattle.notation.specs.contracts.terms.AtomPartialEq.TheImpl as atom_eq
use Rattle.notation.proofs.Equal.{query_atom_equal}
use Rattle.queries.specs.Checks.{atom_terms, same_term, same_terms, same_atom, among}

same_term_decides : (t u : Term) → Decides (same_term t u) (t ≡ u)
same_term_decides (Constant k) (Constant m) = (λ e. ap Constant (eqb-true k m e), λ e. eq-eqb k m (cc))
same_term_decides (Constant k) (Variable m) = (λ e. absurd (false≢true e), λ e. cc)
same_term_decides (Variable k) (Constant m) = (λ e. absurd (false≢true e), λ e. cc)
same_term_decides (Variable k) (Variable m) = (λ e. ap Variable (eqb-true k m e), λ e. eq-eqb k m (cc))

same_terms_decides : (ts us : List Term) → Decides (same_terms ts us) (ts ≡ us)
same_terms_decides [] [] = (λ _. refl, λ _. refl)
same_terms_decides [] (u ∷ us) = (λ e. absurd (false≢true e), λ e. cc)
same_terms_decides (t ∷ ts) [] = (λ e. absurd (false≢true e), λ e. cc)
same_terms_decides (t ∷ ts) (u ∷ us) =
    let one = same_term_decides t u in
    let rest = same_terms_decides ts us in
    (λ e. let h = and_parts _ _ e in let p = one.0 h.0 in let q = rest.0 h.1 in cc, λ e. and_from _ _ (one.1 (cc)) (rest.1 (cc)))

-- the terms by arity are known from their list
abbrev of_list : Terms Term → List Term → Terms Term
of_list d [] = d
of_list d (a ∷ []) = One a
of_list d (a ∷ b ∷ []) = Two a b
of_list d (a ∷ b ∷ e ∷ []) = Three a b e
of_list d (a ∷ b ∷ e ∷ f ∷ []) = Four a b e f
of_list d (a ∷ b ∷ e ∷ f ∷ g ∷ more) = d

of_list_terms : (d ts : Terms Term) → of_list d (terms_of ts) ≡ ts
of_list_terms d (One a) = refl
of_list_terms d (Two a b) = refl
of_list_terms d (Three a b e) = refl
of_list_terms d (Four a b e f) = refl

pub same_atom_decides : (a b : Atom Term) → Decides (same_atom a b) (a ≡ b)
same_atom_decides a b =
    let ts = same_terms_decides (atom_terms a) (atom_terms b) in (
      λ e. let h = and_parts _ _ e in
          let p = eqb-true a.predicate b.predicate h.0 in
          let q = sym (of_list_terms a.terms a.terms) ∙ ap (of_list a.terms) (ts.0 h.1) ∙ of_list_terms a.terms b.terms in
          (λ i. record { predicate = p i; terms = q i }),
      λ e. and_from _ _ (eq-eqb _ _ (ap (λ (x : Atom Term). x.predicate) e)) (ts.1 (ap atom_terms e)),
    )

-- the code's test of two atoms
abbrev pub atom_test : Atom Term → Atom Term → Bool
atom_test a b = (atom_eq.ghosts the_row term_eq.ghosts term_eq.dict).eq a b

pub same_test : (a b : Atom Term) → atom_test b a ≡ same_atom a b
same_test a b =
    let d = same_atom_decides a b in
    same_from_decides (atom_test b a) (same_atom a b) (query_atom_equal b a) (λ e. sym (d.0 e), λ e. d.1 (sym e))

-- what `contains` answers
pub contains_among : (a : Atom Term) (atoms : List (Atom Term)) → list_any (λ b. atom_test b a) atoms ≡ among a atoms
contains_among a atoms = sym (same_from_clauses (among a) (list_any (λ b. atom_test b a)) (λ b r. same_atom a b || r) refl (λ _ _. refl) (λ b bs. ap (λ t. t || list_any (λ b. atom_test b a) bs) (same_test a b)) atoms)
