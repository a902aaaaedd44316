-- Atoms with no fault make a query.
use Rattle.std.proofs.Common.{◌≡◌, ℕ, ◌≤◌, Bool, true, false, cond, ◌&&◌, ltb, leb, List, [], ◌∷◌, length, is_some, is_ok, Some, None, Ok, Err, Option, Result, sym, refl, ap, ◌∙◌}
use Rattle.std.proofs.lemmas.Bool.{and_from, and_parts, leb-true, eq-eqb, eqb-true, false≢true}
use Rattle.notation.specs.declared.faults.AtomFault.TheVariants.{InTerm, Broken, Repeated}
use Rattle.notation.specs.declared.faults.LineFault.{LineFault}
use Rattle.notation.specs.declared.faults.LineFault.TheVariants.{InAtom, TooMany}
use Rattle.notation.specs.declared.faults.TermFault.TheVariants.{BadNumber, Misnumbered}
use Rattle.notation.specs.declared.terms.Atom.{Atom}
use Rattle.notation.specs.declared.terms.Term.{Term}
use Rattle.notation.specs.Fits.{term_fits, terms_fit}
use Rattle.notation.specs.Reading.{carry}
use Rattle.queries.specs.declared.checks.Scope.{Scope}
use Rattle.queries.specs.Checks.{all_terms, each, ranged, listed, numbered, next_is, distinct, atoms_all_fit, fine, valid, if_so, if_some, check_atoms}

-- what follows an answer is reached only if the answer is no fault
pub carried : {X Y E F : Type 0} (up : E → F) (r : Result X E) (k : X → Result Y F) (y : Y) → carry up r k ≡ Ok y → (x : X) × (r ≡ Ok x) × (k x ≡ Ok y)
carried up (Ok x) k y e = (x, refl, e)
carried up (Err f) k y e = absurd (false≢true (ap is_ok e))

ok_so : {E : Type 0} (b : Bool) (e : E) (x : Unit {0}) → if_so b e ≡ Ok x → b ≡ true
ok_so true e x h = refl
ok_so false e x h = absurd (false≢true (ap is_ok h))

pub same_ok : {X E : Type 0} {x y : X} → ◌≡◌ {A = Result X E} (Ok x) (Ok y) → x ≡ y
same_ok e = cc

ok_some : {X E : Type 0} (o : Option X) (e : E) (x : X) → if_some o e ≡ Ok x → o ≡ Some x
ok_some (Some y) e x h = ap Some (same_ok h)
ok_some None e x h = absurd (false≢true (ap is_ok h))

both_tests : {E : Type 0} (p t : Bool) (e f : E) (x : Unit {0}) → cond p (cond t (Ok tt) (Err e)) (Err f) ≡ Ok x → (p && t) ≡ true
both_tests true true e f x h = refl
both_tests true false e f x h = absurd (false≢true (ap is_ok h))
both_tests false t e f x h = absurd (false≢true (ap is_ok h))

each_fit : (as' : List (Atom Term)) (x : Unit {0}) → each ranged as' ≡ Ok x → atoms_all_fit as' ≡ true
each_fit [] x h = refl
each_fit (a ∷ bs) x h =
    let p = carried (λ e. e) (ranged a) (λ _. each ranged bs) x h in
    and_from _ _ (both_tests (ltb a.predicate 32) (terms_fit term_fits a.terms) (InTerm BadNumber) Broken p.0 p.1) (each_fit bs x p.2)

-- atoms with no fault are fine, and their next variable is what was answered
pub fine_from_check : (most known start n : ℕ) (arity : List ℕ) (as' : List (Atom Term)) (m : ℕ) → check_atoms most known start n arity as' ≡ Ok m → (fine most as' ≡ true) × (numbered known start n (all_terms as') ≡ Some m)
fine_from_check most known start n arity as' m h =
    let some = carried (λ e. e) (if_so (leb 1 (length as')) (InAtom Broken)) _ m h in
    let fit = carried InAtom (each ranged as') _ m some.2 in
    let few = carried (λ e. e) (if_so (leb (length as') most) TooMany) _ m fit.2 in
    let known_all = carried InAtom (each (listed arity) as') _ m few.2 in
    let order = carried (λ e. e) (if_some (numbered known start n (all_terms as')) (InAtom (InTerm Misnumbered))) _ m known_all.2 in
    let apart = carried (λ e. e) (if_so (distinct as') (InAtom Repeated)) _ m order.2 in (
      and_from _ _
          (and_from _ _ (ok_so _ (InAtom Broken) some.0 some.1) (ok_so _ TooMany few.0 few.1))
          (and_from _ _ (each_fit as' fit.0 fit.1) (ok_so _ (InAtom Repeated) apart.0 apart.1)),
      ok_some _ (InAtom (InTerm Misnumbered)) order.0 order.1 ∙ ap Some (same_ok apart.2),
    )

pub valid_from_check : (arity : List ℕ) (as' : List (Atom Term)) (m : ℕ) → check_atoms 16 0 0 0 arity as' ≡ Ok m → valid as' ≡ true
valid_from_check arity as' m h = let p = fine_from_check 16 0 0 0 arity as' m h in and_from _ _ p.0 (ap is_some p.1)

pub few_from_fine : (most : ℕ) (as' : List (Atom Term)) → fine most as' ≡ true → length as' ≤ most
few_from_fine most as' h = leb-true (length as') most (and_parts _ _ (and_parts _ _ h).0).1

pub next_from_some : (o : Option ℕ) (n : ℕ) → o ≡ Some n → next_is o n ≡ true
next_from_some o n e = ap (λ p. next_is p n) e ∙ eq-eqb n n refl

pub some_from_next : (o : Option ℕ) (n : ℕ) → next_is o n ≡ true → o ≡ Some n
some_from_next (Some m) n h = ap Some (eqb-true m n h)
some_from_next None n h = absurd (false≢true h)

-- what was answered for atoms in a new scope
pub at_scope : (most : ℕ) {k n : ℕ} {s : Scope} (arity : List ℕ) (as' : List (Atom Term)) {o : Result ℕ LineFault} → s ≡ record { known = k; start = n; next = n } → check_atoms most s.known s.start s.next arity as' ≡ o → check_atoms most k n n arity as' ≡ o
at_scope most arity as' is e = ap (λ (x : Scope). check_atoms most x.known x.start x.next arity as') (sym is) ∙ e
