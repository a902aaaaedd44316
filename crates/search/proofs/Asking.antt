-- The lowest of several queries.
use Rattle.std.proofs.Common.{◌≡◌, ℕ, ◌<◌, ◌≤◌, true, List, [], ◌∷◌, map, length, get_or, Some, None, Option, sym, refl, subst, arith}
use Rattle.std.proofs.lemmas.List.{get_or-map}
use Rattle.std.specs.List.{HoldsAt, AllWithin}
use Rattle.std.specs.Option.{MatchOption}
use lib.ListN.{length-map}
use Rattle.std.proofs.lemmas.Bool.{and_parts, and_from}
use Rattle.notation.specs.declared.terms.Atom.{Atom}
use Rattle.notation.specs.declared.terms.Term.{Term}
use Rattle.notation.specs.declared.terms.Term.TheVariants.{Constant, Variable}
use Rattle.notation.specs.declared.terms.Terms.{Terms}
use Rattle.notation.specs.declared.terms.Terms.TheVariants.{One, Two, Three, Four}
use Rattle.notation.specs.Fits.{term_fits, terms_fit}
use Rattle.queries.specs.declared.query.Query.{Query}
use Rattle.queries.specs.Checks.{atoms_all_fit, fine}
use Rattle.queries.specs.Queries.{atoms_of}
use Rattle.search.specs.Answers.{Lowest}
use Rattle.search.specs.Fitting.{slot_fits, variables_fit}

slot_from : (t : Term) → term_fits t ≡ true → slot_fits t ≡ true
slot_from (Constant k) h = refl
slot_from (Variable v) h = h

terms_from : (ts : Terms Term) → terms_fit term_fits ts ≡ true → terms_fit slot_fits ts ≡ true
terms_from (One a) h = slot_from a h
terms_from (Two a b) h = let p = and_parts _ _ h in and_from _ _ (slot_from a p.0) (slot_from b p.1)
terms_from (Three a b d) h =
    let p = and_parts _ _ h in
    let q = and_parts _ _ p.1 in
    and_from _ _ (slot_from a p.0) (and_from _ _ (slot_from b q.0) (slot_from d q.1))
terms_from (Four a b d e) h =
    let p = and_parts _ _ h in
    let q = and_parts _ _ p.1 in
    let r = and_parts _ _ q.1 in
    and_from _ _ (slot_from a p.0) (and_from _ _ (slot_from b q.0) (and_from _ _ (slot_from d r.0) (slot_from e r.1)))

atoms_from : (as' : List (Atom Term)) → atoms_all_fit as' ≡ true → variables_fit as' ≡ true
atoms_from [] h = refl
atoms_from (a ∷ bs) h = let p = and_parts _ _ h in and_from _ _ (terms_from a.terms (and_parts _ _ p.0).1) (atoms_from bs p.1)

pub fine_fits : (most : ℕ) (as' : List (Atom Term)) → fine most as' ≡ true → variables_fit as' ≡ true
fine_fits most as' h = atoms_from as' (and_parts _ _ (and_parts _ _ h).1).0

-- a query's variables are among the 32
pub query_fits : (q : Query) → variables_fit (atoms_of q) ≡ true
query_fits q = fine_fits 16 (atoms_of q) (and_parts _ _ q.proper).0

-- the first of a list for which P holds of what f makes of it is the lowest
module _ {X Y : Type 0} (f : X → Y) (d : Y) (P : Y → Type 0) where
  none_below : (xs : List X) (n : ℕ) → n ≤ length xs → AllWithin (λ x. P (f x) → ⊥) xs 0 n → (j : ℕ) → j < n → P (get_or (map f xs) j d) → ⊥
  none_below [] n within none j l p = absurd (omega arith)
  none_below (x ∷ xs) n within none j l p = none j x (omega arith) l (subst P (get_or-map f (x ∷ xs) j x d (omega arith)) p)

  found_at : (xs : List X) (i : ℕ) → i < length xs → HoldsAt (λ x. P (f x)) xs i → P (get_or (map f xs) i d)
  found_at [] i l at = absurd (omega arith)
  found_at (x ∷ xs) i l at = subst P (sym (get_or-map f (x ∷ xs) i x d l)) (at x)

  pub lowest_from_first : (xs : List X) (r : Option ℕ) → MatchOption r (AllWithin (λ x. P (f x) → ⊥) xs 0 (length xs)) (λ i. (i < length xs) × HoldsAt (λ x. P (f x)) xs i × AllWithin (λ x. P (f x) → ⊥) xs 0 i) → Lowest (λ k. P (get_or (map f xs) k d)) (length (map f xs)) r
  lowest_from_first xs None none = let n = length-map xs f in λ j l. none_below xs (length xs) (omega arith) none j (omega arith)
  lowest_from_first xs (Some i) p = let n = length-map xs f in (omega (arith, p.0), found_at xs i p.0 p.1, none_below xs i (omega (arith, p.0)) p.2)
