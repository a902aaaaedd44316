-- Numbers of places, and dropping what has occurred.
use Rattle.std.proofs.Common.{◌≡◌, ℕ, zero, suc, ◌<◌, ◌≤◌, Bool, true, false, T, ◌⊎◌, List, [], ◌∷◌, ◌++◌, length, get_or, sym, refl, ap, subst, inl, inr, ⊎_elim, arith}
use Rattle.notation.specs.Logic.{Term, Atom, In, here, there}
use Rattle.rewriting.specs.Computing.{any, same_term, same_atom}
use Rattle.rewriting.specs.Steps.{nth, once}
use Rattle.rewriting.proofs.Lists.{none_in, in_cases, term_eq, term_refl, atom_eq, any_in}

-- dropping repeats loses no atom
pub once_in : {x : Atom Term} (seen xs : List (Atom Term)) → In x xs → In x (once (same_atom same_term) seen xs) ⊎ In x seen
once_in seen [] m = absurd (none_in m)
once_in {x} seen (y ∷ xs) m = go (any (same_atom same_term y) seen) was (once_in seen xs) (once_in (y ∷ seen) xs)
  where
    was : T (any (same_atom same_term y) seen) → In y seen
    was t = let r = any_in (same_atom same_term y) seen t in subst (λ v. In v seen) (sym (atom_eq same_term term_eq term_refl y r.0 r.2)) r.1

    kept : List (Atom Term)
    kept = once (same_atom same_term) seen xs

    new : List (Atom Term)
    new = once (same_atom same_term) (y ∷ seen) xs

    go : (b : Bool) → (T b → In y seen) → (In x xs → In x kept ⊎ In x seen) → (In x xs → In x new ⊎ In x (y ∷ seen)) →
        In x (elim b [ true ↦ kept | false ↦ y ∷ new ]) ⊎ In x seen
    go true h f g = ⊎_elim (λ e. inr (subst (λ v. In v seen) (sym e) (h tt))) f (in_cases m)
    go false h f g =
        ⊎_elim (λ e. inl (here e)) (λ n. ⊎_elim (λ a. inl (there a)) (λ b. ⊎_elim (λ e. inl (here e)) (λ k. inr k) (in_cases b)) (g n)) (in_cases m)

pub once_of : {x : Atom Term} (seen xs : List (Atom Term)) → In x (once (same_atom same_term) seen xs) → In x xs
once_of seen [] m = m
once_of {x} seen (y ∷ xs) m = go (any (same_atom same_term y) seen) (once_of seen xs) (once_of (y ∷ seen) xs) m
  where
    go : (b : Bool) → (In x (once (same_atom same_term) seen xs) → In x xs) → (In x (once (same_atom same_term) (y ∷ seen) xs) → In x xs) →
        In x (elim b [ true ↦ once (same_atom same_term) seen xs | false ↦ y ∷ once (same_atom same_term) (y ∷ seen) xs ]) → In x (y ∷ xs)
    go true f g n = there (f n)
    go false f g n = ⊎_elim (λ e. here e) (λ i. there (g i)) (in_cases n)

of_nth : {X : Type 0} {x : X} (n : ℕ) (xs : List X) → In x (nth n xs) → In x xs
of_nth n [] m = m
of_nth zero (y ∷ xs) m = ⊎_elim (λ e. here e) (λ k. absurd (none_in k)) (in_cases m)
of_nth (suc n) (y ∷ xs) m = there (of_nth n xs m)

pub nth_in : {X : Type 0} {x : X} (n : ℕ) (xs : List X) → nth n xs ≡ x ∷ [] → In x xs
nth_in {X} {x} n xs e = of_nth n xs (subst (λ (v : List X). In x v) (sym e) (here refl))

pub in_nth : {X : Type 0} {x : X} {xs : List X} → In x xs → (n : ℕ) × (nth n xs ≡ x ∷ [])
in_nth (here e) = (0, ap (λ v. v ∷ []) (sym e))
in_nth (there m) = let r = in_nth m in (suc r.0, r.1)

pub nth_more : {X : Type 0} {x : X} (n : ℕ) (xs ys : List X) → nth n xs ≡ x ∷ [] → nth n (xs ++ ys) ≡ x ∷ []
nth_more {X} {x} n [] ys e = absurd (none_in (subst (λ (v : List X). In x v) (sym e) (here refl)))
nth_more zero (y ∷ xs) ys e = e
nth_more (suc n) (y ∷ xs) ys e = nth_more n xs ys e

pub last_number : {X : Type 0} (x : X) (xs : List X) → nth (length xs) (xs ++ x ∷ []) ≡ x ∷ []
last_number x [] = refl
last_number x (y ∷ xs) = last_number x xs

pub one_of : {X : Type 0} {x y : X} → x ∷ [] ≡ y ∷ [] → x ≡ y
one_of {X} {x} {y} e = cc

-- what is at a place within the list, and past its end
pub nth_at : {X : Type 0} (k : ℕ) (xs : List X) (d : X) → k < length xs → nth k xs ≡ get_or xs k d ∷ []
nth_at k [] d h = absurd (omega arith)
nth_at zero (x ∷ xs) d h = refl
nth_at (suc k) (x ∷ xs) d h = nth_at k xs d (omega arith)

pub nth_past : {X : Type 0} (k : ℕ) (xs : List X) → length xs ≤ k → nth k xs ≡ []
nth_past k [] h = refl
nth_past zero (x ∷ xs) h = absurd (omega arith)
nth_past (suc k) (x ∷ xs) h = nth_past k xs (omega arith)
