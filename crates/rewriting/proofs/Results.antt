-- The numbering of names.
use Rattle.std.proofs.Common.{◌≡◌, ℕ, suc, Bool, true, false, T, ◌⊎◌, List, [], ◌∷◌, sym, ap, ◌∙◌, subst, inl, inr, ⊎_elim, arith}
use Rattle.notation.specs.Logic.{Term, con, var, In, here, there}
use Rattle.rewriting.specs.Classes.{same_ref}
use Rattle.rewriting.specs.Computing.{any}
use Rattle.rewriting.specs.Judging.{order_from, place_of, numbered}
use Rattle.rewriting.specs.Steps.{Ref, fixed, own, copy}
use Rattle.rewriting.proofs.Lists.{by_test, none_in, in_cases, any_in, ref_eq, ref_refl}

abbrev NotFixed : Ref → Type 0
NotFixed x = (k : ℕ) → x ≡ fixed k → ⊥

seen_ref : (x : Ref) (seen : List Ref) → T (any (same_ref x) seen) → In x seen
seen_ref x seen t = let r = any_in (same_ref x) seen t in subst (λ v. In v seen) (sym (ref_eq x r.0 r.2)) r.1

one_step : (x y : Ref) (seen xs : List Ref) (b : Bool) → (T b → In y seen) →
    (In x xs → In x (order_from seen xs) ⊎ In x seen) → (In x xs → In x (order_from (y ∷ seen) xs) ⊎ In x (y ∷ seen)) →
    (x ≡ y) ⊎ In x xs → In x (elim b [ true ↦ order_from seen xs | false ↦ y ∷ order_from (y ∷ seen) xs ]) ⊎ In x seen
one_step x y seen xs true w f g (inl e) = inr (subst (λ v. In v seen) (sym e) (w tt))
one_step x y seen xs true w f g (inr m) = f m
one_step x y seen xs false w f g (inl e) = inl (here e)
one_step x y seen xs false w f g (inr m) = ⊎_elim (λ i. inl (there i)) (λ i. ⊎_elim (λ e. inl (here e)) (λ j. inr j) (in_cases i)) (g m)

pub in_order : (x : Ref) → NotFixed x → (seen xs : List Ref) → In x xs → In x (order_from seen xs) ⊎ In x seen
in_order x nf seen [] m = absurd (none_in m)
in_order x nf seen (fixed k ∷ xs) m = ⊎_elim (λ e. absurd (nf k e)) (λ i. in_order x nf seen xs i) (in_cases m)
in_order x nf seen (own k ∷ xs) m =
    one_step x (own k) seen xs (any (same_ref (own k)) seen) (seen_ref (own k) seen) (in_order x nf seen xs) (in_order x nf (own k ∷ seen) xs) (in_cases m)
in_order x nf seen (copy i k ∷ xs) m =
    one_step x (copy i k) seen xs (any (same_ref (copy i k)) seen) (seen_ref (copy i k) seen) (in_order x nf seen xs) (in_order x nf (copy i k ∷ seen) xs) (in_cases m)

-- a place has one name
place_one : (a b : Ref) (os : List Ref) → In a os → In b os → place_of a os ≡ place_of b os → a ≡ b
place_one a b [] m n = absurd (none_in m)
place_one a b (y ∷ os) m n =
    by_test (λ v. v ≡ place_of b (y ∷ os) → a ≡ b) (same_ref a y) 0 (suc (place_of a os))
    (λ t. by_test (λ v. 0 ≡ v → a ≡ b) (same_ref b y) 0 (suc (place_of b os))
    (λ u e. ref_eq a y t ∙ sym (ref_eq b y u))
    (λ u e. absurd (zero_suc (place_of b os) e)))
    (λ t. by_test (λ v. suc (place_of a os) ≡ v → a ≡ b) (same_ref b y) 0 (suc (place_of b os))
    (λ u e. absurd (zero_suc (place_of a os) (sym e)))
    (λ u e. place_one a b os (later a t (in_cases m)) (later b u (in_cases n)) (same_suc (place_of a os) (place_of b os) e)))
  where
    zero_suc : (k : ℕ) → ◌≡◌ {A = ℕ} 0 (suc k) → ⊥
    zero_suc k e = omega arith

    same_suc : (k j : ℕ) → suc k ≡ suc j → k ≡ j
    same_suc k j e = omega arith

    later : (x : Ref) → (T (same_ref x y) → ⊥) → (x ≡ y) ⊎ In x os → In x os
    later x t (inl e) = absurd (t (subst (λ v. T (same_ref x v)) e (ref_refl x)))
    later x t (inr i) = i

abbrev con_of : Term → ℕ
con_of (con k) = k
con_of (var k) = k

abbrev IsCon : Term → Type 0
IsCon (con k) = Unit {0}
IsCon (var k) = ⊥

pub one_name : (xs : List Ref) (a b : Ref) → In a xs → In b xs → numbered (order_from [] xs) a ≡ numbered (order_from [] xs) b → a ≡ b
one_name xs a b m n = go a b m n
  where
    os : List Ref
    os = order_from [] xs

    ordered : (x : Ref) → NotFixed x → In x xs → In x (order_from [] xs)
    ordered x nf i = ⊎_elim (λ j. j) (λ j. absurd (none_in j)) (in_order x nf [] xs i)

    IsFixed : Ref → Type 0
    IsFixed (fixed k) = Unit {0}
    IsFixed (own k) = ⊥
    IsFixed (copy i k) = ⊥

    go : (a b : Ref) → In a xs → In b xs → numbered (order_from [] xs) a ≡ numbered (order_from [] xs) b → a ≡ b
    go (fixed k) (fixed j) m n e = ap (λ v. fixed (con_of v)) e
    go (fixed k) (own j) m n e = absurd (subst IsCon e tt)
    go (fixed k) (copy i j) m n e = absurd (subst IsCon e tt)
    go (own k) (fixed j) m n e = absurd (subst IsCon (sym e) tt)
    go (own k) (own j) m n e = place_one (own k) (own j) (order_from [] xs) (ordered (own k) (λ w h. subst IsFixed (sym h) tt) m) (ordered (own j) (λ w h. subst IsFixed (sym h) tt) n) (ap con_of e)
    go (own k) (copy i j) m n e = place_one (own k) (copy i j) (order_from [] xs) (ordered (own k) (λ w h. subst IsFixed (sym h) tt) m) (ordered (copy i j) (λ w h. subst IsFixed (sym h) tt) n) (ap con_of e)
    go (copy l k) (fixed j) m n e = absurd (subst IsCon (sym e) tt)
    go (copy l k) (own j) m n e = place_one (copy l k) (own j) (order_from [] xs) (ordered (copy l k) (λ w h. subst IsFixed (sym h) tt) m) (ordered (own j) (λ w h. subst IsFixed (sym h) tt) n) (ap con_of e)
    go (copy l k) (copy i j) m n e = place_one (copy l k) (copy i j) (order_from [] xs) (ordered (copy l k) (λ w h. subst IsFixed (sym h) tt) m) (ordered (copy i j) (λ w h. subst IsFixed (sym h) tt) n) (ap con_of e)

pub fixed_of : (os : List Ref) (x : Ref) (k : ℕ) → numbered os x ≡ con k → x ≡ fixed k
fixed_of os (fixed j) k e = ap (λ v. fixed (con_of v)) e
fixed_of os (own j) k e = absurd (subst IsCon (sym e) tt)
fixed_of os (copy i j) k e = absurd (subst IsCon (sym e) tt)
