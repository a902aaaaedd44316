-- A turn of each loop over a list: what is left gives the same answer.
use Rattle.std.proofs.Common.{◌≡◌, ℕ, suc, ◌+◌, Bool, true, false, cond, not, ◌&&◌, ◌||◌, eqb, List, [], ◌∷◌, ◌++◌, map, sym, refl, ap, ◌∙◌, ap₂, add-one}
use Rattle.std.specs.List.{list_any, list_all, enumerate_from}
use Rattle.std.proofs.lemmas.Bool.{eqb-true, eq-eqb}
use Rattle.std.proofs.lemmas.Bool.Decides.{same_from_decides, Decides-eqb}
use Rattle.rewriting.specs.Computing.{any, all}
use Rattle.rewriting.specs.Steps.{member, at_numbers, off_numbers}

-- both of two tests, the first of which held or failed
pub and_both : (x y r : Bool) → true ≡ x → r ≡ y → r ≡ (x && y)
and_both x y r e h = h ∙ ap (λ b. b && y) e

pub and_first : (x y r : Bool) → r ≡ false → r ≡ x → r ≡ (x && y)
and_first x y r e h = e ∙ ap (λ b. b && y) (sym e ∙ h)

-- one of two tests, the first of which held or failed
pub or_first : (x y r : Bool) → r ≡ true → r ≡ x → r ≡ (x || y)
or_first x y r e h = e ∙ ap (λ b. b || y) (sym e ∙ h)

pub or_second : (x y r : Bool) → false ≡ x → r ≡ y → r ≡ (x || y)
or_second x y r e h = h ∙ ap (λ b. b || y) e

pub any_append : {X : Type 0} (P : X → Bool) (xs ys : List X) → any P (xs ++ ys) ≡ (any P xs || any P ys)
any_append P [] ys = refl
any_append P (x ∷ xs) ys = ap (λ b. P x || b) (any_append P xs ys) ∙ sym (grouped (P x) (any P xs) (any P ys))
  where
    grouped : (a b d : Bool) → ((a || b) || d) ≡ (a || (b || d))
    grouped true b d = refl
    grouped false b d = refl

-- ---------------------------------------------------------------- tests of each element

pub any_mapped : {X Y : Type 0} (P : Y → Bool) (g : X → Y) (xs : List X) → any (λ x. P (g x)) xs ≡ any P (map g xs)
any_mapped P g [] = refl
any_mapped P g (x ∷ xs) = ap (λ b. P (g x) || b) (any_mapped P g xs)

pub all_mapped : {X Y : Type 0} (P : Y → Bool) (g : X → Y) (xs : List X) → all (λ x. P (g x)) xs ≡ all P (map g xs)
all_mapped P g [] = refl
all_mapped P g (x ∷ xs) = ap (λ b. P (g x) && b) (all_mapped P g xs)

pub any_of_list : {X Y : Type 0} (P : Y → Bool) (g : X → Y) (xs : List X) → list_any (λ x. P (g x)) xs ≡ any P (map g xs)
any_of_list P g [] = refl
any_of_list P g (x ∷ xs) = ap (λ b. P (g x) || b) (any_of_list P g xs)

pub all_of_list : {X Y : Type 0} (P : Y → Bool) (g : X → Y) (xs : List X) → list_all (λ x. P (g x)) xs ≡ all P (map g xs)
all_of_list P g [] = refl
all_of_list P g (x ∷ xs) = ap (λ b. P (g x) && b) (all_of_list P g xs)

-- ---------------------------------------------------------------- elements at some numbers

pub eqb_swap : (m n : ℕ) → eqb m n ≡ eqb n m
eqb_swap m n = same_from_decides (eqb m n) (eqb n m) (Decides-eqb m n) (λ e. sym (eqb-true n m e), λ e. eq-eqb n m (sym e))

-- whether k is one of the numbers
pub member_is : (ns : List ℕ) (k : ℕ) → list_any (λ y. eqb y k) ns ≡ member k ns
member_is [] k = refl
member_is (n ∷ ns) k = ap₂ ◌||◌ (eqb_swap n k) (member_is ns k)

any_left : {X : Type 0} (f : X → Bool) (b : Bool) (x : X) (xs : List X) → any f (cond b xs (x ∷ xs)) ≡ ((not b && f x) || any f xs)
any_left f true x xs = refl
any_left f false x xs = refl

none : (b p a : Bool) → ((b || not p) && not a) ≡ not ((not b && p) || a)
none true p a = refl
none false true a = refl
none false false a = refl

-- no element off the numbers passes
pub none_off : {X Y : Type 0} (P : Y → Bool) (g : X → Y) (ns : List ℕ) (i : ℕ) (xs : List X) →
    list_all (λ (p : ℕ × X). list_any (λ y. eqb y p.0) ns || not (P (g p.1))) (enumerate_from i xs) ≡ not (any P (off_numbers ns i (map g xs)))
none_off P g ns i [] = refl
none_off P g ns i (x ∷ xs) =
    ap₂ (λ a b. (a || not (P (g x))) && b) (member_is ns i) (none_off P g ns (i + 1) xs ∙ ap (λ k. not (any P (off_numbers ns k (map g xs)))) (add-one i))
    ∙ none (member i ns) (P (g x)) (any P (off_numbers ns (suc i) (map g xs)))
    ∙ ap not (sym (any_left P (member i ns) (g x) (off_numbers ns (suc i) (map g xs))))

-- one that passes is at one of the numbers or off them
pub any_split : {X : Type 0} (P : X → Bool) (ns : List ℕ) (i : ℕ) (xs : List X) → (any P (at_numbers ns i xs) || any P (off_numbers ns i xs)) ≡ any P xs
any_split P ns i [] = refl
any_split P ns i (x ∷ xs) = go (member i ns) (any_split P ns (suc i) xs)
  where
    kept : (p a f r : Bool) → (a || f) ≡ r → ((p || a) || f) ≡ (p || r)
    kept true a f r e = refl
    kept false a f r e = e

    left : (p a f r : Bool) → (a || f) ≡ r → (a || (p || f)) ≡ (p || r)
    left true true f r e = refl
    left true false f r e = refl
    left false a f r e = e

    go : (b : Bool) → (any P (at_numbers ns (suc i) xs) || any P (off_numbers ns (suc i) xs)) ≡ any P xs →
        (any P (cond b (x ∷ at_numbers ns (suc i) xs) (at_numbers ns (suc i) xs)) || any P (cond b (off_numbers ns (suc i) xs) (x ∷ off_numbers ns (suc i) xs))) ≡ (P x || any P xs)
    go true e = kept (P x) (any P (at_numbers ns (suc i) xs)) (any P (off_numbers ns (suc i) xs)) (any P xs) e
    go false e = left (P x) (any P (at_numbers ns (suc i) xs)) (any P (off_numbers ns (suc i) xs)) (any P xs) e
