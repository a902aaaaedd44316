-- The first facts of a list.
use Rattle.std.proofs.Common.{◌≡◌, ℕ, zero, suc, ◌<◌, ◌≤◌, min, List, [], ◌∷◌, map, length, take, None, sym, refl, ap, ◌∙◌, arith, length-take}
use Rattle.std.specs.Option.{option_map}
use Rattle.std.specs.List.{slice_get}
use Rattle.std.proofs.iter.runs.Lists.{slice_get-map}
use Rattle.std.proofs.lemmas.List.{length-map}
use Rattle.std.proofs.lemmas.Option.{slice_get_past}

take_again : {X : Type 0} (n : ℕ) (xs : List X) → take (length (take n xs)) xs ≡ take n xs
take_again zero xs = refl
take_again (suc n) [] = refl
take_again (suc n) (x ∷ xs) = ap (λ ys. x ∷ ys) (take_again n xs)

nth_take : {X : Type 0} (n : ℕ) (xs : List X) (k : ℕ) → k < n → slice_get (take n xs) k ≡ slice_get xs k
nth_take zero xs k h = absurd (omega arith)
nth_take (suc n) [] k h = refl
nth_take (suc n) (x ∷ xs) zero h = refl
nth_take (suc n) (x ∷ xs) (suc k) h = nth_take n xs k (omega arith)

module _ {X Y : Type 0} (f : X → Y) (n : ℕ) (xs : List X) where
  pub cut_length : min (length xs) n ≡ length (map f (take n xs))
  cut_length = omega (arith, length-map (take n xs) f, length-take n xs)

  pub cut_before : (k : ℕ) → k < n → slice_get (map f xs) k ≡ slice_get (map f (take n xs)) k
  cut_before k h = slice_get-map f xs k ∙ ap (option_map f) (sym (nth_take n xs k h)) ∙ sym (slice_get-map f (take n xs) k)

  pub cut_past : (k : ℕ) → n ≤ k → None ≡ slice_get (map f (take n xs)) k
  cut_past k h = sym (slice_get_past (map f (take n xs)) k (omega (arith, length-map (take n xs) f, length-take n xs)))

  -- as many as there are of the first n are the first n
  module _ (m : ℕ) (e : m ≡ length (map f (take n xs))) where
    pub cut_within : m ≡ length (take m xs)
    cut_within = omega (arith, cut_length, length-take m xs)

    pub cut_again : take m xs ≡ take n xs
    cut_again = ap (λ k. take k xs) (e ∙ length-map (take n xs) f) ∙ take_again n xs
