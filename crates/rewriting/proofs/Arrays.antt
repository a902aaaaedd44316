-- Arrays made by a closure that changes nothing.
use Rattle.std.proofs.Common.{◌≡◌, ℕ, zero, suc, ◌+◌, List, ◌∷◌, map, length, drop, sym, refl, ap, ◌∙◌, subst, ap₂, arith}
use Rattle.std.specs.Array.{MapsFrom}
use Rattle.std.proofs.lemmas.List.{drop_more, drop_all}
use denote.Param.Members.{Mut, Called}

-- each element of ys is what h gives for that of xs
module _ {F A B : Type 0} (g : Mut F (A × Unit {0}) B) (f : F) (h : A → B) (gives : (x : A) (y : B) (q : F) → Called g f (x, tt) y q → (q ≡ f) × (y ≡ h x))
    (xs : List A) (ys : List B) (long : length xs ≡ length ys) where
  mapped_from : (q : F) (i n : ℕ) → q ≡ f → i + n ≡ length ys → MapsFrom g q xs ys i n → drop i ys ≡ map h (drop i xs)
  mapped_from q i zero e l m = drop_all i ys (omega arith) ∙ sym (ap (map h) (drop_all i xs (omega arith)))
  mapped_from q i (suc n) e l m =
      let is = gives m.1 m.2 m.0 (subst (λ p. Called g p (m.1, tt) m.2 m.0) e m.5) in
      drop_more ys i m.2 (omega arith)
      ∙ ap₂ ◌∷◌ (m.4.0 ∙ is.1 ∙ ap h (sym m.3.0)) (mapped_from m.0 (i + 1) n is.0 (omega arith) m.6)
      ∙ sym (ap (map h) (drop_more xs i m.1 (omega arith)))

  pub mapped : (n : ℕ) → n ≡ length ys → MapsFrom g f xs ys 0 n → ys ≡ map h xs
  mapped n e m = mapped_from f 0 n refl (omega arith) m
