-- To give the same to each variable of an atom is to make the same of it.
use Rattle.std.proofs.Common.{◌≡◌, ℕ, ◌⊎◌, List, [], ◌∷◌, ◌++◌, map, sym, refl, ap, ◌∙◌, inl, inr, ⊎_elim}
use Rattle.notation.specs.Logic.{Term, con, var, Atom, at, In, here, there, rename, terms}
use Rattle.search.specs.Holding.{put}
use Rattle.search.specs.Keeping.{Agree}

module _ {X : Type 0} (x : X) where
  in_left : (xs ys : List X) → In x xs → In x (xs ++ ys)
  in_left [] ys i = elim i [ ]
  in_left (y ∷ xs) ys (here e) = here e
  in_left (y ∷ xs) ys (there i) = there (in_left xs ys i)

  in_right : (xs ys : List X) → In x ys → In x (xs ++ ys)
  in_right [] ys i = i
  in_right (y ∷ xs) ys i = there (in_right xs ys i)

  in_either : (xs ys : List X) → In x (xs ++ ys) → In x xs ⊎ In x ys
  in_either [] ys i = inr i
  in_either (y ∷ xs) ys (here e) = inl (here e)
  in_either (y ∷ xs) ys (there i) = ⊎_elim (λ j. inl (there j)) inr (in_either xs ys i)

module _ (h g : ℕ → Term) where
  same_term : (t : Term) → ((n : ℕ) → var n ≡ t → g n ≡ h n) → put g t ≡ put h t
  same_term (con k) f = refl
  same_term (var n) f = f n refl

  same_from_agree : (ts : List Term) → ((n : ℕ) → In (var n) ts → g n ≡ h n) → map (put g) ts ≡ map (put h) ts
  same_from_agree [] f = refl
  same_from_agree (t ∷ ts) f =
      let e = same_term t (λ n p. f n (here p)) in
      let more = same_from_agree ts (λ n i. f n (there i)) in
      cc

  agree_from_same : (ts : List Term) → map (put g) ts ≡ map (put h) ts → (n : ℕ) → In (var n) ts → g n ≡ h n
  agree_from_same [] e n i = elim i [ ]
  agree_from_same (t ∷ ts) e n (here p) = let one : put g t ≡ put h t = cc in ap (put g) p ∙ one ∙ sym (ap (put h) p)
  agree_from_same (t ∷ ts) e n (there i) = agree_from_same ts (cc) n i

  pub same_first : (a : Atom Term) (rest : List (Atom Term)) → Agree (a ∷ rest) h g → rename (put g) a ≡ rename (put h) a
  same_first (at p ts) rest ag = ap (at p) (same_from_agree ts (λ n i. ag n (in_left (var n) ts (terms rest) i)))

  pub agree_rest : (a : Atom Term) (rest : List (Atom Term)) → Agree (a ∷ rest) h g → Agree rest h g
  agree_rest (at p ts) rest ag n i = ag n (in_right (var n) ts (terms rest) i)

  pub agree_more : (a : Atom Term) (rest : List (Atom Term)) → rename (put g) a ≡ rename (put h) a → Agree rest h g → Agree (a ∷ rest) h g
  agree_more (at p ts) rest e ag n i = ⊎_elim (agree_from_same ts (cc) n) (ag n) (in_either (var n) ts (terms rest) i)
