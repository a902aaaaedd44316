-- The heads of a rule, one after another.
use Rattle.std.proofs.Common.{◌≡◌, ℕ, zero, suc, ◌+◌, ◌<◌, ◌≤◌, true, List, [], ◌∷◌, map, length, get_or, drop, sym, ap, ◌∙◌, subst, inl, inr, ⊎_elim, arith}
use Rattle.std.proofs.lemmas.List.{drop_more, drop_all}
use Rattle.std.proofs.lemmas.Bool.{and_parts}
use Rattle.notation.specs.declared.terms.Atom.{Atom}
use Rattle.notation.specs.declared.terms.Term.{Term}
use Rattle.queries.specs.declared.head.Head.{Head}
use Rattle.queries.specs.Heads.{head_atoms}
use Rattle.search.specs.Fitting.{variables_fit}
use Rattle.search.specs.Checking.{Any, heads_fit}

module _ {X : Type 0} (P : X → Type 0) where
  pub any_like : (Q : X → Type 0) → ((x : X) → P x → Q x) → (xs : List X) → Any P xs → Any Q xs
  any_like Q f [] e = e
  any_like Q f (x ∷ xs) (inl p) = inl (f x p)
  any_like Q f (x ∷ xs) (inr e) = inr (any_like Q f xs e)

  -- what holds of the element at i holds of some
  pub any_at : (xs : List X) (i : ℕ) (x : X) → i < length xs → x ≡ get_or xs i x → P x → Any P xs
  any_at [] i x l is p = absurd (omega arith)
  any_at (y ∷ ys) zero x l is p = inl (subst P is p)
  any_at (y ∷ ys) (suc i) x l is p = inr (any_at ys i x (omega arith) is p)

  -- some element, if any, stands from i on: not at i, so past it
  pub any_more : (xs : List X) (i : ℕ) (x : X) → i < length xs → x ≡ get_or xs i x → (Any P xs → Any P (drop i xs)) → (P x → ⊥) → Any P xs → Any P (drop (i + 1) xs)
  any_more xs i x l is left none e = ⊎_elim (λ p. absurd (none (subst P (sym is) p))) (λ more. more) (subst (Any P) (drop_more xs i x l) (left e))

  pub any_all : (xs : List X) (i : ℕ) → length xs ≤ i → (Any P xs → Any P (drop i xs)) → Any P xs → ⊥
  any_all xs i l left e = subst (Any P) (drop_all i xs l) (left e)

-- the variables of each head fit
head_fits : (heads : List Head) (i : ℕ) (d : Head) → i < length heads → d ≡ get_or heads i d → heads_fit (map head_atoms heads) ≡ true → variables_fit (head_atoms d) ≡ true
head_fits [] i d l is fit = absurd (omega arith)
head_fits (e ∷ es) zero d l is fit = ap (λ x. variables_fit (head_atoms x)) is ∙ (and_parts _ _ fit).0
head_fits (e ∷ es) (suc i) d l is fit = head_fits es i d (omega arith) is (and_parts _ _ fit).1

pub atoms_fit : (heads : List Head) (i : ℕ) (d : Head) (q : List (Atom Term)) → i < length heads → d ≡ get_or heads i d → q ≡ head_atoms d → heads_fit (map head_atoms heads) ≡ true → variables_fit q ≡ true
atoms_fit heads i d q l is e fit = ap variables_fit e ∙ head_fits heads i d l is fit
