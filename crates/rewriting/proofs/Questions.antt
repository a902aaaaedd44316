-- The questions answer by the definitions, and agree after every list of calls.
use Rattle.std.proofs.Common.{◌≡◌, ℕ, zero, suc, ◌+◌, ◌<◌, Bool, true, false, not, ◌&&◌, T, ◌↔◌, List, [], ◌∷◌, sym, refl, ap, ◌∙◌, subst, arith}
use Rattle.notation.specs.Logic.{Facts, In}
use Rattle.search.specs.Holding.{Holds}
use Rattle.search.specs.Keeping.{Keeps}
use Rattle.rewriting.specs.Computing.{holds, keeps}
use Rattle.rewriting.specs.Judging.{Ledger, lowest}
use Rattle.rewriting.specs.Rightness.{Lowest, AnswersRight}
use Rattle.rewriting.specs.Steps.{nth, member}
use Rattle.rewriting.proofs.Lists.{none_in, both_in, both_of, member_in, in_member}
use Rattle.rewriting.proofs.Search.{true_T, T_true, search_is_right, rule_check_is_right}
use Rattle.rewriting.proofs.Nth.{nth_in}

-- the lowest place that passes, counted from i
abbrev From : {X : Type 0} → (ℕ → X → Bool) → ℕ → List X → List ℕ → Type 0
From f i xs [] = (n : ℕ) (x : _) → nth n xs ≡ x ∷ [] → T (f (i + n) x) → ⊥
From f i xs (m ∷ ms) = (ms ≡ []) × ((n : ℕ) × (m ≡ i + n) × ((x : _) × (nth n xs ≡ x ∷ []) × T (f m x)) × ((k : ℕ) (x : _) → k < n → nth k xs ≡ x ∷ [] → T (f (i + k) x) → ⊥))

lowest_from : {X : Type 0} (f : ℕ → X → Bool) (i : ℕ) (xs : List X) → From f i xs (lowest f i xs)
lowest_from f i [] = λ n x e t. none_in (nth_in n [] e)
lowest_from {X} f i (y ∷ xs) = go (f i y) refl (lowest f (suc i) xs) (lowest_from f (suc i) xs)
  where
    z : (k : ℕ) → k + 0 ≡ k
    z k = omega arith

    over : (k j : ℕ) → k + suc j ≡ suc k + j
    over k j = omega arith

    one : {a c : X} → a ∷ [] ≡ c ∷ [] → a ≡ c
    one {a} {c} e = cc

    first_fails : f i y ≡ false → (x : X) → y ∷ [] ≡ x ∷ [] → T (f (i + 0) x) → ⊥
    first_fails e x h t = subst T (ap (λ k. f k x) (z i) ∙ ap (f i) (sym (one h)) ∙ e) t

    nowhere : f i y ≡ false → From f (suc i) xs [] → From f i (y ∷ xs) []
    nowhere e h zero x p t = first_fails e x p t
    nowhere e h (suc n) x p t = h n x p (subst (λ k. T (f k x)) (over i n) t)

    later : f i y ≡ false → (ns : List ℕ) → From f (suc i) xs ns → From f i (y ∷ xs) ns
    later e [] h = nowhere e h
    later e (m ∷ ms) h = (h.0, (suc h.1.0, h.1.1 ∙ sym (over i h.1.0), h.1.2, below))
      where
        below : (k : ℕ) (x : X) → k < suc h.1.0 → nth k (y ∷ xs) ≡ x ∷ [] → T (f (i + k) x) → ⊥
        below zero x l p t = first_fails e x p t
        below (suc k) x l p t = h.1.3 k x (omega arith) p (subst (λ j. T (f j x)) (over i k) t)

    go : (b : Bool) → f i y ≡ b → (ns : List ℕ) → From f (suc i) xs ns → From f i (y ∷ xs) (elim b [ true ↦ i ∷ [] | false ↦ ns ])
    go true e ns h = (refl, (0, sym (z i), (y, refl, true_T e), λ k x l p t. none_below k l))
      where
        none_below : (k : ℕ) → k < 0 → ⊥
        none_below k l = omega arith
    go false e ns h = later e ns h

lowest_is : {X : Type 0} (f : ℕ → X → Bool) (P : ℕ → X → Type 0) (xs : List X) → ((n : ℕ) (x : X) → T (f n x) ↔ P n x) → Lowest P xs (lowest f 0 xs)
lowest_is {X} f P xs h = go (lowest f 0 xs) (lowest_from f 0 xs)
  where
    z : (k : ℕ) → 0 + k ≡ k
    z k = omega arith

    go : (ns : List ℕ) → From f 0 xs ns → Lowest P xs ns
    go [] r = λ n x e p. r n x e (subst (λ k. T (f k x)) (sym (z n)) ((h n x).1 p))
    go (m ∷ ms) r =
        let e : m ≡ r.1.0 = r.1.1 ∙ z r.1.0 in (
          r.0,
          (r.1.2.0, subst (λ k. nth k xs ≡ r.1.2.0 ∷ []) (sym e) r.1.2.1, (h m r.1.2.0).0 r.1.2.2),
          λ k x l q p. r.1.3 k x (subst (λ v. k < v) e l) q (subst (λ j. T (f j x)) (sym (z k)) ((h k x).1 p)),
        )

not_T : (b : Bool) → T (not b) ↔ (T b → ⊥)
not_T true = (λ t u. t, λ h. h tt)
not_T false = (λ t u. u, λ h. tt)

pub answers_right : (s : Ledger) (l : Facts) → AnswersRight s l
answers_right s l = record {
  standing = lowest_is (λ n x. not (member n s.struck) && holds x l) (λ n x. (In n s.struck → ⊥) × Holds x l) s.entered (λ n x. (
    λ t. let r = both_in (not (member n s.struck)) (holds x l) t in
        (λ i. (not_T (member n s.struck)).0 r.0 (in_member i), (search_is_right x l).0 (T_true (holds x l) r.1)),
    λ p. both_of (not (member n s.struck)) (holds x l) ((not_T (member n s.struck)).1 (λ t. p.0 (member_in n s.struck t))) (true_T ((search_is_right x l).1 p.1)),
  ));
  opening = lowest_is (λ n x. holds x l) (λ n x. Holds x l) s.opening (λ n x. (λ t. (search_is_right x l).0 (T_true (holds x l) t), λ p. true_T ((search_is_right x l).1 p)));
  rules = lowest_is (λ n x. not (keeps x l)) (λ n x. Keeps x l → ⊥) s.rules (λ n x. (
    λ t k. (not_T (keeps x l)).0 t (true_T ((rule_check_is_right x l).1 k)),
    λ h. (not_T (keeps x l)).1 (λ t. h ((rule_check_is_right x l).0 (T_true (keeps x l) t))),
  ));
}
