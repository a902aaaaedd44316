use Rattle.std.proofs.Common.{◌≡◌, ℕ, zero, suc, ◌<◌, Bool, true, false, not, ◌&&◌, leb, ltb, eqb, List, [], ◌∷◌, length, get_or, sym, refl, ap, ◌∙◌, subst, add-one, arith, rules}
use Rattle.std.specs.List.{list_all, IsAllAdjacentAnswer}
use Rattle.std.proofs.lemmas.Bool.{false≢true, and_from, and_left, and_right, le-leb, ne_eqb}
use Rattle.std.proofs.lemmas.List.Sorted.{answers_always}
use Rattle.std.proofs.lemmas.Iterator.{YieldsList-from_slice}
use Rattle.std.proofs.lemmas.Iterator.Search.{all_from_yields_List}
use borrow.Author.Tests.{tests}
use Rattle.rewriting.specs.Judging.{rising, numbers_fit}
use Rattle.rewriting.proofs.numbers.rise_below.Goals as goal
use Rattle.rewriting.proofs.numbers.rise_below.Goals.{then-not-is_empty, else-not-is_empty}

-- each number is below the next
abbrev adjacent : List ℕ → Bool
adjacent [] = true
adjacent (n ∷ []) = true
adjacent (n ∷ m ∷ ns) = ltb n m && adjacent (m ∷ ns)

all_adjacent : (ns : List ℕ) → ((k : ℕ) → suc k < length ns → true ≡ ltb (get_or ns k 0) (get_or ns (suc k) 0)) → adjacent ns ≡ true
all_adjacent [] h = refl
all_adjacent (n ∷ []) h = refl
all_adjacent (n ∷ m ∷ ns) h = and_from (ltb n m) (adjacent (m ∷ ns)) (sym (h 0 (omega arith))) (all_adjacent (m ∷ ns) (λ k l. h (suc k) (omega arith)))

not_adjacent : (ns : List ℕ) (k : ℕ) → suc k < length ns → false ≡ ltb (get_or ns k 0) (get_or ns (suc k) 0) → adjacent ns ≡ false
not_adjacent [] k l e = absurd (omega arith)
not_adjacent (n ∷ []) k l e = absurd (omega arith)
not_adjacent (n ∷ m ∷ ns) zero l e = and_left (ltb n m) (adjacent (m ∷ ns)) (sym e)
not_adjacent (n ∷ m ∷ ns) (suc k) l e = and_right (ltb n m) (adjacent (m ∷ ns)) (not_adjacent (m ∷ ns) k (omega arith) e)

sorted_is : (ns : List ℕ) (r : Bool) → IsAllAdjacentAnswer (λ x y b. b ≡ ltb x y) ns r → r ≡ adjacent ns
sorted_is ns true h = sym (all_adjacent ns (λ k l. subst (λ j. true ≡ ltb (get_or ns k 0) (get_or ns j 0)) (add-one k) (h k 0 (omega arith))))
sorted_is ns false h = sym (not_adjacent ns h.0 (omega (arith, h.1)) (subst (λ j. false ≡ ltb (get_or ns h.0 0) (get_or ns j 0)) (add-one h.0) (h.2 0)))

shuffled : (h s a b : Bool) → (h && (s && (a && b))) ≡ ((s && a) && (h && b))
shuffled true s a b = grouped s
  where
    grouped : (t : Bool) → (t && (a && b)) ≡ ((t && a) && b)
    grouped true = refl
    grouped false = refl
shuffled false s a b = sym (nothing (s && a))
  where
    nothing : (t : Bool) → (t && false) ≡ false
    nothing true = refl
    nothing false = refl

rising_is : (lo hi n : ℕ) (ns : List ℕ) → rising lo hi (n ∷ ns) ≡ (leb lo n && (adjacent (n ∷ ns) && list_all (λ m. ltb m hi) (n ∷ ns)))
rising_is lo hi n [] = refl
rising_is lo hi n (m ∷ ns) =
    ap (λ b. leb lo n && (ltb n hi && b)) (rising_is (suc n) hi m ns) ∙ ap (λ b. leb lo n && b) (shuffled (ltb n hi) (ltb n m) (adjacent (m ∷ ns)) (list_all (λ k. ltb k hi) (m ∷ ns)))

fits : (hi : ℕ) (ns : List ℕ) → eqb (length ns) 0 ≡ false → numbers_fit hi ns ≡ (adjacent ns && list_all (λ m. ltb m hi) ns)
fits hi [] e = absurd (false≢true (sym e))
fits hi (n ∷ ns) e = rising_is 0 hi n ns ∙ ap (λ b. b && (adjacent (n ∷ ns) && list_all (λ m. ltb m hi) (n ∷ ns))) (le-leb 0 n (omega arith))

none_fit : (hi : ℕ) (ns : List ℕ) → eqb (length ns) 0 ≡ true → false ≡ numbers_fit hi ns
none_fit hi [] e = refl
none_fit hi (n ∷ ns) e = absurd (false≢true (sym (ne_eqb (suc (length ns)) 0 (λ h. omega arith)) ∙ e))

pub returns-then-is_sorted_by : goal.returns-then-is_sorted_by
returns-then-is_sorted_by c =
    let ns = c.args.numbers.now in
    elim c.if-not-is_empty.branch [
      | then-not-is_empty w ↦
          let sorted : adjacent ns ≡ true =
          sym (sorted_is ns w.is_sorted_by.result (w.is_sorted_by.ensures.cases ltb (answers_always _ _ _ (λ f a r g h. search rules)))) ∙ sym w.value-is ∙ c.if-is_sorted_by.true in
          all_from_yields_List (λ m. ltb m c.args.count) _ _ c.all.result c.all.ensures.ran (YieldsList-from_slice ns (cc)) (λ x b q k. search (rules, tests))
          ∙ ap (λ b. b && list_all (λ m. ltb m c.args.count) ns) (sym sorted) ∙ sym (fits c.args.count ns (sym c.is_empty.ensures ∙ w.if-not-is_empty.true))
      | else-not-is_empty w ↦ absurd (false≢true (sym (ap not w.if-not-is_empty.false) ∙ sym w.value-is ∙ c.if-is_sorted_by.true))
    ]

pub returns-else-is_sorted_by : goal.returns-else-is_sorted_by
returns-else-is_sorted_by c =
    let ns = c.args.numbers.now in
    elim c.if-not-is_empty.branch [
      | then-not-is_empty w ↦
          let sorted : adjacent ns ≡ false =
          sym (sorted_is ns w.is_sorted_by.result (w.is_sorted_by.ensures.cases ltb (answers_always _ _ _ (λ f a r g h. search rules)))) ∙ sym w.value-is ∙ c.if-is_sorted_by.false in
          c.if-is_sorted_by.false ∙ sym (and_left (adjacent ns) (list_all (λ m. ltb m c.args.count) ns) sorted) ∙ sym (fits c.args.count ns (sym c.is_empty.ensures ∙ w.if-not-is_empty.true))
      | else-not-is_empty w ↦ c.if-is_sorted_by.false ∙ none_fit c.args.count ns (sym c.is_empty.ensures ∙ w.if-not-is_empty.false)
    ]
