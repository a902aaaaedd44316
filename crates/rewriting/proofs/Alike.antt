-- Results of the same classes are alike, and have no atom twice.
use Rattle.std.proofs.Common.{◌≡◌, ℕ, zero, suc, ◌+◌, Bool, true, false, cond, T, List, [], ◌∷◌, map, sym, refl, ap, ◌∙◌, subst, ⊎_elim, arith}
use Rattle.notation.specs.Logic.{Term, con, var, Atom, In, here, there, rename, terms}
use Rattle.search.specs.Keeping.{Occurs}
use Rattle.rewriting.specs.Computing.{any, same_atom, same_term}
use Rattle.rewriting.specs.Rightness.{Distinct}
use Rattle.rewriting.specs.Steps.{Query, Ref, fixed, nth, once, at_numbers, off_numbers, member}
use Rattle.rewriting.specs.Unifiers.{relabel, Alike}
use Rattle.rewriting.specs.Unifiers.{Result}
use Rattle.rewriting.proofs.Lists.{by_test, none_in, in_cases, of_map, any_of, in_args, args, occurs_in, term_eq, term_refl, atom_refl, rename_same, rename_twice}
use Rattle.rewriting.proofs.Apart.{terms_rename, occurs_at}
use Rattle.rewriting.proofs.Nth.{nth_in}

abbrev number : Term → ℕ
number (con k) = k
number (var k) = k

abbrev IsCon : Term → Type 0
IsCon (con k) = Unit {0}
IsCon (var k) = ⊥

-- the new number of m: by the first term that has it
abbrev pub renumber : (Ref → Term) → (Ref → Term) → List Ref → ℕ → ℕ
renumber σ τ [] m = m
renumber σ τ (x ∷ xs) m = cond (same_term (σ x) (var m)) (number (τ x)) (renumber σ τ xs m)

renumber_at : (σ τ : Ref → Term) (xs : List Ref) (m j : ℕ) (u : Ref) → In u xs → σ u ≡ var m → ((y : Ref) → In y xs → σ y ≡ var m → τ y ≡ var j) → renumber σ τ xs m ≡ j
renumber_at σ τ [] m j u i e h = absurd (none_in i)
renumber_at σ τ (y ∷ xs) m j u i e h =
    by_test (λ v. v ≡ j) (same_term (σ y) (var m)) (number (τ y)) (renumber σ τ xs m)
    (λ t. ap number (h y (here refl) (term_eq (σ y) (var m) t)))
    (λ t. ⊎_elim
    (λ k. absurd (t (subst (λ v. T (same_term (σ v) (var m))) k (subst (λ v. T (same_term v (var m))) (sym e) (term_refl (var m))))))
    (λ k. renumber_at σ τ xs m j u k e (λ z n. h z (there n)))
    (in_cases i))

carry : (J₁ J₂ : Ref → Ref → Type 0) (ls₁ ls₂ : List (Atom Ref)) (n₁ n₂ : Query) (r₁ : Result J₁ ls₁ n₁) (r₂ : Result J₂ ls₂ n₂) (mv : Ref → Ref) →
    ((x : Ref) → Occurs x ls₁ → Occurs (mv x) ls₂) →
    ((x y : Ref) → Occurs x ls₁ → Occurs y ls₁ → J₁ x y → J₂ (mv x) (mv y)) →
    ((x : Ref) (k : ℕ) → Occurs x ls₁ → J₁ x (fixed k) → J₂ (mv x) (fixed k)) →
    ((x : Ref) (k : ℕ) → Occurs x ls₁ → J₂ (mv x) (fixed k) → J₁ x (fixed k)) →
    (u : Ref) → Occurs u ls₁ → relabel (renumber r₁.term (λ x. r₂.term (mv x)) (terms ls₁)) (r₁.term u) ≡ r₂.term (mv u)
carry J₁ J₂ ls₁ ls₂ n₁ n₂ r₁ r₂ mv oc jt ct cf u o = go (r₁.term u) (r₂.term (mv u)) refl refl
  where
    go : (s t : Term) → r₁.term u ≡ s → r₂.term (mv u) ≡ t → relabel (renumber r₁.term (λ x. r₂.term (mv x)) (terms ls₁)) s ≡ t
    go (con k) t e f = sym ((r₂.constant (mv u) k (oc u o)).1 (ct u k o ((r₁.constant u k o).0 e))) ∙ f
    go (var m) (con k) e f = absurd (subst IsCon (sym ((r₁.constant u k o).1 (cf u k o ((r₂.constant (mv u) k (oc u o)).0 f))) ∙ e) tt)
    go (var m) (var j) e f = ap var (renumber_at r₁.term (λ x. r₂.term (mv x)) (terms ls₁) m j u o e
        (λ y n i. sym ((r₂.of_class (mv u) (mv y) (oc u o) (oc y n)).1 (jt u y o n ((r₁.of_class u y o n).0 (e ∙ sym i)))) ∙ f))

pub moved_occurs : {X Y : Type 0} (g : X → Y) (xs : List (Atom X)) (ys : List (Atom Y)) → ((a : Atom X) → In a xs → In (rename g a) ys) → (x : X) → Occurs x xs → Occurs (g x) ys
moved_occurs g xs ys h x o = let r = occurs_at xs o in occurs_in (rename g r.0) (h r.0 r.1) (in_args g r.0 r.2)

module _ (J₁ J₂ : Ref → Ref → Type 0) (ls₁ ls₂ : List (Atom Ref)) (n₁ n₂ : Query) (r₁ : Result J₁ ls₁ n₁) (r₂ : Result J₂ ls₂ n₂) (mv nm : Ref → Ref)
    (to_has : (a : Atom Ref) → In a ls₁ → In (rename mv a) ls₂)
    (back_has : (a : Atom Ref) → In a ls₂ → In (rename nm a) ls₁)
    (there_back : (x : Ref) → Occurs x ls₁ → nm (mv x) ≡ x)
    (back_there : (x : Ref) → Occurs x ls₂ → mv (nm x) ≡ x)
    (same : (x y : Ref) → Occurs x ls₂ → Occurs y ls₂ → (J₂ x y → J₁ (nm x) (nm y)) × (J₁ (nm x) (nm y) → J₂ x y))
    (con_same : (x : Ref) (k : ℕ) → Occurs x ls₂ → (J₂ x (fixed k) → J₁ (nm x) (fixed k)) × (J₁ (nm x) (fixed k) → J₂ x (fixed k))) where
  oc_to : (x : Ref) → Occurs x ls₁ → Occurs (mv x) ls₂
  oc_to = moved_occurs mv ls₁ ls₂ to_has

  oc_back : (x : Ref) → Occurs x ls₂ → Occurs (nm x) ls₁
  oc_back = moved_occurs nm ls₂ ls₁ back_has

  to : ℕ → ℕ
  to = renumber r₁.term (λ x. r₂.term (mv x)) (terms ls₁)

  back : ℕ → ℕ
  back = renumber r₂.term (λ x. r₁.term (nm x)) (terms ls₂)

  to_is : (u : Ref) → Occurs u ls₁ → relabel to (r₁.term u) ≡ r₂.term (mv u)
  unfolding to
  to_is = carry J₁ J₂ ls₁ ls₂ n₁ n₂ r₁ r₂ mv oc_to
      (λ x y o u j. (same (mv x) (mv y) (oc_to x o) (oc_to y u)).1 (subst (λ v. J₁ v (nm (mv y))) (sym (there_back x o)) (subst (λ v. J₁ x v) (sym (there_back y u)) j)))
      (λ x k o j. (con_same (mv x) k (oc_to x o)).1 (subst (λ v. J₁ v (fixed k)) (sym (there_back x o)) j))
      (λ x k o j. subst (λ v. J₁ v (fixed k)) (there_back x o) ((con_same (mv x) k (oc_to x o)).0 j))

  back_is : (u : Ref) → Occurs u ls₂ → relabel back (r₂.term u) ≡ r₁.term (nm u)
  unfolding back
  back_is = carry J₂ J₁ ls₂ ls₁ n₂ n₁ r₂ r₁ nm oc_back (λ x y o u. (same x y o u).0) (λ x k o. (con_same x k o).0) (λ x k o. (con_same x k o).1)

  var_of₁ : (m : ℕ) → Occurs (var m) n₁ → (u : Ref) × Occurs u ls₁ × (var m ≡ r₁.term u)
  var_of₁ m o =
      let r = occurs_at n₁ o in
      let s = r₁.only r.0 r.1 in
      let w : Occurs (var m) (map (rename r₁.term) (s.0 ∷ [])) = occurs_in (rename r₁.term s.0) (here refl) (subst (λ v. In (var m) (args v)) s.2 r.2) in
      let z = of_map r₁.term (terms (s.0 ∷ [])) (subst (λ v. In (var m) v) (terms_rename r₁.term (s.0 ∷ [])) w) in
      let y = occurs_at (s.0 ∷ []) z.1 in
      (z.0, occurs_in s.0 s.1 (subst (λ v. In z.0 (args v)) (⊎_elim (λ e. e) (λ i. absurd (none_in i)) (in_cases y.1)) y.2), z.2)

  var_of₂ : (m : ℕ) → Occurs (var m) n₂ → (u : Ref) × Occurs u ls₂ × (var m ≡ r₂.term u)
  var_of₂ m o =
      let r = occurs_at n₂ o in
      let s = r₂.only r.0 r.1 in
      let w : Occurs (var m) (map (rename r₂.term) (s.0 ∷ [])) = occurs_in (rename r₂.term s.0) (here refl) (subst (λ v. In (var m) (args v)) s.2 r.2) in
      let z = of_map r₂.term (terms (s.0 ∷ [])) (subst (λ v. In (var m) v) (terms_rename r₂.term (s.0 ∷ [])) w) in
      let y = occurs_at (s.0 ∷ []) z.1 in
      (z.0, occurs_in s.0 s.1 (subst (λ v. In z.0 (args v)) (⊎_elim (λ e. e) (λ i. absurd (none_in i)) (in_cases y.1)) y.2), z.2)

  pub results_alike : Alike n₁ n₂
  results_alike = (
    to,
    back,
    record {
      to_back = λ m o. let r = var_of₁ m o in
          ap number (ap (λ v. relabel back (relabel to v)) r.2 ∙ ap (relabel back) (to_is r.0 r.1) ∙ back_is (mv r.0) (oc_to r.0 r.1) ∙ ap r₁.term (there_back r.0 r.1) ∙ sym r.2);
      back_to = λ m o. let r = var_of₂ m o in
          ap number (ap (λ v. relabel to (relabel back v)) r.2 ∙ ap (relabel to) (back_is r.0 r.1) ∙ to_is (nm r.0) (oc_back r.0 r.1) ∙ ap r₂.term (back_there r.0 r.1) ∙ sym r.2);
      has = λ a m. let s = r₁.only a m in
          subst (λ v. In v n₂)
          (rename_twice r₂.term mv s.0 ∙ rename_same (λ x. r₂.term (mv x)) (λ x. relabel to (r₁.term x)) s.0 (λ x k. sym (to_is x (occurs_in s.0 s.1 k))) ∙ sym (rename_twice (relabel to) r₁.term s.0) ∙ ap (rename (relabel to)) (sym s.2))
          (r₂.has (rename mv s.0) (to_has s.0 s.1));
      only = λ a m. let s = r₂.only a m in
          subst (λ v. In v n₁)
          (rename_twice r₁.term nm s.0 ∙ rename_same (λ x. r₁.term (nm x)) (λ x. relabel back (r₂.term x)) s.0 (λ x k. sym (back_is x (occurs_in s.0 s.1 k))) ∙ sym (rename_twice (relabel back) r₂.term s.0) ∙ ap (rename (relabel back)) (sym s.2))
          (r₁.has (rename nm s.0) (back_has s.0 s.1));
    },
  )

-- ---------------------------------------------------------------- no atom twice

once_fresh : (a : Atom Term) (seen xs : List (Atom Term)) → In a (once (same_atom same_term) seen xs) → In a seen → ⊥
once_fresh a seen [] m i = none_in m
once_fresh a seen (y ∷ xs) m i = go (any (same_atom same_term y) seen) (λ k. any_of (same_atom same_term y) k (atom_refl same_term term_eq term_refl y)) (once_fresh a seen xs) (once_fresh a (y ∷ seen) xs) m
  where
    go : (b : Bool) → (In y seen → T b) → (In a (once (same_atom same_term) seen xs) → In a seen → ⊥) → (In a (once (same_atom same_term) (y ∷ seen) xs) → In a (y ∷ seen) → ⊥) →
        In a (elim b [ true ↦ once (same_atom same_term) seen xs | false ↦ y ∷ once (same_atom same_term) (y ∷ seen) xs ]) → ⊥
    go true w f g n = f n i
    go false w f g n = ⊎_elim (λ e. w (subst (λ v. In v seen) e i)) (λ k. g k (there i)) (in_cases n)

pub once_distinct : (seen xs : List (Atom Term)) → Distinct (once (same_atom same_term) seen xs)
once_distinct seen [] i j a e f = absurd (none_in (nth_in i [] e))
once_distinct seen (y ∷ xs) i j a e f = go (any (same_atom same_term y) seen) (once_distinct seen xs) (once_distinct (y ∷ seen) xs) i j e f
  where
    one : {x z : Atom Term} → x ∷ [] ≡ z ∷ [] → x ≡ z
    one {x} {z} k = cc

    fresh : (k : ℕ) → y ∷ [] ≡ a ∷ [] → nth k (once (same_atom same_term) (y ∷ seen) xs) ≡ a ∷ [] → ⊥
    fresh k p q = once_fresh a (y ∷ seen) xs (nth_in k (once (same_atom same_term) (y ∷ seen) xs) q) (here (sym (one p)))

    in_new : Distinct (once (same_atom same_term) (y ∷ seen) xs) → (i j : ℕ) → nth i (y ∷ once (same_atom same_term) (y ∷ seen) xs) ≡ a ∷ [] → nth j (y ∷ once (same_atom same_term) (y ∷ seen) xs) ≡ a ∷ [] → i ≡ j
    in_new g zero zero p q = refl
    in_new g zero (suc j) p q = absurd (fresh j p q)
    in_new g (suc i) zero p q = absurd (fresh i q p)
    in_new g (suc i) (suc j) p q = ap suc (g i j a p q)

    go : (b : Bool) → Distinct (once (same_atom same_term) seen xs) → Distinct (once (same_atom same_term) (y ∷ seen) xs) → (i j : ℕ) →
        nth i (elim b [ true ↦ once (same_atom same_term) seen xs | false ↦ y ∷ once (same_atom same_term) (y ∷ seen) xs ]) ≡ a ∷ [] →
        nth j (elim b [ true ↦ once (same_atom same_term) seen xs | false ↦ y ∷ once (same_atom same_term) (y ∷ seen) xs ]) ≡ a ∷ [] → i ≡ j
    go true f g i j p q = f i j a p q
    go false f g i j p q = in_new g i j p q

-- where an atom at or off the numbers stands
pub at_place : {X : Type 0} {x : X} (ns : List ℕ) (i : ℕ) (xs : List X) → In x (at_numbers ns i xs) → (j : ℕ) × (nth j xs ≡ x ∷ []) × T (member (i + j) ns)
at_place ns i [] m = absurd (none_in m)
at_place {X} {x} ns i (y ∷ xs) m =
    by_test (λ v. In x v → (j : ℕ) × (nth j (y ∷ xs) ≡ x ∷ []) × T (member (i + j) ns)) (member i ns) (y ∷ at_numbers ns (suc i) xs) (at_numbers ns (suc i) xs)
    (λ t k. ⊎_elim (λ e. (0, ap (λ v. v ∷ []) (sym e), subst (λ v. T (member v ns)) (z i) t)) (λ k. next (at_place ns (suc i) xs k)) (in_cases k))
    (λ t k. next (at_place ns (suc i) xs k)) m
  where
    z : (k : ℕ) → k ≡ k + 0
    z k = omega arith

    over : (k j : ℕ) → suc k + j ≡ k + suc j
    over k j = omega arith

    next : (j : ℕ) × (nth j xs ≡ x ∷ []) × T (member (suc i + j) ns) → (j : ℕ) × (nth j (y ∷ xs) ≡ x ∷ []) × T (member (i + j) ns)
    next r = (suc r.0, r.1, subst (λ v. T (member v ns)) (over i r.0) r.2)

off_place : {X : Type 0} {x : X} (ns : List ℕ) (i : ℕ) (xs : List X) → In x (off_numbers ns i xs) → (j : ℕ) × (nth j xs ≡ x ∷ []) × (T (member (i + j) ns) → ⊥)
off_place ns i [] m = absurd (none_in m)
off_place {X} {x} ns i (y ∷ xs) m =
    by_test (λ v. In x v → (j : ℕ) × (nth j (y ∷ xs) ≡ x ∷ []) × (T (member (i + j) ns) → ⊥)) (member i ns) (off_numbers ns (suc i) xs) (y ∷ off_numbers ns (suc i) xs)
    (λ t k. next (off_place ns (suc i) xs k))
    (λ t k. ⊎_elim (λ e. (0, ap (λ v. v ∷ []) (sym e), λ h. t (subst (λ v. T (member v ns)) (sym (z i)) h))) (λ k. next (off_place ns (suc i) xs k)) (in_cases k)) m
  where
    z : (k : ℕ) → k ≡ k + 0
    z k = omega arith

    over : (k j : ℕ) → suc k + j ≡ k + suc j
    over k j = omega arith

    next : (j : ℕ) × (nth j xs ≡ x ∷ []) × (T (member (suc i + j) ns) → ⊥) → (j : ℕ) × (nth j (y ∷ xs) ≡ x ∷ []) × (T (member (i + j) ns) → ⊥)
    next r = (suc r.0, r.1, λ h. r.2 (subst (λ v. T (member v ns)) (sym (over i r.0)) h))

pub not_both : {x : Atom Term} (ns : List ℕ) (xs : List (Atom Term)) → Distinct xs → In x (at_numbers ns 0 xs) → In x (off_numbers ns 0 xs) → ⊥
not_both {x} ns xs d m n =
    let r = at_place ns 0 xs m in let s = off_place ns 0 xs n in
    s.2 (subst (λ v. T (member (0 + v) ns)) (d r.0 s.0 x r.1 s.1) r.2)
