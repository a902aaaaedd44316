-- The table of classes names each class of the finest grouping.
use Rattle.std.proofs.Common.{◌≡◌, ℕ, cond, T, ◌⊎◌, [], ◌∷◌, sym, refl, ap, ◌∙◌, subst, inl, inr, ⊎_elim}
use Rattle.notation.specs.Logic.{here, there}
use Rattle.rewriting.specs.Classes.{same_ref, name_in, joined, classes, NamesAreClasses, ConstantsApart}
use Rattle.rewriting.specs.Steps.{Ref, fixed, own, copy, Ties, Joins, Linked, tied, itself, back, via}
use Rattle.rewriting.proofs.Lists.{by_test, none_in, in_cases, ref_eq, ref_refl}

-- a grouping does not tell the two ends of an entry apart, where it does not tell a and b apart
pub joined_same : (g : Ref → Ref) (a b : Ref) → g a ≡ g b → g (joined a b).0 ≡ g (joined a b).1
joined_same g (fixed k) b e = sym e
joined_same g (own k) b e = e
joined_same g (copy i k) b e = e

-- each tie's grouping puts a term with its name
pub name_same : (g : Ref → Ref) (ts : Ties) → Joins g ts → (x : Ref) → g (name_in (classes ts) x) ≡ g x
name_same g [] j x = refl
name_same g (t ∷ ts) j x =
    let tb = classes ts in
    let y = name_in tb x in
    let a = name_in tb t.0 in
    let b = name_in tb t.1 in
    let below : (z : Ref) → g (name_in tb z) ≡ g z = name_same g ts (λ u m. j u (there m)) in
    let ab : g a ≡ g b = below t.0 ∙ j t (here refl) ∙ sym (below t.1) in
    by_test (λ v. g v ≡ g x) (same_ref y (joined a b).0) (joined a b).1 y
    (λ e. sym (joined_same g a b ab) ∙ ap g (sym (ref_eq y (joined a b).0 e)) ∙ below x)
    (λ e. below x)

-- the entry of a tie gives its two ends one name
entry_joins : (a b : Ref) → cond (same_ref a (joined a b).0) (joined a b).1 a ≡ cond (same_ref b (joined a b).0) (joined a b).1 b
entry_joins a b = go (joined a b).0 (joined a b).1 (ways a b)
  where
    ways : (a b : Ref) → (((joined a b).0 ≡ a) × ((joined a b).1 ≡ b)) ⊎ (((joined a b).0 ≡ b) × ((joined a b).1 ≡ a))
    ways (fixed k) b = inr (refl, refl)
    ways (own k) b = inl (refl, refl)
    ways (copy i k) b = inl (refl, refl)

    to : (u v x : Ref) → u ≡ x → cond (same_ref x u) v x ≡ v
    to u v x e = by_test (λ w. w ≡ v) (same_ref x u) v x (λ t. refl) (λ t. absurd (t (subst (λ w. T (same_ref x w)) (sym e) (ref_refl x))))

    still : (u v x : Ref) → v ≡ x → cond (same_ref x u) v x ≡ v
    still u v x e = by_test (λ w. w ≡ v) (same_ref x u) v x (λ t. refl) (λ t. sym e)

    go : (u v : Ref) → ((u ≡ a) × (v ≡ b)) ⊎ ((u ≡ b) × (v ≡ a)) → cond (same_ref a u) v a ≡ cond (same_ref b u) v b
    go u v (inl h) = to u v a h.0 ∙ sym (still u v b h.1)
    go u v (inr h) = still u v a h.1 ∙ sym (to u v b h.0)

pub name_joins : (ts : Ties) → Joins (name_in (classes ts)) ts
name_joins [] t m = absurd (none_in m)
name_joins (u ∷ ts) t m =
    let tb = classes ts in
    let e = joined (name_in tb u.0) (name_in tb u.1) in
    let now : Ref → Ref = λ y. cond (same_ref y e.0) e.1 y in
    ⊎_elim
    (λ h. subst (λ (v : Ref × Ref). now (name_in tb v.0) ≡ now (name_in tb v.1)) (sym h) (entry_joins (name_in tb u.0) (name_in tb u.1)))
    (λ n. ap now (name_joins ts t n))
    (in_cases m)

-- a link is kept by each grouping, and by more ties
linked_joins : {ts : Ties} {x y : Ref} (g : Ref → Ref) → Joins g ts → Linked ts x y → g x ≡ g y
linked_joins g j (tied {x = x} {y = y} m) = j (x, y) m
linked_joins g j itself = refl
linked_joins g j (back h) = sym (linked_joins g j h)
linked_joins g j (via h k) = linked_joins g j h ∙ linked_joins g j k

linked_more : {t : Ref × Ref} {ts : Ties} {x y : Ref} → Linked ts x y → Linked (t ∷ ts) x y
linked_more (tied m) = tied (there m)
linked_more itself = itself
linked_more (back h) = back (linked_more h)
linked_more (via h k) = via (linked_more h) (linked_more k)

-- each term is linked to its name
linked_name : (ts : Ties) (x : Ref) → Linked ts x (name_in (classes ts) x)
linked_name [] x = itself
linked_name (t ∷ ts) x =
    let tb = classes ts in
    let y = name_in tb x in
    let a = name_in tb t.0 in
    let b = name_in tb t.1 in
    let ab : Linked (t ∷ ts) a b = via (back (linked_more (linked_name ts t.0))) (via (tied (here refl)) (linked_more (linked_name ts t.1))) in
    by_test (λ v. Linked (t ∷ ts) x v) (same_ref y (joined a b).0) (joined a b).1 y
    (λ e. via (linked_more (linked_name ts x)) (subst (λ v. Linked (t ∷ ts) v (joined a b).1) (sym (ref_eq y (joined a b).0 e)) (entry a b ab)))
    (λ e. linked_more (linked_name ts x))
  where
    entry : (a b : Ref) → Linked (t ∷ ts) a b → Linked (t ∷ ts) (joined a b).0 (joined a b).1
    entry (fixed k) b h = back h
    entry (own k) b h = h
    entry (copy i k) b h = h

pub same_name_linked : (ts : Ties) (x y : Ref) → name_in (classes ts) x ≡ name_in (classes ts) y → Linked ts x y
same_name_linked ts x y e = via (linked_name ts x) (subst (λ v. Linked ts v y) (sym e) (back (linked_name ts y)))

pub names_are_classes : NamesAreClasses
names_are_classes ts x y = (
  (same_name_linked ts x y, linked_joins (name_in (classes ts)) (name_joins ts)),
  (λ h. same_name_linked ts x y (h (name_in (classes ts)) (name_joins ts)), λ h g j. linked_joins g j h),
)

-- a constant's name is a constant
abbrev Fixed : Ref → Type 0
Fixed x = (k : ℕ) × (x ≡ fixed k)

fixed_name : (ts : Ties) (x : Ref) → Fixed x → Fixed (name_in (classes ts) x)
fixed_name [] x h = h
fixed_name (t ∷ ts) x h =
    let tb = classes ts in
    let y = name_in tb x in
    let a = name_in tb t.0 in
    let b = name_in tb t.1 in
    let below = fixed_name ts x h in
    by_test Fixed (same_ref y (joined a b).0) (joined a b).1 y
    (λ e. entry a b below.0 (sym (ref_eq y (joined a b).0 e) ∙ below.1))
    (λ e. below)
  where
    entry : (a b : Ref) (k : ℕ) → (joined a b).0 ≡ fixed k → Fixed (joined a b).1
    entry (fixed j) b k e = (j, refl)
    entry (own j) b k e = let z : ◌≡◌ {A = ℕ} 0 1 = cc in (0, cc)
    entry (copy i j) b k e = let z : ◌≡◌ {A = ℕ} 0 1 = cc in (0, cc)

pub constants_apart : ConstantsApart
constants_apart ts = (
  λ h k. let r = fixed_name ts (fixed k) (k, refl) in
      let e : k ≡ r.0 = h k r.0 (subst (λ v. Linked ts (fixed k) v) r.1 (linked_name ts (fixed k))) in
      r.1 ∙ ap fixed (sym e),
  λ h k m l. let e = linked_joins (name_in (classes ts)) (name_joins ts) l in inj k m (sym (h k) ∙ e ∙ h m),
)
  where
    inj : (k m : ℕ) → fixed k ≡ fixed m → k ≡ m
    inj k m e = cc
