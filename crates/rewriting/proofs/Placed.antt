-- Each term that has a place has its own.
use Rattle.std.proofs.Common.{◌≡◌, ℕ, suc, ◌+◌, ◌-◌, ◌<◌, ◌≤◌, cond, T, eqb, ltb, ◌⊎◌, List, [], ◌∷◌, ◌++◌, map, length, get_or, vec_items, sym, refl, ap, ◌∙◌, subst, ap₂, inl, inr, ⊎_elim, add-zero, zero-add, append_assoc, arith}
use Rattle.std.specs.List.{range_with_len}
use Rattle.std.proofs.lemmas.List.FromFn.{length-range_with_len, get_or-range_with_len}
use Rattle.std.proofs.lemmas.List.{get_or-map, length-map, map-append}
use Rattle.std.proofs.lemmas.Bool.{eq-eqb, ne_eqb, lt-ltb, le-ltb, cond-true, cond-false, cases_Bool, cases_lt}
use Rattle.notation.specs.Logic.{In, here, there}
use Rattle.rewriting.specs.Classes.{same_ref, name_in, joined, classes}
use Rattle.rewriting.specs.declared.steps.Part.{Part as WrittenPart}
use Rattle.notation.specs.declared.terms.Tie.{Tie}
use Rattle.rewriting.specs.Joining.{relabelled, joined_table, written_ties}
use Rattle.rewriting.specs.Judging.{ends}
use Rattle.rewriting.specs.Steps.{Ref, fixed, own, copy, end, End, Ties, Part}
use Rattle.rewriting.specs.Tables.{place, Within, Names, Groups, ties_from, TiesWithin}
use Rattle.rewriting.proofs.Classing.{names_are_classes}
use Rattle.rewriting.specs.Written.{end_of, tie_of, part_of}
use Rattle.rewriting.proofs.Judged.{off_ends}
use Rattle.rewriting.proofs.Lists.{by_test, none_in, in_cases, in_left, in_right, in_map, ref_eq, ref_refl}
use Rattle.rewriting.proofs.Search.{T_true}

pub place_below : (x : Ref) → Within x → place x < 1160
place_below (fixed k) h = omega arith
place_below (own k) h = omega arith
place_below (copy i k) h = omega (arith, h.0, h.1)

pub place_one : (x y : Ref) → Within x → Within y → place x ≡ place y → x ≡ y
place_one (fixed k) (fixed m) h g e = ap fixed e
place_one (fixed k) (own m) h g e = absurd (omega arith)
place_one (fixed k) (copy j m) h g e = absurd (omega arith)
place_one (own k) (fixed m) h g e = absurd (omega arith)
place_one (own k) (own m) h g e = let u : k ≡ m = omega arith in ap own u
place_one (own k) (copy j m) h g e = absurd (omega arith)
place_one (copy i k) (fixed m) h g e = absurd (omega arith)
place_one (copy i k) (own m) h g e = absurd (omega arith)
place_one (copy i k) (copy j m) h g e = let u : i ≡ j = omega (arith, h.1, g.1) in let w : k ≡ m = omega (arith, h.1, g.1) in ap₂ copy u w

pub same_place : (x y : Ref) → Within x → Within y → eqb (place x) (place y) ≡ same_ref x y
same_place x y h g = ⊎_elim
    (λ t. let e = ref_eq x y (subst T (sym t) tt) in eq-eqb (place x) (place y) (ap place e) ∙ sym t)
    (λ t. ne_eqb (place x) (place y) (λ e. subst T (sym (T_true (same_ref x y) (subst (λ v. T (same_ref x v)) (place_one x y h g e) (ref_refl x))) ∙ t) tt) ∙ sym t)
    (cases_Bool (same_ref x y))

-- at each place there is a term
pub at_place : (p : ℕ) → p < 1160 → (x : Ref) × Within x × (place x ≡ p)
at_place p h =
    ⊎_elim (λ l. (fixed p, l, refl)) (λ l. ⊎_elim (λ m. (own (p - 1000), omega arith, omega arith)) (λ m. in_copies m) (cases_lt p 1032)) (cases_lt p 1000)
  where
    in_copies : 1032 ≤ p → (x : Ref) × Within x × (place x ≡ p)
    in_copies a =
        ⊎_elim (λ m. (copy 0 (p - 1032), (omega arith, omega arith), omega arith)) (λ b.
        ⊎_elim (λ m. (copy 1 (p - 1064), (omega arith, omega arith), omega arith)) (λ d.
        ⊎_elim (λ m. (copy 2 (p - 1096), (omega arith, omega arith), omega arith)) (λ e.
        (copy 3 (p - 1128), (omega arith, omega arith), omega arith))
        (cases_lt p 1128)) (cases_lt p 1096)) (cases_lt p 1064)

-- ---------------------------------------------------------------- terms without a place

pub within_or : (x : Ref) → Within x ⊎ (Within x → ⊥)
within_or (fixed k) = ⊎_elim (λ h. inl h) (λ h. inr (λ l. omega arith)) (cases_lt k 1000)
within_or (own k) = ⊎_elim (λ h. inl h) (λ h. inr (λ l. omega arith)) (cases_lt k 32)
within_or (copy i k) =
    ⊎_elim
    (λ h. ⊎_elim (λ g. inl (h, g)) (λ g. inr (λ l. omega (arith, l.1))) (cases_lt k 32))
    (λ h. inr (λ l. omega (arith, l.0))) (cases_lt i 4)

ends_within : (ts : Ties) → TiesWithin ts → (x : Ref) → In x (ends ts) → Within x
ends_within [] w x m = absurd (none_in m)
ends_within (t ∷ ts) w x m =
    ⊎_elim (λ e. subst Within (sym e) (w t (here refl)).0)
    (λ n. ⊎_elim (λ e. subst Within (sym e) (w t (here refl)).1) (λ k. ends_within ts (λ u i. w u (there i)) x k) (in_cases n))
    (in_cases m)

-- such a term is its own name
pub outside : (ts : Ties) → TiesWithin ts → (x : Ref) → (Within x → ⊥) → name_in (classes ts) x ≡ x
outside ts w x n = off_ends ts x (λ m. n (ends_within ts w x m))

-- ---------------------------------------------------------------- the table of classes

-- each term alone
pub names_apart : (t : List ℕ) → t ≡ range_with_len 0 1160 → Names t (name_in [])
names_apart t e = record {
  long = ap length e ∙ length-range_with_len 0 1160;
  entry = λ x h. ap (λ l. get_or l (place x) 0) e ∙ get_or-range_with_len 0 1160 (place x) 0 (place_below x h) ∙ zero-add (place x);
  inside = λ x h. h;
}

-- the name u becomes v
names_relabelled : (t : List ℕ) (f : Ref → Ref) (u v : Ref) → Names t f → Within u → Within v →
    Names (map (relabelled (place u) (place v)) t) (λ x. cond (same_ref (f x) u) v (f x))
names_relabelled t f u v n hu hv = record {
  long = length-map t _ ∙ n.long;
  entry = λ x h.
      get_or-map (relabelled (place u) (place v)) t (place x) 0 0 (let b = place_below x h in omega (arith, n.long))
      ∙ ap (relabelled (place u) (place v)) (n.entry x h)
      ∙ ap (λ b. cond b (place v) (place (f x))) (same_place (f x) u (n.inside x h) hu)
      ∙ by_test (λ y. cond (same_ref (f x) u) (place v) (place (f x)) ≡ place y) (same_ref (f x) u) v (f x)
      (λ t. cond-true (same_ref (f x) u) (place v) (place (f x)) (T_true (same_ref (f x) u) t))
      (λ t. ⊎_elim (λ e. absurd (t (subst T (sym e) tt))) (λ e. cond-false (same_ref (f x) u) (place v) (place (f x)) e) (cases_Bool (same_ref (f x) u)));
  inside = λ x h. by_test Within (same_ref (f x) u) v (f x) (λ t. hv) (λ t. n.inside x h);
}

-- one tie more
pub names_joined : (t : List ℕ) (tb : List (Ref × Ref)) (x y : Ref) → Names t (name_in tb) → Within x → Within y →
    Names (joined_table t (place x) (place y)) (name_in (joined (name_in tb x) (name_in tb y) ∷ tb))
names_joined t tb x y n hx hy = go (name_in tb x) (name_in tb y) (n.inside x hx) (n.inside y hy) (get_or t (place x) 0) (get_or t (place y) 0) (n.entry x hx) (n.entry y hy)
  where
    f : Ref → Ref
    f = name_in tb

    go : (u v : Ref) → Within u → Within v → (a b : ℕ) → a ≡ place u → b ≡ place v →
        Names (cond (ltb a 1000) (map (relabelled b a) t) (map (relabelled a b) t)) (λ z. cond (same_ref (f z) (joined u v).0) (joined u v).1 (f z))
    go (fixed k) v hu hv a b ea eb =
        subst (λ l. Names l (λ z. cond (same_ref (f z) v) (fixed k) (f z)))
        (sym (cond-true (ltb a 1000) (map (relabelled b a) t) (map (relabelled a b) t) (lt-ltb a 1000 (omega arith)) ∙ ap₂ (λ i j. map (relabelled i j) t) eb ea))
        (names_relabelled t f v (fixed k) n hv hu)
    go (own k) v hu hv a b ea eb =
        subst (λ l. Names l (λ z. cond (same_ref (f z) (own k)) v (f z)))
        (sym (cond-false (ltb a 1000) (map (relabelled b a) t) (map (relabelled a b) t) (le-ltb a 1000 (omega arith)) ∙ ap₂ (λ i j. map (relabelled i j) t) ea eb))
        (names_relabelled t f (own k) v n hu hv)
    go (copy i k) v hu hv a b ea eb =
        subst (λ l. Names l (λ z. cond (same_ref (f z) (copy i k)) v (f z)))
        (sym (cond-false (ltb a 1000) (map (relabelled b a) t) (map (relabelled a b) t) (le-ltb a 1000 (omega arith)) ∙ ap₂ (λ i j. map (relabelled i j) t) ea eb))
        (names_relabelled t f (copy i k) v n hu hv)

-- a table that names the classes of ties has one entry for each
pub names_group : (t : List ℕ) (ts : Ties) → Names t (name_in (classes ts)) → Groups t ts
names_group t ts n x y hx hy =
    let f : Ref → Ref = name_in (classes ts) in
    let same = (names_are_classes ts x y).0 in (
      λ e. same.0 (place_one (f x) (f y) (n.inside x hx) (n.inside y hy) (sym (n.entry x hx) ∙ e ∙ n.entry y hy)),
      λ l. n.entry x hx ∙ ap place (same.1 l) ∙ sym (n.entry y hy),
    )

-- those before x, and then it and the last ones
pub split_at : {X : Type 0} (xs rest before : List X) (x : X) (last : List X) → xs ≡ rest ++ last → rest ≡ before ++ x ∷ [] → xs ≡ before ++ x ∷ last
split_at xs rest before x last e p = e ∙ ap (λ v. v ++ last) p ∙ append_assoc before (x ∷ []) last

-- with none before them the last ones are all
pub none_before : {X : Type 0} (xs rest last : List X) → xs ≡ rest ++ last → length rest ≡ 0 → last ≡ xs
none_before xs [] last e l = sym e
none_before xs (x ∷ rest) last e l = absurd (omega arith)

-- the ties of later parts are ties of the step
later_ties : (k : ℕ) (before : List WrittenPart) (ps : List Part) (t : Ref × Ref) → In t (ties_from (k + length before) ps) → In t (ties_from k (map part_of before ++ ps))
later_ties k [] ps t m = subst (λ n. In t (ties_from n ps)) (add-zero k) m
later_ties k (p ∷ before) ps t m = in_right _ (later_ties (suc k) before ps t (subst (λ n. In t (ties_from n ps)) (omega arith) m))

pub ties_of_part : (parts before : List WrittenPart) (p : WrittenPart) (last : List WrittenPart) (i : ℕ) → i ≡ length before → parts ≡ before ++ p ∷ last →
    TiesWithin (ties_from 0 (map part_of parts)) → TiesWithin (written_ties i (vec_items p.ties))
ties_of_part parts before p last i number e w t m =
    let n : i ≡ 0 + length before = omega arith in
    w t
    (subst (λ v. In t (ties_from 0 v)) (sym (ap (map part_of) e ∙ map-append part_of before (p ∷ last)))
    (later_ties 0 before (part_of p ∷ map part_of last) t (in_left _ (subst (λ k. In t (written_ties k (vec_items p.ties))) n m))))

-- both ends of a tie have a place
pub tie_within : (i : ℕ) (ties before : List Tie) (t : Tie) (last : List Tie) → TiesWithin (written_ties i ties) → ties ≡ before ++ t ∷ last →
    Within (end i (end_of t.left)) × Within (end i (end_of t.right))
tie_within i ties before t last w e =
    w (end i (end_of t.left), end i (end_of t.right))
    (in_map (λ (u : End × End). (end i u.0, end i u.1)) (in_map tie_of (subst (In t) (sym e) (in_right before (here refl)))))
