-- Right steps are disjunctive piece-unifiers.
use Rattle.std.proofs.Common.{◌≡◌, ℕ, ◌⊎◌, List, sym, refl, ◌∙◌, subst, inl, inr, ⊎_elim}
use Rattle.notation.specs.Logic.{In, terms}
use Rattle.rewriting.specs.Steps.{Ref, fixed, own, Ties, Unified, OnlyTaken, Linked}
use Rattle.rewriting.specs.Unifiers.{part_terms, Joined, within, itself, back, via, DisjunctivePieceUnifier, Apart, RightIsUnifier, UnifierIsRight}
use Rattle.rewriting.proofs.Lists.{in_left, in_right, occurs_in}
use Rattle.rewriting.proofs.Named.{become_of, of_become}

pub joined_names : {us : List Unified} (f : Ref → Ref) {x y : Ref} → Joined us (λ i. f) x y → f x ≡ f y
joined_names f (within p m i j e) = e
joined_names f itself = refl
joined_names f (back h) = sym (joined_names f h)
joined_names f (via h k) = joined_names f h ∙ joined_names f k

pub linked_joined : {us : List Unified} {ts : Ties} (P : ℕ → Ref → Ref) {x y : Ref} → ((t : Ref × Ref) → In t ts → Joined us P t.0 t.1) → Linked ts x y → Joined us P x y
linked_joined P h (Linked.tied {x = x} {y = y} m) = h (x, y) m
linked_joined P h Linked.itself = itself
linked_joined P h (Linked.back l) = back (linked_joined P h l)
linked_joined P h (Linked.via l k) = via (linked_joined P h l) (linked_joined P h k)

module _ (ms : List Unified) (P : ℕ → Ref → Ref) (parts : Apart ms) (uni : DisjunctivePieceUnifier ms P) (p : Unified) (here_p : In p ms) (z : ℕ) (un : In z p.unnamed) where
  -- together with z in the part
  With : Ref → Type 0
  With y = (y ≡ own z) ⊎ (In (own z) (part_terms p) × In y (part_terms p) × (P p.head y ≡ P p.head (own z)))

  stays : (o : Unified) → In o ms → (x y : Ref) → In x (part_terms o) → In y (part_terms o) → P o.head x ≡ P o.head y → With x → With y
  unfolding With
  stays o m x y i j e (inl h) =
      let q : p ≡ o = parts.one_head p o here_p m z un (subst (λ v. In v (part_terms o)) h i) in
      inr (
        subst (λ v. In v (part_terms p)) h (subst (λ v. In x (part_terms v)) (sym q) i),
        subst (λ v. In y (part_terms v)) (sym q) j,
        subst (λ v. P p.head y ≡ P p.head v) h (sym (subst (λ (v : Unified). P v.head x ≡ P v.head y) (sym q) e)),
      )
  stays o m x y i j e (inr h) =
      let q : p ≡ o = ⊎_elim
      (λ k. parts.one_head p o here_p m z un (subst (λ v. In v (part_terms o)) k i))
      (λ k. parts.own_copy p o here_p m x k.0 h.1 i)
      ((uni.each_head p here_p).existential z un h.0 x h.1 h.2) in
      inr (h.0, subst (λ v. In y (part_terms v)) (sym q) j, sym (subst (λ (v : Unified). P v.head x ≡ P v.head y) (sym q) e) ∙ h.2)

  carried : {x y : Ref} → Joined ms P x y → (With x → With y) × (With y → With x)
  carried (within {x = x} {y = y} o m i j e) = (stays o m x y i j e, stays o m y x j i (sym e))
  carried itself = (λ h. h, λ h. h)
  carried (back k) = let r = carried k in (r.1, r.0)
  carried (via k l) = let r = carried k in let s = carried l in (λ h. s.0 (r.0 h), λ h. r.1 (s.1 h))

  join_alone : (x : Ref) → Joined ms P (own z) x → (x ≡ own z) ⊎ OnlyTaken p x
  unfolding With
  join_alone x j = ⊎_elim (λ e. inl e) (λ h. (uni.each_head p here_p).existential z un h.0 x h.1 h.2) ((carried j).0 (inl refl))

pub unifier_is_right : UnifierIsRight
unifier_is_right us ts parts P uni same = record {
  constants = λ k m l. uni.join_admissible k m ((same (fixed k) (fixed m)).0 l);
  each_part = λ p m.
      let h = uni.each_head p m in
      let to_links : (x y : Ref) → In x (part_terms p) → In y (part_terms p) → P p.head x ≡ P p.head y → Linked ts x y =
      λ x y i j e. (same x y).1 (within p m i j e) in
      record {
        taken_met = λ a i. let r = h.taken_met a i in (
          r.0,
          r.1,
          become_of (P p.head) (Linked ts) a r.0
              (λ x y j k e. to_links x y (in_left (terms p.named) (occurs_in a i j)) (in_right (terms p.taken) (occurs_in r.0 r.1 k)) e) r.2,
        );
        named_met = λ b i. let r = h.named_met b i in (
          r.0,
          r.1,
          become_of (P p.head) (Linked ts) r.0 b
              (λ x y j k e. to_links x y (in_left (terms p.named) (occurs_in r.0 r.1 j)) (in_right (terms p.taken) (occurs_in b i k)) e) (sym r.2),
        );
        unnamed_alone = λ z n x l. join_alone us P parts uni p m z n x ((same (own z) x).0 l);
      };
}

pub right_is_unifier : RightIsUnifier
right_is_unifier us ts parts tied f nm = (
  λ r. record {
    each_head = λ p m. let h = r.each_part p m in record {
      not_empty = parts.some_taken p m;
      admissible = λ k n i j e. r.constants k n ((nm (fixed k) (fixed n)).0 e);
      taken_met = λ a i. let w = h.taken_met a i in (w.0, w.1, of_become f (Linked ts) a w.0 (λ x y l. (nm x y).1 l) w.2);
      named_met = λ b i. let w = h.named_met b i in (w.0, w.1, sym (of_become f (Linked ts) w.0 b (λ x y l. (nm x y).1 l) w.2));
      existential = λ z i o x j e. h.unnamed_alone z i x ((nm (own z) x).0 (sym e));
    };
    join_admissible = λ k n j. r.constants k n ((nm (fixed k) (fixed n)).0 (joined_names f j));
  },
  λ u. unifier_is_right us ts parts (λ i. f) u (λ x y. (
    linked_joined (λ i. f) (λ t m. let w = tied t m in within w.0 w.1 w.2 w.3 ((nm t.0 t.1).1 (Linked.tied m))),
    λ j. (nm x y).0 (joined_names f j),
  )),
)
