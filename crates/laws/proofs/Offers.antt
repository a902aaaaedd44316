-- A step that offers a family is right, and enters the family's result.
use mathlib.Core.Path.{◌≡◌, refl, sym, ap, subst, ◌∙◌}
use mathlib.Core.List.{List, [], ◌∷◌, map}
use mathlib.Core.Logic.{◌⊎◌, inl, inr, ⊎_elim, ◌↔◌}
use Prim.Native.Nat.{ℕ, suc}
use lib.Dec.{T}
use Rattle.notation.specs.Logic.{Term, con, var, Atom, at, In, here, there, rename, terms}
use Rattle.search.specs.Keeping.{Occurs}
use Rattle.rewriting.specs.Computing.{each, any, same_atom, same_term}
use Rattle.rewriting.specs.Judging.{new_query, Ledger}
use Rattle.rewriting.specs.Rightness.{Reads, RightStep, Distinct}
use Rattle.rewriting.specs.Steps.{member, Query, Ref, fixed, own, copy, is_copy, in_rule, in_copy, Step, Part, Unified, Piece, piece, bare, at_numbers, off_numbers, left, all_ties, Ties, Linked, Right}
use Rattle.rewriting.specs.Unifiers.{part_terms, PieceUnifier, Joined, within, itself, back, via, DisjunctivePieceUnifier, Apart, TiedWithin, OneHead, relabel, Renames, Alike}
use Rattle.laws.specs.Derivations.{Use, minus, use_part, UsesOf, Family, Numbers, published, PartsOffer, OfParts, StepOffers}
use Rattle.rewriting.proofs.Alike.{results_alike, moved_occurs, not_both}
use Rattle.rewriting.proofs.Apart.{of_terms, occurs_at, at_occurs, read_is_apart}
use Rattle.rewriting.proofs.Lists.{by_test, none_in, in_left, in_right, in_cases, in_either, in_map, of_map, in_each, of_each, args, occurs_in, any_in, any_of, term_eq, term_refl, atom_eq, atom_refl, rename_same, rename_twice, at_or_off}
use Rattle.rewriting.proofs.Named.{names, right_named}
use Rattle.rewriting.proofs.Nth.{nth_in}
use Rattle.rewriting.proofs.NewQueries.{new_is_result}
use Rattle.rewriting.proofs.Numbering.{new_query_is}
use Rattle.rewriting.proofs.Unifiers.{linked_joined, unifier_is_right}

map-id : {X : Type 0} (xs : List X) → map (λ x. x) xs ≡ xs
map-id [] = refl
map-id (x ∷ xs) = ap (λ r. x ∷ r) (map-id xs)

pub rename_id : {X : Type 0} (f : X → X) (a : Atom X) → ((x : X) → In x (args a) → f x ≡ x) → rename f a ≡ a
rename_id f (at p ts) h = rename_same f (λ x. x) (at p ts) h ∙ ap (at p) (map-id ts)

-- one renaming after another, exchanged
swapped : {X Y : Type 0} (g : Y → Y) (f : X → Y) (h : X → X) → ((t : X) → g (f t) ≡ f (h t)) → (a : Atom X) → rename g (rename f a) ≡ rename f (rename h a)
swapped g f h e a = rename_twice g f a ∙ rename_same (λ t. g (f t)) (λ t. f (h t)) a (λ t m. e t) ∙ sym (rename_twice f h a)

pub off_in : {X : Type 0} {x : X} (ns : List ℕ) (i : ℕ) (xs : List X) → In x (off_numbers ns i xs) → In x xs
off_in ns i [] m = m
off_in {X} {x} ns i (y ∷ xs) m =
    by_test (λ v. In x v → In x (y ∷ xs)) (member i ns) (off_numbers ns (suc i) xs) (y ∷ off_numbers ns (suc i) xs)
    (λ t k. there (off_in ns (suc i) xs k))
    (λ t k. ⊎_elim (λ e. here e) (λ j. there (off_in ns (suc i) xs j)) (in_cases k)) m

pub taken_test : (a : Atom Term) (t : List (Atom Term)) → T (any (same_atom same_term a) t) → In a t
taken_test a t h = let r = any_in (same_atom same_term a) t h in subst (λ v. In v t) (sym (atom_eq same_term term_eq term_refl a r.0 r.2)) r.1

minus_in : {a : Atom Term} (t : List (Atom Term)) (x : Query) → In a (minus t x) → In a x × (In a t → ⊥)
minus_in t [] m = absurd (none_in m)
minus_in {a} t (y ∷ x) m =
    by_test (λ v. In a v → In a (y ∷ x) × (In a t → ⊥)) (any (same_atom same_term y) t) (minus t x) (y ∷ minus t x)
    (λ h k. let r = minus_in t x k in (there r.0, r.1))
    (λ h k. ⊎_elim (λ e. (here e, λ i. h (any_of (same_atom same_term y) (subst (λ v. In v t) e i) (atom_refl same_term term_eq term_refl y)))) (λ j. let r = minus_in t x j in (there r.0, r.1)) (in_cases k)) m

in_minus : {a : Atom Term} (t : List (Atom Term)) (x : Query) → In a x → (In a t → ⊥) → In a (minus t x)
in_minus t [] m n = absurd (none_in m)
in_minus {a} t (y ∷ x) m n =
    by_test (λ v. In a v) (any (same_atom same_term y) t) (minus t x) (y ∷ minus t x)
    (λ h. ⊎_elim (λ e. absurd (n (subst (λ v. In v t) (sym e) (taken_test y t h)))) (λ j. in_minus t x j n) (in_cases m))
    (λ h. ⊎_elim (λ e. here e) (λ j. there (in_minus t x j n)) (in_cases m))

-- the ledger's piece p says what the published piece o says: nm gives published names, mv the ledger's
pub record Match (nm mv : Ref → Ref) (p o : Unified) : Type 0 where
  pub head_same : p.head ≡ o.head
  pub taken_to : (a : Atom Ref) → In a p.taken → In (rename nm a) o.taken
  pub taken_back : (a : Atom Ref) → In a o.taken → In (rename mv a) p.taken
  pub rest_to : (a : Atom Ref) → In a p.rest → In (rename nm a) o.rest
  pub rest_back : (a : Atom Ref) → In a o.rest → In (rename mv a) p.rest
  pub named_to : (a : Atom Ref) → In a p.named → In (rename nm a) o.named
  pub named_back : (a : Atom Ref) → In a o.named → In (rename mv a) p.named
  pub unnamed_same : p.unnamed ≡ o.unnamed
  pub there_back : (x : Ref) → In x (part_terms p) ⊎ Occurs x p.rest → mv (nm x) ≡ x
  pub back_there : (x : Ref) → In x (part_terms o) ⊎ Occurs x o.rest → nm (mv x) ≡ x

module _ (nm mv : Ref → Ref) (nf : (k : ℕ) → nm (fixed k) ≡ fixed k) (no : (k : ℕ) → nm (own k) ≡ own k)
    (mf : (k : ℕ) → mv (fixed k) ≡ fixed k) (mo : (k : ℕ) → mv (own k) ≡ own k) where
  nm_rule : (t : Term) → nm (in_rule t) ≡ in_rule t
  nm_rule (con k) = nf k
  nm_rule (var k) = no k

  mv_rule : (t : Term) → mv (in_rule t) ≡ in_rule t
  mv_rule (con k) = mf k
  mv_rule (var k) = mo k

  module _ (i : ℕ) (b d : List (Atom Term)) (w : Use) (p : Part) (there' : Query) (to back : ℕ → ℕ) (ren : Renames to back w.query there')
      (nc : (k : ℕ) → nm (copy i k) ≡ copy i (back k)) (mc : (k : ℕ) → mv (copy i k) ≡ copy i (to k))
      (dis : Distinct there')
      (tk : (a : Atom Term) → In a w.taken → In (rename (relabel to) a) (at_numbers p.taken 0 there'))
      (kt : (a : Atom Term) → In a (at_numbers p.taken 0 there') → In (rename (relabel back) a) w.taken)
      (nd : (a : Atom Term) → In a w.named ↔ In a (at_numbers p.named 0 d))
      (tin : (a : Atom Term) → In a w.taken → In a w.query) where
    nm_copy : (t : Term) → nm (in_copy i t) ≡ in_copy i (relabel back t)
    nm_copy (con k) = nf k
    nm_copy (var k) = nc k

    mv_copy : (t : Term) → mv (in_copy i t) ≡ in_copy i (relabel to t)
    mv_copy (con k) = mf k
    mv_copy (var k) = mc k

    turn : (t : Term) → Occurs t there' → relabel to (relabel back t) ≡ t
    turn (con k) o = refl
    turn (var k) o = ap var (ren.back_to k o)

    turn_back : (t : Term) → Occurs t w.query → relabel back (relabel to t) ≡ t
    turn_back (con k) o = refl
    turn_back (var k) o = ap var (ren.to_back k o)

    turn_atom : (a : Atom Term) → In a there' → rename (relabel to) (rename (relabel back) a) ≡ a
    turn_atom a m = rename_twice (relabel to) (relabel back) a ∙ rename_id (λ t. relabel to (relabel back t)) a (λ t k. turn t (occurs_in a m k))

    -- a term of the ledger's query, and one of the published one
    copy_there : (t : Term) → Occurs t there' → mv (nm (in_copy i t)) ≡ in_copy i t
    copy_there t o = ap mv (nm_copy t) ∙ mv_copy (relabel back t) ∙ ap (in_copy i) (turn t o)

    copy_back : (t : Term) → Occurs t w.query → nm (mv (in_copy i t)) ≡ in_copy i t
    copy_back t o = ap nm (mv_copy t) ∙ nm_copy (relabel to t) ∙ ap (in_copy i) (turn_back t o)

    rule_there : (t : Term) → mv (nm (in_rule t)) ≡ in_rule t
    rule_there t = ap mv (nm_rule t) ∙ mv_rule t

    rule_back : (t : Term) → nm (mv (in_rule t)) ≡ in_rule t
    rule_back t = ap nm (mv_rule t) ∙ nm_rule t

    turn_atom_back : (a : Atom Term) → In a w.query → rename (relabel back) (rename (relabel to) a) ≡ a
    turn_atom_back a m = rename_twice (relabel back) (relabel to) a ∙ rename_id (λ t. relabel back (relabel to t)) a (λ t k. turn_back t (occurs_in a m k))

    rest_of : (a : Atom Term) → In a (off_numbers p.taken 0 there') → In (rename (relabel back) a) (minus w.taken w.query)
    rest_of a m =
        let o = off_in p.taken 0 there' m in
        in_minus w.taken w.query (ren.only a o)
        (λ k. not_both p.taken there' dis (subst (λ v. In v (at_numbers p.taken 0 there')) (turn_atom a o) (tk (rename (relabel back) a) k)) m)

    rest_from : (a : Atom Term) → In a (minus w.taken w.query) → In (rename (relabel to) a) (off_numbers p.taken 0 there')
    rest_from a m =
        let r = minus_in w.taken w.query m in
        ⊎_elim (λ k. absurd (r.1 (subst (λ v. In v w.taken) (turn_atom_back a r.0) (kt (rename (relabel to) a) k)))) (λ k. k) (at_or_off p.taken 0 there' (ren.has a r.0))

    matched : Match nm mv (bare (piece i b d there' p)) (use_part i b d w)
    matched = record {
      head_same = refl;
      taken_to = λ a m. let r = of_map (rename (in_copy i)) (at_numbers p.taken 0 there') m in
          subst (λ v. In v (use_part i b d w).taken) (sym (ap (rename nm) r.2 ∙ swapped nm (in_copy i) (relabel back) nm_copy r.0)) (in_map (rename (in_copy i)) (kt r.0 r.1));
      taken_back = λ a m. let r = of_map (rename (in_copy i)) w.taken m in
          subst (λ v. In v (piece i b d there' p).taken) (sym (ap (rename mv) r.2 ∙ swapped mv (in_copy i) (relabel to) mv_copy r.0)) (in_map (rename (in_copy i)) (tk r.0 r.1));
      rest_to = λ a m. let r = of_map (rename (in_copy i)) (off_numbers p.taken 0 there') m in
          subst (λ v. In v (use_part i b d w).rest) (sym (ap (rename nm) r.2 ∙ swapped nm (in_copy i) (relabel back) nm_copy r.0)) (in_map (rename (in_copy i)) (rest_of r.0 r.1));
      rest_back = λ a m. let r = of_map (rename (in_copy i)) (minus w.taken w.query) m in
          subst (λ v. In v (piece i b d there' p).rest) (sym (ap (rename mv) r.2 ∙ swapped mv (in_copy i) (relabel to) mv_copy r.0)) (in_map (rename (in_copy i)) (rest_from r.0 r.1));
      named_to = λ a m. let r = of_map (rename in_rule) (at_numbers p.named 0 d) m in
          subst (λ v. In v (use_part i b d w).named) (sym (ap (rename nm) r.2 ∙ rename_twice nm in_rule r.0 ∙ rename_same (λ t. nm (in_rule t)) in_rule r.0 (λ t k. nm_rule t))) (in_map (rename in_rule) ((nd r.0).1 r.1));
      named_back = λ a m. let r = of_map (rename in_rule) w.named m in
          subst (λ v. In v (piece i b d there' p).named) (sym (ap (rename mv) r.2 ∙ rename_twice mv in_rule r.0 ∙ rename_same (λ t. mv (in_rule t)) in_rule r.0 (λ t k. mv_rule t))) (in_map (rename in_rule) ((nd r.0).0 r.1));
      unnamed_same = refl;
      there_back = λ x h. ⊎_elim
          (λ m. ⊎_elim
          (λ k. let r = of_terms (in_copy i) (at_numbers p.taken 0 there') k in subst (λ v. mv (nm v) ≡ v) (sym r.2) (copy_there r.0 (at_occurs p.taken there' r.1)))
          (λ k. let r = of_terms in_rule (at_numbers p.named 0 d) k in subst (λ v. mv (nm v) ≡ v) (sym r.2) (rule_there r.0))
          (in_either (terms (piece i b d there' p).taken) m))
          (λ k. let r = of_terms (in_copy i) (off_numbers p.taken 0 there') k in
          let s = occurs_at (off_numbers p.taken 0 there') r.1 in
          subst (λ v. mv (nm v) ≡ v) (sym r.2) (copy_there r.0 (occurs_in s.0 (off_in p.taken 0 there' s.1) s.2))) h;
      back_there = λ x h. ⊎_elim
          (λ m. ⊎_elim
          (λ k. let r = of_terms (in_copy i) w.taken k in let s = occurs_at w.taken r.1 in
          subst (λ v. nm (mv v) ≡ v) (sym r.2) (copy_back r.0 (occurs_in s.0 (tin s.0 s.1) s.2)))
          (λ k. let r = of_terms in_rule w.named k in subst (λ v. nm (mv v) ≡ v) (sym r.2) (rule_back r.0))
          (in_either (terms (use_part i b d w).taken) m))
          (λ k. let r = of_terms (in_copy i) (minus w.taken w.query) k in let s = occurs_at (minus w.taken w.query) r.1 in
          subst (λ v. nm (mv v) ≡ v) (sym r.2) (copy_back r.0 (occurs_in s.0 (minus_in w.taken w.query s.1).0 s.2))) h;
    }

-- ---------------------------------------------------------------- all the pieces, one beside the other

pub data Zipped (nm mv : Ref → Ref) : List Unified → List Unified → Type 0 where
  none : Zipped nm mv [] []
  both : {p o : Unified} {ps os : List Unified} → Match nm mv p o → Zipped nm mv ps os → Zipped nm mv (p ∷ ps) (o ∷ os)

pub zip_of : {nm mv : Ref → Ref} {ps os : List Unified} → Zipped nm mv ps os → (p : Unified) → In p ps → (o : Unified) × In o os × Match nm mv p o
zip_of none p m = absurd (none_in m)
zip_of {nm} {mv} (both {o = o} c z) p m = ⊎_elim
    (λ k. (o, here refl, subst (λ v. Match nm mv v o) (sym k) c))
    (λ k. let r = zip_of z p k in (r.0, there r.1, r.2))
    (in_cases m)

pub zip_back : {nm mv : Ref → Ref} {ps os : List Unified} → Zipped nm mv ps os → (o : Unified) → In o os → (p : Unified) × In p ps × Match nm mv p o
zip_back none o m = absurd (none_in m)
zip_back {nm} {mv} (both {p = p} c z) o m = ⊎_elim
    (λ k. (p, here refl, subst (λ v. Match nm mv p v) (sym k) c))
    (λ k. let r = zip_back z o k in (r.0, there r.1, r.2))
    (in_cases m)

pub part_to : (nm mv : Ref → Ref) (p o : Unified) → Match nm mv p o → (x : Ref) → In x (part_terms p) → In (nm x) (part_terms o)
part_to nm mv p o c x m = ⊎_elim (λ k. in_left (terms o.named) (moved_occurs nm p.taken o.taken c.taken_to x k)) (λ k. in_right (terms o.taken) (moved_occurs nm p.named o.named c.named_to x k)) (in_either (terms p.taken) m)

pub part_back : (nm mv : Ref → Ref) (p o : Unified) → Match nm mv p o → (x : Ref) → In x (part_terms o) → In (mv x) (part_terms p)
part_back nm mv p o c x m = ⊎_elim (λ k. in_left (terms p.named) (moved_occurs mv o.taken p.taken c.taken_back x k)) (λ k. in_right (terms p.taken) (moved_occurs mv o.named p.named c.named_back x k)) (in_either (terms o.taken) m)

-- ---------------------------------------------------------------- the family, in the ledger's names

module _ (nm mv : Ref → Ref) (nf : (k : ℕ) → nm (fixed k) ≡ fixed k) (no : (k : ℕ) → nm (own k) ≡ own k)
    (mo : (k : ℕ) → mv (own k) ≡ own k) (nk : (x : Ref) → is_copy (nm x) ≡ is_copy x)
    (ms os : List Unified) (ts : Ties) (P : ℕ → Ref → Ref) (zip : Zipped nm mv ms os) (parts : Apart ms) (tied : TiedWithin ms ts) (uni : DisjunctivePieceUnifier os P) where
  P' : ℕ → Ref → Ref
  P' i x = P i (nm x)

  joined_to : {x y : Ref} → Joined ms P' x y → Joined os P (nm x) (nm y)
  unfolding P'
  joined_to (within {x = x} {y = y} p m i j e) =
      let z = zip_of zip p m in
      within z.0 z.1 (part_to nm mv p z.0 z.2 x i) (part_to nm mv p z.0 z.2 y j) (subst (λ q. P q (nm x) ≡ P q (nm y)) z.2.head_same e)
  joined_to itself = itself
  joined_to (back h) = back (joined_to h)
  joined_to (via h k) = via (joined_to h) (joined_to k)

  joined_back : {x y : Ref} → Joined os P x y → Joined ms P' (mv x) (mv y)
  unfolding P'
  joined_back (within {x = x} {y = y} o m i j e) =
      let z = zip_back zip o m in
      let c = z.2 in
      within z.0 z.1 (part_back nm mv z.0 o c x i) (part_back nm mv z.0 o c y j)
      (subst (λ q. P q (nm (mv x)) ≡ P q (nm (mv y))) (sym c.head_same) (ap (P o.head) (c.back_there x (inl i)) ∙ e ∙ ap (P o.head) (sym (c.back_there y (inl j)))))
  joined_back itself = itself
  joined_back (back h) = back (joined_back h)
  joined_back (via h k) = via (joined_back h) (joined_back k)

  turned : (q : List (Atom Ref)) (a : Atom Ref) → ((x : Ref) → Occurs x q → nm (mv x) ≡ x) → In a q → rename nm (rename mv a) ≡ a
  turned q a h m = rename_twice nm mv a ∙ rename_id (λ x. nm (mv x)) a (λ x k. h x (occurs_in a m k))

  piece_unifies : (p o : Unified) → In p ms → In o os → Match nm mv p o → PieceUnifier (λ x. P o.head (nm x)) p
  piece_unifies p o m n c =
      let u = uni.each_head o n in
      record {
        not_empty = parts.some_taken p m;
        admissible = λ k j i l e. u.admissible k j (subst (λ v. In v (part_terms o)) (nf k) (part_to nm mv p o c (fixed k) i)) (subst (λ v. In v (part_terms o)) (nf j) (part_to nm mv p o c (fixed j) l)) (ap (P o.head) (sym (nf k)) ∙ e ∙ ap (P o.head) (nf j));
        taken_met = λ a i. let r = u.taken_met (rename nm a) (c.taken_to a i) in (
          rename mv r.0,
          c.named_back r.0 r.1,
          sym (rename_twice (P o.head) nm a) ∙ r.2 ∙ ap (rename (P o.head)) (sym (turned o.named r.0 (λ x k. c.back_there x (inl (in_right (terms o.taken) k))) r.1)) ∙ rename_twice (P o.head) nm (rename mv r.0),
        );
        named_met = λ a i. let r = u.named_met (rename nm a) (c.named_to a i) in (
          rename mv r.0,
          c.taken_back r.0 r.1,
          sym (rename_twice (P o.head) nm a) ∙ r.2 ∙ ap (rename (P o.head)) (sym (turned o.taken r.0 (λ x k. c.back_there x (inl (in_left (terms o.named) k))) r.1)) ∙ rename_twice (P o.head) nm (rename mv r.0),
        );
        existential = λ z i own_in x j e. ⊎_elim
            (λ h. inl (sym (c.there_back x (inl j)) ∙ ap mv h ∙ mo z))
            (λ h. inr (
              sym (nk x) ∙ h.0,
              subst (λ v. Occurs v p.taken) (c.there_back x (inl j)) (moved_occurs mv o.taken p.taken c.taken_back (nm x) h.1),
              λ k. h.2 (moved_occurs nm p.rest o.rest c.rest_to x k),
            ))
            (u.existential z (subst (λ v. In z v) c.unnamed_same i) (subst (λ v. In v (part_terms o)) (no z) (part_to nm mv p o c (own z) own_in)) (nm x) (part_to nm mv p o c x j) (e ∙ ap (P o.head) (no z)));
      }

  family_there : DisjunctivePieceUnifier ms P'
  unfolding P'
  family_there = record {
    each_head = λ p m. let z = zip_of zip p m in subst (λ q. PieceUnifier (λ x. P q (nm x)) p) (sym z.2.head_same) (piece_unifies p z.0 m z.1 z.2);
    join_admissible = λ k j h. uni.join_admissible k j (subst (λ v. Joined os P v (fixed j)) (nf k) (subst (λ v. Joined os P (nm (fixed k)) v) (nf j) (joined_to h)));
  }

  module _ (cl : (x y : Ref) → ((p : Unified) × In p ms × In x (part_terms p)) → ((p : Unified) × In p ms × In y (part_terms p)) → Linked ts x y ↔ Joined os P (nm x) (nm y)) where
    joined_linked : {x y : Ref} → Joined ms P' x y → Linked ts x y
    joined_linked (within {x = x} {y = y} p m i j e) = (cl x y (p, m, i) (p, m, j)).1 (joined_to (within p m i j e))
    joined_linked itself = Linked.itself
    joined_linked (back h) = Linked.back (joined_linked h)
    joined_linked (via h k) = Linked.via (joined_linked h) (joined_linked k)

    tie_joined : (t : Ref × Ref) → In t ts → Joined ms P' t.0 t.1
    tie_joined t m =
        let w = tied t m in
        let c = (zip_of zip w.0 w.1).2 in
        subst (λ v. Joined ms P' v t.1) (c.there_back t.0 (inl w.2))
        (subst (λ v. Joined ms P' (mv (nm t.0)) v) (c.there_back t.1 (inl w.3))
        (joined_back ((cl t.0 t.1 (w.0, w.1, w.2) (w.0, w.1, w.3)).0 (Linked.tied m))))

    right_there : Right (Linked ts) ms
    right_there = unifier_is_right ms ts parts P' family_there (λ x y. (linked_joined P' tie_joined, joined_linked))

    -- what holds for the terms of the parts holds for all
    classes_to : (x y : Ref) → Linked ts x y → Joined os P (nm x) (nm y)
    classes_to x y l = joined_to (linked_joined P' tie_joined l)

    classes_back : (x y : Ref) → mv (nm x) ≡ x → mv (nm y) ≡ y → Joined os P (nm x) (nm y) → Linked ts x y
    classes_back x y e f j = subst (λ v. Linked ts v y) e (subst (λ v. Linked ts (mv (nm x)) v) f (joined_linked (joined_back j)))

-- ---------------------------------------------------------------- from what the step offers

pub zipped_of : (s : Ledger) (kn : Numbers) (to fro : ℕ → ℕ → ℕ) → ((x : Query) → In x s.entered → Distinct x) →
    (b : List (Atom Term)) {i : ℕ} {ds : List (List (Atom Term))} {ws : List Use} {ps : List Part} {ms : List Piece} {os : List Unified} →
    PartsOffer s kn to fro b i ds ws ps ms → UsesOf b i ds ws os → Zipped (published fro) (published to) (map bare ms) os
zipped_of s kn to fro dis b PartsOffer.done UsesOf.done = none
zipped_of s kn to fro dis b (PartsOffer.more {i = i} {d = d} {w = w} {p = p} x k n ren pf tk kt nd rest) (UsesOf.more tin nin us) =
    both (matched (published fro) (published to) (λ j. refl) (λ j. refl) (λ j. refl) (λ j. refl) i b d w p x (to i) (fro i) ren (λ j. refl) (λ j. refl) (dis x (nth_in p.query s.entered n)) tk kt nd tin)
    (zipped_of s kn to fro dis b rest us)

reads_of : (s : Ledger) (kn : Numbers) (to fro : ℕ → ℕ → ℕ) (b : List (Atom Term)) {i : ℕ} {ds : List (List (Atom Term))} {ws : List Use} {ps : List Part} {ms : List Piece} →
    PartsOffer s kn to fro b i ds ws ps ms → s.struck ≡ [] → Reads s b i ds ps ms
reads_of s kn to fro b PartsOffer.done st = Reads.done
reads_of s kn to fro b (PartsOffer.more {p = p} x k n ren pf tk kt nd rest) st = Reads.more x (n, λ i. none_in (subst (λ v. In p.query v) st i)) pf (reads_of s kn to fro b rest st)

left_moves : (g : Ref → Ref) → ((t : Term) → g (in_rule t) ≡ in_rule t) → (b : List (Atom Term)) (ps os : List Unified) →
    ((p : Unified) → In p ps → (o : Unified) × In o os × ((a : Atom Ref) → In a p.rest → In (rename g a) o.rest)) → (a : Atom Ref) → In a (left b ps) → In (rename g a) (left b os)
left_moves g gr b ps os h a m = ⊎_elim
    (λ k. let r = of_map (rename in_rule) b k in
    in_left (each os (λ p. p.rest)) (subst (λ v. In v (map (rename in_rule) b)) (sym (ap (rename g) r.2 ∙ rename_twice g in_rule r.0 ∙ rename_same (λ t. g (in_rule t)) in_rule r.0 (λ t i. gr t))) (in_map (rename in_rule) r.1)))
    (λ k. let r = of_each (λ (p : Unified). p.rest) ps k in let w = h r.0 r.1 in
    in_right (map (rename in_rule) b) (in_each (λ (p : Unified). p.rest) w.1 (w.2 a r.2)))
    (in_either (map (rename in_rule) b) m)

left_stays : (g : Ref → Ref) → ((t : Term) → g (in_rule t) ≡ in_rule t) → (b : List (Atom Term)) (ps : List Unified) → ((p : Unified) → In p ps → (x : Ref) → Occurs x p.rest → g x ≡ x) → (x : Ref) → Occurs x (left b ps) → g x ≡ x
left_stays g gr b ps h x o =
    let w = occurs_at (left b ps) o in
    ⊎_elim
    (λ k. let r = of_terms in_rule b (occurs_in w.0 k w.2) in subst (λ v. g v ≡ v) (sym r.2) (gr r.0))
    (λ k. let r = of_each (λ (p : Unified). p.rest) ps k in h r.0 r.1 x (occurs_in w.0 r.2 w.2))
    (in_either (map (rename in_rule) b) w.1)

-- the step of a family is right, and its query is the published one up to names
pub step_right : (s : Ledger) (kn : Numbers) (f : Family) (t : Step) → OneHead f.rule → s.struck ≡ [] → ((x : Query) → In x s.entered → Distinct x) → StepOffers s kn f t →
    (n : Query) × RightStep s t n × Alike f.result n
step_right s kn f t one st dis o =
    let b = f.rule.body in
    let ps = o.pieces in
    let ms = map bare ps in
    let ts = all_ties ps in
    let os = f.parts in
    let P = f.partition in
    let nm : Ref → Ref = published o.back in
    let mv : Ref → Ref = published o.to in
    let reads = reads_of s kn o.to o.back b o.parts_offer st in
    let apart = read_is_apart s f.rule t.parts ps one reads in
    let zip : Zipped nm mv ms os = zipped_of s kn o.to o.back dis b o.parts_offer f.uses_of in
    let cl : (x y : Ref) → ((p : Unified) × In p ms × In x (part_terms p)) → ((p : Unified) × In p ms × In y (part_terms p)) → Linked ts x y ↔ Joined os P (nm x) (nm y) =
    λ x y hx hy. o.classes x y (of_parts ps x hx) (of_parts ps y hy) in
    let right = right_there nm mv (λ k. refl) (λ k. refl) (λ k. refl) (kinds o.back) ms os ts P zip apart.0 apart.1 f.unifier cl in
    let to_classes = classes_to nm mv (λ k. refl) (λ k. refl) (λ k. refl) (kinds o.back) ms os ts P zip apart.0 apart.1 f.unifier cl in
    let of_classes = classes_back nm mv (λ k. refl) (λ k. refl) (λ k. refl) (kinds o.back) ms os ts P zip apart.0 apart.1 f.unifier cl in
    let ls = left b ms in
    let n = new_query (names ps) ls in
    let new = new_query_is ts ls (right_named ps right).constants in
    let fine : (x : Ref) → Occurs x ls → mv (nm x) ≡ x = left_stays (λ x. mv (nm x)) (λ u. ap mv (rule_stays o.back u) ∙ rule_stays o.to u) b ms (λ p m x k. let z = zip_of zip p m in z.2.there_back x (inr k)) in (
      n,
      record { rule = f.rule; is_rule = o.is_rule; pieces = ps; reads = reads; right = right; new = new },
      results_alike (Joined os P) (Linked ts) (left b os) ls f.result n f.is_result (new_is_result (Linked ts) ls n new) mv nm
          (left_moves mv (rule_stays o.to) b os ms (λ q m. let z = zip_back zip q m in (z.0, z.1, z.2.rest_back)))
          (left_moves nm (rule_stays o.back) b ms os (λ p m. let z = zip_of zip p m in (z.0, z.1, z.2.rest_to)))
          (left_stays (λ x. nm (mv x)) (λ u. ap nm (rule_stays o.to u) ∙ rule_stays o.back u) b os (λ q m x k. let z = zip_back zip q m in z.2.back_there x (inr k)))
          fine
          (λ x y u v. (to_classes x y, of_classes x y (fine x u) (fine y v)))
          (λ x k u. (to_classes x (fixed k), of_classes x (fixed k) (fine x u) refl)),
    )
  where
    kinds : (g : ℕ → ℕ → ℕ) (x : Ref) → is_copy (published g x) ≡ is_copy x
    kinds g (fixed k) = refl
    kinds g (own k) = refl
    kinds g (copy i k) = refl

    rule_stays : (g : ℕ → ℕ → ℕ) (t : Term) → published g (in_rule t) ≡ in_rule t
    rule_stays g (con k) = refl
    rule_stays g (var k) = refl

    of_parts : (ps : List Piece) (x : Ref) → (p : Unified) × In p (map bare ps) × In x (part_terms p) → OfParts ps x
    of_parts ps x h = let r = of_map bare ps h.1 in (r.0, r.1, in_either (terms r.0.taken) (subst (λ v. In x (part_terms v)) r.2 h.2))
