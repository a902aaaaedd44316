-- What a step reads is apart: its own copy for each part, unnamed variables in one head.
use Rattle.std.proofs.Common.{◌≡◌, ℕ, suc, ◌+◌, ◌<◌, ◌≤◌, true, not, ◌&&◌, ◌||◌, T, ltb, leb, List, [], ◌∷◌, ◌++◌, map, length, sym, refl, ap, ◌∙◌, subst, ⊎_elim, arith, ltb→lt}
use Rattle.notation.specs.Logic.{Term, con, var, Atom, at, In, here, there, rename, terms}
use Rattle.search.specs.Keeping.{Occurs, Rule}
use Rattle.rewriting.specs.Classes.{same_ref}
use Rattle.rewriting.specs.Computing.{any, all}
use Rattle.rewriting.specs.Judging.{numbers_fit, rising, has_ref, Ledger, ties_fit, tie_fits}
use Rattle.rewriting.specs.Rightness.{Reads, done, more}
use Rattle.rewriting.specs.Steps.{Query, Ref, fixed, own, copy, is_copy, in_rule, in_copy, Part, Unified, Piece, piece, bare, all_ties, nth, member, vars, at_numbers, drop_all, unnamed_of}
use Rattle.rewriting.specs.Unifiers.{part_terms, Apart, TiedWithin, OneHead, ReadIsApart}
use Rattle.rewriting.proofs.Nth.{one_of}
use Rattle.rewriting.proofs.Fitting.{tests_of}
use Rattle.rewriting.proofs.Lists.{by_test, both_in, or_in, none_in, in_left, in_right, in_cases, in_either, in_map, of_map, args, occurs_in, any_in, all_at, in_member, at_in, dropped_off, in_vars, of_vars, ref_eq}

map-append : {X Y : Type 0} (g : X → Y) (xs ys : List X) → map g (xs ++ ys) ≡ map g xs ++ map g ys
map-append g [] ys = refl
map-append g (x ∷ xs) ys = ap (λ r. g x ∷ r) (map-append g xs ys)

pub terms_rename : {X Y : Type 0} (g : X → Y) (q : List (Atom X)) → terms (map (rename g) q) ≡ map g (terms q)
terms_rename g [] = refl
terms_rename g (at p ts ∷ q) = ap (λ r. map g ts ++ r) (terms_rename g q) ∙ sym (map-append g ts (terms q))

pub of_terms : {X Y : Type 0} (g : X → Y) {y : Y} (q : List (Atom X)) → Occurs y (map (rename g) q) → (x : X) × Occurs x q × (y ≡ g x)
of_terms g {y} q m = of_map g (terms q) (subst (λ v. In y v) (terms_rename g q) m)

pub occurs_at : {X : Type 0} {x : X} (q : List (Atom X)) → Occurs x q → (a : Atom X) × In a q × In x (args a)
occurs_at [] m = absurd (none_in m)
occurs_at (at p ts ∷ q) m = ⊎_elim (λ i. (at p ts, here refl, i)) (λ i. let r = occurs_at q i in (r.0, there r.1, r.2)) (in_either ts m)

pub at_occurs : {X : Type 0} {x : X} (ns : List ℕ) (q : List (Atom X)) → Occurs x (at_numbers ns 0 q) → Occurs x q
at_occurs ns q m = let r = occurs_at (at_numbers ns 0 q) m in occurs_in r.0 (at_in ns 0 q r.1) r.2

pub dropped_in : (ns ms : List ℕ) (n : ℕ) → In n (drop_all ns ms) → In n ms
dropped_in ns [] n m = m
dropped_in ns (k ∷ ms) n m =
    by_test (λ v. In n v → In n (k ∷ ms)) (member k ns) (drop_all ns ms) (k ∷ drop_all ns ms)
    (λ t j. there (dropped_in ns ms n j))
    (λ t j. ⊎_elim (λ e. here e) (λ i. there (dropped_in ns ms n i)) (in_cases j)) m

-- a number in range takes something
some_at : {X : Type 0} (ns : List ℕ) (n : ℕ) → In n ns → (i : ℕ) (xs : List X) → i ≤ n → n < i + length xs → at_numbers ns i xs ≡ [] → ⊥
some_at ns n m i [] a b = λ e. omega arith
some_at {X} ns n m i (x ∷ xs) a b =
    by_test (λ v. v ≡ [] → ⊥) (member i ns) (x ∷ at_numbers ns (suc i) xs) (at_numbers ns (suc i) xs)
    (λ t e. none_in (subst (λ (v : List X). In x v) e (here refl)))
    (λ t e. some_at ns n m (suc i) xs (past t) (omega arith) e)
  where
    differ : (T (member i ns) → ⊥) → i ≡ n → ⊥
    differ t e = t (in_member (subst (λ v. In v ns) (sym e) m))

    past : (T (member i ns) → ⊥) → suc i ≤ n
    past t = let h : (i ≡ n → ⊥) = differ t in omega arith

some_taken_at : {X : Type 0} (ns : List ℕ) (xs : List X) → T (numbers_fit (length xs) ns) → at_numbers ns 0 xs ≡ [] → ⊥
some_taken_at [] xs t = absurd t
some_taken_at (n ∷ ns) xs t =
    let r = both_in (ltb n (length xs)) (rising (suc n) (length xs) ns) (both_in (leb 0 n) (ltb n (length xs) && rising (suc n) (length xs) ns) t).1 in
    let lt : n < length xs = ltb→lt n (length xs) r.0 in
    some_at (n ∷ ns) n (here refl) 0 xs (omega arith) (omega arith)

map_none : {X Y : Type 0} (g : X → Y) (xs : List X) → map g xs ≡ [] → xs ≡ []
map_none g [] e = refl
map_none {X} {Y} g (x ∷ xs) e = absurd (none_in (subst (λ (v : List Y). In (g x) v) e (here refl)))

-- where a piece was read
record ReadAt (b : List (Atom Term)) (i : ℕ) (ds : List (List (Atom Term))) (ms : List Piece) (p : Piece) : Type 0 where
  place : ℕ
  head : List (Atom Term)
  query : Query
  part : Part
  is_head : nth place ds ≡ head ∷ []
  is_piece : nth place ms ≡ p ∷ []
  is : p ≡ piece (i + place) b head query part
  numbers : T (numbers_fit (length query) part.taken && numbers_fit (length head) part.named)
  ties : T (ties_fit part (piece (i + place) b head query part))

read_at : {s : Ledger} {b : List (Atom Term)} {i : ℕ} {ds : List (List (Atom Term))} {ps : List Part} {ms : List Piece} → Reads s b i ds ps ms → (p : Piece) → In p ms → ReadAt b i ds ms p
read_at done p m = absurd (none_in m)
read_at {b = b} (more {i = i} {d = d} {ds = ds} {p = a} {ps = ps} {ms = ms} x st pf rs) p m = let v = tests_of x d a (piece i b d x a) pf in let n = v.0 in let t = v.1 in ⊎_elim
    (λ e. record {
      place = 0;
      head = d;
      query = x;
      part = a;
      is_head = refl;
      is_piece = ap (λ v. v ∷ []) (sym e);
      is = e ∙ ap (λ k. piece k b d x a) (zero_right i);
      numbers = n;
      ties = subst (λ k. T (ties_fit a (piece k b d x a))) (zero_right i) t;
    })
    (λ j. let r = read_at rs p j in record {
      place = suc r.place;
      head = r.head;
      query = r.query;
      part = r.part;
      is_head = r.is_head;
      is_piece = r.is_piece;
      is = r.is ∙ ap (λ k. piece k b r.head r.query r.part) (over i r.place);
      numbers = r.numbers;
      ties = subst (λ k. T (ties_fit r.part (piece k b r.head r.query r.part))) (over i r.place) r.ties;
    })
    (in_cases m)
  where
    zero_right : (k : ℕ) → k ≡ k + 0
    zero_right k = omega arith

    over : (k j : ℕ) → suc k + j ≡ k + suc j
    over k j = omega arith

-- the copy's number, and what a rule term is
abbrev copy_of : Ref → ℕ
copy_of (fixed k) = 0
copy_of (own k) = 0
copy_of (copy i k) = i

copy_number : (i : ℕ) (t : Term) (x : Ref) → is_copy x ≡ true → x ≡ in_copy i t → copy_of x ≡ i
copy_number i (con k) x c e = absurd (subst (λ v. T (not v)) (sym (ap is_copy e) ∙ c) tt)
copy_number i (var n) x c e = ap copy_of e

not_rule : (t : Term) (x : Ref) → is_copy x ≡ true → x ≡ in_rule t → ⊥
not_rule (con k) x c e = subst (λ v. T (not v)) (sym (ap is_copy e) ∙ c) tt
not_rule (var k) x c e = subst (λ v. T (not v)) (sym (ap is_copy e) ∙ c) tt

abbrev is_own : Ref → Type 0
is_own (fixed k) = ⊥
is_own (own k) = Unit {0}
is_own (copy i k) = ⊥

not_copy : (i : ℕ) (t : Term) (z : ℕ) → own z ≡ in_copy i t → ⊥
not_copy i (con k) z e = subst is_own e tt
not_copy i (var k) z e = subst is_own e tt

abbrev own_term : Ref → Term
own_term (fixed k) = con k
own_term (own k) = var k
own_term (copy i k) = con k

rule_term : (t : Term) (z : ℕ) → own z ≡ in_rule t → var z ≡ t
rule_term (con k) z e = absurd (subst is_own e tt)
rule_term (var k) z e = ap own_term e

copy_in_part : (i : ℕ) (b d : List (Atom Term)) (x : Query) (a : Part) (y : Ref) → is_copy y ≡ true → In y (part_terms (bare (piece i b d x a))) → copy_of y ≡ i
copy_in_part i b d x a y c m = ⊎_elim
    (λ j. let r = of_terms (in_copy i) (at_numbers a.taken 0 x) j in copy_number i r.0 y c r.2)
    (λ j. let r = of_terms in_rule (at_numbers a.named 0 d) j in absurd (not_rule r.0 y c r.2))
    (in_either (terms (piece i b d x a).taken) m)

own_in_part : (i : ℕ) (b d : List (Atom Term)) (x : Query) (a : Part) (z : ℕ) → In (own z) (part_terms (bare (piece i b d x a))) → Occurs (var z) d
own_in_part i b d x a z m = ⊎_elim
    (λ j. let r = of_terms (in_copy i) (at_numbers a.taken 0 x) j in absurd (not_copy i r.0 z r.2))
    (λ j. let r = of_terms in_rule (at_numbers a.named 0 d) j in
    subst (λ v. Occurs v d) (sym (rule_term r.0 z r.2)) (at_occurs a.named d r.1))
    (in_either (terms (piece i b d x a).taken) m)

-- a tie is a tie of some part
pub tie_of : {t : Ref × Ref} (ms : List Piece) → In t (all_ties ms) → (p : Piece) × In p ms × In t p.ties
tie_of [] m = absurd (none_in m)
tie_of (p ∷ ms) m = ⊎_elim (λ i. (p, here refl, i)) (λ i. let r = tie_of ms i in (r.0, there r.1, r.2)) (in_either p.ties m)

module _ (s : Ledger) (u : Rule) (ps : List Part) (ms : List Piece) (one : OneHead u) (rs : Reads s u.body 0 u.heads ps ms) where
  some_taken_of : (p : Piece) → In p ms → p.taken ≡ [] → ⊥
  some_taken_of p m e = let r = read_at rs p m in
      some_taken_at r.part.taken r.query (both_in (numbers_fit (length r.query) r.part.taken) (numbers_fit (length r.head) r.part.named) r.numbers).0
      (map_none (rename (in_copy (0 + r.place))) (at_numbers r.part.taken 0 r.query) (sym (ap (λ (v : Piece). v.taken) r.is) ∙ e))

  tied_within_of : (p : Piece) → In p ms → (t : Ref × Ref) → In t p.ties → In t.0 (part_terms (bare p)) × In t.1 (part_terms (bare p))
  tied_within_of p m t i = let r = read_at rs p m in
      let q = piece (0 + r.place) u.body r.head r.query r.part in
      let k = all_at (tie_fits q) (both_in (leb (length r.part.ties) 96) (all (tie_fits q) q.ties) r.ties).1 (subst (λ (v : Piece). In t v.ties) r.is i) in
      let h = both_in (has_ref t.0 q.taken || has_ref t.0 q.named) (has_ref t.1 q.taken || has_ref t.1 q.named) k in
      subst (λ (v : Piece). In t.0 (part_terms (bare v)) × In t.1 (part_terms (bare v))) (sym r.is) (inside q t.0 h.0, inside q t.1 h.1)
    where
      got : (x : Ref) (xs : List Ref) → T (any (same_ref x) xs) → In x xs
      got x xs t = let r = any_in (same_ref x) xs t in subst (λ v. In v xs) (sym (ref_eq x r.0 r.2)) r.1

      inside : (q : Piece) (x : Ref) → T (has_ref x q.taken || has_ref x q.named) → In x (part_terms (bare q))
      inside q x t = ⊎_elim (λ i. in_left (terms q.named) (got x (terms q.taken) i)) (λ i. in_right (terms q.taken) (got x (terms q.named) i)) (or_in (has_ref x q.taken) (has_ref x q.named) t)

  own_copy_of : (p o : Piece) → In p ms → In o ms → (x : Ref) → is_copy x ≡ true → In x (part_terms (bare p)) → In x (part_terms (bare o)) → p ≡ o
  own_copy_of p o m n x c i j = let r = read_at rs p m in let w = read_at rs o n in
      let e1 : copy_of x ≡ 0 + r.place = copy_in_part (0 + r.place) u.body r.head r.query r.part x c (subst (λ v. In x (part_terms (bare v))) r.is i) in
      let e2 : copy_of x ≡ 0 + w.place = copy_in_part (0 + w.place) u.body w.head w.query w.part x c (subst (λ v. In x (part_terms (bare v))) w.is j) in
      let e : r.place ≡ w.place = omega arith in
      one_of (sym r.is_piece ∙ ap (λ k. nth k ms) e ∙ w.is_piece)

  one_head_of : (p o : Piece) → In p ms → In o ms → (z : ℕ) → In z p.unnamed → In (own z) (part_terms (bare o)) → p ≡ o
  one_head_of p o m n z i j = let r = read_at rs p m in let w = read_at rs o n in let b = u.body in
      let i2 : In z (unnamed_of b r.head) = subst (λ (v : Piece). In z v.unnamed) r.is i in
      let e : r.place ≡ w.place = one r.place w.place r.head w.head r.is_head w.is_head z
      (of_vars (terms r.head) (dropped_in (vars (terms b)) (vars (terms r.head)) z i2))
      (λ h. dropped_off (vars (terms b)) (vars (terms r.head)) z i2 (in_member (in_vars (terms b) h)))
      (own_in_part (0 + w.place) b w.head w.query w.part z (subst (λ v. In (own z) (part_terms (bare v))) w.is j)) in
      one_of (sym r.is_piece ∙ ap (λ k. nth k ms) e ∙ w.is_piece)

  bare_apart : Apart (map bare ms)
  bare_apart = record {
    some_taken = λ v m e. let a = of_map bare ms m in some_taken_of a.0 a.1 (sym (ap (λ (w : Unified). w.taken) a.2) ∙ e);
    own_copy = λ v w m n x c i j. let a = of_map bare ms m in let o = of_map bare ms n in
        a.2 ∙ ap bare (own_copy_of a.0 o.0 a.1 o.1 x c (subst (λ y. In x (part_terms y)) a.2 i) (subst (λ y. In x (part_terms y)) o.2 j)) ∙ sym o.2;
    one_head = λ v w m n z i j. let a = of_map bare ms m in let o = of_map bare ms n in
        a.2 ∙ ap bare (one_head_of a.0 o.0 a.1 o.1 z (subst (λ (y : Unified). In z y.unnamed) a.2 i) (subst (λ y. In (own z) (part_terms y)) o.2 j)) ∙ sym o.2;
  }

  bare_tied : TiedWithin (map bare ms) (all_ties ms)
  bare_tied t m = let r = tie_of ms m in let w = tied_within_of r.0 r.1 t r.2 in (bare r.0, in_map bare r.1, w.0, w.1)

pub read_is_apart : ReadIsApart
read_is_apart s u ps ms one rs = (bare_apart s u ps ms one rs, bare_tied s u ps ms one rs)
