-- The new query is one, and its variables are numbered by first appearance.
use Rattle.std.proofs.Common.{◌≡◌, ℕ, suc, ◌<◌, ◌≤◌, Bool, true, false, T, eqb, ◌↔◌, List, [], ◌∷◌, ◌++◌, map, length, sym, refl, ap, ◌∙◌, subst, inl, inr, ⊎_elim, arith, eqb→eq}
use lib.Dec.{eqb_refl}
use Rattle.notation.specs.Logic.{Term, con, var, Atom, at, In, here, there, rename, terms}
use Rattle.search.specs.Keeping.{Occurs}
use Rattle.rewriting.specs.Classes.{same_ref, classes, name_in}
use Rattle.rewriting.specs.Computing.{any, same_atom, same_term}
use Rattle.rewriting.specs.Judging.{new_query, order_from, place_of, numbered}
use Rattle.rewriting.specs.Steps.{Query, Ref, fixed, own, copy, vars, Ties, Linked, once, InOrder, NewQuery, NewQueryIsOne}
use Rattle.rewriting.proofs.Lists.{by_test, decide, none_in, in_left, in_right, in_cases, in_either, in_map, any_in, any_of, ref_eq, ref_refl, term_eq, term_refl, atom_eq, rename_same, rename_twice, map_same, map_twice, args, occurs_in, in_vars, of_vars}
use Rattle.rewriting.proofs.Classing.{names_are_classes}
use Rattle.rewriting.proofs.Apart.{terms_rename}
use Rattle.rewriting.proofs.Results.{one_name, fixed_of}

-- ---------------------------------------------------------------- places are in order

place_old : (y : Ref) (pre r : List Ref) → In y pre → place_of y (pre ++ r) < length pre
place_old y [] r m = absurd (none_in m)
place_old y (x ∷ pre) r m =
    by_test (λ v. v < suc (length pre)) (same_ref y x) 0 (suc (place_of y (pre ++ r)))
    (λ t. omega arith)
    (λ t. let h : place_of y (pre ++ r) < length pre = place_old y pre r (⊎_elim (λ e. absurd (t (subst (λ v. T (same_ref y v)) e (ref_refl y)))) (λ i. i) (in_cases m)) in omega arith)

place_new : (y : Ref) (pre r : List Ref) → (In y pre → ⊥) → place_of y (pre ++ y ∷ r) ≡ length pre
place_new y [] r n = by_test (λ v. v ≡ 0) (same_ref y y) 0 (suc (place_of y r)) (λ t. refl) (λ t. absurd (t (ref_refl y)))
place_new y (x ∷ pre) r n =
    by_test (λ v. v ≡ suc (length pre)) (same_ref y x) 0 (suc (place_of y (pre ++ y ∷ r)))
    (λ t. absurd (n (here (ref_eq y x t))))
    (λ t. ap suc (place_new y pre r (λ m. n (there m))))

pub snoc_length : {X : Type 0} (x : X) (xs : List X) → length (xs ++ x ∷ []) ≡ suc (length xs)
snoc_length x [] = refl
snoc_length x (y ∷ xs) = ap suc (snoc_length x xs)

snoc_append : {X : Type 0} (x : X) (xs ys : List X) → xs ++ x ∷ ys ≡ (xs ++ x ∷ []) ++ ys
snoc_append x [] ys = refl
snoc_append x (y ∷ xs) ys = ap (λ r. y ∷ r) (snoc_append x xs ys)

one_more : (os pre seen ys : List Ref) (y : Ref) (rest : List ℕ) (b : Bool) → (T b → In y pre) → ((T b → ⊥) → In y pre → ⊥) →
    os ≡ pre ++ elim b [ true ↦ order_from seen ys | false ↦ y ∷ order_from (y ∷ seen) ys ] →
    (os ≡ pre ++ order_from seen ys → InOrder (length pre) rest) →
    (os ≡ (pre ++ y ∷ []) ++ order_from (y ∷ seen) ys → InOrder (length (pre ++ y ∷ [])) rest) → InOrder (length pre) (place_of y os ∷ rest)
one_more os pre seen ys y rest true w n e f g = inl (subst (λ o. place_of y o < length pre) (sym e) (place_old y pre (order_from seen ys) (w tt)), f e)
one_more os pre seen ys y rest false w n e f g =
    inr (ap (place_of y) e ∙ place_new y pre (order_from (y ∷ seen) ys) (n (λ t. t)), subst (λ k. InOrder k rest) (snoc_length y pre) (g (e ∙ snoc_append y pre (order_from (y ∷ seen) ys))))

has_in : (x : Ref) (xs : List Ref) → T (any (same_ref x) xs) → In x xs
has_in x xs t = let r = any_in (same_ref x) xs t in subst (λ v. In v xs) (sym (ref_eq x r.0 r.2)) r.1

more_in : (y : Ref) (pre seen : List Ref) → ((x : Ref) → In x seen → In x pre) → (x : Ref) → In x (y ∷ seen) → In x (pre ++ y ∷ [])
more_in y pre seen h x m = ⊎_elim (λ e. in_right pre (here e)) (λ i. in_left (y ∷ []) (h x i)) (in_cases m)

more_of : (y : Ref) (pre seen : List Ref) → ((x : Ref) → In x pre → In x seen) → (x : Ref) → In x (pre ++ y ∷ []) → In x (y ∷ seen)
more_of y pre seen h x m = ⊎_elim (λ i. there (h x i)) (λ i. ⊎_elim (λ e. here e) (λ j. absurd (none_in j)) (in_cases i)) (in_either pre m)

ordered : (os pre seen ys : List Ref) → ((x : Ref) → In x seen → In x pre) → ((x : Ref) → In x pre → In x seen) → os ≡ pre ++ order_from seen ys → InOrder (length pre) (vars (map (numbered os) ys))
ordered os pre seen [] h k e = tt
ordered os pre seen (fixed n ∷ ys) h k e = ordered os pre seen ys h k e
ordered os pre seen (own n ∷ ys) h k e = one_more os pre seen ys (own n) (vars (map (numbered os) ys)) (any (same_ref (own n)) seen)
    (λ t. h (own n) (has_in (own n) seen t)) (λ t m. t (any_of (same_ref (own n)) (k (own n) m) (ref_refl (own n)))) e
    (ordered os pre seen ys h k) (ordered os (pre ++ own n ∷ []) (own n ∷ seen) ys (more_in (own n) pre seen h) (more_of (own n) pre seen k))
ordered os pre seen (copy i n ∷ ys) h k e = one_more os pre seen ys (copy i n) (vars (map (numbered os) ys)) (any (same_ref (copy i n)) seen)
    (λ t. h (copy i n) (has_in (copy i n) seen t)) (λ t m. t (any_of (same_ref (copy i n)) (k (copy i n) m) (ref_refl (copy i n)))) e
    (ordered os pre seen ys h k) (ordered os (pre ++ copy i n ∷ []) (copy i n ∷ seen) ys (more_in (copy i n) pre seen h) (more_of (copy i n) pre seen k))

-- the table's query is a new query
pub new_query_is : (ts : Ties) (ls : List (Atom Ref)) → ((k : ℕ) → name_in (classes ts) (fixed k) ≡ fixed k) → NewQuery (Linked ts) ls (new_query (name_in (classes ts)) ls)
new_query_is ts ls con_same =
    let f : Ref → Ref = name_in (classes ts) in
    let fs = terms (map (rename f) ls) in
    let os = order_from [] fs in
    let cl = names_are_classes ts in
    let in_fs : (x : Ref) → Occurs x ls → In (f x) fs = λ x o. subst (λ v. In (f x) v) (sym (terms_rename f ls)) (in_map f o) in
    record {
      term = λ x. numbered os (f x);
      of_class = λ x y o u. (λ e. (cl x y).0.0 (one_name fs (f x) (f y) (in_fs x o) (in_fs y u) e), λ l. ap (numbered os) ((cl x y).0.1 l));
      constant = λ x k o. (λ e. (cl x (fixed k)).0.0 (fixed_of os (f x) k e ∙ sym (con_same k)), λ l. ap (numbered os) ((cl x (fixed k)).0.1 l ∙ con_same k));
      in_order = subst (λ v. InOrder 0 (vars v)) (ap (map (numbered os)) (terms_rename f ls) ∙ map_twice (numbered os) f (terms ls))
          (ordered os [] [] fs (λ x m. m) (λ x m. m) refl);
      atoms = ap (once (same_atom same_term) []) (twice (numbered os) f ls);
    }
  where
    twice : (g : Ref → Term) (f : Ref → Ref) (ls : List (Atom Ref)) → map (rename g) (map (rename f) ls) ≡ map (rename (λ x. g (f x))) ls
    twice g f ls = map_twice (rename g) (rename f) ls ∙ map_same (λ a. rename g (rename f a)) (rename (λ x. g (f x))) ls (λ a m. rename_twice g f a)

-- ---------------------------------------------------------------- there is one numbering by first appearance

abbrev number : Term → ℕ
number (con k) = k
number (var k) = k

abbrev IsCon : Term → Type 0
IsCon (con k) = Unit {0}
IsCon (var k) = ⊥

module _ (O : Ref → Type 0) (t u : Ref → Term) (same : (x y : Ref) → O x → O y → (t x ≡ t y) ↔ (u x ≡ u y)) (cons : (x : Ref) (k : ℕ) → O x → (t x ≡ con k) ↔ (u x ≡ con k)) where
  -- of the terms seen, whose numbers are those below next
  record Seen (next : ℕ) (seen : List Ref) : Type 0 where
    agree : (x : Ref) → In x seen → O x × (t x ≡ u x)
    below : (x : Ref) (k : ℕ) → In x seen → t x ≡ var k → k < next
    each_below : (k : ℕ) → k < next → (x : Ref) × In x seen × (t x ≡ var k)

  -- one term more, with a number that has appeared or a constant
  see : (next : ℕ) (seen : List Ref) (x : Ref) → Seen next seen → O x → t x ≡ u x → ((k : ℕ) → t x ≡ var k → k < next) → Seen next (x ∷ seen)
  see next seen x s o e h = record {
    agree = λ y m. ⊎_elim (λ i. subst (λ v. O v × (t v ≡ u v)) (sym i) (o, e)) (λ i. s.agree y i) (in_cases m);
    below = λ y k m q. ⊎_elim (λ i. h k (subst (λ v. t v ≡ var k) i q)) (λ i. s.below y k i q) (in_cases m);
    each_below = λ k l. let r = s.each_below k l in (r.0, there r.1, r.2);
  }

  -- or with the next number
  see_next : (next : ℕ) (seen : List Ref) (x : Ref) → Seen next seen → O x → t x ≡ u x → t x ≡ var next → Seen (suc next) (x ∷ seen)
  see_next next seen x s o e h = record {
    agree = λ y m. ⊎_elim (λ i. subst (λ v. O v × (t v ≡ u v)) (sym i) (o, e)) (λ i. s.agree y i) (in_cases m);
    below = λ y k m q. ⊎_elim (λ i. let j : k ≡ next = ap number (sym q ∙ ap t i ∙ h) in omega arith) (λ i. let j = s.below y k i q in omega arith) (in_cases m);
    each_below = λ k l. decide (eqb k next)
        (λ a. (x, here refl, h ∙ ap var (sym (eqb→eq k next a))))
        (λ a. let ne : (k ≡ next → ⊥) = λ i. a (subst (λ v. T (eqb k v)) i (eqb_refl k)) in
        let r = s.each_below k (omega arith) in (r.0, there r.1, r.2));
  }

  abbrev Rest : List Ref → Type 0
  Rest xs = (next : ℕ) (seen : List Ref) → Seen next seen → ((x : Ref) → In x xs → O x) →
      InOrder next (vars (map t xs)) → InOrder next (vars (map u xs)) → (x : Ref) → In x xs → t x ≡ u x

  one_numbering : (xs : List Ref) (next : ℕ) (seen : List Ref) → Seen next seen → ((x : Ref) → In x xs → O x) →
      InOrder next (vars (map t xs)) → InOrder next (vars (map u xs)) → (x : Ref) → In x xs → t x ≡ u x
  one_numbering [] next seen s o p q y m = absurd (none_in m)
  one_numbering (x ∷ xs) next seen s o p q y m = go (t x) (u x) refl refl p q (one_numbering xs)
    where
      end_with : t x ≡ u x → ((z : Ref) → In z xs → t z ≡ u z) → t y ≡ u y
      end_with e r = ⊎_elim (λ i. subst (λ v. t v ≡ u v) (sym i) e) (λ i. r y i) (in_cases m)

      inside : (z : Ref) → In z xs → O z
      inside z i = o z (there i)

      olds : (a b : ℕ) → t x ≡ var a → u x ≡ var b → a < next → t x ≡ u x
      olds a b e f l = let r = s.each_below a l in let g = s.agree r.0 r.1 in
          e ∙ sym r.2 ∙ g.1 ∙ sym ((same x r.0 (o x (here refl)) g.0).0 (e ∙ sym r.2))

      back_old : (a b : ℕ) → t x ≡ var a → u x ≡ var b → b < next → a ≡ b
      back_old a b e f l = let r = s.each_below b l in let g = s.agree r.0 r.1 in
          ap number (sym e ∙ (same x r.0 (o x (here refl)) g.0).1 (f ∙ sym r.2 ∙ g.1) ∙ r.2)

      both : (a b : ℕ) → t x ≡ var a → u x ≡ var b → InOrder next (a ∷ vars (map t xs)) → InOrder next (b ∷ vars (map u xs)) → Rest xs → t y ≡ u y
      both a b e f (inl p) (inl q) rec = let w = olds a b e f p.0 in
          end_with w (rec next (x ∷ seen) (see next seen x s (o x (here refl)) w (λ k i. subst (λ v. v < next) (ap number (sym e ∙ i)) p.0)) inside p.1 q.1)
      both a b e f (inl p) (inr q) rec = let w : a ≡ b = ap number (sym e ∙ olds a b e f p.0 ∙ f) in let l = p.0 in let g = q.0 in absurd (omega arith)
      both a b e f (inr p) (inl q) rec = let w : a ≡ b = back_old a b e f q.0 in let l = q.0 in let g = p.0 in absurd (omega arith)
      both a b e f (inr p) (inr q) rec = let w : t x ≡ u x = e ∙ ap var (p.0 ∙ sym q.0) ∙ sym f in
          end_with w (rec (suc next) (x ∷ seen) (see_next next seen x s (o x (here refl)) w (e ∙ ap var p.0)) inside p.1 q.1)

      go : (v w : Term) → t x ≡ v → u x ≡ w → InOrder next (vars (v ∷ map t xs)) → InOrder next (vars (w ∷ map u xs)) → Rest xs → t y ≡ u y
      go (con k) (con j) e f p q rec = let w : t x ≡ u x = e ∙ sym ((cons x k (o x (here refl))).0 e) in
          end_with w (rec next (x ∷ seen) (see next seen x s (o x (here refl)) w (λ n i. absurd (subst IsCon (sym e ∙ i) tt))) inside p q)
      go (con k) (var j) e f p q rec = absurd (subst IsCon (sym ((cons x k (o x (here refl))).0 e) ∙ f) tt)
      go (var k) (con j) e f p q rec = absurd (subst IsCon (sym ((cons x j (o x (here refl))).1 f) ∙ e) tt)
      go (var k) (var j) e f p q rec = both k j e f p q rec

pub new_query_is_one : NewQueryIsOne
new_query_is_one ts ls n m a b =
    a.atoms ∙ ap (once (same_atom same_term) []) (map_same (rename a.term) (rename b.term) ls (λ c i. rename_same a.term b.term c (λ x j. agree x (occurs_in c i j)))) ∙ sym b.atoms
  where
    none_below : (k : ℕ) → k < 0 → ⊥
    none_below k l = omega arith

    agree : (x : Ref) → Occurs x ls → a.term x ≡ b.term x
    agree x o = one_numbering (λ y. Occurs y ls) a.term b.term
        (λ y z p q. (λ e. (b.of_class y z p q).1 ((a.of_class y z p q).0 e), λ e. (a.of_class y z p q).1 ((b.of_class y z p q).0 e)))
        (λ y k p. (λ e. (b.constant y k p).1 ((a.constant y k p).0 e), λ e. (a.constant y k p).1 ((b.constant y k p).0 e)))
        (terms ls) 0 [] (record { agree = λ y i. absurd (none_in i); below = λ y k i. absurd (none_in i); each_below = λ k l. absurd (none_below k l) }) (λ y i. i) a.in_order b.in_order x o

-- ---------------------------------------------------------------- dropping what has occurred keeps the order

advance : (next : ℕ) (ks rest : List ℕ) → InOrder next (ks ++ rest) →
    (m : ℕ) × (next ≤ m) × ((k : ℕ) → In k ks → k < m) × InOrder m rest × ((r : List ℕ) → InOrder m r → InOrder next (ks ++ r))
advance next [] rest h = (next, omega arith, λ k i. absurd (none_in i), h, λ r i. i)
advance next (k ∷ ks) rest (inl h) = let r = advance next ks rest h.1 in
    let a = h.0 in let c = r.1 in
    (r.0, r.1, λ j i. ⊎_elim (λ e. let d : j ≡ k = e in omega arith) (λ n. r.2 j n) (in_cases i), r.3, λ z i. inl (h.0, r.4 z i))
advance next (k ∷ ks) rest (inr h) = let r = advance (suc next) ks rest h.1 in
    let a = h.0 in let c = r.1 in
    (r.0, omega arith, λ j i. ⊎_elim (λ e. let d : j ≡ k = e in omega arith) (λ n. r.2 j n) (in_cases i), r.3, λ z i. inr (h.0, r.4 z i))

passed : (next : ℕ) (ks rest : List ℕ) → ((k : ℕ) → In k ks → k < next) → InOrder next (ks ++ rest) → InOrder next rest
passed next [] rest b h = h
passed next (k ∷ ks) rest b (inl h) = passed next ks rest (λ j i. b j (there i)) h.1
passed next (k ∷ ks) rest b (inr h) = let l = b k (here refl) in let e = h.0 in absurd (omega arith)

pub vars_append : (xs ys : List Term) → vars (xs ++ ys) ≡ vars xs ++ vars ys
vars_append [] ys = refl
vars_append (con k ∷ xs) ys = vars_append xs ys
vars_append (var k ∷ xs) ys = ap (λ r. k ∷ r) (vars_append xs ys)

once_order : (cs : List (Atom Term)) (seen : List (Atom Term)) (next : ℕ) → ((a : Atom Term) → In a seen → (k : ℕ) → In (var k) (args a) → k < next) →
    InOrder next (vars (terms cs)) → InOrder next (vars (terms (once (same_atom same_term) seen cs)))
once_order [] seen next b h = h
once_order (at p ts ∷ cs) seen next b h = go (any (same_atom same_term (at p ts)) seen)
    (λ t. let r = any_in (same_atom same_term (at p ts)) seen t in subst (λ v. In v seen) (sym (atom_eq same_term term_eq term_refl (at p ts) r.0 r.2)) r.1) (once_order cs)
  where
    cut : InOrder next (vars ts ++ vars (terms cs))
    cut = subst (InOrder next) (vars_append ts (terms cs)) h

    go : (c : Bool) → (T c → In (at p ts) seen) →
        ((seen : List (Atom Term)) (next : ℕ) → ((a : Atom Term) → In a seen → (k : ℕ) → In (var k) (args a) → k < next) → InOrder next (vars (terms cs)) → InOrder next (vars (terms (once (same_atom same_term) seen cs)))) →
        InOrder next (vars (terms (elim c [ true ↦ once (same_atom same_term) seen cs | false ↦ at p ts ∷ once (same_atom same_term) (at p ts ∷ seen) cs ])))
    go true w rec = rec seen next b (passed next (vars ts) (vars (terms cs)) (λ k i. b (at p ts) (w tt) k (of_vars ts i)) cut)
    go false w rec = let r = advance next (vars ts) (vars (terms cs)) cut in let l = r.1 in
        subst (InOrder next) (sym (vars_append ts (terms (once (same_atom same_term) (at p ts ∷ seen) cs))))
        (r.4 (vars (terms (once (same_atom same_term) (at p ts ∷ seen) cs))) (rec (at p ts ∷ seen) r.0
        (λ a i k j. ⊎_elim (λ e. r.2 k (in_vars ts (subst (λ v. In (var k) (args v)) e j))) (λ n. let g = b a n k j in omega arith) (in_cases i)) r.3))

pub new_in_order : (J : Ref → Ref → Type 0) (ls : List (Atom Ref)) (n : Query) → NewQuery J ls n → InOrder 0 (vars (terms n))
new_in_order J ls n a = subst (λ v. InOrder 0 (vars (terms v))) (sym a.atoms)
    (once_order (map (rename a.term) ls) [] 0 (λ c i. absurd (none_in i)) (subst (λ v. InOrder 0 (vars v)) (sym (terms_rename a.term ls)) a.in_order))
