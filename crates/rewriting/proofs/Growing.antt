-- The new query of more atoms begins with that of fewer.
use Rattle.std.proofs.Common.{◌≡◌, ℕ, ◌<◌, ◌≤◌, Bool, true, false, T, ltb, leb, List, [], ◌∷◌, ◌++◌, map, length, sym, refl, ap, ◌∙◌, subst, ⊎_elim, append_assoc, arith}
use Rattle.std.proofs.lemmas.List.{map-append, length-append}
use Rattle.std.proofs.lemmas.Bool.{and_parts, and_from, and_left, leb-true, le-leb, lt-leb, cases_Bool, false≢true, ltb-true, lt-ltb}
use Rattle.notation.specs.Logic.{Term, var, Atom, at, In, here, there, rename, terms}
use Rattle.search.specs.Keeping.{Occurs}
use Rattle.rewriting.specs.Classes.{same_ref}
use Rattle.rewriting.specs.Computing.{any, all, same_atom, same_term}
use Rattle.rewriting.specs.Judging.{order_from, place_of, numbered, new_query, small}
use Rattle.rewriting.specs.Steps.{Query, Ref, fixed, own, copy, vars}
use Rattle.rewriting.proofs.Lists.{none_in, of_map, args, any_of, all_at, ref_refl, map_same, rename_same, occurs_in, in_vars, of_vars}
use Rattle.rewriting.proofs.Numbering.{vars_append}
use Rattle.rewriting.proofs.Apart.{occurs_at}
use Rattle.rewriting.proofs.Nth.{once_of}
use Rattle.rewriting.proofs.Results.{in_order}
use Rattle.rewriting.proofs.Search.{T_true}
use Rattle.rewriting.proofs.Drafting.{added_all, once_added, added_append, added_all_front, note_all, order_is, note_append, note_all_front, place_in, place_front}

pub terms_append : {X : Type 0} (xs ys : List (Atom X)) → terms (xs ++ ys) ≡ terms xs ++ terms ys
terms_append [] ys = refl
terms_append (at p ts ∷ xs) ys = ap (λ r. ts ++ r) (terms_append xs ys) ∙ sym (append_assoc ts (terms xs) (terms ys))

pub of_args : {X Y : Type 0} (g : X → Y) {y : Y} (a : Atom X) → In y (args (rename g a)) → (x : X) × In x (args a) × (y ≡ g x)
of_args g (at p ts) m = of_map g ts m

-- ---------------------------------------------------------------- small queries

abbrev pub low : ℕ → Bool
low k = ltb k 32

all_left : {X : Type 0} (p : X → Bool) (xs ys : List X) → all p (xs ++ ys) ≡ true → all p xs ≡ true
all_left p [] ys h = refl
all_left p (x ∷ xs) ys h = let q = and_parts (p x) (all p (xs ++ ys)) h in and_from (p x) (all p xs) q.0 (all_left p xs ys q.1)

small_front : (n r : Query) → small (n ++ r) ≡ true → small n ≡ true
small_front n r h =
    let p = and_parts (leb (length (n ++ r)) 16) (all low (vars (terms (n ++ r)))) h in
    let l = leb-true (length (n ++ r)) 16 p.0 in
    let e = length-append n r in
    and_from (leb (length n) 16) (all low (vars (terms n)))
    (le-leb (length n) 16 (omega arith))
    (all_left low (vars (terms n)) (vars (terms r)) (subst (λ v. all low v ≡ true) (ap vars (terms_append n r) ∙ vars_append (terms n) (terms r)) p.1))

-- a query with more than 16 atoms or a variable from 32 on is too large
pub many_large : (n : Query) → 16 < length n → small n ≡ false
many_large n h = and_left (leb (length n) 16) _ (lt-leb (length n) 16 h)

pub var_large : (n : Query) → Occurs (var 32) n → small n ≡ false
var_large n o = ⊎_elim
    (λ e. absurd (go (and_parts (leb (length n) 16) (all low (vars (terms n))) e).1))
    (λ e. e) (cases_Bool (small n))
  where
    go : all low (vars (terms n)) ≡ true → ⊥
    go e = all_at low (subst T (sym e) tt) (in_vars (terms n) o)

-- ---------------------------------------------------------------- numbers of names

abbrev IsFixed : Ref → Type 0
IsFixed (fixed k) = Unit {0}
IsFixed (own k) = ⊥
IsFixed (copy i k) = ⊥

seen_in : (x : Ref) (zs : List Ref) → (IsFixed x → ⊥) → In x zs → T (any (same_ref x) (order_from [] zs))
seen_in x zs nf m = any_of (same_ref x) (⊎_elim (λ i. i) (λ i. absurd (none_in i)) (in_order x (λ k e. nf (subst IsFixed (sym e) tt)) [] zs m)) (ref_refl x)

number_stays : (x : Ref) (zs r : List Ref) → In x zs → numbered (order_from [] zs ++ r) x ≡ numbered (order_from [] zs) x
number_stays (fixed k) zs r m = refl
number_stays (own k) zs r m = ap var (place_front (own k) (order_from [] zs) r (seen_in (own k) zs (λ n. n) m))
number_stays (copy i k) zs r m = ap var (place_front (copy i k) (order_from [] zs) r (seen_in (copy i k) zs (λ n. n) m))

below_length : (x : Ref) (zs : List Ref) → (IsFixed x → ⊥) → In x zs → place_of x (order_from [] zs) < length (order_from [] zs)
below_length x zs nf m = ltb-true (place_of x (order_from [] zs)) (length (order_from [] zs)) (place_in x (order_from [] zs) ∙ T_true (any (same_ref x) (order_from [] zs)) (seen_in x zs nf m))

-- a variable's number is below the number of names
number_low : (x : Ref) (zs : List Ref) (k : ℕ) → In x zs → var k ≡ numbered (order_from [] zs) x → k < length (order_from [] zs)
number_low (fixed j) zs k m e = let z : ◌≡◌ {A = ℕ} 0 1 = cc in absurd (omega arith)
number_low (own j) zs k m e = let p = below_length (own j) zs (λ n. n) m in let q : k ≡ place_of (own j) (order_from [] zs) = cc in omega arith
number_low (copy i j) zs k m e = let p = below_length (copy i j) zs (λ n. n) m in let q : k ≡ place_of (copy i j) (order_from [] zs) = cc in omega arith

-- ---------------------------------------------------------------- more atoms

module _ (f : Ref → Ref) where
  -- the names of the variables of the new query, in order
  abbrev pub order_of : List (Atom Ref) → List Ref
  order_of ls = order_from [] (terms (map (rename f) ls))

  names_more : (ls more : List (Atom Ref)) → terms (map (rename f) (ls ++ more)) ≡ terms (map (rename f) ls) ++ terms (map (rename f) more)
  names_more ls more = ap terms (map-append (rename f) ls more) ∙ terms_append (map (rename f) ls) (map (rename f) more)

  pub order_more : (ls more : List (Atom Ref)) → order_of (ls ++ more) ≡ note_all (order_of ls) (terms (map (rename f) more))
  order_more ls more =
      order_is (terms (map (rename f) (ls ++ more)))
      ∙ ap (note_all []) (names_more ls more)
      ∙ note_append [] (terms (map (rename f) ls)) (terms (map (rename f) more))
      ∙ ap (λ os. note_all os (terms (map (rename f) more))) (sym (order_is (terms (map (rename f) ls))))

  numbers_stay : (ls more : List (Atom Ref)) → map (rename (numbered (order_of (ls ++ more)))) (map (rename f) ls) ≡ map (rename (numbered (order_of ls))) (map (rename f) ls)
  numbers_stay ls more =
      let bs = map (rename f) ls in
      let q = note_all_front (order_of ls) (terms (map (rename f) more)) in
      map_same (rename (numbered (order_of (ls ++ more)))) (rename (numbered (order_of ls))) bs
      (λ b m. rename_same (numbered (order_of (ls ++ more))) (numbered (order_of ls)) b
      (λ x i. ap (λ os. numbered os x) (order_more ls more ∙ q.1) ∙ number_stays x (terms bs) q.0 (occurs_in b m i)))

  pub query_more : (ls more : List (Atom Ref)) →
      new_query f (ls ++ more) ≡ added_all (same_atom same_term) (new_query f ls) (map (rename (numbered (order_of (ls ++ more)))) (map (rename f) more))
  query_more ls more =
      let g : Atom Ref → Atom Term = rename (numbered (order_of (ls ++ more))) in
      let plus : List (Atom Term) → List (Atom Term) → List (Atom Term) = added_all (same_atom same_term) in
      once_added (same_atom same_term) [] [] (map g (map (rename f) (ls ++ more))) (λ x. refl)
      ∙ ap (λ v. plus [] (map g v)) (map-append (rename f) ls more)
      ∙ ap (plus []) (map-append g (map (rename f) ls) (map (rename f) more))
      ∙ added_append (same_atom same_term) [] (map g (map (rename f) ls)) (map g (map (rename f) more))
      ∙ ap (λ v. plus v (map g (map (rename f) more))) (ap (plus []) (numbers_stay ls more) ∙ sym (once_added (same_atom same_term) [] [] (map (rename (numbered (order_of ls))) (map (rename f) ls)) (λ x. refl)))

  -- what is too large stays so
  pub large_stays : (ls more : List (Atom Ref)) → small (new_query f ls) ≡ false → small (new_query f (ls ++ more)) ≡ false
  large_stays ls more h =
      let q = added_all_front (same_atom same_term) (new_query f ls) (map (rename (numbered (order_of (ls ++ more)))) (map (rename f) more)) in
      ⊎_elim
      (λ e. absurd (false≢true (sym h ∙ small_front (new_query f ls) q.0 (sym (ap small (query_more ls more ∙ q.1)) ∙ e))))
      (λ e. e) (cases_Bool (small (new_query f (ls ++ more))))

  -- few names and few atoms make a small query
  pub few_small : (ls : List (Atom Ref)) → length (order_of ls) ≤ 32 → length (new_query f ls) ≤ 16 → small (new_query f ls) ≡ true
  few_small ls names-few few = and_from (leb (length (new_query f ls)) 16) _ (le-leb (length (new_query f ls)) 16 few) (all_from low (vars (terms (new_query f ls))) (λ k m. is_low k (of_vars (terms (new_query f ls)) m)))
    where
      all_from : (p : ℕ → Bool) (ks : List ℕ) → ((k : ℕ) → In k ks → p k ≡ true) → all p ks ≡ true
      all_from p [] h = refl
      all_from p (k ∷ ks) h = and_from (p k) (all p ks) (h k (here refl)) (all_from p ks (λ j m. h j (there m)))

      is_low : (k : ℕ) → Occurs (var k) (new_query f ls) → low k ≡ true
      is_low k o =
          let g = occurs_at (new_query f ls) o in
          let b = of_map (rename (numbered (order_of ls))) (map (rename f) ls) (once_of [] (map (rename (numbered (order_of ls))) (map (rename f) ls)) g.1) in
          let y = of_args (numbered (order_of ls)) b.0 (subst (λ v. In (var k) (args v)) b.2 g.2) in
          let l = number_low y.0 (terms (map (rename f) ls)) k (occurs_in b.0 b.1 y.1) y.2 in
          lt-ltb k 32 (omega arith)
