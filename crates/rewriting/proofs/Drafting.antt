-- Names are noted and shown as entries are, one after the other, and keep their numbers.
use Rattle.std.proofs.Common.{◌≡◌, ℕ, suc, ◌+◌, ◌*◌, ◌<◌, ◌≤◌, Bool, true, false, cond, ◌||◌, T, eqb, ltb, List, [], ◌∷◌, ◌++◌, map, length, Some, None, Option, sym, refl, ap, ◌∙◌, subst, ap₂, inl, inr, ⊎_elim, append_assoc, append-nil, arith}
use Rattle.std.specs.List.{position, position_or_len}
use Rattle.std.proofs.lemmas.List.Recursion.{is_position_or_len}
use Rattle.std.proofs.lemmas.List.{map-append, length-map, length_push}
use Rattle.std.proofs.lemmas.Bool.{cond-true, cond-false, lt-ltb, le-ltb, eq-eqb, ne_eqb, cases_lt, ltb-false}
use Rattle.notation.specs.declared.terms.Term.{Term as WrittenTerm}
use Rattle.notation.specs.declared.terms.Terms.{Terms}
use Rattle.rewriting.specs.declared.steps.Owner.{Owner}
use Rattle.notation.specs.declared.terms.Term.TheVariants.{Constant, Variable}
use Rattle.notation.specs.Logic.{var, In, here, there, as_term}
use Rattle.rewriting.specs.Classes.{same_ref}
use Rattle.rewriting.specs.Computing.{any}
use Rattle.rewriting.specs.Drafts.{first_place, entries_of, noted, noted_all, shown, shown_all, ShownTerms}
use Rattle.rewriting.specs.Judging.{order_from, place_of, numbered}
use Rattle.rewriting.specs.Steps.{Ref, fixed, own, copy, once}
use Rattle.rewriting.specs.Tables.{place, Within}
use Rattle.rewriting.proofs.Turns.{any_append}
use Rattle.rewriting.proofs.Lists.{by_test, none_in, in_cases, in_either, ref_eq, ref_refl}

-- ---------------------------------------------------------------- entries

pub noted_constant : (ns : List ℕ) (e : ℕ) → e < 1000 → noted ns e ≡ ns
noted_constant ns e h = cond-true _ _ _ (lt-ltb e 1000 h)

pub noted_old : (ns : List ℕ) (e : ℕ) → 1000 ≤ e → first_place e ns < length ns → noted ns e ≡ ns
noted_old ns e h k = cond-false _ _ _ (le-ltb e 1000 h) ∙ cond-true _ _ _ (lt-ltb _ _ k)

pub noted_new : (ns : List ℕ) (e : ℕ) → 1000 ≤ e → length ns ≤ first_place e ns → noted ns e ≡ ns ++ e ∷ []
noted_new ns e h k = cond-false _ _ _ (le-ltb e 1000 h) ∙ cond-false _ _ _ (le-ltb _ _ k)

pub shown_constant : (ns : List ℕ) (e : ℕ) → e < 1000 → shown ns e ≡ Constant e
shown_constant ns e h = cond-true _ _ _ (lt-ltb e 1000 h)

pub shown_variable : (ns : List ℕ) (e : ℕ) → 1000 ≤ e → shown ns e ≡ Variable (first_place e ns)
shown_variable ns e h = cond-false _ _ _ (le-ltb e 1000 h)

noted_length : (ns : List ℕ) (e : ℕ) → length ns ≤ length (noted ns e)
noted_length ns e = by_test (λ v. length ns ≤ length v) (ltb e 1000) ns _ (λ t. omega arith)
    (λ t. by_test (λ v. length ns ≤ length v) (ltb (first_place e ns) (length ns)) ns (ns ++ e ∷ []) (λ u. omega arith) (λ u. let p = length_push ns e in omega arith))

-- too many stay too many
pub over_stays : (ns es : List ℕ) → 32 < length ns → 32 < length (noted_all ns es)
over_stays ns [] h = h
over_stays ns (e ∷ es) h = let p = noted_length ns e in over_stays (noted ns e) es (omega arith)

-- there are too many where a term is the 33rd variable, whatever comes after it
pub broken_off : (r : Option (Terms WrittenTerm)) (t : List ℕ) (o : Owner) (ts us : Terms WrittenTerm) (ns ms : List ℕ) → r ≡ None → ts ≡ us → 32 < length (noted_all ns (entries_of t o us)) → ShownTerms r (entries_of t o ts) ns ms
broken_off r t o ts us ns ms none is h =
    subst (λ (v : Option (Terms WrittenTerm)). ShownTerms v (entries_of t o ts) ns ms) (sym none) (subst (λ v. 32 < length (noted_all ns (entries_of t o v))) (sym is) h)

-- where e is looked for among the entries
first_is : (e : ℕ) (ns : List ℕ) → position_or_len (λ n. eqb n e) ns ≡ first_place e ns
first_is e ns = sym (is_position_or_len (first_place e) (λ n. eqb n e) refl (λ n ms. ap (cond (eqb n e) 0) (omega arith)) ns)

first_inside : (e : ℕ) (ns : List ℕ) → first_place e ns ≤ length ns
first_inside e [] = omega arith
first_inside e (n ∷ ns) = by_test (λ k. k ≤ length (n ∷ ns)) (eqb n e) 0 (suc (first_place e ns)) (λ t. omega arith) (λ t. let h = first_inside e ns in omega arith)

module _ (e : ℕ) (ns : List ℕ) (big : 1000 ≤ e) where
  position_is : position (λ n. eqb n e) ns ≡ cond (ltb (first_place e ns) (length ns)) (Some (first_place e ns)) None
  position_is = ap (λ k. cond (ltb k (length ns)) (Some k) None) (first_is e ns)

  -- it stands at k
  pub found : (k : ℕ) → position (λ n. eqb n e) ns ≡ Some k → (Variable k ≡ shown ns e) × (ns ≡ noted ns e)
  found k is =
      ⊎_elim
      (λ l. let at_k : Some k ≡ Some (first_place e ns) = sym is ∙ position_is ∙ cond-true _ _ _ (lt-ltb _ _ l) in let same : k ≡ first_place e ns = cc in (ap Variable same ∙ sym (shown_variable ns e big), sym (noted_old ns e big l)))
      (λ l. let none : ◌≡◌ {A = Option ℕ} (Some k) None = sym is ∙ position_is ∙ cond-false _ _ _ (le-ltb _ _ l) in absurd (cc))
      (cases_lt (first_place e ns) (length ns))

  -- it does not
  module _ (is : position (λ n. eqb n e) ns ≡ None) where
    past : length ns ≤ first_place e ns
    past = ⊎_elim
        (λ l. let some : ◌≡◌ {A = Option ℕ} None (Some (first_place e ns)) = sym is ∙ position_is ∙ cond-true _ _ _ (lt-ltb _ _ l) in absurd (cc))
        (λ l. l)
        (cases_lt (first_place e ns) (length ns))

    pub new_shown : Variable (length ns) ≡ shown ns e
    new_shown = let h = first_inside e ns in let p = past in ap Variable (omega arith) ∙ sym (shown_variable ns e big)

    pub new_noted : ns ++ e ∷ [] ≡ noted ns e
    new_noted = sym (noted_new ns e big past)

    pub too_many : length ns ≡ 32 → 32 < length (noted ns e)
    too_many full = let q = ap length (noted_new ns e big past) ∙ length_push ns e in omega arith

-- ---------------------------------------------------------------- one after the other

-- what has occurred is not added
abbrev pub added : {X : Type 0} → (X → X → Bool) → List X → X → List X
added f pre x = cond (any (f x) pre) pre (pre ++ x ∷ [])

abbrev pub added_all : {X : Type 0} → (X → X → Bool) → List X → List X → List X
added_all f pre [] = pre
added_all f pre (x ∷ xs) = added_all f (added f pre x) xs

or_swap : (a b : Bool) → (a || b) ≡ (b || a)
or_swap true true = refl
or_swap true false = refl
or_swap false true = refl
or_swap false false = refl

or_none : (b : Bool) → (b || false) ≡ b
or_none true = refl
or_none false = refl

-- the same are told as seen when the newest stands last
seen_last : {X : Type 0} (f : X → X → Bool) (seen pre : List X) (y : X) → ((x : X) → any (f x) seen ≡ any (f x) pre) → (x : X) → any (f x) (y ∷ seen) ≡ any (f x) (pre ++ y ∷ [])
seen_last f seen pre y h x =
    ap (λ b. f x y || b) (h x) ∙ or_swap (f x y) (any (f x) pre) ∙ ap (λ b. any (f x) pre || b) (sym (or_none (f x y))) ∙ sym (any_append (f x) pre (y ∷ []))

one_added : {X : Type 0} (pre old new : List X) (y : X) (b c : Bool) (G : List X → List X) → b ≡ c →
    pre ++ old ≡ G pre → (pre ++ y ∷ []) ++ new ≡ G (pre ++ y ∷ []) →
    pre ++ elim b [ true ↦ old | false ↦ y ∷ new ] ≡ G (cond c pre (pre ++ y ∷ []))
one_added pre old new y true true G e f g = f
one_added pre old new y true false G e f g = absurd (subst T e tt)
one_added pre old new y false true G e f g = absurd (subst T (sym e) tt)
one_added pre old new y false false G e f g = sym (append_assoc pre (y ∷ []) new) ∙ g

pub once_added : {X : Type 0} (f : X → X → Bool) (seen pre xs : List X) → ((x : X) → any (f x) seen ≡ any (f x) pre) → pre ++ once f seen xs ≡ added_all f pre xs
once_added f seen pre [] h = append-nil pre
once_added f seen pre (y ∷ xs) h =
    one_added pre (once f seen xs) (once f (y ∷ seen) xs) y (any (f y) seen) (any (f y) pre) (λ p. added_all f p xs) (h y)
    (once_added f seen pre xs h) (once_added f (y ∷ seen) (pre ++ y ∷ []) xs (seen_last f seen pre y h))

-- the names that are no constants, each once, with one more
abbrev pub note : List Ref → Ref → List Ref
note os (fixed k) = os
note os (own k) = added same_ref os (own k)
note os (copy i k) = added same_ref os (copy i k)

abbrev pub note_all : List Ref → List Ref → List Ref
note_all os [] = os
note_all os (y ∷ ys) = note_all (note os y) ys

order_noted : (seen pre xs : List Ref) → ((x : Ref) → any (same_ref x) seen ≡ any (same_ref x) pre) → pre ++ order_from seen xs ≡ note_all pre xs
order_noted seen pre [] h = append-nil pre
order_noted seen pre (fixed k ∷ xs) h = order_noted seen pre xs h
order_noted seen pre (own k ∷ xs) h =
    one_added pre (order_from seen xs) (order_from (own k ∷ seen) xs) (own k) (any (same_ref (own k)) seen) (any (same_ref (own k)) pre) (λ p. note_all p xs) (h (own k))
    (order_noted seen pre xs h) (order_noted (own k ∷ seen) (pre ++ own k ∷ []) xs (seen_last same_ref seen pre (own k) h))
order_noted seen pre (copy i k ∷ xs) h =
    one_added pre (order_from seen xs) (order_from (copy i k ∷ seen) xs) (copy i k) (any (same_ref (copy i k)) seen) (any (same_ref (copy i k)) pre) (λ p. note_all p xs) (h (copy i k))
    (order_noted seen pre xs h) (order_noted (copy i k ∷ seen) (pre ++ copy i k ∷ []) xs (seen_last same_ref seen pre (copy i k) h))

pub order_is : (xs : List Ref) → order_from [] xs ≡ note_all [] xs
order_is xs = order_noted [] [] xs (λ x. refl)

pub note_append : (os xs ys : List Ref) → note_all os (xs ++ ys) ≡ note_all (note_all os xs) ys
note_append os [] ys = refl
note_append os (x ∷ xs) ys = note_append (note os x) xs ys

pub added_append : {X : Type 0} (f : X → X → Bool) (n xs ys : List X) → added_all f n (xs ++ ys) ≡ added_all f (added_all f n xs) ys
added_append f n [] ys = refl
added_append f n (x ∷ xs) ys = added_append f (added f n x) xs ys

-- what was there stays at the front
added_front : {X : Type 0} (f : X → X → Bool) (n : List X) (x : X) → (r : List X) × (added f n x ≡ n ++ r)
added_front f n x = go (any (f x) n)
  where
    go : (b : Bool) → (r : List _) × (cond b n (n ++ x ∷ []) ≡ n ++ r)
    go true = ([], sym (append-nil n))
    go false = (x ∷ [], refl)

pub added_all_front : {X : Type 0} (f : X → X → Bool) (n xs : List X) → (r : List X) × (added_all f n xs ≡ n ++ r)
added_all_front f n [] = ([], sym (append-nil n))
added_all_front f n (x ∷ xs) =
    let p = added_front f n x in
    let q = added_all_front f (added f n x) xs in
    (p.0 ++ q.0, q.1 ∙ ap (λ v. v ++ q.0) p.1 ∙ append_assoc n p.0 q.0)

note_front : (os : List Ref) (y : Ref) → (r : List Ref) × (note os y ≡ os ++ r)
note_front os (fixed k) = ([], sym (append-nil os))
note_front os (own k) = added_front same_ref os (own k)
note_front os (copy i k) = added_front same_ref os (copy i k)

pub note_all_front : (os ys : List Ref) → (r : List Ref) × (note_all os ys ≡ os ++ r)
note_all_front os [] = ([], sym (append-nil os))
note_all_front os (y ∷ ys) =
    let p = note_front os y in
    let q = note_all_front (note os y) ys in
    (p.0 ++ q.0, q.1 ∙ ap (λ v. v ++ q.0) p.1 ∙ append_assoc os p.0 q.0)

-- ---------------------------------------------------------------- places and entries

place_inj : (x y : Ref) → Within x → Within y → place x ≡ place y → x ≡ y
place_inj (fixed k) (fixed m) v w e = ap fixed e
place_inj (fixed k) (own m) v w e = absurd (omega arith)
place_inj (fixed k) (copy j m) v w e = absurd (omega arith)
place_inj (own k) (fixed m) v w e = absurd (omega arith)
place_inj (own k) (own m) v w e = ap own (omega arith)
place_inj (own k) (copy j m) v w e = absurd (omega arith)
place_inj (copy i k) (fixed m) v w e = absurd (omega arith)
place_inj (copy i k) (own m) v w e = absurd (omega arith)
place_inj (copy i k) (copy j m) v w e = ap₂ copy (omega arith) (omega arith)

same_place : (x y : Ref) → Within x → Within y → eqb (place x) (place y) ≡ same_ref y x
same_place x y v w = go (same_ref y x) refl
  where
    go : (b : Bool) → same_ref y x ≡ b → eqb (place x) (place y) ≡ b
    go true e = eq-eqb (place x) (place y) (ap place (sym (ref_eq y x (subst T (sym e) tt))))
    go false e = ne_eqb (place x) (place y) (λ q. subst T e (subst (λ u. T (same_ref y u)) (sym (place_inj x y v w q)) (ref_refl y)))

-- each of them has a place
abbrev pub AllWithin : List Ref → Type 0
AllWithin os = (x : Ref) → In x os → Within x

first_place_is : (y : Ref) (os : List Ref) → Within y → AllWithin os → first_place (place y) (map place os) ≡ place_of y os
first_place_is y [] w h = refl
first_place_is y (x ∷ os) w h = ap₂ (λ b n. cond b 0 (suc n)) (same_place x y (h x (here refl)) w) (first_place_is y os w (λ z m. h z (there m)))

ltb_suc : (m n : ℕ) → ltb (suc m) (suc n) ≡ ltb m n
ltb_suc m n = elim (cases_lt m n) [ inl l ↦ lt-ltb (suc m) (suc n) (omega arith) ∙ sym (lt-ltb m n l) | inr l ↦ le-ltb (suc m) (suc n) (omega arith) ∙ sym (le-ltb m n l) ]

pub place_in : (y : Ref) (os : List Ref) → ltb (place_of y os) (length os) ≡ any (same_ref y) os
place_in y [] = refl
place_in y (x ∷ os) = go (same_ref y x) (place_in y os)
  where
    go : (b : Bool) → ltb (place_of y os) (length os) ≡ any (same_ref y) os → ltb (cond b 0 (suc (place_of y os))) (suc (length os)) ≡ (b || any (same_ref y) os)
    go true e = lt-ltb 0 (suc (length os)) (omega arith)
    go false e = ltb_suc (place_of y os) (length os) ∙ e

-- the place of what is there, or is added at the end
pub place_front : (y : Ref) (os r : List Ref) → T (any (same_ref y) os) → place_of y (os ++ r) ≡ place_of y os
place_front y [] r t = absurd t
place_front y (x ∷ os) r t = go (same_ref y x) t (place_front y os r)
  where
    go : (b : Bool) → T (b || any (same_ref y) os) → (T (any (same_ref y) os) → place_of y (os ++ r) ≡ place_of y os) → cond b 0 (suc (place_of y (os ++ r))) ≡ cond b 0 (suc (place_of y os))
    go true u h = refl
    go false u h = ap suc (h u)

place_last : (y : Ref) (os r : List Ref) → place_of y (os ++ y ∷ r) ≡ place_of y os
place_last y [] r = by_test (λ v. v ≡ 0) (same_ref y y) 0 (suc (place_of y r)) (λ t. refl) (λ t. absurd (t (ref_refl y)))
place_last y (x ∷ os) r = ap (λ n. cond (same_ref y x) 0 (suc n)) (place_last y os r)

place_added : (y : Ref) (os r : List Ref) → place_of y (added same_ref os y ++ r) ≡ place_of y os
place_added y os r =
    by_test (λ v. place_of y (v ++ r) ≡ place_of y os) (any (same_ref y) os) os (os ++ y ∷ [])
    (λ t. place_front y os r t)
    (λ t. ap (place_of y) (append_assoc os (y ∷ []) r) ∙ place_last y os r)

-- ---------------------------------------------------------------- what is noted, and what is shown

map_cond : (b : Bool) (os : List Ref) (y : Ref) → cond b (map place os) (map place os ++ place y ∷ []) ≡ map place (cond b os (os ++ y ∷ []))
map_cond true os y = refl
map_cond false os y = sym (map-append place os (y ∷ []))

note_var : (os : List Ref) (y : Ref) → 1000 ≤ place y → Within y → AllWithin os → noted (map place os) (place y) ≡ map place (added same_ref os y)
note_var os y big w h =
    cond-false _ _ _ (le-ltb (place y) 1000 big)
    ∙ ap (λ b. cond b (map place os) (map place os ++ place y ∷ [])) (ap₂ ltb (first_place_is y os w h) (length-map os place) ∙ place_in y os)
    ∙ map_cond (any (same_ref y) os) os y

note_is : (os : List Ref) (y : Ref) → Within y → AllWithin os → noted (map place os) (place y) ≡ map place (note os y)
note_is os (fixed k) w h = noted_constant (map place os) k w
note_is os (own k) w h = note_var os (own k) (omega arith) w h
note_is os (copy i k) w h = note_var os (copy i k) (omega arith) w h

show_is : (os : List Ref) (y : Ref) (r : List Ref) → Within y → AllWithin os → as_term (shown (map place os) (place y)) ≡ numbered (note os y ++ r) y
show_is os (fixed k) r w h = ap as_term (shown_constant (map place os) k w)
show_is os (own k) r w h = ap as_term (shown_variable (map place os) (1000 + k) (omega arith)) ∙ ap var (first_place_is (own k) os w h ∙ sym (place_added (own k) os r))
show_is os (copy i k) r w h = ap as_term (shown_variable (map place os) (1032 + 32 * i + k) (omega arith)) ∙ ap var (first_place_is (copy i k) os w h ∙ sym (place_added (copy i k) os r))

added_within : (os : List Ref) (y : Ref) → Within y → AllWithin os → AllWithin (added same_ref os y)
added_within os y w h x =
    by_test (λ v. In x v → Within x) (any (same_ref y) os) os (os ++ y ∷ []) (λ t m. h x m)
    (λ t m. ⊎_elim (λ i. h x i) (λ i. ⊎_elim (λ e. subst Within (sym e) w) (λ j. absurd (none_in j)) (in_cases i)) (in_either os m))

note_within : (os : List Ref) (y : Ref) → Within y → AllWithin os → AllWithin (note os y)
note_within os (fixed k) w h = h
note_within os (own k) w h = added_within os (own k) w h
note_within os (copy i k) w h = added_within os (copy i k) w h

pub note_all_within : (os ys : List Ref) → AllWithin ys → AllWithin os → AllWithin (note_all os ys)
note_all_within os [] w h = h
note_all_within os (y ∷ ys) w h = note_all_within (note os y) ys (λ x m. w x (there m)) (note_within os y (w y (here refl)) h)

pub all_noted : (os ys : List Ref) → AllWithin ys → AllWithin os → noted_all (map place os) (map place ys) ≡ map place (note_all os ys)
all_noted os [] w h = refl
all_noted os (y ∷ ys) w h =
    ap (λ ns. noted_all ns (map place ys)) (note_is os y (w y (here refl)) h)
    ∙ all_noted (note os y) ys (λ x m. w x (there m)) (note_within os y (w y (here refl)) h)

pub all_shown : (os ys : List Ref) → AllWithin ys → AllWithin os → map as_term (shown_all (map place os) (map place ys)) ≡ map (numbered (note_all os ys)) ys
all_shown os [] w h = refl
all_shown os (y ∷ ys) w h =
    let q = note_all_front (note os y) ys in
    ap₂ ◌∷◌
    (show_is os y q.0 (w y (here refl)) h ∙ ap (λ v. numbered v y) (sym q.1))
    (ap (λ ns. map as_term (shown_all ns (map place ys))) (note_is os y (w y (here refl)) h)
    ∙ all_shown (note os y) ys (λ x m. w x (there m)) (note_within os y (w y (here refl)) h))

-- the one that is new has the next number
fresh_var : (os : List Ref) (y : Ref) (r : List Ref) (b : Bool) → any (same_ref y) os ≡ b → length os < length (cond b os (os ++ y ∷ [])) → (place_of y (added same_ref os y ++ r) ≡ length os) × (length (cond b os (os ++ y ∷ [])) ≡ suc (length os))
fresh_var os y r true e l = absurd (omega arith)
fresh_var os y r false e l =
    let p = ltb-false (place_of y os) (length os) (place_in y os ∙ e) in
    let q = length_push os y in
    let s = place_most os in
    (place_added y os r ∙ (omega arith), omega arith)
  where
    place_most : (os : List Ref) → place_of y os ≤ length os
    place_most [] = omega arith
    place_most (x ∷ os) = by_test (λ v. v ≤ suc (length os)) (same_ref y x) 0 (suc (place_of y os)) (λ t. omega arith) (λ t. let p = place_most os in omega arith)

note_fresh : (os : List Ref) (y : Ref) (r : List Ref) → length os < length (note os y) → (numbered (note os y ++ r) y ≡ var (length os)) × (length (note os y) ≡ suc (length os))
note_fresh os (fixed k) r l = absurd (omega arith)
note_fresh os (own k) r l = let p = fresh_var os (own k) r (any (same_ref (own k)) os) refl l in (ap var p.0, p.1)
note_fresh os (copy i k) r l = let p = fresh_var os (copy i k) r (any (same_ref (copy i k)) os) refl l in (ap var p.0, p.1)

-- more than 32 have numbers: there is the number 32
pub over_var : (os ys : List Ref) → length os ≤ 32 → 32 < length (note_all os ys) → In (var 32) (map (numbered (note_all os ys)) ys)
over_var os [] few h = absurd (omega arith)
over_var os (y ∷ ys) few h = elim (cases_lt 32 (length (note os y))) [
  | inl l ↦
      let q = note_all_front (note os y) ys in
      let p = note_fresh os y q.0 (omega arith) in
      let last : 32 ≡ length os = omega (arith, p.1) in
      here (ap var last ∙ sym p.0 ∙ ap (λ v. numbered v y) (sym q.1))
  | inr l ↦ there (over_var (note os y) ys l h)
]
