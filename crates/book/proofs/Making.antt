-- Rules and queries made from lists, one after another: what is left gives the same answer.
use Rattle.std.proofs.Common.{◌≡◌, ℕ, ◌+◌, ◌-◌, ◌<◌, ◌≤◌, Bool, true, false, cond, leb, List, [], ◌∷◌, ◌++◌, map, length, get_or, take, drop, Ok, Err, Result, sym, refl, ap, ◌∙◌, subst, append_assoc, append-nil, arith}
use Rattle.std.proofs.lemmas.List.{at_drop_more, at_drop_all, drop_more, map_push, take_rest}
use Rattle.std.proofs.lemmas.Bool.{and_parts, leb-true, leb-false, le-leb, lt-leb}
use Rattle.notation.specs.declared.failures.Failure.{Failure}
use Rattle.notation.specs.declared.failures.Failure.TheVariants.{Memory, Fault}
use Rattle.notation.specs.declared.faults.FolderFault.{FolderFault}
use Rattle.notation.specs.declared.faults.FolderFault.TheVariants.{InLine, OutOfOrder, EndsTooSoon}
use Rattle.notation.specs.declared.faults.LineFault.{LineFault}
use Rattle.notation.specs.declared.terms.Atom.{Atom}
use Rattle.notation.specs.declared.terms.Term.{Term}
use Rattle.notation.specs.Failures.{UnlessMemory, failure_up}
use Rattle.notation.specs.Reading.{carry}
use Rattle.queries.specs.Checks.{fine, if_so, check_atoms}
use Rattle.queries.specs.RuleChecks.{body_next, rule_next, add_head}
use Rattle.queries.specs.Rules.{first_head}
use Rattle.queries.proofs.Valid.{carried, same_ok, fine_from_check, few_from_fine}
use Rattle.book.specs.Ledgers.{book_of, new_book}
use Rattle.book.specs.Opening.{check_arity, room, check_heads, check_rule, check_rules, check_queries, open_lists}
use Rattle.book.specs.Strikes.{Book}

-- ---------------------------------------------------------------- heads

-- the body with the heads hs and then ds, or the first fault of ds
abbrev pub heads_left : List ℕ → List (Atom Term) → List (List (Atom Term)) → List (List (Atom Term)) → Result (List (Atom Term) × List (List (Atom Term))) LineFault
heads_left arity b hs ds = carry (λ e. e) (check_heads arity b hs ds) (λ _. Ok (b, hs ++ ds))

module _ (arity : List ℕ) (b : List (Atom Term)) where
  abbrev then_heads : List (List (Atom Term)) → List (Atom Term) → List (List (Atom Term)) → Result (List (List (Atom Term))) LineFault → Result (List (Atom Term) × List (List (Atom Term))) LineFault
  then_heads hs d ds o = carry (λ e. e) (carry (λ e. e) o (λ more. check_heads arity b more ds)) (λ _. Ok (b, hs ++ d ∷ ds))

  head_then : (hs more : List (List (Atom Term))) (d : List (Atom Term)) (ds : List (List (Atom Term))) → add_head arity b hs d ≡ Ok more → heads_left arity b more ds ≡ heads_left arity b hs (d ∷ ds)
  head_then hs more d ds good =
      let p = carried (λ e. e) (check_atoms (cond (leb 4 (length hs)) 0 4) (body_next b) (rule_next b hs) (rule_next b hs) arity d) (λ _. Ok (hs ++ d ∷ [])) more good in
      let longer : more ++ ds ≡ hs ++ d ∷ ds = ap (λ l. l ++ ds) (sym (same_ok p.2)) ∙ append_assoc hs (d ∷ []) ds in
      sym (ap (then_heads hs d ds) good ∙ ap (λ l. carry (λ e. e) (check_heads arity b more ds) (λ _. Ok (b, l))) (sym longer))

  module _ {X : Type 0} (see : X → List (Atom Term)) (hs : List (List (Atom Term))) (xs : List X) (i : ℕ) (x : X) (h : i < length xs) (is : x ≡ get_or xs i x) where
    next_head : heads_left arity b hs (map see (drop i xs)) ≡ heads_left arity b hs (see x ∷ map see (drop (i + 1) xs))
    next_head = at_drop_more (λ l. heads_left arity b hs (map see l)) xs i x h ∙ ap (λ y. heads_left arity b hs (see y ∷ map see (drop (i + 1) xs))) (sym is)

    pub wrong_head : (e : LineFault) → add_head arity b hs (see x) ≡ Err e → heads_left arity b hs (map see (drop i xs)) ≡ Err e
    wrong_head e bad = next_head ∙ ap (then_heads hs (see x) (map see (drop (i + 1) xs))) bad

    pub head_more : (more : List (List (Atom Term))) → add_head arity b hs (see x) ≡ Ok more → heads_left arity b more (map see (drop (i + 1) xs)) ≡ heads_left arity b hs (map see (drop i xs))
    head_more more good = head_then hs more (see x) (map see (drop (i + 1) xs)) good ∙ sym next_head

-- the heads after the first, where the body b of the rule is that of the lists
pub heads_begun : {X : Type 0} (see : X → List (Atom Term)) (arity : List ℕ) (b b1 b2 d : List (Atom Term)) (hs : List (List (Atom Term))) (first : X) (s xs : List X) → b1 ≡ b → Ok (b2, hs) ≡ first_head arity b1 d → d ≡ see first → first ≡ get_or s 0 first → 1 ≤ length s → s ≡ xs → heads_left arity b2 hs (map see (take (length s - 1) (drop 1 s))) ≡ heads_left arity b [] (map see xs)
heads_begun see arity b b1 b2 d hs first s xs same begun seen is some e =
    let p = carried (λ e. e) (add_head arity b1 [] d) (λ more. Ok (b1, more)) (b2, hs) (sym begun) in
    let both = same_ok p.2 in
    let all : s ≡ first ∷ drop 1 s = drop_more s 0 first (omega arith) ∙ ap (λ x. x ∷ drop 1 s) (sym is) in
    ap (λ q. heads_left arity q.0 q.1 (map see (take (length s - 1) (drop 1 s)))) (sym both)
    ∙ ap (λ l. heads_left arity b1 p.0 (map see l)) (take_rest s 1)
    ∙ head_then arity b1 [] p.0 d (map see (drop 1 s)) p.1
    ∙ ap (λ x. heads_left arity x [] (d ∷ map see (drop 1 s))) same
    ∙ ap (λ x. heads_left arity b [] (x ∷ map see (drop 1 s))) seen
    ∙ ap (λ l. heads_left arity b [] (map see l)) (sym all ∙ e)

-- ---------------------------------------------------------------- one rule

-- an answer for a line, as one for a folder
abbrev risen : Result (Unit {0}) LineFault → Result (Unit {0}) FolderFault
risen o = carry InLine o (λ _. Ok tt)

risen_then : {X : Type 0} (x : X) (o : Result (Unit {0}) LineFault) → carry (λ e. e) (risen o) (λ _. Ok x) ≡ carry InLine (carry (λ e. e) o (λ _. Ok x)) (λ y. Ok y)
risen_then x (Ok u) = refl
risen_then x (Err e) = refl

module _ (arity : List ℕ) (n : ℕ) (b : List (Atom Term)) (hs : List (List (Atom Term))) where
  -- the rule, or the first fault
  abbrev pub rule_answer : Result (List (Atom Term) × List (List (Atom Term))) FolderFault
  rule_answer = carry (λ e. e) (check_rule arity n (b, hs)) (λ _. Ok (b, hs))

  abbrev then_rule : Result ℕ LineFault → Result (Unit {0}) FolderFault → Result (List (Atom Term) × List (List (Atom Term))) FolderFault
  then_rule o t = carry (λ e. e) (carry InLine o (λ _. carry (λ e. e) t (λ _. risen (check_heads arity b [] hs)))) (λ _. Ok (b, hs))

  module _ (x : List (Atom Term)) (begun : Ok x ≡ carry (λ e. e) (check_atoms (room 32 n 8) 0 0 0 arity b) (λ _. Ok b)) where
    pub same_body : x ≡ b
    same_body = sym (same_ok (carried (λ e. e) (check_atoms (room 32 n 8) 0 0 0 arity b) (λ _. Ok b) x (sym begun)).2)

    by_heads : (t : Bool) → leb 1 (length hs) ≡ t → rule_answer ≡ then_rule (Ok 0) (if_so t OutOfOrder)
    by_heads t e =
        let p = carried (λ e. e) (check_atoms (room 32 n 8) 0 0 0 arity b) (λ _. Ok b) x (sym begun) in
        ap (λ o. then_rule o (if_so (leb 1 (length hs)) OutOfOrder)) p.1 ∙ ap (λ t. then_rule (Ok 0) (if_so t OutOfOrder)) e

    pub no_head : length hs < 1 → rule_answer ≡ Err OutOfOrder
    no_head h = by_heads false (lt-leb 1 (length hs) h)

    pub with_head : (s : Result (List (Atom Term) × List (List (Atom Term))) LineFault) → 1 ≤ length hs → s ≡ heads_left arity b [] hs → rule_answer ≡ carry InLine s (λ r. Ok r)
    with_head s h e = by_heads true (le-leb 1 (length hs) h) ∙ risen_then (b, hs) (check_heads arity b [] hs) ∙ ap (λ o. carry InLine o (λ r. Ok r)) (sym e)

-- ---------------------------------------------------------------- rules, and queries

module _ {X Y V U E : Type 0} (see : X → Y) (of : V → Y) (one : ℕ → Y → Result U E) (all : ℕ → List Y → Result (Unit {0}) E) where
  -- what was made and then what is left, of which the first is number n; or the first fault of what is left
  abbrev pub left : ℕ → List V → List X → Result (List Y) E
  left n held xs = carry (λ e. e) (all n (map see xs)) (λ _. Ok (map of held ++ map see xs))

  module _ (none : (n : ℕ) → all n [] ≡ Ok tt) (more : (n : ℕ) (y : Y) (ys : List Y) → all n (y ∷ ys) ≡ carry (λ e. e) (one n y) (λ _. all (n + 1) ys)) where
    module _ (xs : List X) (i : ℕ) (held : List V) where
      module _ (x : X) (h : i < length xs) (is : x ≡ get_or xs i x) where
        abbrev then_all : Result U E → Result (List Y) E
        then_all o = carry (λ e. e) (carry (λ e. e) o (λ _. all (i + 1) (map see (drop (i + 1) xs)))) (λ _. Ok (map of held ++ see x ∷ map see (drop (i + 1) xs)))

        next : left i held (drop i xs) ≡ then_all (one i (see x))
        next =
            at_drop_more (left i held) xs i x h
            ∙ ap (λ y. left i held (y ∷ drop (i + 1) xs)) (sym is)
            ∙ ap (λ o. carry (λ e. e) o (λ _. Ok (map of held ++ see x ∷ map see (drop (i + 1) xs)))) (more i (see x) (map see (drop (i + 1) xs)))

        pub wrong_item : (e : E) → Err e ≡ carry (λ e. e) (one i (see x)) (λ _. Ok (see x)) → left i held (drop i xs) ≡ Err e
        wrong_item e bad = next ∙ ap then_all (faulty (one i (see x)) (see x) e bad)
          where
            faulty : (o : Result U E) (y : Y) (e : E) → Err e ≡ carry (λ e. e) o (λ _. Ok y) → o ≡ Err e
            faulty (Ok u) y e bad = cc
            faulty (Err f) y e bad = cc

        pub item_more : (v : V) (new : List V) → Ok (of v) ≡ carry (λ e. e) (one i (see x)) (λ _. Ok (see x)) → new ≡ held ++ v ∷ [] → left (i + 1) new (drop (i + 1) xs) ≡ left i held (drop i xs)
        item_more v new good e =
            let rest = map see (drop (i + 1) xs) in
            let p = carried (λ e. e) (one i (see x)) _ (of v) (sym good) in
            let longer : map of new ++ rest ≡ map of held ++ see x ∷ rest =
            ap (λ l. map of l ++ rest) e
            ∙ ap (λ l. l ++ rest) (map_push of held v)
            ∙ append_assoc (map of held) (of v ∷ []) rest
            ∙ ap (λ y. map of held ++ y ∷ rest) (sym (same_ok p.2)) in
            sym (next ∙ ap then_all p.1 ∙ ap (λ l. carry (λ e. e) (all (i + 1) rest) (λ _. Ok l)) (sym longer))

      pub items_all : length xs ≤ i → left i held (drop i xs) ≡ Ok (map of held)
      items_all h = at_drop_all (left i held) xs i h ∙ ap (λ o. carry (λ e. e) o (λ _. Ok (map of held ++ []))) (none i) ∙ ap Ok (append-nil (map of held))

    -- where an item without a fault has a number below `most`, there are at most so many
    pub few_items : (most : ℕ) → ((n : ℕ) (y : Y) (u : U) → one n y ≡ Ok u → n < most) → (n : ℕ) (ys : List Y) → n ≤ most → all n ys ≡ Ok tt → n + length ys ≤ most
    few_items most below n [] h e = omega arith
    few_items most below n (y ∷ ys) h e =
        let p = carried (λ e. e) (one n y) (λ _. all (n + 1) ys) tt (sym (more n y ys) ∙ e) in
        let l = below n y p.0 p.1 in
        let rest = few_items most below (n + 1) ys (omega arith) p.2 in
        omega arith

module _ (arity : List ℕ) where
  -- there is room for atoms that have no fault
  below : (most atoms n : ℕ) (as' : List (Atom Term)) (m : ℕ) → check_atoms (room most n atoms) 0 0 0 arity as' ≡ Ok m → n < most
  below most atoms n as' m e = by_test (leb most n) refl (fine_from_check _ 0 0 0 arity as' m e).0
    where
      by_test : (t : Bool) → leb most n ≡ t → fine (cond t 0 atoms) as' ≡ true → n < most
      by_test true e k = let some = leb-true 1 (length as') (and_parts _ _ (and_parts _ _ k).0).0 in let few = few_from_fine 0 as' k in absurd (omega arith)
      by_test false e k = omega (arith, leb-false most n e)

  pub few_rules : (rs : List (List (Atom Term) × List (List (Atom Term)))) → check_rules arity 0 rs ≡ Ok tt → length rs ≤ 32
  few_rules rs e =
      let few =
      few_items (λ r. r) (λ r. r) (check_rule arity) (check_rules arity) (λ n. refl) (λ n r rs. refl) 32
      (λ n r u h. let p = carried InLine (check_atoms (room 32 n 8) 0 0 0 arity r.0) _ u h in below 32 8 n r.0 p.0 p.1) 0 rs (omega arith) e in
      omega arith

  pub few_queries : (qs : List (List (Atom Term))) → check_queries arity 0 qs ≡ Ok tt → length qs ≤ 64
  few_queries qs e =
      let few =
      few_items (λ q. q) (λ q. q) (λ n q. check_atoms (room 64 n 16) 0 0 0 arity q) (check_queries arity) (λ n. refl) (λ n q qs. refl) 64
      (λ n q m h. below 64 16 n q m h) 0 qs (omega arith) e in
      omega arith

-- ---------------------------------------------------------------- the whole

-- lists that are answered have no fault
pub lists_made : {Y E : Type 0} (o : Result (Unit {0}) E) (ys zs : List Y) → carry (λ e. e) o (λ _. Ok ys) ≡ Ok zs → (o ≡ Ok tt) × (ys ≡ zs)
lists_made o ys zs e = let p = carried (λ e. e) o (λ _. Ok ys) zs e in (p.1, same_ok p.2)

module _ (arity : List ℕ) (rs : List (List (Atom Term) × List (List (Atom Term)))) (qs : List (List (Atom Term))) (a : check_arity arity ≡ Ok tt) (r : check_rules arity 0 rs ≡ Ok tt) where
  abbrev then_queries : Result (Unit {0}) LineFault → Result (Unit {0}) FolderFault → Result (Unit {0}) FolderFault → Result Book FolderFault
  then_queries a r t = carry InLine a (λ _. carry (λ e. e) r (λ _. carry (λ e. e) t (λ _. carry InLine (check_queries arity 0 qs) (λ _. Ok (new_book rs qs)))))

  by_queries : (t : Bool) → leb 1 (length qs) ≡ t → open_lists arity rs qs ≡ then_queries (Ok tt) (Ok tt) (if_so t EndsTooSoon)
  by_queries t e =
      let test = if_so (leb 1 (length qs)) EndsTooSoon in
      ap (λ a. then_queries a (check_rules arity 0 rs) test) a ∙ ap (λ r. then_queries (Ok tt) r test) r ∙ ap (λ t. then_queries (Ok tt) (Ok tt) (if_so t EndsTooSoon)) e

  pub no_queries : length qs < 1 → open_lists arity rs qs ≡ Err EndsTooSoon
  no_queries h = by_queries false (lt-leb 1 (length qs) h)

  pub some_queries : 1 ≤ length qs → open_lists arity rs qs ≡ carry InLine (check_queries arity 0 qs) (λ _. Ok (new_book rs qs))
  some_queries h = by_queries true (le-leb 1 (length qs) h)

  pub wrong_queries : {V : Type 0} (see : V → List (List (Atom Term))) (e : Failure LineFault) (f : Failure FolderFault) → 1 ≤ length qs → f ≡ failure_up e → UnlessMemory see (Err e) (carry (λ e. e) (check_queries arity 0 qs) (λ _. Ok qs)) → UnlessMemory book_of (Err f) (open_lists arity rs qs)
  wrong_queries see Memory f h is bad = subst (λ f. UnlessMemory book_of (Err f) (open_lists arity rs qs)) (sym is) tt
  wrong_queries see (Fault g) f h is bad = subst (λ f. UnlessMemory book_of (Err f) (open_lists arity rs qs)) (sym is) (some_queries h ∙ by_fault (check_queries arity 0 qs) bad)
    where
      by_fault : (o : Result (Unit {0}) LineFault) → carry (λ e. e) o (λ _. Ok qs) ≡ Err g → carry InLine o (λ _. Ok (new_book rs qs)) ≡ Err (InLine g)
      by_fault (Ok u) bad = cc
      by_fault (Err e) bad = cc
