-- What a strike and the questions answer is what is told of them, and openings, entries and strikes keep what a book shows.
use Rattle.std.proofs.Common.{◌≡◌, ℕ, zero, suc, ◌+◌, ◌<◌, ◌≤◌, Bool, true, false, cond, not, ◌||◌, T, eqb, ◌⊎◌, ◌↔◌, List, [], ◌∷◌, ◌++◌, map, length, get_or, take, set, Some, None, Ok, Err, Option, Result, sym, refl, ap, ◌∙◌, subst, ap₂, inl, inr, arith}
use Rattle.std.proofs.lemmas.List.{length-map, length_push, length-take-le, get_or-take, get_or_past, get_or-replicate, get_or_push, get_or_append_left, get_or-set_same, get_or-set_other, take_all, take-append-le, map_push}
use Rattle.std.proofs.lemmas.Bool.{both_ways, eq-eqb, ne_eqb, cases_lt, cases_eq, cases_Bool, cases_order, cond-true, cond-false, or_from}
use Rattle.notation.specs.declared.terms.Atom.{Atom}
use Rattle.notation.specs.declared.terms.Term.{Term}
use Rattle.notation.specs.Logic.{Facts, In, here}
use Rattle.queries.specs.Rules.{rule_of}
use Rattle.queries.specs.declared.rule.Rule.{Rule}
use Rattle.search.specs.Answers.{Lowest, HoldsAt}
use Rattle.search.specs.Holding.{Holds}
use Rattle.search.specs.Keeping.{Keeps}
use Rattle.search.specs.Rules.{meant, BrokenAt}
use Rattle.queries.specs.declared.row.Row.{Row}
use Rattle.rewriting.specs.Computing.{holds}
use Rattle.rewriting.specs.Judging.{Ledger, open_ledger, enter, strike_out, Outcome, strikes, refuses, standing, strike_tested, judge_strike, strike, ask_standing, ask_opening, ask_rules, standing_answer, opening_answer, rule_answer, after_strike, after}
use Rattle.rewriting.specs.Rightness.{Lowest as LowestIn}
use Rattle.rewriting.specs.Steps.{Query, nth, member}
use Rattle.rewriting.specs.Written.{logic_atoms, row_standing, option_list, Shows as ShowsRows}
use Rattle.rewriting.proofs.Lists.{none_in, member_in, in_member, map_twice}
use Rattle.rewriting.proofs.Nth.{nth_past, one_of}
use Rattle.rewriting.proofs.Questions.{answers_right}
use Rattle.rewriting.proofs.Search.{true_T, search_is_right}
use Rattle.book.specs.declared.answer.Answer.{Answer}
use Rattle.book.specs.declared.answer.Answer.TheVariants as answer
use Rattle.book.specs.declared.refusal.Refusal.{Refusal}
use Rattle.book.specs.declared.refusal.Refusal.TheVariants.{NotStanding, SameQuery, NotHeld}
use Rattle.book.specs.Ledgers.{new_book}
use Rattle.book.specs.Questions.{LowestStanding, LowestOpening, LowestBrokenRule}
use Rattle.book.specs.Rows.{Entry, entry_of, queries_in, standing_in}
use Rattle.book.specs.Strikes.{Book, Stands, query_at, struck, Strikes, refusal_number as strike-refusal}
use Rattle.book.specs.Views.{Shows, entered, found, told_of, tell, telling}

-- each query of the book stands or does not
abbrev pub Even : Book → Type 0
Even b = length b.standing ≡ length b.queries

-- ---------------------------------------------------------------- the lowest number

-- what is at a place of a list that was made element by element
nth_map : {X Y : Type 0} (f : X → Y) (k : ℕ) (xs : List X) (d : X) → k < length xs → nth k (map f xs) ≡ f (get_or xs k d) ∷ []
nth_map f k [] d l = absurd (omega arith)
nth_map f zero (x ∷ xs) d l = refl
nth_map f (suc k) (x ∷ xs) d l = nth_map f k xs d (omega arith)

-- a list of one is not empty
some_none : {X : Type 0} (x : X) → x ∷ [] ≡ [] → ⊥
some_none {X} x e = none_in (subst (λ (xs : List X). In x xs) e (here refl))

-- a place with an element is within the list
nth_within : {X : Type 0} (k : ℕ) (xs : List X) (x : X) → nth k xs ≡ x ∷ [] → k < length xs
nth_within k xs x e = elim (cases_lt k (length xs)) [ inl l ↦ l | inr l ↦ absurd (some_none x (sym e ∙ nth_past k xs l)) ]

module _ {X Y : Type 0} (f : X → Y) (xs : List X) (d : X) (P : ℕ → Type 0) (Q : ℕ → Y → Type 0) (n : ℕ) (long : length xs ≡ n) (same : (k : ℕ) → k < n → P k ↔ Q k (f (get_or xs k d))) where
  -- what goes for the element at k goes for k
  of_element : (k : ℕ) (y : Y) → nth k (map f xs) ≡ y ∷ [] → Q k y → (k < n) × P k
  of_element k y e q =
      let l : k < n = subst (λ m. k < m) (length-map xs f ∙ long) (nth_within k (map f xs) y e) in
      let is : y ≡ f (get_or xs k d) = one_of (sym e ∙ nth_map f k xs d (subst (λ m. k < m) (sym long) l)) in
      (l, (same k l).1 (subst (Q k) is q))

  -- and the other way round
  element_of : (k : ℕ) → k < n → nth k (map f xs) ≡ f (get_or xs k d) ∷ []
  element_of k l = nth_map f k xs d (subst (λ m. k < m) (sym long) l)

  -- two answers to one question are the same
  same_lowest : (o : Option ℕ) (ns : List ℕ) → Lowest P n o → LowestIn Q (map f xs) ns → option_list o ≡ ns
  same_lowest None [] a h = refl
  same_lowest None (m ∷ ms) a h = let p = of_element m h.1.0 h.1.1 h.1.2 in absurd (a m p.0 p.1)
  same_lowest (Some k) [] a h = absurd (h k (f (get_or xs k d)) (element_of k a.0) ((same k a.0).0 a.1))
  same_lowest (Some k) (m ∷ ms) a h =
      elim (cases_order k m) [
        | inl e ↦ ap (λ j. j ∷ []) e ∙ ap (λ js. m ∷ js) (sym h.0)
        | inr c ↦ elim c [
          | inl l ↦ absurd (h.2 k (f (get_or xs k d)) l (element_of k a.0) ((same k a.0).0 a.1))
          | inr l ↦ absurd (a.2 m l (of_element m h.1.0 h.1.1 h.1.2).1)
        ]
      ]

-- ---------------------------------------------------------------- the questions

-- struck exactly where the book says that it does not stand
unstruck : (k : ℕ) (ns : List ℕ) (t : Bool) → member k ns ≡ not t → (t ≡ true) ↔ (In k ns → ⊥)
unstruck k ns t is = (λ e m. subst T (is ∙ ap not e) (in_member m), λ h. elim (cases_Bool t) [ inl e ↦ e | inr e ↦ absurd (h (member_in k ns (true_T (is ∙ ap not e)))) ])

-- the lowest standing query that holds
pub standing_told : (b : Book) (s : Ledger) → Even b → Shows b s → (l : Facts) (o : Option ℕ) → LowestStanding b l o → told_of (answer.Found o) ≡ telling s (ask_standing l)
standing_told b s even shown l o a =
    let Q : ℕ → Query → Type 0 = λ k x. (In k s.struck → ⊥) × Holds x l in
    ap found (same_lowest logic_atoms b.queries [] (λ k. Stands b k × HoldsAt b.queries l k) Q (length b.queries) refl
    (λ k h. let u = unstruck k s.struck (get_or b.standing k false) (shown.standing_is k h) in
    (λ p. (u.0 p.0, p.1), λ q. (u.1 q.0, q.1)))
    o (standing_answer s l) a (subst (λ xs. LowestIn Q xs (standing_answer s l)) shown.entered_are (answers_right s l).standing))

-- the lowest opening query that holds
pub opening_told : (b : Book) (s : Ledger) → Shows b s → b.opened ≤ length b.queries → (l : Facts) (o : Option ℕ) → LowestOpening b l o → told_of (answer.Found o) ≡ telling s (ask_opening l)
opening_told b s shown few l o a =
    let Q : ℕ → Query → Type 0 = λ k x. Holds x l in
    ap found (same_lowest logic_atoms (take b.opened b.queries) [] (HoldsAt b.queries l) Q b.opened (length-take-le b.opened b.queries few)
    (λ k h. let e = get_or-take b.opened b.queries k [] h in
    (λ p. subst (λ q. Holds (logic_atoms q) l) (sym e) p, λ p. subst (λ q. Holds (logic_atoms q) l) e p))
    o (opening_answer s l) a (subst (λ xs. LowestIn Q xs (opening_answer s l)) shown.opening_is (answers_right s l).opening))

-- the lowest rule that is not kept
pub rules_told : (b : Book) (s : Ledger) → Shows b s → (l : Facts) (o : Option ℕ) → LowestBrokenRule b l o → told_of (answer.Found o) ≡ telling s (ask_rules l)
rules_told b s shown l o a =
    ap found (same_lowest meant b.rules ([], []) (BrokenAt b.rules l) (λ k x. Keeps x l → ⊥) (length b.rules) refl (λ k h. (λ p. p, λ p. p))
    o (rule_answer s l) a (subst (λ xs. LowestIn (λ k x. Keeps x l → ⊥) xs (rule_answer s l)) shown.rules_are (answers_right s l).rules))

-- ---------------------------------------------------------------- queries that stand

-- the same, whatever the test says
cond_same : {X : Type 0} (t : Bool) (x : X) → cond t x x ≡ x
cond_same true x = refl
cond_same false x = refl

-- the other test chooses the other way
cond_not : {X : Type 0} (t : Bool) (x y : X) → cond (not t) x y ≡ cond t y x
cond_not true x y = refl
cond_not false x y = refl

-- query k of the book, as a list of one, if it stands
abbrev stood : Book → ℕ → List Query
stood b k = cond (get_or b.standing k false) (logic_atoms (query_at b k) ∷ []) []

-- a query stands in the ledger where it stands in the book
standing_shown : (b : Book) (s : Ledger) → Even b → Shows b s → (k : ℕ) → standing s k ≡ stood b k
standing_shown b s even shown k = elim (cases_lt k (length b.queries)) [ inl l ↦ within l | inr l ↦ past l ]
  where
    within : k < length b.queries → standing s k ≡ stood b k
    within l =
        ap₂ (λ t xs. cond t [] xs) (shown.standing_is k l) (ap (nth k) shown.entered_are ∙ nth_map logic_atoms k b.queries [] l)
        ∙ cond_not (get_or b.standing k false) [] (logic_atoms (query_at b k) ∷ [])

    past : length b.queries ≤ k → standing s k ≡ stood b k
    past l =
        ap (λ xs. cond (member k s.struck) [] xs) (ap (nth k) shown.entered_are ∙ nth_past k (map logic_atoms b.queries) (subst (λ n. n ≤ k) (sym (length-map b.queries logic_atoms)) l))
        ∙ cond_same (member k s.struck) []
        ∙ sym (cond-false (get_or b.standing k false) (logic_atoms (query_at b k) ∷ []) [] (get_or_past b.standing k false (subst (λ n. n ≤ k) (sym even) l)))

-- ---------------------------------------------------------------- strikes

-- the answer to a strike of x
abbrev pub strike_answer : ℕ → Result (Unit {0}) Refusal → Answer
strike_answer x (Ok u) = answer.Struck x
strike_answer x (Err e) = answer.StrikeRefused e

-- the outcome that it tells
abbrev strike_outcome : Result (Unit {0}) Refusal → Outcome
strike_outcome (Ok u) = strikes
strike_outcome (Err e) = refuses (strike-refusal e).0 (strike-refusal e).1

-- the answer tells it
told_outcome : (x : ℕ) (r : Result (Unit {0}) Refusal) → told_of (strike_answer x r) ≡ tell x (strike_outcome r)
told_outcome x (Ok u) = refl
told_outcome x (Err e) = refl

-- the tests of a strike, by whether each query stands
abbrev tested : Bool → Bool → Bool → Query → Query → Outcome
tested p q same x y = strike_tested (cond p (x ∷ []) []) (cond q (y ∷ []) []) same

-- one of the two does not stand
not_both : (p q same : Bool) (x y : Query) → (p ≡ true → q ≡ true → ⊥) → tested p q same x y ≡ refuses 12 0
not_both true true same x y h = absurd (h refl refl)
not_both true false same x y h = refl
not_both false q same x y h = refl

-- both stand
both_stand : (p q same t : Bool) (x y : Query) → p ≡ true → q ≡ true → same ≡ t → tested p q same x y ≡ strike_tested (x ∷ []) (y ∷ []) t
both_stand p q same t x y hp hq e = ap (λ v. tested v q same x y) hp ∙ ap (λ v. tested true v same x y) hq ∙ ap (λ v. strike_tested (x ∷ []) (y ∷ []) v) e

module _ (b : Book) (s : Ledger) (even : Even b) (shown : Shows b s) (x y : ℕ) where
  -- the strike by the book's tests
  by_book : judge_strike s x y ≡ tested (get_or b.standing x false) (get_or b.standing y false) (eqb x y) (logic_atoms (query_at b x)) (logic_atoms (query_at b y))
  by_book = ap₂ (λ us vs. strike_tested us vs (eqb x y)) (standing_shown b s even shown x) (standing_shown b s even shown y)

  -- both queries stand
  both_by : (t : Bool) → Stands b x → Stands b y → eqb x y ≡ t → judge_strike s x y ≡ strike_tested (logic_atoms (query_at b x) ∷ []) (logic_atoms (query_at b y) ∷ []) t
  both_by t hx hy e = by_book ∙ both_stand (get_or b.standing x false) (get_or b.standing y false) (eqb x y) t (logic_atoms (query_at b x)) (logic_atoms (query_at b y)) hx hy e

  -- a strike has the outcome that is answered
  strike_judged : (r : Result (Unit {0}) Refusal) (new : Book) → Strikes b x y r new → judge_strike s x y ≡ strike_outcome r
  strike_judged (Ok u) new h =
      both_by false h.0 h.1 (ne_eqb x y h.2)
      ∙ cond-true (holds (logic_atoms (query_at b y)) (logic_atoms (query_at b x))) strikes (refuses 21 0) ((search_is_right (logic_atoms (query_at b y)) (logic_atoms (query_at b x))).1 h.3)
  strike_judged (Err NotStanding) new h = by_book ∙ not_both (get_or b.standing x false) (get_or b.standing y false) (eqb x y) (logic_atoms (query_at b x)) (logic_atoms (query_at b y)) h.0
  strike_judged (Err SameQuery) new h = both_by true h.0 h.1 (eq-eqb x y h.2)
  strike_judged (Err NotHeld) new h = both_by false h.0 h.1 (ne_eqb x y h.2) ∙ cond-false (holds qy qx) strikes (refuses 21 0) (unheld (cases_Bool (holds qy qx)))
    where
      qx : Query
      qx = logic_atoms (query_at b x)

      qy : Query
      qy = logic_atoms (query_at b y)

      unheld : (holds qy qx ≡ true) ⊎ (holds qy qx ≡ false) → holds qy qx ≡ false
      unheld (inl e) = absurd (h.3 ((search_is_right qy qx).0 e))
      unheld (inr e) = e

  -- a query that stands is one of the book's
  stands_within : (k : ℕ) → Stands b k → k < length b.standing
  stands_within k h = elim (cases_lt k (length b.standing)) [ inl l ↦ l | inr l ↦ absurd (both_ways (get_or b.standing k false) (get_or_past b.standing k false l) h) ]

  -- the struck query, and it alone, stands no more
  struck_shows : Stands b x → Shows (struck b x) (strike_out s x)
  struck_shows hx = record { rules_are = shown.rules_are; opening_is = shown.opening_is; entered_are = shown.entered_are; standing_is = stand; none_to_come = later }
    where
      stand : (k : ℕ) → k < length b.queries → member k (x ∷ s.struck) ≡ not (get_or (set b.standing x false) k false)
      stand k l = elim (cases_eq k x) [
        | inl e ↦ ap (λ t. t || member k s.struck) (eq-eqb k x e) ∙ ap not (sym (ap (λ j. get_or (set b.standing x false) j false) e ∙ get_or-set_same b.standing x false false (stands_within x hx)))
        | inr n ↦ ap (λ t. t || member k s.struck) (ne_eqb k x n) ∙ shown.standing_is k l ∙ ap not (sym (get_or-set_other b.standing x k false false n))
      ]

      later : (k : ℕ) → length b.queries ≤ k → member k (x ∷ s.struck) ≡ false
      later k l = let w = stands_within x hx in or_from (eqb k x) (member k s.struck) (ne_eqb k x (λ e. omega arith)) (shown.none_to_come k l)

  -- the book afterwards
  outcome_shows : (r : Result (Unit {0}) Refusal) (new : Book) → Strikes b x y r new → Shows new (after_strike s x (strike_outcome r))
  outcome_shows (Ok u) new h = subst (λ n. Shows n (strike_out s x)) (sym h.4) (struck_shows h.0)
  outcome_shows (Err NotStanding) new h = subst (λ n. Shows n s) (sym h.1) shown
  outcome_shows (Err SameQuery) new h = subst (λ n. Shows n s) (sym h.3) shown
  outcome_shows (Err NotHeld) new h = subst (λ n. Shows n s) (sym h.4) shown

  -- a strike answers what is told of it, and the book shows the ledger after it
  pub strike_told : (r : Result (Unit {0}) Refusal) (new : Book) → Strikes b x y r new → (told_of (strike_answer x r) ≡ telling s (strike x y)) × Shows new (after s (strike x y))
  strike_told r new h =
      let e = strike_judged r new h in
      (told_outcome x r ∙ ap (tell x) (sym e), subst (λ o. Shows new (after_strike s x o)) (sym e) (outcome_shows r new h))

-- ---------------------------------------------------------------- openings and entries

-- a new book shows the ledger that its rules and queries open
pub opened_shows : (rs : List (List (Atom Term) × List (List (Atom Term)))) (qs : List (List (Atom Term))) → Shows (new_book rs qs) (open_ledger (map meant rs) (map logic_atoms qs))
opened_shows rs qs = record {
  rules_are = refl;
  opening_is = ap (map logic_atoms) (sym (take_all (length qs) qs (omega arith)));
  entered_are = refl;
  standing_is = λ k l. ap not (sym (get_or-replicate (length qs) k true false l));
  none_to_come = λ k l. refl;
}

-- with one query more, which stands, the book shows the ledger that entered it
pub entered_shows : (b : Book) (s : Ledger) → Even b → b.opened ≤ length b.queries → Shows b s → (n : List (Atom Term)) → Shows (entered b n) (enter s (logic_atoms n))
entered_shows b s even few shown n = record {
  rules_are = shown.rules_are;
  opening_is = shown.opening_is ∙ ap (map logic_atoms) (sym (take-append-le b.opened b.queries (n ∷ []) few));
  entered_are = ap (λ xs. xs ++ logic_atoms n ∷ []) shown.entered_are ∙ sym (map_push logic_atoms b.queries n);
  standing_is = λ k l. elim (cases_lt k (length b.queries)) [
    | inl h ↦ shown.standing_is k h ∙ ap not (sym (get_or_append_left b.standing (true ∷ []) false k (subst (λ m. k < m) (sym even) h)))
    | inr h ↦ shown.none_to_come k h ∙ ap not (sym (get_or_push b.standing true false k (even ∙ last k h (subst (λ m. k < m) (length_push b.queries n) l))))
  ];
  none_to_come = λ k l. shown.none_to_come k (less k (subst (λ m. m ≤ k) (length_push b.queries n) l));
}
  where
    less : (k : ℕ) → length b.queries + 1 ≤ k → length b.queries ≤ k
    less k h = omega arith

    last : (k : ℕ) → length b.queries ≤ k → k < length b.queries + 1 → length b.queries ≡ k
    last k h l = omega arith

-- ---------------------------------------------------------------- rows

-- the query of a row that stands, by the lists of queries and of standing
row_stood : (rows : List Row) (k : ℕ) → cond (get_or (standing_in (map entry_of rows)) k false) (logic_atoms (get_or (queries_in (map entry_of rows)) k []) ∷ []) [] ≡ row_standing (nth k rows)
row_stood [] k = refl
row_stood (w ∷ rows) zero = refl
row_stood (w ∷ rows) (suc k) = row_stood rows k

-- as many marks of standing as queries
pub even_entries : (es : List Entry) → length (standing_in es) ≡ length (queries_in es)
even_entries es = length-map es (λ (e : Entry). e.stands) ∙ sym (length-map es (λ (e : Entry). e.query))

-- the book of these rules and these entries
abbrev pub book_with : List Rule → ℕ → List Entry → Book
book_with rules opened es = record { rules = map rule_of rules; opened = opened; queries = queries_in es; standing = standing_in es }

-- rules and rows whose book shows a ledger are those of the ledger
pub rows_shown : (rules : List Rule) (rows : List Row) (opened : ℕ) (es : List Entry) (s : Ledger) → map entry_of rows ≡ es → Shows (book_with rules opened es) s → ShowsRows rules rows s
rows_shown rules rows opened es s are shown = record {
  rules_are = shown.rules_are ∙ map_twice meant rule_of rules;
  stand = λ k. standing_shown _ s (even_entries es) shown k ∙ ap (λ v. stood (book_with rules opened v) k) (sym are) ∙ row_stood rows k;
  count = ap length shown.entered_are ∙ length-map (queries_in es) logic_atoms ∙ length-map es (λ (e : Entry). e.query) ∙ sym (ap length are) ∙ length-map rows entry_of;
}
