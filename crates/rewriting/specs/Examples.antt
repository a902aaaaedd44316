-- The worked examples, as one list of equations that compute.
use Rattle.std.specs.Prelude.{◌≡◌, ℕ, zero, suc, List, [], ◌∷◌, ◌++◌}
use Rattle.notation.specs.Logic.{Term, con, var, Atom, at, Facts}
use Rattle.search.specs.Keeping.{Rule}
use Rattle.rewriting.specs.Judging.{Ledger, open_ledger, Outcome, enters, strikes, refuses, judge, judge_strike, step, strike, after, standing_answer, opening_answer, rule_answer}
use Rattle.rewriting.specs.Steps.{Query, End, c, r, q, Part, Step}

abbrev pub v0 : Term
v0 = var 0

abbrev pub v1 : Term
v1 = var 1

abbrev pub p1 : ℕ → Term → Atom Term
p1 n x = at n (x ∷ [])

abbrev pub p2 : Term → Term → Atom Term
p2 x y = at 2 (x ∷ y ∷ [])

abbrev part : ℕ → ℕ → ℕ → List (End × End) → Part
part n a d ts = record { query = n; taken = a ∷ []; named = d ∷ []; ties = ts }

abbrev with_parts : List Part → Step
with_parts ps = record { rule = 0; parts = ps }

abbrev pub rule0 : Rule
rule0 = record { body = p1 0 v0 ∷ []; heads = (p1 1 v0 ∷ []) ∷ (p2 v0 v1 ∷ []) ∷ [] }

abbrev queries : List Query
queries = (p1 1 v0 ∷ p1 3 v0 ∷ []) ∷ (p2 v0 v1 ∷ []) ∷ (p2 v0 v1 ∷ p1 3 v0 ∷ []) ∷ []

abbrev open_with : List Query → Ledger
open_with qs = open_ledger (rule0 ∷ []) qs

abbrev ledger : Ledger
ledger = open_with queries

abbrev part_0 : Part
part_0 = part 0 0 0 ((q 0, r 0) ∷ [])

abbrev part_1 : Part
part_1 = part 1 0 0 ((q 0, r 0) ∷ (q 1, r 1) ∷ [])

abbrev step_1 : Step
step_1 = with_parts (part_0 ∷ part_1 ∷ [])

abbrev pub ledger_3 : Ledger
ledger_3 = after (after (after ledger (strike 2 1)) (step step_1)) (strike 1 0)

abbrev pub facts_2 : Facts
facts_2 = p1 0 (con 4) ∷ p1 3 (con 4) ∷ []

abbrev pub facts_3 : Facts
facts_3 = facts_2 ++ p2 (con 4) (var 0) ∷ []

-- one query for both heads, and then its result for both heads
abbrev pub one_query : List Query
one_query = (p1 1 v0 ∷ p2 v0 v1 ∷ []) ∷ []

abbrev pub both_heads : Step
both_heads = with_parts (part 0 0 0 ((q 0, r 0) ∷ []) ∷ part 0 1 0 ((q 0, r 0) ∷ (q 1, r 1) ∷ []) ∷ [])

abbrev pub both_again : Step
both_again = with_parts (part 1 2 0 ((q 0, r 0) ∷ []) ∷ part 1 1 0 ((q 0, r 0) ∷ (q 1, r 1) ∷ []) ∷ [])

-- what each of the examples comes to
abbrev pub outcomes : List Outcome
outcomes =
    judge_strike ledger 2 1 ∷
    judge (after ledger (strike 2 1)) step_1 ∷
    judge_strike (after (after ledger (strike 2 1)) (step step_1)) 1 0 ∷
    -- without the first tie
    judge ledger (with_parts (part 0 0 0 [] ∷ part_1 ∷ [])) ∷
    -- with a further tie to a constant that is no term of the part
    judge ledger (with_parts (part 0 0 0 ((q 0, r 0) ∷ (r 0, c 7) ∷ []) ∷ part_1 ∷ [])) ∷
    -- the variable joined to the unnamed one is still in an atom that is not taken
    judge (open_with (queries ++ (p2 v0 v1 ∷ p1 3 v1 ∷ []) ∷ [])) (with_parts (part_0 ∷ part 3 0 0 ((q 0, r 0) ∷ (q 1, r 1) ∷ []) ∷ [])) ∷
    -- a constant joined to the unnamed variable
    judge (open_with (queries ++ (p2 v0 (con 5) ∷ []) ∷ [])) (with_parts (part_0 ∷ part 3 0 0 ((q 0, r 0) ∷ (c 5, r 1) ∷ []) ∷ [])) ∷
    -- one query for both heads
    judge (open_with one_query) both_heads ∷
    -- two constants in one class
    judge (open_with ((p1 1 (con 1) ∷ []) ∷ (p2 (con 2) v0 ∷ []) ∷ [])) (with_parts (part 0 0 0 ((c 1, r 0) ∷ []) ∷ part 1 0 0 ((c 2, r 0) ∷ (q 0, r 1) ∷ []) ∷ [])) ∷
    judge_strike (after ledger (strike 2 1)) 1 2 ∷
    judge_strike ledger 1 1 ∷
    []

abbrev pub expected : List Outcome
expected =
    strikes ∷
    enters (p1 0 v0 ∷ p1 3 v0 ∷ []) ∷
    refuses 21 0 ∷
    refuses 16 0 ∷
    refuses 14 0 ∷
    refuses 17 1 ∷
    refuses 17 1 ∷
    enters (p1 0 v0 ∷ p2 v0 v1 ∷ p1 1 v0 ∷ []) ∷
    refuses 15 0 ∷
    refuses 12 0 ∷
    refuses 20 0 ∷
    []

abbrev pub answers : Facts → List (List ℕ)
answers l = rule_answer ledger_3 l ∷ standing_answer ledger_3 l ∷ opening_answer ledger_3 l ∷ []

abbrev pub answered : List (List (List ℕ))
answered = answers facts_3 ∷ answers facts_2 ∷ answers [] ∷ []

abbrev pub ExamplesHold : Type 0
ExamplesHold =
    (outcomes ≡ expected)
    × (answered ≡ ([] ∷ (1 ∷ []) ∷ (1 ∷ []) ∷ []) ∷ ((0 ∷ []) ∷ (3 ∷ []) ∷ [] ∷ []) ∷ ([] ∷ [] ∷ [] ∷ []) ∷ [])

-- a published example: p(x, y) → r(x, z1) ∨ r(y, z2), and s(u), r(u, v) used for both heads in copies of its own
abbrev rule4 : Rule
rule4 = record { body = at 0 (v0 ∷ v1 ∷ []) ∷ []; heads = (p2 v0 (var 2) ∷ []) ∷ (p2 v1 (var 3) ∷ []) ∷ [] }

abbrev step_4 : Step
step_4 = with_parts (part 0 1 0 ((q 0, r 0) ∷ (q 1, r 2) ∷ []) ∷ part 0 1 0 ((q 0, r 1) ∷ (q 1, r 3) ∷ []) ∷ [])

-- one head of two atoms, and one whose two terms a step may tie though it need not
abbrev rule5 : Rule
rule5 = record { body = p1 0 v0 ∷ []; heads = (p1 1 v0 ∷ p1 3 v0 ∷ []) ∷ [] }

abbrev rule6 : Rule
rule6 = record { body = at 0 (v0 ∷ v1 ∷ []) ∷ []; heads = (p2 v0 v1 ∷ []) ∷ [] }

abbrev one_part : List ℕ → List ℕ → List (End × End) → Step
one_part ns ms ts = with_parts (record { query = 0; taken = ns; named = ms; ties = ts } ∷ [])

abbrev times : ℕ → Query → List Query
times zero x = []
times (suc n) x = x ∷ times n x

-- with 63 entered there is room for one, with 64 there is none
abbrev pub FurtherExamplesHold : Type 0
FurtherExamplesHold =
    (judge (open_ledger (rule4 ∷ []) ((p1 3 v0 ∷ p2 v0 v1 ∷ []) ∷ [])) step_4 ≡ enters (at 0 (v0 ∷ v1 ∷ []) ∷ p1 3 v0 ∷ p1 3 v1 ∷ []))
    × (judge (open_with (times 63 (p1 1 v0 ∷ p2 v0 v1 ∷ []))) both_heads ≡ enters (p1 0 v0 ∷ p2 v0 v1 ∷ p1 1 v0 ∷ []))
    × (judge (open_with (times 64 (p1 1 v0 ∷ p2 v0 v1 ∷ []))) both_heads ≡ refuses 19 0)
    -- a head atom that no taken atom meets, and a taken atom that no head atom meets
    × (judge (open_ledger (rule5 ∷ []) ((p1 1 v0 ∷ []) ∷ [])) (one_part (0 ∷ []) (0 ∷ 1 ∷ []) ((q 0, r 0) ∷ [])) ≡ refuses 16 0)
    × (judge (open_ledger (rule5 ∷ []) ((p1 1 v0 ∷ p1 3 v0 ∷ []) ∷ [])) (one_part (0 ∷ 1 ∷ []) (0 ∷ []) ((q 0, r 0) ∷ [])) ≡ refuses 16 0)
    -- more ties than it needs
    × (judge (open_ledger (rule6 ∷ []) ((p2 v0 v1 ∷ []) ∷ [])) (one_part (0 ∷ []) (0 ∷ []) ((q 0, r 0) ∷ (q 1, r 1) ∷ (q 0, q 1) ∷ [])) ≡ enters (at 0 (v0 ∷ v0 ∷ []) ∷ []))
