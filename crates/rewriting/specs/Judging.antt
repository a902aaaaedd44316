-- The outcome of each call, by computing.
use Rattle.std.specs.Prelude.{ℕ, suc, Bool, true, false, if◌then◌else◌, not, ◌&&◌, ◌||◌, List, [], ◌∷◌, ◌++◌, map, length, ◌==◌, nat_le, nat_lt}
use Rattle.notation.specs.Logic.{Term, con, var, Atom, Facts, rename, terms}
use Rattle.search.specs.Keeping.{Rule}
use Rattle.rewriting.specs.Computing.{same_term, same_atom, any, all, holds, keeps}
use Rattle.rewriting.specs.Classes.{same_ref, name_in, classes}
use Rattle.rewriting.specs.Steps.{Query, Ref, fixed, own, copy, Part, Step, Ties, Piece, piece, bare, nth, member, vars, all_ties, is_copy, left, once}

-- one after the other rising, from at least lo, below hi
abbrev pub rising : ℕ → ℕ → List ℕ → Bool
rising lo hi [] = true
rising lo hi (n ∷ ns) = nat_le lo n && (nat_lt n hi && rising (suc n) hi ns)

abbrev pub numbers_fit : ℕ → List ℕ → Bool
numbers_fit hi [] = false
numbers_fit hi (n ∷ ns) = rising 0 hi (n ∷ ns)

abbrev pub has_ref : Ref → List (Atom Ref) → Bool
has_ref x xs = any (same_ref x) (terms xs)

-- ---------------------------------------------------------------- the tests of a step, f naming each term's class

abbrev pub ends : Ties → List Ref
ends [] = []
ends (t ∷ ts) = t.0 ∷ t.1 ∷ ends ts

abbrev pub constant_alone : (Ref → Ref) → Ref → Bool
constant_alone f (fixed k) = same_ref (f (fixed k)) (fixed k)
constant_alone f (own k) = true
constant_alone f (copy i k) = true

abbrev pub within : List (Atom Ref) → List (Atom Ref) → Bool
within xs bs = all (λ a. any (same_atom same_ref a) bs) xs

abbrev pub same_set : List (Atom Ref) → List (Atom Ref) → Bool
same_set xs bs = within xs bs && within bs xs

abbrev pub sets_meet : (Ref → Ref) → Piece → Bool
sets_meet f p = same_set (map (rename f) p.taken) (map (rename f) p.named)

-- x may stand in the class of the unnamed variable z of the piece
abbrev pub may_join : Piece → ℕ → Ref → Bool
may_join p z x = same_ref x (own z) || (is_copy x && (has_ref x p.taken && not (has_ref x p.rest)))

abbrev pub unnamed_right : (Ref → Ref) → List Ref → Piece → Bool
unnamed_right f xs p = all (λ z. all (λ x. not (same_ref (f x) (f (own z))) || may_join p z x) xs) p.unnamed

-- ---------------------------------------------------------------- the new query

-- the names that are no constants, each once, by first appearance
abbrev pub order_from : List Ref → List Ref → List Ref
order_from seen [] = []
order_from seen (fixed k ∷ xs) = order_from seen xs
order_from seen (own k ∷ xs) = elim (any (same_ref (own k)) seen) [ true ↦ order_from seen xs | false ↦ own k ∷ order_from (own k ∷ seen) xs ]
order_from seen (copy i k ∷ xs) = elim (any (same_ref (copy i k)) seen) [ true ↦ order_from seen xs | false ↦ copy i k ∷ order_from (copy i k ∷ seen) xs ]

abbrev pub place_of : Ref → List Ref → ℕ
place_of x [] = 0
place_of x (y ∷ ys) = if same_ref x y then 0 else suc (place_of x ys)

abbrev pub numbered : List Ref → Ref → Term
numbered os (fixed k) = con k
numbered os (own k) = var (place_of (own k) os)
numbered os (copy i k) = var (place_of (copy i k) os)

abbrev pub new_query : (Ref → Ref) → List (Atom Ref) → Query
new_query f xs =
    let bs = map (rename f) xs in
    let os = order_from [] (terms bs) in
    once (same_atom same_term) [] (map (rename (numbered os)) bs)

-- ---------------------------------------------------------------- steps, strikes and lists of calls

pub record Ledger : Type 0 where
  pub rules : List Rule
  pub opening : List Query
  -- by number, the opening queries first
  pub entered : List Query
  pub struck : List ℕ

abbrev pub open_ledger : List Rule → List Query → Ledger
open_ledger rs os = record { rules = rs; opening = os; entered = os; struck = [] }

abbrev pub enter : Ledger → Query → Ledger
enter s n = record { rules = s.rules; opening = s.opening; entered = s.entered ++ n ∷ []; struck = s.struck }

abbrev pub strike_out : Ledger → ℕ → Ledger
strike_out s a = record { rules = s.rules; opening = s.opening; entered = s.entered; struck = a ∷ s.struck }

pub data Outcome : Type 0 where
  enters : Query → Outcome
  strikes : Outcome
  refuses : ℕ → ℕ → Outcome

-- the pieces of a step, or what refuses it
pub data Read : Type 0 where
  read : List Piece → Read
  refused : ℕ → ℕ → Read

abbrev pub standing : Ledger → ℕ → List Query
standing s n = if member n s.struck then [] else nth n s.entered

abbrev pub tie_fits : Piece → Ref × Ref → Bool
tie_fits p t = let ok : Ref → Bool = λ x. has_ref x p.taken || has_ref x p.named in ok t.0 && ok t.1

abbrev pub ties_fit : Part → Piece → Bool
ties_fit p m = nat_le (length p.ties) 96 && all (tie_fits m) m.ties

-- the tests of one part in the table's order: its atoms' numbers, its ties, and then the parts after it
abbrev pub part_tested : Bool → Bool → ℕ → Piece → Read → Read
part_tested false ties i m rest = refused 13 i
part_tested true false i m rest = refused 14 i
part_tested true true i m (read ms) = read (m ∷ ms)
part_tested true true i m (refused k j) = refused k j

-- one part, by the standing query that it names, if any
abbrev pub part_read : ℕ → List (Atom Term) → List (Atom Term) → Part → List Query → Read → Read
part_read i b d p [] rest = refused 12 i
part_read i b d p (x ∷ xs) rest =
    part_tested (numbers_fit (length x) p.taken && numbers_fit (length d) p.named) (ties_fit p (piece i b d x p)) i (piece i b d x p) rest

abbrev pub pieces : Ledger → List (Atom Term) → ℕ → List (List (Atom Term)) → List Part → Read
pieces s b i [] [] = read []
pieces s b i [] (p ∷ ps) = refused 11 0
pieces s b i (d ∷ ds) [] = refused 11 0
pieces s b i (d ∷ ds) (p ∷ ps) = part_read i b d p (standing s p.query) (pieces s b (suc i) ds ps)

-- the first piece that fails, counted from i
abbrev pub failing : (Piece → Bool) → ℕ → List Piece → List ℕ
failing f i [] = []
failing f i (p ∷ ps) = if f p then failing f (suc i) ps else i ∷ []

abbrev pub limits : Bool → Bool → Query → Outcome
limits false room n = refuses 18 0
limits true false n = refuses 19 0
limits true true n = enters n

-- at most 16 atoms and 32 variables
abbrev pub small : Query → Bool
small n = nat_le (length n) 16 && all (λ k. nat_lt k 32) (vars (terms n))

abbrev pub fitting : Ledger → Query → Outcome
fitting s n = limits (small n) (nat_lt (length s.entered) 64) n

-- constants, the pieces whose sets differ, the pieces whose unnamed variables are wrong, and what comes of it otherwise
abbrev pub verdict : Bool → List ℕ → List ℕ → Outcome → Outcome
verdict false is js o = refuses 15 0
verdict true (i ∷ is) js o = refuses 16 i
verdict true [] (j ∷ js) o = refuses 17 j
verdict true [] [] o = o

abbrev pub tested : Ledger → List (Atom Term) → List Piece → Outcome
tested s b ms =
    let ts = all_ties ms in
    let tb = classes ts in
    let f : Ref → Ref = name_in tb in
    verdict (all (constant_alone f) (ends ts)) (failing (sets_meet f) 0 ms) (failing (unnamed_right f (ends ts)) 0 ms) (fitting s (new_query f (left b (map bare ms))))

abbrev pub judge_read : Ledger → List (Atom Term) → Read → Outcome
judge_read s b (read ms) = tested s b ms
judge_read s b (refused k i) = refuses k i

abbrev pub judge_rule : Ledger → Step → List Rule → Outcome
judge_rule s t [] = refuses 11 0
judge_rule s t (u ∷ us) =
    elim (length u.heads == length t.parts) [
      | false ↦ refuses 11 0
      | true ↦ judge_read s u.body (pieces s u.body 0 u.heads t.parts)
    ]

abbrev pub judge : Ledger → Step → Outcome
judge s t = judge_rule s t (nth t.rule s.rules)

abbrev pub strike_tested : List Query → List Query → Bool → Outcome
strike_tested [] ys same = refuses 12 0
strike_tested (x ∷ xs) [] same = refuses 12 0
strike_tested (x ∷ xs) (y ∷ ys) true = refuses 20 0
strike_tested (x ∷ xs) (y ∷ ys) false = if holds y x then strikes else refuses 21 0

abbrev pub judge_strike : Ledger → ℕ → ℕ → Outcome
judge_strike s a b = strike_tested (standing s a) (standing s b) (a == b)

pub data Call : Type 0 where
  step : Step → Call
  strike : ℕ → ℕ → Call
  ask_standing : Facts → Call
  ask_opening : Facts → Call
  ask_rules : Facts → Call

abbrev pub after_step : Ledger → Outcome → Ledger
after_step s (enters n) = enter s n
after_step s strikes = s
after_step s (refuses k i) = s

abbrev pub after_strike : Ledger → ℕ → Outcome → Ledger
after_strike s a (enters n) = s
after_strike s a strikes = strike_out s a
after_strike s a (refuses k i) = s

abbrev pub after : Ledger → Call → Ledger
after s (step t) = after_step s (judge s t)
after s (strike a b) = after_strike s a (judge_strike s a b)
after s (ask_standing l) = s
after s (ask_opening l) = s
after s (ask_rules l) = s

-- the ledger after a list of calls
abbrev pub after_all : Ledger → List Call → Ledger
after_all s [] = s
after_all s (k ∷ ks) = after_all (after s k) ks

-- ---------------------------------------------------------------- questions: the lowest number, or none

abbrev pub lowest : {X : Type 0} → (ℕ → X → Bool) → ℕ → List X → List ℕ
lowest f i [] = []
lowest f i (x ∷ xs) = elim (f i x) [ true ↦ i ∷ [] | false ↦ lowest f (suc i) xs ]

abbrev pub standing_answer : Ledger → Facts → List ℕ
standing_answer s l = lowest (λ n x. not (member n s.struck) && holds x l) 0 s.entered

abbrev pub opening_answer : Ledger → Facts → List ℕ
opening_answer s l = lowest (λ n x. holds x l) 0 s.opening

abbrev pub rule_answer : Ledger → Facts → List ℕ
rule_answer s l = lowest (λ n x. not (keeps x l)) 0 s.rules
