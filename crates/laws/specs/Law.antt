-- The law of the ledger: what holds after every list of calls, whatever it was opened with.
use Rattle.std.specs.Prelude.{◌≡◌, List, [], ◌↔◌, length, ℕ, ◌≤◌}
use Rattle.notation.specs.Logic.{Term, Atom, Facts, In}
use Rattle.search.specs.Keeping.{Rule, Maps}
use Rattle.rewriting.specs.Computing.{some?}
use Rattle.rewriting.specs.Judging.{Ledger, open_ledger, Call, judge, judge_strike, enters, strikes, refuses, standing_answer, opening_answer}
use Rattle.rewriting.specs.Rightness.{Fits, StrikesOut, KeepsAll, StandingHolds, OpeningHolds, AnswersRight, Narrow, Proper}
use Rattle.rewriting.specs.Steps.{Query, Step}
use Rattle.rewriting.specs.Unifiers.{OneHead, UnifierStep}
use Rattle.laws.specs.Runs.{Run}
use Rattle.laws.specs.Derivations.{Family, Derivation, Offers, Entered, numbered_from}

-- what a ledger can be opened with
pub record Opened (rs : List Rule) (os : List Query) : Type 0 where
  -- a body has an atom, atoms have at most 4 terms and heads at most 4 atoms
  pub bodies : (u : Rule) → In u rs → u.body ≡ [] → ⊥
  pub narrow : (u : Rule) → In u rs → Narrow u.body
  pub heads : (u : Rule) → In u rs → (d : List (Atom Term)) → In d u.heads → (length d ≤ 4) × Narrow d
  -- a variable of a head that is not in the body is in no other head
  pub one_head : (u : Rule) → In u rs → OneHead u
  -- a query has 1 to 16 different atoms of at most 4 terms, and at most 32 variables, numbered by first appearance
  pub queries : (x : Query) → In x os → Proper x

-- what each call on the ledger s comes to
pub record CallsRight (s : Ledger) : Type 0 where
  -- a step enters n exactly when it is a disjunctive piece-unifier step on standing queries that gives n, and n fits;
  -- otherwise it is refused
  pub step_entered : (t : Step) (n : Query) → (judge s t ≡ enters n) ↔ (UnifierStep s t n × Fits s n)
  pub step_refused : (t : Step) → ((n : Query) → UnifierStep s t n → Fits s n → ⊥) → (k : ℕ) × (i : ℕ) × (judge s t ≡ refuses k i)
  -- a query a is struck for b exactly when both stand, they differ and b holds in a; otherwise it is refused
  pub strike_done : (a b : ℕ) → (judge_strike s a b ≡ strikes) ↔ StrikesOut s a b
  pub strike_refused : (a b : ℕ) → (StrikesOut s a b → ⊥) → (k : ℕ) × (i : ℕ) × (judge_strike s a b ≡ refuses k i)
  -- each question gives the lowest query that holds, or rule that is not kept, or none
  pub answers : (l : Facts) → AnswersRight s l

-- s is the ledger after the calls ks, opened with the rules rs and the queries os
pub record Law (rs : List Rule) (os : List Query) (ks : List Call) (s : Ledger) : Type 0 where
  -- no call changes what it was opened with
  pub rules_stay : s.rules ≡ rs
  pub opening_stays : s.opening ≡ os
  -- each call comes to what it should
  pub calls_right : CallsRight s
  -- on facts that keep the rules the standing question finds a query exactly when the opening question does
  pub standing_finds_what_opening_finds : (l : Facts) → KeepsAll rs l → some? (standing_answer s l) ≡ some? (opening_answer s l)
  -- if a standing query holds in facts l, an opening one holds in all facts m that keep the rules and into which l maps
  pub what_stands_is_sound : (l m : Facts) → StandingHolds s l → KeepsAll rs m → Maps l m → OpeningHolds os m
  -- a published derivation that the calls offer within the limits, with no strike done before its end, is entered to its
  -- last query
  pub offered_derivations_are_entered : (fs : List Family) → Derivation rs os fs →
      (o : Offers (open_ledger rs os) (numbered_from 0 os) ks fs) → Entered o
  -- every query, also one that a step entered, is such as a ledger can be opened with
  pub every_query_is_proper : (x : Query) → In x s.entered → Proper x

abbrev pub LawHolds : Type 0
LawHolds = (rs : List Rule) (os : List Query) → Opened rs os →
    (ks : List Call) (s : Ledger) → Run (open_ledger rs os) ks s → Law rs os ks s
