-- The state of a ledger and its calls, as the law of runs has them.
use Rattle.std.specs.Prelude.{◌≡◌, ℕ, ◌<◌, ◌≤◌, true, false, not, List, [], ◌∷◌, ◌++◌, map, length, take, Ok, Err, Result, slice_index_or}
use Rattle.notation.specs.declared.terms.Atom.{Atom}
use Rattle.notation.specs.declared.terms.Term.{Term}
use Rattle.notation.specs.Logic.{Facts}
use Rattle.search.specs.Rules.{meant}
use Rattle.rewriting.specs.declared.refusal.StepRefusal.{StepRefusal}
use Rattle.rewriting.specs.Judging.{Ledger, Outcome, enters, strikes, refuses, Call, step, strike, ask_standing, ask_opening, ask_rules, judge, judge_strike, standing_answer, opening_answer, rule_answer, after}
use Rattle.rewriting.specs.Steps.{Step, member}
use Rattle.rewriting.specs.Written.{logic_atoms, step_of, option_list, refusal_number as step-refusal}
use Rattle.book.specs.declared.answer.Answer.{Answer}
use Rattle.book.specs.declared.answer.Answer.TheVariants as answer
use Rattle.book.specs.declared.call.Call.{Call as WrittenCall}
use Rattle.book.specs.declared.call.Call.TheVariants as call
use Rattle.book.specs.Strikes.{Book, refusal_number as strike-refusal}

-- the ledger s of the law has the rules, the queries and the standing of the book
pub record Shows (b : Book) (s : Ledger) : Type 0 where
  pub rules_are : s.rules ≡ map meant b.rules
  pub opening_is : s.opening ≡ map logic_atoms (take b.opened b.queries)
  pub entered_are : s.entered ≡ map logic_atoms b.queries
  pub standing_is : (k : ℕ) → k < length b.queries → member k s.struck ≡ not (slice_index_or b.standing k false)
  pub none_to_come : (k : ℕ) → length b.queries ≤ k → member k s.struck ≡ false

-- the book with one query more, which stands
abbrev pub entered : Book → List (Atom Term) → Book
entered b n = record { rules = b.rules; opened = b.opened; queries = b.queries ++ n ∷ []; standing = b.standing ++ true ∷ [] }

-- what a step answers, and the book afterwards: the outcome of judging it, for every ledger that the book shows; an
-- entered query takes the next number and stands, and a refusal changes nothing
abbrev pub Steps : Book → Step → Result ℕ StepRefusal → Book → Type 0
Steps b t (Ok k) new = (k ≡ length b.queries) × (n : List (Atom Term)) × (new ≡ entered b n) × ((s : Ledger) → Shows b s → judge s t ≡ enters (logic_atoms n))
Steps b t (Err e) new = (new ≡ b) × ((s : Ledger) → Shows b s → judge s t ≡ refuses (step-refusal e).0 (step-refusal e).1)

-- a call, with the facts that a question is put to
abbrev pub call_of : Facts → WrittenCall → Call
call_of l (call.Step t) = step (step_of t)
call_of l (call.Strike a b) = strike a b
call_of l call.Standing = ask_standing l
call_of l call.Opening = ask_opening l
call_of l call.Rules = ask_rules l

-- ---------------------------------------------------------------- what is told of a call

-- the number of the query entered or struck; the number and the place of a refusal; the number that a question gives, or none
pub data Told : Type 0 where
  entered_as : ℕ → Told
  struck : ℕ → Told
  refused : ℕ → ℕ → Told
  found : List ℕ → Told

-- what an answer tells
abbrev pub told_of : Answer → Told
told_of (answer.Entered k) = entered_as k
told_of (answer.StepRefused e) = refused (step-refusal e).0 (step-refusal e).1
told_of (answer.Struck k) = struck k
told_of (answer.StrikeRefused e) = refused (strike-refusal e).0 (strike-refusal e).1
told_of (answer.Found o) = found (option_list o)

-- what is told of an outcome: a step enters its query as number n, a strike strikes query n
abbrev pub tell : ℕ → Outcome → Told
tell n (enters x) = entered_as n
tell n strikes = struck n
tell n (refuses k i) = refused k i

-- what is told of a call on the ledger s
abbrev pub telling : Ledger → Call → Told
telling s (step t) = tell (length s.entered) (judge s t)
telling s (strike a b) = tell a (judge_strike s a b)
telling s (ask_standing l) = found (standing_answer s l)
telling s (ask_opening l) = found (opening_answer s l)
telling s (ask_rules l) = found (rule_answer s l)

-- what is told of the calls, one after the other
abbrev pub tellings : Ledger → List Call → List Told
tellings s [] = []
tellings s (k ∷ ks) = telling s k ∷ tellings (after s k) ks
