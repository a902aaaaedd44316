-- Ledgers that go wrong, and how the law leaves no room for them.
use Rattle.std.specs.Prelude.{◌≡◌, List, [], ◌∷◌, ℕ}
use Rattle.notation.specs.Logic.{Facts}
use Rattle.search.specs.Holding.{Holds}
use Rattle.search.specs.Keeping.{Keeps, Rule}
use Rattle.rewriting.specs.Examples.{p1, v0}
use Rattle.rewriting.specs.Judging.{Ledger, open_ledger, enter, strike_out, Call, step, strike, standing_answer, rule_answer}
use Rattle.rewriting.specs.Rightness.{RightStep, Fits, StrikesOut, Stands, AnswersRight}
use Rattle.rewriting.specs.Steps.{Query, Step, nth}
use Rattle.laws.specs.Law.{Law}
use Rattle.laws.specs.Runs.{Does}

-- one query, opened with no rules
abbrev pub one_opened : List Query
one_opened = (p1 1 v0 ∷ []) ∷ []

pub record WrongLedgersBreak : Type 0 where
  -- the law holds, after whatever calls, of no ledger that has a query that no step gives, or has struck one that no other stands for
  pub entered_what_no_step_gives : (ks : List Call) → Law [] one_opened ks (enter (open_ledger [] one_opened) (p1 3 v0 ∷ [])) → ⊥
  pub struck_what_stood_alone : (ks : List Call) → Law [] one_opened ks (strike_out (open_ledger [] one_opened) 0) → ⊥
  -- a right step that fits, also the last for which there is room, is not without effect, and enters no other query
  pub refused_a_right_step : (s : Ledger) (t : Step) (n : Query) → RightStep s t n → Fits s n → Does s (step t) s → ⊥
  pub entered_another_query : (s : Ledger) (t : Step) (n m : Query) → RightStep s t n → Fits s n → Does s (step t) (enter s m) → m ≡ n
  -- a step that is not right enters nothing
  pub entered_without_a_right_step : (s : Ledger) (t : Step) (n : Query) → ((m : Query) → RightStep s t m → ⊥) → Does s (step t) (enter s n) → ⊥
  -- a strike that is due is done, and one that is not due is not
  pub refused_a_due_strike : (s : Ledger) (a b : ℕ) → StrikesOut s a b → Does s (strike a b) s → ⊥
  pub struck_when_not_due : (s : Ledger) (a b : ℕ) → (StrikesOut s a b → ⊥) → Does s (strike a b) (strike_out s a) → ⊥
  -- none is no answer where a standing query holds, nor where a rule is not kept
  pub found_none_though_one_holds : (s : Ledger) (l : Facts) (n : ℕ) (x : Query) → AnswersRight s l → Stands s n x → Holds x l → standing_answer s l ≡ [] → ⊥
  pub said_kept_though_one_is_not : (s : Ledger) (l : Facts) (n : ℕ) (x : Rule) → AnswersRight s l → nth n s.rules ≡ x ∷ [] → (Keeps x l → ⊥) → rule_answer s l ≡ [] → ⊥
