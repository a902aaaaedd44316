use Rattle.rewriting.proofs.Judged.{judge_is_right, strike_is_right}
use Rattle.rewriting.proofs.Questions.{answers_right}
use Rattle.rewriting.proofs.Search.{search_is_right, rule_check_is_right}
use Rattle.rewriting.proofs.laws.outcomes_are_right.Goals as goal

pub returns : goal.returns
returns c = record { steps = judge_is_right; strikes = strike_is_right; answers = answers_right; search = search_is_right; rules = rule_check_is_right }
