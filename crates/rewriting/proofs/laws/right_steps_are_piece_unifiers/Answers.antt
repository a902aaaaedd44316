use Rattle.rewriting.proofs.Entering.{enters_is_unifier}
use Rattle.rewriting.proofs.Apart.{read_is_apart}
use Rattle.rewriting.proofs.Unifiers.{right_is_unifier, unifier_is_right}
use Rattle.rewriting.proofs.laws.right_steps_are_piece_unifiers.Goals as goal

pub returns : goal.returns
returns c = record { right = right_is_unifier; unifier = unifier_is_right; apart = read_is_apart; enters = enters_is_unifier }
