use Rattle.rewriting.proofs.Sounding.{steps_are_sound}
use Rattle.rewriting.proofs.laws.right_steps_are_sound.Goals as goal

pub returns : goal.returns
returns c = steps_are_sound
