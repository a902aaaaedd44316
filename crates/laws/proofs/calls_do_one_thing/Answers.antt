use Rattle.laws.proofs.Calls.{calls_do, runs_do}
use Rattle.laws.proofs.calls_do_one_thing.Goals as goal

pub returns : goal.returns
returns c = record { calls = calls_do; runs = runs_do }
