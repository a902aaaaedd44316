use Rattle.std.proofs.Common.{◌≡◌, drop}
use Rattle.queries.specs.Checks.{each, listed}
use Rattle.queries.proofs.checks.all_listed.Given as goal

abbrev pub invariant-loop-a : goal.invariant-loop-a
invariant-loop-a l = each (listed l.arity) (drop l.a-index l.atoms) ≡ each (listed l.arity) l.atoms
