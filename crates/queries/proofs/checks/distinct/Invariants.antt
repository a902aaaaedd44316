use Rattle.std.proofs.Common.{◌≡◌, drop}
use Rattle.queries.specs.Checks.{distinct}
use Rattle.queries.proofs.checks.distinct.Given as goal

abbrev pub invariant-loop-i : goal.invariant-loop-i
invariant-loop-i l = distinct (drop l.i l.atoms) ≡ distinct l.atoms
