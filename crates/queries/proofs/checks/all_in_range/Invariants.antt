use Rattle.std.proofs.Common.{◌≡◌, drop}
use Rattle.queries.specs.Checks.{each, ranged}
use Rattle.queries.proofs.checks.all_in_range.Given as goal

abbrev pub invariant-loop-a : goal.invariant-loop-a
invariant-loop-a l = each ranged (drop l.a-index l.atoms) ≡ each ranged l.atoms
