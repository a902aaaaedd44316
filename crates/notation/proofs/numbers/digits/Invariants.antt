use Rattle.std.proofs.Common.{◌≡◌, ◌≤◌, length}
use Rattle.notation.specs.Numbers.{scan}
use Rattle.notation.proofs.numbers.digits.Given as goal

abbrev pub invariant-loop-s : goal.invariant-loop-s
invariant-loop-s l = (l.n ≤ 1000) × (scan l.n l.s ≡ scan 0 l.initial.s)

abbrev pub decreases-loop-s : goal.decreases-loop-s
decreases-loop-s l = length l.s
