use Rattle.std.proofs.Common.{◌≤◌, length, vec_items, vec_len}
use Rattle.sources.proofs.Lines.{Reached}
use Rattle.sources.proofs.text.read.Given as goal

abbrev pub invariant-loop-line : goal.invariant-loop-line
invariant-loop-line l = (vec_len l.facts ≤ 65535) × Reached l.text (vec_items l.facts) l.left

abbrev pub decreases-loop-line : goal.decreases-loop-line
decreases-loop-line l = length l.left
