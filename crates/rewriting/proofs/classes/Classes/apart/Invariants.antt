use Rattle.std.proofs.Common.{◌≡◌, ℕ, ◌<◌, length, get_or}
use Rattle.rewriting.proofs.classes.Classes.apart.Given as goal

abbrev pub invariant-loop-name : goal.invariant-loop-name
invariant-loop-name l = (l.place ≡ l.name-index) × (length l.name-items ≡ 1160) × ((k : ℕ) → k < l.name-index → get_or l.name-items k 0 ≡ k)
