use Rattle.std.proofs.Common.{◌≡◌, ℕ, ◌<◌, true, false, vec_items}
use Rattle.rewriting.specs.Occurring.{occurs, AllMayStand}
use Rattle.rewriting.specs.Written.{logic_atoms}
use Rattle.rewriting.proofs.pieces.Piece.unnamed_right.Given as goal

abbrev pub invariant-loop-z : goal.invariant-loop-z
invariant-loop-z l = (z : ℕ) → z < l.z → occurs z (logic_atoms l.self.head.now) ≡ true → occurs z (logic_atoms l.body) ≡ false →
    AllMayStand l.classes.names l.self.number (vec_items l.self.part.now.taken) (logic_atoms l.self.query.now) z
