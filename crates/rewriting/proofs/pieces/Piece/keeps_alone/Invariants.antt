use Rattle.std.proofs.Common.{◌≡◌, ℕ, ◌+◌, ◌<◌, true, get_or, vec_items}
use Rattle.rewriting.specs.Occurring.{may_stand}
use Rattle.rewriting.specs.Written.{logic_atoms}
use Rattle.rewriting.proofs.pieces.Piece.keeps_alone.Given as goal

abbrev pub invariant-loop-p : goal.invariant-loop-p
invariant-loop-p l =
    (p : ℕ) → p < l.p → get_or l.name-items p 0 ≡ get_or l.name-items (1000 + l.z) 0 → may_stand l.self.number l.z (vec_items l.self.part.now.taken) (logic_atoms l.self.query.now) p ≡ true
