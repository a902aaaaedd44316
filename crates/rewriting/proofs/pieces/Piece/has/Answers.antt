use Rattle.std.proofs.Common.{sym, ◌∙◌, ap₂}
use Rattle.rewriting.specs.Judging.{has_ref}
use Rattle.rewriting.proofs.Turns.{or_second}
use Rattle.rewriting.proofs.pieces.Piece.has.Goals as goal

pub returns-else-has : goal.returns-else-has
returns-else-has c =
    or_second _ _ _
    (sym c.if-has.false ∙ c.has.ensures ∙ ap₂ has_ref c.of_end-x.ensures (c.taken.ensures.meant))
    (c.has-else-has.ensures ∙ ap₂ has_ref c.of_end-x.ensures (c.named.ensures))
