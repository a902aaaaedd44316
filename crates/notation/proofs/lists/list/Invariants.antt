use Rattle.std.proofs.Common.{◌≡◌, length, vec_items}
use Rattle.notation.specs.Lists.{read_list}
use Rattle.notation.proofs.Pieces.{after_items}
use Rattle.notation.proofs.lists.list.Given as goal

abbrev pub invariant-loop-piece : goal.invariant-loop-piece
invariant-loop-piece g l = after_items (vec_items l.items) (read_list g.T.Item.item_of l.separator l.left) ≡ read_list g.T.Item.item_of l.separator l.s

abbrev pub decreases-loop-piece : goal.decreases-loop-piece
decreases-loop-piece g l = length l.left
