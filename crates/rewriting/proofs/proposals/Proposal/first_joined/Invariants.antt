use Rattle.std.proofs.Common.{◌≡◌, drop}
use Rattle.rewriting.specs.Classes.{name_in, classes}
use Rattle.rewriting.specs.Judging.{failing, unnamed_right, ends}
use Rattle.rewriting.specs.Proposals.{rule_of, parts_of, pieces_of}
use Rattle.rewriting.specs.Steps.{Ties}
use Rattle.rewriting.specs.Tables.{Names, TiesWithin}
use Rattle.rewriting.specs.Written.{logic_atoms, pieces_from}
use Rattle.rewriting.proofs.proposals.Proposal.first_joined.Given as goal

abbrev pub invariant-loop-piece : goal.invariant-loop-piece
invariant-loop-piece l =
    let i = l.piece-iterator.next in
    (l.piece-iterator.proposal ≡ l.self) × ((ts : Ties) → TiesWithin ts → Names l.classes.names (name_in (classes ts)) →
    failing (unnamed_right (name_in (classes ts)) (ends ts)) i (pieces_from (logic_atoms l.body) l.self.rows.now i (drop i (rule_of l.self).heads) (drop i (parts_of l.self)))
    ≡ failing (unnamed_right (name_in (classes ts)) (ends ts)) 0 (pieces_of (logic_atoms l.body) l.self))
