use Rattle.std.proofs.Common.{◌≡◌, List, drop}
use Rattle.notation.specs.Logic.{Atom, Term}
use Rattle.rewriting.specs.Judging.{failing, sets_meet}
use Rattle.rewriting.specs.Proposals.{rule_of, parts_of, pieces_of}
use Rattle.rewriting.specs.Steps.{Ref}
use Rattle.rewriting.specs.Tables.{Names}
use Rattle.rewriting.specs.Written.{pieces_from}
use Rattle.rewriting.proofs.proposals.Proposal.first_differing.Given as goal

abbrev pub invariant-loop-piece : goal.invariant-loop-piece
invariant-loop-piece l =
    let i = l.piece-iterator.next in
    (l.piece-iterator.proposal ≡ l.self) × ((f : Ref → Ref) (b : List (Atom Term)) → Names l.classes.names f →
    failing (sets_meet f) i (pieces_from b l.self.rows.now i (drop i (rule_of l.self).heads) (drop i (parts_of l.self))) ≡ failing (sets_meet f) 0 (pieces_of b l.self))
