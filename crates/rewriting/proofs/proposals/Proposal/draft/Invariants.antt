use Rattle.std.proofs.Common.{◌≡◌, true, map, take}
use Rattle.rewriting.specs.Drafts.{Adds}
use Rattle.rewriting.specs.Written.{part_of, untaken_from}
use Rattle.rewriting.proofs.proposals.Proposal.draft.Given as goal

abbrev pub invariant-loop-piece : goal.invariant-loop-piece
invariant-loop-piece l = (l.piece-iterator.proposal ≡ l.self) × (Adds true l.classes.names (untaken_from 0 l.self.rows.now (map part_of (take l.piece-iterator.next l.self.parts.now))) l.initial.query l.query)
