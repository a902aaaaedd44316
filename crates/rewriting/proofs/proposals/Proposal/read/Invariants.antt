use Rattle.std.proofs.Common.{◌≡◌, ℕ, ◌+◌, ◌<◌, List, get_or}
use Rattle.notation.specs.Logic.{Atom, Term}
use Rattle.rewriting.specs.Judging.{Ledger, standing}
use Rattle.rewriting.specs.Proposals.{rule_of, parts_of}
use Rattle.rewriting.specs.Steps.{nth}
use Rattle.rewriting.specs.Tables.{TiesWithin, part_ties}
use Rattle.rewriting.specs.Written.{row_standing}
use Rattle.rewriting.proofs.Parted.{Leads, no_part}
use Rattle.rewriting.proofs.proposals.Proposal.read.Given as goal

abbrev pub invariant-loop-piece : goal.invariant-loop-piece
invariant-loop-piece l = record {
  same : l.piece-iterator.proposal ≡ l.self;
  leads : (s : Ledger) (b : List (Atom Term)) → ((k : ℕ) → standing s k ≡ row_standing (nth k l.self.rows.now)) → Leads s b l.self.rows.now (rule_of l.self).heads (parts_of l.self) l.piece-iterator.next;
  ties : (j : ℕ) → j < l.piece-iterator.next → TiesWithin (part_ties (j + 0) (get_or (parts_of l.self) j no_part));
}
