-- The parts of a proposed step, as the definitions have them.
use Rattle.std.specs.Prelude.{◌≡◌, ℕ, ◌+◌, ◌<◌, ◌≤◌, List, [], map, length, slice_index_or, Option, Some, None}
use Rattle.notation.specs.Logic.{Term, Atom}
use Rattle.queries.specs.Rules.{heads_of}
use Rattle.search.specs.Keeping.{Rule}
use Rattle.rewriting.specs.declared.pieces.Piece.{Piece as WrittenPiece}
use Rattle.rewriting.specs.declared.piecewise.Pieces.{Pieces}
use Rattle.rewriting.specs.declared.proposals.Proposal.{Proposal}
use Rattle.rewriting.specs.Steps.{Ref, Ties, Part, Piece}
use Rattle.rewriting.specs.Tables.{ties_from}
use Rattle.rewriting.specs.Written.{part_of, rule_meant, pieces_from, left_of, row_at}

abbrev pub rule_of : Proposal → Rule
rule_of p = rule_meant p.rule.now

abbrev pub parts_of : Proposal → List Part
parts_of p = map part_of p.parts.now

abbrev pub ties_of : Proposal → Ties
ties_of p = ties_from 0 (parts_of p)

-- its pieces, for the body b
abbrev pub pieces_of : List (Atom Term) → Proposal → List Piece
pieces_of b p = pieces_from b p.rows.now 0 (rule_of p).heads (parts_of p)

-- the body and then, part by part, the atoms that are left
abbrev pub all_left : Proposal → List (Atom Ref)
all_left p = left_of (rule_of p).body p.rows.now (parts_of p)

-- q is the piece with the number i
abbrev pub PieceAt : Proposal → ℕ → WrittenPiece → Type 0
PieceAt p i q = record {
  below : i < length p.parts.now;
  number : q.number ≡ i;
  head : q.head.now ≡ slice_index_or (heads_of p.rule.now) i [];
  query : q.query.now ≡ row_at p.rows.now q.part.now.query;
  part : q.part.now ≡ slice_index_or p.parts.now i q.part.now;
}

-- the piece that comes next, or none after the last
abbrev pub GivesPiece : Pieces → Option WrittenPiece → Pieces → Type 0
GivesPiece a r b = record {
  same : b.proposal ≡ a.proposal;
  more : (q : WrittenPiece) → r ≡ Some q → PieceAt a.proposal a.next q × (b.next ≡ a.next + 1);
  end : r ≡ None → length a.proposal.parts.now ≤ a.next;
}
