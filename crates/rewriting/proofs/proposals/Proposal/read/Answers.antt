use Rattle.std.proofs.Common.{◌≡◌, ℕ, ◌+◌, ◌<◌, true, List, get_or, sym, ap, ◌∙◌, subst, ap₂, arith, below_more}
use lib.ListN.{length-map}
use Rattle.std.proofs.lemmas.Result.{err_from_is_err_and}
use Rattle.std.proofs.lemmas.List.{get_or-map}
use Rattle.notation.specs.Logic.{Term, Atom}
use Rattle.queries.specs.Rules.{heads_of}
use Rattle.queries.specs.declared.row.Row.{Row}
use Rattle.rewriting.specs.declared.pieces.Piece.{Piece as WrittenPiece}
use Rattle.rewriting.specs.Judging.{Read, part_read, part_tested}
use Rattle.rewriting.specs.Pieces.{piece_of}
use Rattle.rewriting.specs.Proposals.{rule_of, parts_of}
use Rattle.rewriting.specs.Steps.{Part, Piece, nth, piece}
use Rattle.rewriting.specs.Tables.{TiesWithin, part_ties}
use Rattle.rewriting.specs.Written.{logic_atoms, part_of, row_at, row_standing}
use Rattle.rewriting.proofs.Parted.{Leads, came, ended, head_is, part_is, piece_is, leads_more, leads_refused, leads_all, ties_all, no_part}
use Rattle.rewriting.proofs.proposals.Proposal.read.Goals as goal

-- what was read of the piece with the number i, and what was refused
read_at : (q : WrittenPiece) (rows : List Row) (i : ℕ) (b : List (Atom Term)) (rest : Read) → q.number ≡ i → q.query.now ≡ row_at rows q.part.now.query →
    part_read q.number b (logic_atoms q.head.now) (part_of q.part.now) (row_standing (nth q.part.now.query rows)) rest ≡ part_tested true true q.number (piece_of b q) rest →
    part_read i b (logic_atoms q.head.now) (part_of q.part.now) (row_standing (nth q.part.now.query rows)) rest
    ≡ part_tested true true i (piece i b (logic_atoms q.head.now) (logic_atoms (row_at rows q.part.now.query)) (part_of q.part.now)) rest
read_at q rows i b rest number query e =
    ap (λ k. part_read k b (logic_atoms q.head.now) (part_of q.part.now) (row_standing (nth q.part.now.query rows)) rest) (sym number)
    ∙ e ∙ ap₂ (λ (k : ℕ) (m : Piece). part_tested true true k m rest) number (piece_is q rows i b number query)

pub read-requires : goal.read-requires
read-requires c =
    let s = c.args.self.now in
    let q = c.in-Some.piece in
    (came s c.loop-piece.piece-iterator _ _ q c.loop-piece.invariant.same c.in-Some.is c.next.ensures.steps).0.query

pub returns-in_err-read : goal.returns-in_err-read
returns-in_err-read c =
    let p = err_from_is_err_and c.from_residual.result c.from_residual.ensures.1 in
    let s = c.args.self.now in
    let q = c.in-Some.piece in
    let w = q.part.now in
    let is = (came s c.loop-piece.piece-iterator _ _ q c.loop-piece.invariant.same c.in-Some.is c.next.ensures.steps).0 in
    let lt = is.below in
    let i = c.loop-piece.piece-iterator.next in
    let m = length-map s.parts.now part_of in
    let pairs = s.paired in
    record {
      read = λ l b st. rw (p.1, p.2)
          (leads_refused l b s.rows.now (rule_of s).heads (parts_of s) i (logic_atoms q.head.now) (part_of w) st
          (omega arith) (omega arith) (ap logic_atoms is.head ∙ head_is (heads_of s.rule.now) i) (part_is s.parts.now i w (omega arith) is.part)
          _ _ (λ rest. ap (λ k. part_read k b (logic_atoms q.head.now) (part_of w) (row_standing (nth w.query s.rows.now)) rest) (sym is.number) ∙ c.in_err-read.ensures.read b rest)
          (c.loop-piece.invariant.leads l b st));
      ties = rw p.1 tt;
    }

pub loop-piece-preserved : goal.loop-piece-preserved
loop-piece-preserved c =
    let s = c.args.self.now in
    let q = c.in-Some.piece in
    let w = q.part.now in
    let turn = came s c.loop-piece.piece-iterator _ _ q c.loop-piece.invariant.same c.in-Some.is c.next.ensures.steps in
    let is = turn.0 in
    let lt = is.below in
    let i = c.loop-piece.piece-iterator.next in
    let m = length-map s.parts.now part_of in
    let pairs = s.paired in
    record {
      same = turn.2;
      leads = λ l b st.
          subst (Leads l b s.rows.now (rule_of s).heads (parts_of s)) (sym turn.1)
          (leads_more l b s.rows.now (rule_of s).heads (parts_of s) i (logic_atoms q.head.now) (part_of w) st
          (omega arith) (omega arith) (ap logic_atoms is.head ∙ head_is (heads_of s.rule.now) i) (part_is s.parts.now i w (omega arith) is.part)
          (λ rest. read_at q s.rows.now i b rest is.number is.query (c.in_ok-read.ensures.read b rest)) (c.loop-piece.invariant.leads l b st));
      ties = subst (λ k. (j : ℕ) → j < k → TiesWithin (part_ties (j + 0) (get_or (parts_of s) j no_part))) (sym turn.1)
          (below_more (λ j. TiesWithin (part_ties (j + 0) (get_or (parts_of s) j no_part))) i c.loop-piece.invariant.ties
          (let e : part_of w ≡ get_or (parts_of s) i no_part = ap part_of is.part ∙ sym (get_or-map part_of s.parts.now i w no_part (omega arith)) in
          let n : q.number ≡ i + 0 = is.number ∙ omega arith in
          subst (λ k. TiesWithin (part_ties k (get_or (parts_of s) i no_part))) n
          (subst (λ (v : Part). TiesWithin (part_ties q.number v)) e c.in_ok-read.ensures.ties)));
    }

pub returns : goal.returns
returns c =
    let s = c.args.self.now in
    let m = length-map s.parts.now part_of in
    let pairs = s.paired in
    let all = ended s c.loop-piece.piece-iterator _ _ c.loop-piece.invariant.same c.in-None.is c.next.ensures.steps in
    record {
      read = λ l b st. leads_all l b s.rows.now (rule_of s).heads (parts_of s) c.loop-piece.piece-iterator.next (omega arith) (omega arith) (c.loop-piece.invariant.leads l b st);
      ties = ties_all 0 (parts_of s) (λ j l. c.loop-piece.invariant.ties j (omega arith));
    }
