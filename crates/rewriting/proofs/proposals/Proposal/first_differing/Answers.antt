use Rattle.std.proofs.Common.{true, false, ℕ, sym, ap, ◌∙◌, arith, ◌∷◌, []}
use Rattle.rewriting.specs.Judging.{failing, sets_meet}
use Rattle.rewriting.specs.Proposals.{rule_of, parts_of}
use Rattle.rewriting.proofs.Parted.{came, ended, Rest, fail_piece, pieces_all}
use Rattle.rewriting.proofs.proposals.Proposal.first_differing.Goals as goal

pub returns-then-not-sets_meet : goal.returns-then-not-sets_meet
returns-then-not-sets_meet c f b n =
    let s = c.args.self.now in
    let it = c.loop-piece.piece-iterator in
    let is = (came s it _ _ c.in-Some.piece c.loop-piece.invariant.0 c.in-Some.is c.next.ensures.steps).0 in
    ap (λ (k : ℕ). k ∷ []) is.number
    ∙ fail_piece (sets_meet f) b s it.next c.in-Some.piece false is (sym c.if-not-sets_meet.true ∙ c.sets_meet.ensures f n)
    ∙ c.loop-piece.invariant.1 f b n

pub loop-piece-preserved : goal.loop-piece-preserved
loop-piece-preserved c =
    let s = c.args.self.now in
    let it = c.loop-piece.piece-iterator in
    let turn = came s it _ _ c.in-Some.piece c.loop-piece.invariant.0 c.in-Some.is c.next.ensures.steps in (
      turn.2,
      λ f b n.
          ap (Rest (sets_meet f) b s) turn.1
          ∙ fail_piece (sets_meet f) b s it.next c.in-Some.piece true turn.0 (sym c.if-not-sets_meet.false ∙ c.sets_meet.ensures f n)
          ∙ c.loop-piece.invariant.1 f b n,
    )

pub returns : goal.returns
returns c f b n =
    let s = c.args.self.now in
    let it = c.loop-piece.piece-iterator in
    let all = ended s it _ _ c.loop-piece.invariant.0 c.in-None.is c.next.ensures.steps in
    let pairs = s.paired in
    sym (ap (failing (sets_meet f) it.next) (pieces_all b s.rows.now (rule_of s).heads (parts_of s) it.next (omega arith))) ∙ c.loop-piece.invariant.1 f b n
