use Rattle.std.proofs.Common.{true, false, ℕ, List, [], ◌∷◌, sym, ap, ◌∙◌, arith}
use Rattle.notation.specs.declared.terms.Term.{Term}
use Rattle.notation.specs.declared.terms.Atom.{Atom}
use Rattle.rewriting.specs.Classes.{name_in, classes}
use Rattle.rewriting.specs.Judging.{failing, unnamed_right, ends}
use Rattle.rewriting.specs.Proposals.{rule_of, parts_of, pieces_of}
use Rattle.rewriting.specs.Written.{logic_atoms}
use Rattle.rewriting.proofs.Parted.{came, ended, Rest, fail_piece, pieces_all}
use Rattle.rewriting.proofs.proposals.Proposal.first_joined.Goals as goal

pub returns-then-not-unnamed_right : goal.returns-then-not-unnamed_right
returns-then-not-unnamed_right c ts w n =
    let s = c.args.self.now in
    let it = c.loop-piece.piece-iterator in
    let is = (came s it _ _ c.in-Some.piece c.loop-piece.invariant.0 c.in-Some.is c.next.ensures.steps).0 in
    ap (λ (k : ℕ). k ∷ []) is.number
    ∙ fail_piece (unnamed_right (name_in (classes ts)) (ends ts)) (logic_atoms c.body-body.result.now) s it.next c.in-Some.piece false is
    (sym c.if-not-unnamed_right.true ∙ c.unnamed_right.ensures ts w n)
    ∙ c.loop-piece.invariant.1 ts w n
    ∙ ap (λ (b : List (Atom Term)). failing (unnamed_right (name_in (classes ts)) (ends ts)) 0 (pieces_of (logic_atoms b) s)) c.body-body.ensures

pub loop-piece-preserved : goal.loop-piece-preserved
loop-piece-preserved c =
    let s = c.args.self.now in
    let b = logic_atoms c.body-body.result.now in
    let it = c.loop-piece.piece-iterator in
    let turn = came s it _ _ c.in-Some.piece c.loop-piece.invariant.0 c.in-Some.is c.next.ensures.steps in (
      turn.2,
      λ ts w n.
          ap (Rest (unnamed_right (name_in (classes ts)) (ends ts)) b s) turn.1
          ∙ fail_piece (unnamed_right (name_in (classes ts)) (ends ts)) b s it.next c.in-Some.piece true turn.0 (sym c.if-not-unnamed_right.false ∙ c.unnamed_right.ensures ts w n)
          ∙ c.loop-piece.invariant.1 ts w n,
    )

pub returns : goal.returns
returns c ts w n =
    let s = c.args.self.now in
    let it = c.loop-piece.piece-iterator in
    let all = ended s it _ _ c.loop-piece.invariant.0 c.in-None.is c.next.ensures.steps in
    let pairs = s.paired in
    sym (ap (failing (unnamed_right (name_in (classes ts)) (ends ts)) it.next) (pieces_all (logic_atoms c.body-body.result.now) s.rows.now (rule_of s).heads (parts_of s) it.next (omega arith)))
    ∙ c.loop-piece.invariant.1 ts w n
    ∙ ap (λ (b : List (Atom Term)). failing (unnamed_right (name_in (classes ts)) (ends ts)) 0 (pieces_of (logic_atoms b) s)) c.body-body.ensures
