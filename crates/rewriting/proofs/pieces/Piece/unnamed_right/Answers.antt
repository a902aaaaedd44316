use Rattle.std.proofs.Common.{◌<◌, sym, ◌∙◌, ⊎_elim, arith, below_more}
use Rattle.std.proofs.lemmas.Bool.{cases_Bool, both_ways}
use Rattle.rewriting.specs.Classes.{name_in, classes}
use Rattle.rewriting.specs.Judging.{ends, unnamed_right}
use Rattle.rewriting.specs.Pieces.{piece_of}
use Rattle.rewriting.specs.Steps.{Piece, Part}
use Rattle.rewriting.specs.Written.{logic_atoms, part_of}
use Rattle.rewriting.proofs.Judged.{alone_in, in_alone}
use Rattle.rewriting.proofs.Occurring.{unnamed_in, in_unnamed, unnamed_small, stand_joined, joined_stand}
use Rattle.rewriting.proofs.Search.{true_T, T_true}
use Rattle.rewriting.proofs.pieces.Piece.unnamed_right.Goals as goal

pub loop-z-preserved : goal.loop-z-preserved
loop-z-preserved c = below_more _ _ c.loop-z.invariant (λ h b. c.keeps_alone.ensures.0 c.if-not-keeps_alone.false)

pub returns-then-not-keeps_alone : goal.returns-then-not-keeps_alone
returns-then-not-keeps_alone c ts w n =
    let s = c.args.self.now in
    let b = logic_atoms c.args.body.now in
    let d = logic_atoms s.head.now in
    let qu = logic_atoms s.query.now in
    let p : Part = part_of s.part.now in
    let z = c.loop-z.z in
    let m : Piece = piece_of b s in
    let unnamed = in_unnamed b d z (sym c.if-not-occurs.false ∙ c.occurs.ensures) (sym c.if-occurs.false ∙ c.occurs-else-not-occurs.ensures) in
    ⊎_elim
    (λ e. absurd (both_ways c.keeps_alone.result c.if-not-keeps_alone.true (c.keeps_alone.ensures.1
    (joined_stand ts w c.args.classes.names n s.number z b d qu p (omega arith) (alone_in ts m (true_T e) z unnamed)))))
    (λ e. sym e)
    (cases_Bool (unnamed_right (name_in (classes ts)) (ends ts) m))

pub returns : goal.returns
returns c ts w n =
    let s = c.args.self.now in
    let b = logic_atoms c.args.body.now in
    let d = logic_atoms s.head.now in
    let qu = logic_atoms s.query.now in
    let p : Part = part_of s.part.now in
    let m : Piece = piece_of b s in
    sym (T_true (unnamed_right (name_in (classes ts)) (ends ts) m) (in_alone (name_in (classes ts)) (ends ts) m (λ z u.
    let small : z < 32 = unnamed_small b s.head.now z s.head_fits u in
    let o = unnamed_in b d z u in
    stand_joined ts w c.args.classes.names n s.number z b d qu p small (c.loop-z.invariant z (omega arith) o.0 o.1))))
