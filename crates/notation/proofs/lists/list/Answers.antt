use Rattle.std.proofs.Common.{Ok, vec_items, sym, ap, ◌∙◌}
use Rattle.notation.specs.Lists.{read_list}
use Rattle.notation.proofs.Failing.{fault_answered}
use Rattle.notation.proofs.Pieces.{after_items, item_read, item_fault, last_read, pieces_more, pieces_end, cut_shorter}
use Rattle.notation.proofs.lists.list.Goals as goal

pub loop-piece-preserved : goal.loop-piece-preserved
loop-piece-preserved g c =
    let f = g.T.Item.item_of in
    let by = c.args.separator in
    let rest = c.in-Some.rest.now in
    ap (λ ys. after_items ys (read_list f by rest)) c.in_ok-push.ensures.items
    ∙ item_read f by c.loop-piece.left.now c.in-Some.piece.now rest (vec_items c.loop-piece.items) c.in_ok-read.field-0 (pieces_more by _ _ _ c.in-Some.ensures) c.in_ok-read.ensures
    ∙ c.loop-piece.invariant

pub loop-piece-smaller : goal.loop-piece-smaller
loop-piece-smaller g c = cut_shorter c.args.separator c.loop-piece.left.now c.in-Some.piece.now c.in-Some.rest.now c.in-Some.ensures

pub returns-in_err-read : goal.returns-in_err-read
returns-in_err-read g c =
    let p = fault_answered c.from_residual.result c.from_residual.ensures.1 in
    rw (p.1, p.2) (sym (item_fault g.T.Item.item_of c.args.separator c.loop-piece.left.now c.in-Some.piece.now _ (vec_items c.loop-piece.items) _ (pieces_more c.args.separator _ _ _ c.in-Some.ensures) c.in_err-read.ensures ∙ c.loop-piece.invariant))

pub returns-in_err-read-2 : goal.returns-in_err-read-2
returns-in_err-read-2 g c =
    let p = fault_answered c.from_residual-in_err-read-2.result c.from_residual-in_err-read-2.ensures.1 in
    rw (p.1, p.2) (sym (item_fault g.T.Item.item_of c.args.separator c.loop-piece.left.now c.loop-piece.left.now _ (vec_items c.loop-piece.items) _ (pieces_end c.args.separator _ c.in_default.ensures) c.in_err-read-2.ensures ∙ c.loop-piece.invariant))

pub returns : goal.returns
returns g c =
    sym (
    ap Ok c.in_ok-push-2.ensures.items
    ∙ last_read g.T.Item.item_of c.args.separator c.loop-piece.left.now (vec_items c.loop-piece.items) c.in_ok-read-2.field-0 (pieces_end c.args.separator _ c.in_default.ensures) c.in_ok-read-2.ensures
    ∙ c.loop-piece.invariant)
