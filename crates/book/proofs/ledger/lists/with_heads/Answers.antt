use Rattle.std.proofs.Common.{map, Ok, vec_items, sym, ap, ◌∙◌, append-nil, arith}
use Rattle.std.proofs.lemmas.List.{at_drop_all}
use Rattle.std.proofs.lemmas.Result.{err_from_is_err_and}
use Rattle.queries.specs.Heads.{body_atoms}
use Rattle.queries.specs.RuleChecks.{add_head}
use Rattle.queries.specs.Rules.{heads_of}
use Rattle.book.proofs.Making.{heads_left, wrong_head, head_more}
use Rattle.book.proofs.ledger.lists.with_heads.Goals as goal

pub returns-in_err-add : goal.returns-in_err-add
returns-in_err-add c =
    let p = err_from_is_err_and c.from_residual.result c.from_residual.ensures.1 in
    let arity = c.args.arity.now in
    let b = body_atoms c.args.rule.body in
    let hs = heads_of c.loop-head.rule in
    let x = c.head-item.result in
    let bad = ap (λ as'. add_head arity b hs as') (sym c.deref.ensures.value) ∙ ap (λ d. add_head arity (body_atoms d) hs c.deref.result.now) (sym c.loop-head.invariant.0) ∙ c.in_err-add.ensures.1 in
    rw (p.1, p.2) (sym (wrong_head arity b vec_items hs c.args.heads.now c.loop-head.head-index x (omega arith) c.head-item.is _ bad) ∙ c.loop-head.invariant.1)

pub loop-head-preserved : goal.loop-head-preserved
loop-head-preserved c =
    let arity = c.args.arity.now in
    let b = body_atoms c.args.rule.body in
    let hs = heads_of c.loop-head.rule in
    let x = c.head-item.result in
    let good = ap (λ as'. add_head arity b hs as') (sym c.deref.ensures.value) ∙ ap (λ d. add_head arity (body_atoms d) hs c.deref.result.now) (sym c.loop-head.invariant.0) ∙ c.in_ok-add.ensures.1 in
    (c.in_ok-add.ensures.0 ∙ c.loop-head.invariant.0, head_more arity b vec_items hs c.args.heads.now c.loop-head.head-index x (omega arith) c.head-item.is _ good ∙ c.loop-head.invariant.1)

pub returns : goal.returns
returns c =
    let b = body_atoms c.args.rule.body in
    let hs = heads_of c.loop-head.rule in
    ap (λ d. Ok (body_atoms d, hs)) c.loop-head.invariant.0
    ∙ ap (λ l. Ok (b, l)) (sym (append-nil hs))
    ∙ sym (at_drop_all (λ l. heads_left c.args.arity.now b hs (map vec_items l)) c.args.heads.now c.loop-head.head-index (omega arith))
    ∙ c.loop-head.invariant.1
