use Rattle.std.proofs.Common.{vec_items, sym, refl, ◌∙◌, arith}
use Rattle.notation.proofs.Failing.{fault_answered}
use Rattle.queries.specs.Rules.{rule_of}
use Rattle.book.specs.Opening.{rule_lists, check_rule, check_rules}
use Rattle.book.proofs.Making.{wrong_item, item_more, items_all}
use Rattle.book.proofs.ledger.lists.rules.Goals as goal

pub returns-in_err-rule : goal.returns-in_err-rule
returns-in_err-rule c =
    let p = fault_answered c.from_residual.result c.from_residual.ensures.1 in
    let arity = c.args.arity.now in
    rw (p.1, p.2) (sym c.loop-i.invariant ∙ wrong_item rule_lists rule_of (check_rule arity) (check_rules arity) (λ n. refl) (λ n r rs. refl) c.args.lists.now c.loop-i.i (vec_items c.loop-i.held) c.index-lists-i.result (omega arith) c.index-lists-i.is _ c.in_err-rule.ensures)

pub loop-i-preserved : goal.loop-i-preserved
loop-i-preserved c =
    let arity = c.args.arity.now in
    item_more rule_lists rule_of (check_rule arity) (check_rules arity) (λ n. refl) (λ n r rs. refl) c.args.lists.now c.loop-i.i (vec_items c.loop-i.held) c.index-lists-i.result (omega arith) c.index-lists-i.is c.in_ok-rule.field-0 _ c.in_ok-rule.ensures c.in_ok-push.ensures.items
    ∙ c.loop-i.invariant

pub returns : goal.returns
returns c =
    let arity = c.args.arity.now in
    sym c.loop-i.invariant ∙ items_all rule_lists rule_of (check_rule arity) (check_rules arity) (λ n. refl) (λ n r rs. refl) c.args.lists.now c.loop-i.i (vec_items c.loop-i.held) (omega arith)
