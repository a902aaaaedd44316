use Rattle.std.proofs.Common.{◌<◌, ◌≤◌, map, length, vec_items, Vec, sym, ap, ◌∙◌, arith, rules}
use lib.ListN.{length-map}
use Rattle.std.specs.declared.alloc.Global.{Global}
use Rattle.std.proofs.lemmas.Bool.Decides.{nat_tests}
use Rattle.std.proofs.lemmas.Result.{err_from_is_err_and}
use Rattle.queries.specs.declared.query.Query.{Query}
use Rattle.queries.specs.Queries.{atoms_of}
use Rattle.queries.specs.Rules.{rule_of}
use Rattle.book.specs.Opening.{rule_lists, check_rules, check_queries}
use Rattle.book.proofs.Making.{lists_made, no_queries, wrong_queries, few_rules, few_queries}
use Rattle.book.proofs.ledger.Ledger.open_lists.Goals as goal

pub returns-then-is_empty : goal.returns-then-is_empty
returns-then-is_empty c =
    let arity = c.args.arity.now in
    let rs = map rule_lists c.args.rules.now in
    let made = lists_made (check_rules arity 0 rs) rs _ c.in_ok-made_rules.ensures in
    let long = length-map c.args.queries.now vec_items in
    let none : length c.args.queries.now < 1 = search rules in
    no_queries arity rs (map vec_items c.args.queries.now) (sym c.in_ok-check_arity.ensures) made.0 (omega arith)

pub returns-in_err-made_queries : goal.returns-in_err-made_queries
returns-in_err-made_queries c =
    let p = err_from_is_err_and c.from_residual-in_err-made_queries.result c.from_residual-in_err-made_queries.ensures.1 in
    let arity = c.args.arity.now in
    let rs = map rule_lists c.args.rules.now in
    let made = lists_made (check_rules arity 0 rs) rs _ c.in_ok-made_rules.ensures in
    let long = length-map c.args.queries.now vec_items in
    let some : 1 ≤ length c.args.queries.now = search rules in
    rw p.1 (wrong_queries arity rs (map vec_items c.args.queries.now) (sym c.in_ok-check_arity.ensures) made.0 (λ (v : Vec Query Global). map atoms_of (vec_items v)) _ _ (omega arith) p.2 c.in_err-made_queries.ensures)

pub of_parts-requires : goal.of_parts-requires
of_parts-requires c =
    let arity = c.args.arity.now in
    let rs = map rule_lists c.args.rules.now in
    let qs = map vec_items c.args.queries.now in
    let rules = c.in_ok-made_rules.made_rules in
    let queries = c.in_ok-made_queries.made_queries in
    let made = lists_made (check_rules arity 0 rs) rs _ c.in_ok-made_rules.ensures in
    let asked = lists_made (check_queries arity 0 qs) qs _ c.in_ok-made_queries.ensures in
    let some : 1 ≤ length c.args.queries.now = grind (arith, nat_tests, c.if-is_empty.ensures) in
    let held = ap length c.deref.ensures.value in
    let long = sym (length-map c.args.queries.now vec_items) ∙ ap length asked.1 ∙ length-map (vec_items queries) atoms_of in
    let ruled = ap length made.1 ∙ length-map (vec_items rules) rule_of in
    record {
      some = omega arith;
      few = omega (arith, few_queries arity qs asked.0, length-map c.args.queries.now vec_items);
      ruled = omega (arith, few_rules arity rs made.0, rules.ok.0);
    }
