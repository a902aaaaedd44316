use Rattle.std.proofs.Common.{ℕ, ◌<◌, ◌≤◌, List, map, length, Ok, vec_items, Result, sym, ap, ◌∙◌, arith, rules}
use lib.ListN.{length-map}
use Rattle.std.proofs.lemmas.Result.{err_from_is_err_and}
use Rattle.notation.specs.declared.faults.LineFault.{LineFault}
use Rattle.notation.specs.declared.terms.Atom.{Atom}
use Rattle.notation.specs.declared.terms.Term.{Term}
use Rattle.notation.specs.Reading.{carry}
use Rattle.queries.specs.Checks.{check_atoms}
use Rattle.book.specs.Opening.{room}
use Rattle.book.proofs.Making.{heads_begun, same_body, no_head, with_head}
use Rattle.book.proofs.ledger.lists.rule.Goals as goal

abbrev answer : List ℕ → ℕ → List (Atom Term) → Result (List (Atom Term)) LineFault
answer arity n b = carry (λ e. e) (check_atoms (room 32 n 8) 0 0 0 arity b) (λ _. Ok b)

pub returns-in_default : goal.returns-in_default
returns-in_default c =
    let lists = c.args.lists.now in
    let hs = vec_items lists.heads in
    let begun = c.in_ok-body.ensures ∙ ap (answer c.args.arity.now c.args.n) c.deref.ensures.value in
    let same = ap length c.as_slice.ensures.value in
    let long = length-map hs vec_items in
    let none : length c.as_slice.result.now < 1 = search rules in
    sym (no_head c.args.arity.now c.args.n (vec_items lists.body) (map vec_items hs) _ begun (omega arith))

pub returns-in_err-whole : goal.returns-in_err-whole
returns-in_err-whole c =
    let p = err_from_is_err_and c.from_residual-in_err-whole.result c.from_residual-in_err-whole.ensures.1 in
    let arity = c.args.arity.now in
    let n = c.args.n in
    let lists = c.args.lists.now in
    let b = vec_items lists.body in
    let hs = vec_items lists.heads in
    let begun = c.in_ok-body.ensures ∙ ap (answer arity n) c.deref.ensures.value in
    let same = ap length c.as_slice.ensures.value in
    let long = length-map hs vec_items in
    let some : 1 ≤ length c.as_slice.result.now = search rules in
    let more = heads_begun vec_items arity b _ _ _ _ c.first-item.result _ hs (same_body arity n b (map vec_items hs) _ begun) c.in_ok-begun.ensures c.deref-2.ensures.value c.first-item.is (omega arith) c.as_slice.ensures.value in
    rw (p.1, p.2) (sym (with_head arity n b (map vec_items hs) _ begun _ (omega arith) (c.in_err-whole.ensures ∙ more)))

pub returns : goal.returns
returns c =
    let arity = c.args.arity.now in
    let n = c.args.n in
    let lists = c.args.lists.now in
    let b = vec_items lists.body in
    let hs = vec_items lists.heads in
    let begun = c.in_ok-body.ensures ∙ ap (answer arity n) c.deref.ensures.value in
    let same = ap length c.as_slice.ensures.value in
    let long = length-map hs vec_items in
    let some : 1 ≤ length c.as_slice.result.now = search rules in
    let more = heads_begun vec_items arity b _ _ _ _ c.first-item.result _ hs (same_body arity n b (map vec_items hs) _ begun) c.in_ok-begun.ensures c.deref-2.ensures.value c.first-item.is (omega arith) c.as_slice.ensures.value in
    sym (with_head arity n b (map vec_items hs) _ begun _ (omega arith) (c.in_ok-whole.ensures ∙ more))
