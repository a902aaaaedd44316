use Rattle.std.proofs.Common.{ℕ, List, Ok, vec_items, Result, sym, refl, ap, ◌∙◌, arith}
use Rattle.notation.proofs.Failing.{fault_answered}
use Rattle.notation.specs.declared.faults.LineFault.{LineFault}
use Rattle.notation.specs.declared.terms.Atom.{Atom}
use Rattle.notation.specs.declared.terms.Term.{Term}
use Rattle.notation.specs.Reading.{carry}
use Rattle.queries.specs.Checks.{check_atoms}
use Rattle.queries.specs.Queries.{atoms_of}
use Rattle.book.specs.Opening.{room, check_queries}
use Rattle.book.proofs.Making.{wrong_item, item_more, items_all}
use Rattle.book.proofs.ledger.lists.queries.Goals as goal

abbrev one : List ℕ → ℕ → List (Atom Term) → Result ℕ LineFault
one arity n q = check_atoms (room 64 n 16) 0 0 0 arity q

abbrev answer : List ℕ → ℕ → List (Atom Term) → Result (List (Atom Term)) LineFault
answer arity n q = carry (λ e. e) (one arity n q) (λ _. Ok q)

pub returns-in_err-query : goal.returns-in_err-query
returns-in_err-query c =
    let p = fault_answered c.from_residual.result c.from_residual.ensures.1 in
    let arity = c.args.arity.now in
    let i = c.loop-i.i in
    rw (p.1, p.2) (sym c.loop-i.invariant ∙ wrong_item vec_items atoms_of (one arity) (check_queries arity) (λ n. refl) (λ n q qs. refl) c.args.lists.now i (vec_items c.loop-i.held) c.index-lists-i.result (omega arith) c.index-lists-i.is _ (c.in_err-query.ensures ∙ ap (answer arity i) c.deref.ensures.value))

pub loop-i-preserved : goal.loop-i-preserved
loop-i-preserved c =
    let arity = c.args.arity.now in
    let i = c.loop-i.i in
    item_more vec_items atoms_of (one arity) (check_queries arity) (λ n. refl) (λ n q qs. refl) c.args.lists.now i (vec_items c.loop-i.held) c.index-lists-i.result (omega arith) c.index-lists-i.is c.in_ok-query.field-0 _ (c.in_ok-query.ensures ∙ ap (answer arity i) c.deref.ensures.value) c.in_ok-push.ensures.items
    ∙ c.loop-i.invariant

pub returns : goal.returns
returns c =
    let arity = c.args.arity.now in
    sym c.loop-i.invariant ∙ items_all vec_items atoms_of (one arity) (check_queries arity) (λ n. refl) (λ n q qs. refl) c.args.lists.now c.loop-i.i (vec_items c.loop-i.held) (omega arith)
