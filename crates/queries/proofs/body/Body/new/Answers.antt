use Rattle.std.proofs.Common.{ap, ◌∙◌}
use Rattle.queries.specs.Checks.{all_terms, numbered, next_is, fine}
use Rattle.queries.proofs.Valid.{fine_from_check, next_from_some, at_scope}
use Rattle.queries.proofs.body.Body.new.Goals as goal

pub invariant_of-result : goal.invariant_of-result
invariant_of-result c =
    let m = c.in_ok-atoms.next in
    let e = c.in_ok-atoms.ensures in
    let p = fine_from_check 8 0 0 0 c.args.arity.now c.args.atoms.now m (at_scope 8 c.args.arity.now c.args.atoms.now c.new.ensures e.next) in
    record { proper = ap (fine 8) e.held ∙ p.0; counted = ap (λ l. next_is (numbered 0 0 0 (all_terms l)) m) e.held ∙ next_from_some _ m p.1 }
