use Rattle.std.proofs.Common.{ap, ◌∙◌}
use Rattle.queries.specs.Checks.{valid}
use Rattle.queries.proofs.Valid.{valid_from_check, at_scope}
use Rattle.queries.proofs.query.Query.new.Goals as goal

pub invariant_of-result : goal.invariant_of-result
invariant_of-result c =
    let e = c.in_ok-atoms.ensures in
    record { proper = ap valid e.held ∙ valid_from_check c.args.arity.now c.args.atoms.now _ (at_scope 16 c.args.arity.now c.args.atoms.now c.new.ensures e.next) }
