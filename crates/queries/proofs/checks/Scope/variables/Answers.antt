use Rattle.std.proofs.Common.{ap, ◌∙◌, arith}
use Rattle.std.specs.Option.{option_map}
use Rattle.queries.specs.Checks.{all_terms}
use Rattle.queries.specs.declared.checks.Scope.{Scope}
use Rattle.queries.proofs.Loops.{scope_turn, next-scope_after}
use Rattle.queries.proofs.checks.Scope.variables.Goals as goal

pub returns-in_err-scope : goal.returns-in_err-scope
returns-in_err-scope c =
    let turn = scope_turn c.loop-a.scope c.args.atoms.now c.loop-a.a-index _ _ (omega arith) c.in_err-scope.ensures in
    rw c.from_residual.ensures (ap (option_map (λ (m : Scope). m.next)) (turn ∙ c.loop-a.invariant) ∙ next-scope_after c.args.self (all_terms c.args.atoms.now))

pub loop-a-preserved : goal.loop-a-preserved
loop-a-preserved c = scope_turn c.loop-a.scope c.args.atoms.now c.loop-a.a-index _ _ (omega arith) c.in_ok-scope.ensures ∙ c.loop-a.invariant
