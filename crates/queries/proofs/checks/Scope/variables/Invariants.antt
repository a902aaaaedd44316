use Rattle.std.proofs.Common.{◌≡◌, drop}
use Rattle.queries.specs.Checks.{all_terms}
use Rattle.queries.specs.Scopes.{scope_after}
use Rattle.queries.proofs.checks.Scope.variables.Given as goal

abbrev pub invariant-loop-a : goal.invariant-loop-a
invariant-loop-a l = scope_after l.scope (all_terms (drop l.a-index l.atoms)) ≡ scope_after l.fn.self (all_terms l.atoms)
