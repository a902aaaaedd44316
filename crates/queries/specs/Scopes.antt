-- The scope after terms.
use Rattle.std.specs.Prelude.{List, Option}
use Rattle.std.specs.Option.{option_map}
use Rattle.notation.specs.declared.terms.Term.{Term}
use Rattle.queries.specs.Checks.{numbered}
use Rattle.queries.specs.declared.checks.Scope.{Scope}

-- none where a number is passed over or not allowed
abbrev pub scope_after : Scope → List Term → Option Scope
scope_after s ts = option_map (λ n. record s { next = n }) (numbered s.known s.start s.next ts)
