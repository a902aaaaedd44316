use Rattle.std.proofs.Common.{map, subst}
use Rattle.notation.specs.Logic.{fact_atom}
use Rattle.index.specs.Keys.{keys_at}
use Rattle.index.specs.Seek.{IsChain}
use Rattle.index.proofs.Building.{five}
use Rattle.index.proofs.index.Index.build.Goals as goal

pub invariant_of-result-clause-chained : goal.invariant_of-result-clause-chained
invariant_of-result-clause-chained g c =
    λ at ch is. subst (λ xs. IsChain (keys_at at (map fact_atom xs)) ch.first.items ch.next.items) c.as_slice-facts.ensures.value
    (five (map fact_atom c.as_slice-facts.result.now) _ _ _ _ _ c.in_ok-chained.ensures c.in_ok-chained-2.ensures c.in_ok-chained-3.ensures c.in_ok-chained-4.ensures c.in_ok-chained-5.ensures at ch is)
