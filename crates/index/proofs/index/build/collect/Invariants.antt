use Rattle.std.proofs.Common.{◌≡◌, map, take, vec_items}
use Rattle.notation.specs.Logic.{fact_atom}
use Rattle.index.proofs.index.build.collect.Given as goal

abbrev pub invariant-loop-k : goal.invariant-loop-k
invariant-loop-k g l = map fact_atom (vec_items l.v) ≡ take l.k (g.S.Source.facts l.s)
