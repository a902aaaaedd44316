-- Atoms in fixed memory.
use Rattle.std.proofs.Common.{ℕ, ◌≤◌, length, length-take, arith}
use Rattle.queries.specs.declared.atoms.Atoms.{Atoms}
use Rattle.queries.specs.Atoms.{held}

-- there are no more atoms than places
pub length-held : {N : ℕ} (as' : Atoms N) → length (held as') ≤ N
length-held as' = omega (arith, length-take as'.count as'.atoms, as'.within)
