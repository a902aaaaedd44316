use Rattle.std.proofs.Common.{◌≡◌, map, take}
use Rattle.queries.specs.Queries.{atoms_of}
use Rattle.book.specs.Rows.{entered}
use Rattle.book.proofs.table.Table.of.Given as goal

abbrev pub invariant-loop-q : goal.invariant-loop-q
invariant-loop-q l = l.table ≡ map (λ q. entered (atoms_of q)) (take l.q-index l.queries)
