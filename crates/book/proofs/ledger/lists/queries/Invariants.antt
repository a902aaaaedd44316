use Rattle.std.proofs.Common.{◌≡◌, [], drop, vec_items}
use Rattle.queries.specs.Queries.{atoms_of}
use Rattle.queries.specs.Checks.{check_atoms}
use Rattle.book.specs.Opening.{room, check_queries}
use Rattle.book.proofs.Making.{left}
use Rattle.book.proofs.ledger.lists.queries.Given as goal

abbrev pub invariant-loop-i : goal.invariant-loop-i
invariant-loop-i l =
    left vec_items atoms_of (λ n q. check_atoms (room 64 n 16) 0 0 0 l.arity q) (check_queries l.arity) l.i (vec_items l.held) (drop l.i l.lists)
    ≡ left vec_items atoms_of (λ n q. check_atoms (room 64 n 16) 0 0 0 l.arity q) (check_queries l.arity) 0 [] l.lists
