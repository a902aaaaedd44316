-- The atoms of a query value, and what is printed of them.
use Rattle.std.specs.Prelude.{List, Ok, Err, Result}
use Rattle.notation.specs.declared.terms.Atom.{Atom}
use Rattle.notation.specs.declared.terms.Term.{Term}
use Rattle.queries.specs.Atoms.{held}
use Rattle.queries.specs.declared.query.Query.{Query}

-- the atoms of a query, in order
abbrev pub atoms_of : Query → List (Atom Term)
atoms_of q = held q.atoms

abbrev pub query_seen : {E : Type 0} → Result Query E → Result (List (Atom Term)) E
query_seen (Ok q) = Ok (atoms_of q)
query_seen (Err e) = Err e
