-- What a row says.
use Rattle.std.specs.Prelude.{List}
use Rattle.notation.specs.declared.terms.Atom.{Atom}
use Rattle.notation.specs.declared.terms.Term.{Term}
use Rattle.queries.specs.Atoms.{held}
use Rattle.queries.specs.declared.row.Row.{Row}

-- the atoms of a row
abbrev pub row_atoms : Row → List (Atom Term)
row_atoms r = held r.atoms
