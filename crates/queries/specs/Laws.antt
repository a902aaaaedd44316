-- What is printed of a query reads back, and no two queries print alike.
use Rattle.std.specs.Prelude.{◌≡◌, ◌++◌, Ok, codes}
use Rattle.notation.specs.Lines.{read_key}
use Rattle.notation.specs.Lists.{read_list, whole_atom}
use Rattle.notation.specs.Reading.{term_of}
use Rattle.notation.specs.declared.lines.Key.TheVariants as key
use Rattle.queries.specs.declared.query.Query.{Query}
use Rattle.queries.specs.Printing.{print_atoms}
use Rattle.queries.specs.Queries.{atoms_of}

-- the printed atoms of a query are read as its atoms
abbrev pub QueriesReadBack : Type 0
QueriesReadBack = (q : Query) → read_list (whole_atom term_of) 59 (print_atoms (atoms_of q)) ≡ Ok (atoms_of q)

-- a line with a printed query is read as a query line with that text
abbrev pub QueryLinesReadBack : Type 0
QueryLinesReadBack = (q : Query) → read_key (codes "query=" ++ print_atoms (atoms_of q)) ≡ Ok (key.Query, print_atoms (atoms_of q))

-- queries that print alike have the same atoms
abbrev pub QueriesPrintApart : Type 0
QueriesPrintApart = (p q : Query) → print_atoms (atoms_of p) ≡ print_atoms (atoms_of q) → atoms_of p ≡ atoms_of q
