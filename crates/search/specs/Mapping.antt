-- What holds in a list holds wherever that list maps.
use Rattle.std.specs.Prelude.{List}
use Rattle.notation.specs.Logic.{Term, Atom, Facts}
use Rattle.search.specs.Holding.{Holds}
use Rattle.search.specs.Keeping.{Maps}

-- a query that holds in a list holds in every list into which that one maps
abbrev pub HeldWhereMapped : Type 0
HeldWhereMapped = (q : List (Atom Term)) (l m : Facts) → Holds q l → Maps l m → Holds q m

-- atoms that hold in other atoms, read as facts, hold wherever those do
abbrev pub HeldByGeneral : Type 0
HeldByGeneral = (a b : List (Atom Term)) (l : Facts) → Holds b a → Holds a l → Holds b l
