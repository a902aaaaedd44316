-- The rows of a table: queries in the order of their numbers, and whether each stands.
use Rattle.std.specs.Prelude.{Bool, true, ◌&&◌, List, [], ◌∷◌, map}
use Rattle.notation.specs.declared.terms.Atom.{Atom}
use Rattle.notation.specs.declared.terms.Term.{Term}
use Rattle.queries.specs.Checks.{valid}
use Rattle.queries.specs.Rows.{row_atoms}
use Rattle.queries.specs.declared.row.Row.{Row}

-- an entered query, and whether it stands
pub record Entry : Type 0 where
  pub query : List (Atom Term)
  pub stands : Bool

-- what a row says
abbrev pub entry_of : Row → Entry
entry_of r = record { query = row_atoms r; stands = r.standing }

-- a query as it is entered
abbrev pub entered : List (Atom Term) → Entry
entered q = record { query = q; stands = true }

-- the queries of a table
abbrev pub queries_in : List Entry → List (List (Atom Term))
queries_in es = map (λ (e : Entry). e.query) es

-- whether each of them stands
abbrev pub standing_in : List Entry → List Bool
standing_in es = map (λ (e : Entry). e.stands) es

-- each row is a query
abbrev pub all_valid : List (List (Atom Term)) → Bool
all_valid [] = true
all_valid (q ∷ qs) = valid q && all_valid qs
