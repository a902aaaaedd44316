-- The rows of a table, one by one.
use Rattle.std.proofs.Common.{◌≡◌, ℕ, zero, suc, ◌<◌, true, false, List, [], ◌∷◌, ◌++◌, map, length, get_or, replicate, take, sym, refl, ap, ◌∙◌, subst, arith, length-take, get_or-take}
use lib.ListN.{length-map}
use Rattle.std.proofs.lemmas.List.{get_or-map}
use Rattle.std.proofs.lemmas.Bool.{and_from, and_parts}
use Rattle.notation.specs.declared.terms.Atom.{Atom}
use Rattle.notation.specs.declared.terms.Term.{Term}
use Rattle.notation.specs.Logic.{Facts, query_atom}
use Rattle.queries.specs.declared.query.Query.{Query}
use Rattle.queries.specs.declared.row.Row.{Row}
use Rattle.queries.specs.Checks.{valid}
use Rattle.queries.specs.Queries.{atoms_of}
use Rattle.queries.specs.Rows.{row_atoms}
use Rattle.rewriting.specs.Written.{all_valid as all-rows-valid}
use Rattle.search.specs.Answers.{HoldsAt}
use Rattle.search.specs.Holding.{Holds}
use Rattle.book.specs.Rows.{Entry, entry_of, entered, queries_in, standing_in, all_valid}

-- what is read of the element at k
read_at : {X Y : Type 0} (f : X → Y) (xs : List X) (k : ℕ) (x : X) (e : Y) → k < length xs → x ≡ get_or xs k x → f x ≡ get_or (map f xs) k e
read_at f xs k x e l is = ap f is ∙ sym (get_or-map f xs k x e l)

pub valid_at : (qs : List (List (Atom Term))) (k : ℕ) → k < length qs → all_valid qs ≡ true → valid (get_or qs k []) ≡ true
valid_at [] k l h = absurd (omega arith)
valid_at (q ∷ qs) zero l h = (and_parts _ _ h).0
valid_at (q ∷ qs) (suc k) l h = valid_at qs k (omega arith) (and_parts (valid q) _ h).1

pub all_queries : (qs : List Query) → all_valid (queries_in (map (λ q. entered (atoms_of q)) qs)) ≡ true
all_queries [] = refl
all_queries (q ∷ qs) = and_from _ _ q.proper (all_queries qs)

-- rows whose queries are valid are valid
rows_each : (rows : List Row) → all_valid (queries_in (map entry_of rows)) ≡ true → all-rows-valid rows ≡ true
rows_each [] h = refl
rows_each (w ∷ rows) h =
    let p = and_parts (valid (row_atoms w)) (all_valid (queries_in (map entry_of rows))) h in
    and_from (valid (row_atoms w)) (all-rows-valid rows) p.0 (rows_each rows p.1)

pub rows_valid : (rows : List Row) (es : List Entry) → map entry_of rows ≡ es → all_valid (queries_in es) ≡ true → all-rows-valid rows ≡ true
rows_valid rows es are h = rows_each rows (ap (λ x. all_valid (queries_in x)) are ∙ h)

-- one valid query more
pub valid_push : (es : List Entry) (q : List (Atom Term)) → all_valid (queries_in es) ≡ true → valid q ≡ true → all_valid (queries_in (es ++ entered q ∷ [])) ≡ true
valid_push [] q h k = and_from (valid q) true k refl
valid_push (e ∷ es) q h k =
    let r = and_parts (valid e.query) (all_valid (queries_in es)) h in
    and_from (valid e.query) (all_valid (queries_in (es ++ entered q ∷ []))) r.0 (valid_push es q r.1 k)

-- where these queries were entered, they are the queries of the table, and all stand
pub entered_queries : (qs : List Query) → queries_in (map (λ q. entered (atoms_of q)) qs) ≡ map atoms_of qs
entered_queries [] = refl
entered_queries (q ∷ qs) = ap (λ l. atoms_of q ∷ l) (entered_queries qs)

pub entered_standing : (qs : List Query) → standing_in (map (λ q. entered (atoms_of q)) qs) ≡ replicate (length qs) true
entered_standing [] = refl
entered_standing (q ∷ qs) = ap (λ l. true ∷ l) (entered_standing qs)

-- a row among the first n is a row
pub row_among : (rows : List Row) (n k : ℕ) (row : Row) → k < length (take n rows) → row ≡ get_or (take n rows) k row → (k < n) × (k < length rows) × (row ≡ get_or rows k row)
row_among rows n k row l is = let few = length-take n rows in (omega arith, omega arith, is ∙ get_or-take n rows k row (omega arith))

-- the row with number k, where the rows are those of a table
module _ (rows : List Row) (es : List Entry) (are : map entry_of rows ≡ es) (k : ℕ) (row : Row) (l : k < length rows) (is : row ≡ get_or rows k row) where
  pub row_inside : k < length es
  row_inside = omega (arith, length-map rows entry_of, ap length are)

  pub query_inside : k < length (queries_in es)
  query_inside = omega (arith, row_inside, length-map es (λ (e : Entry). e.query))

  pub entry_at : entry_of row ≡ get_or es k (entry_of row)
  entry_at = read_at entry_of rows k row (entry_of row) l is ∙ ap (λ x. get_or x k (entry_of row)) are

  pub atoms_at : row_atoms row ≡ get_or (queries_in es) k []
  atoms_at = read_at (λ (e : Entry). e.query) es k (entry_of row) [] row_inside entry_at

  pub stands_at : row.standing ≡ get_or (standing_in es) k false
  stands_at = read_at (λ (e : Entry). e.stands) es k (entry_of row) false row_inside entry_at

  pub row_valid : all_valid (queries_in es) ≡ true → valid (row_atoms row) ≡ true
  row_valid h = ap valid atoms_at ∙ valid_at (queries_in es) k query_inside h

  module _ (q : Query) (read : atoms_of q ≡ row_atoms row) (facts : Facts) where
    pub row_holds : Holds (map query_atom (atoms_of q)) facts → HoldsAt (queries_in es) facts k
    row_holds h = subst (λ a. Holds (map query_atom a) facts) (read ∙ atoms_at) h

    pub holds_row : HoldsAt (queries_in es) facts k → Holds (map query_atom (atoms_of q)) facts
    holds_row h = subst (λ a. Holds (map query_atom a) facts) (sym (read ∙ atoms_at)) h
