-- A source tells 65,535 facts at most.
use Rattle.std.specs.Prelude.{◌≡◌, ℕ, ◌≤◌, min, List, map, length, take}
use Rattle.std.proofs.Common.{sym, subst, ◌∙◌, length-take, lit≤}
use Rattle.std.proofs.Math.Nat.{min-le_left, le_trans}
use Rattle.std.proofs.lemmas.List.{length-map}
use Rattle.notation.specs.Logic.{query_atom, fact_atom}
use Rattle.notation.specs.declared.terms.Atom.{Atom}
use Rattle.notation.specs.declared.terms.Value.{Value}
use Rattle.queries.specs.declared.query.Query.{Query}
use Rattle.queries.specs.Queries.{atoms_of}
use Rattle.queries.proofs.Held.{length-held}
use Rattle.sources.specs.declared.rows.Row.{Row}
use Rattle.sources.specs.Rows.{told, row_facts}

taken_few : {X Y : Type 0} (f : X → Y) (n : ℕ) (xs : List X) → length (map f (take n xs)) ≤ n
taken_few f n xs = subst (λ k. k ≤ n) (sym (length-map (take n xs) f ∙ length-take n xs)) (min-le_left n (length xs))

pub rows_count : (rs : List Row) → length (map fact_atom (row_facts rs)) ≡ min 65535 (length (told rs))
unfolding row_facts
rows_count rs = length-map (row_facts rs) fact_atom ∙ length-take 65535 (told rs)

pub rows_few : (rs : List Row) → length (map fact_atom (row_facts rs)) ≤ 65535
unfolding row_facts
rows_few rs = taken_few fact_atom 65535 (told rs)

pub counted_few : {m n : ℕ} → m ≤ 65535 → m ≡ n → n ≤ 65535
counted_few few counted = subst (λ k. k ≤ 65535) counted few

pub text_few : (fs : List (Atom Value)) → length fs ≤ 65535 → length (map fact_atom fs) ≤ 65535
text_few fs few = subst (λ k. k ≤ 65535) (sym (length-map fs fact_atom)) few

pub query_few : (q : Query) → length (map query_atom (atoms_of q)) ≤ 65535
query_few q = subst (λ k. k ≤ 65535) (sym (length-map (atoms_of q) query_atom)) (le_trans (length-held q.atoms) (lit≤ tt))

pub stored_few : (fs : List (Atom Value)) → length (map fact_atom (take 65535 fs)) ≤ 65535
stored_few fs = taken_few fact_atom 65535 fs
