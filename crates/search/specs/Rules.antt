-- What a body and heads mean, and which rule is not kept.
use Rattle.std.specs.Prelude.{ℕ, List, [], map, length, Option, slice_index_or}
use Rattle.notation.specs.declared.terms.Atom.{Atom}
use Rattle.notation.specs.declared.terms.Term.{Term}
use Rattle.notation.specs.Logic.{Facts, query_atom}
use Rattle.search.specs.Answers.{Lowest}
use Rattle.search.specs.Keeping.{Rule, Keeps}

-- a written body and heads, as logic has them
abbrev pub meant : List (Atom Term) × List (List (Atom Term)) → Rule
meant r = record { body = map query_atom r.0; heads = map (map query_atom) r.1 }

-- the list does not keep the rule with number k
abbrev pub BrokenAt : List (List (Atom Term) × List (List (Atom Term))) → Facts → ℕ → Type 0
BrokenAt rs l k = Keeps (meant (slice_index_or rs k ([], []))) l → ⊥

-- the lowest rule that the list does not keep, or none where it keeps them all
abbrev pub LowestBroken : List (List (Atom Term) × List (List (Atom Term))) → Facts → Option ℕ → Type 0
LowestBroken rs l o = Lowest (BrokenAt rs l) (length rs) o
