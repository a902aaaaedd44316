-- What is ahead along a route.
use Rattle.std.specs.Prelude.{ℕ, ◌+◌, Bool, drop, Some, Option}
use Rattle.notation.specs.Logic.{Facts}
use Rattle.search.specs.Routes.{facts_along, facts_from}
use Rattle.search.specs.declared.candidates.Ahead.{Ahead}
use Rattle.search.specs.declared.candidates.Ahead.TheVariants.{At, After}

-- the facts from a place on, or none, or those after a place
abbrev pub facts_ahead : (ℕ → Bool) → Facts → Ahead → Facts
facts_ahead on facts (At o) = facts_from on facts o
facts_ahead on facts (After k) = facts_along on (k + 1) (drop (k + 1) facts)

-- the place that is told, if there is one
abbrev pub place_told : Ahead → Option ℕ
place_told (At o) = o
place_told (After k) = Some k
