-- Routes: which places of a list are worth trying for an atom.
use Rattle.std.specs.Prelude.{◌≡◌, ◌≢◌, ℕ, ◌+◌, ◌<◌, ◌≤◌, Bool, true, List, [], ◌∷◌, drop, Some, None, Option, unwrap_or, if◌then◌else◌}
use Rattle.std.specs.Option.{ForSome}
use Rattle.std.specs.List.{slice_get}
use Rattle.notation.specs.declared.terms.Value.{Value}
use Rattle.notation.specs.Logic.{Term, Atom, In, rename, Facts}
use Rattle.search.specs.Holding.{put}
use Rattle.search.specs.Bindings.{Agrees}

-- each place at which the atom, under a giving that agrees with b, is the fact, lies on the route
abbrev pub Covers : (ℕ → Bool) → Atom Term → List (Option Value) → Facts → Type 0
Covers on a b facts = (h : ℕ → Term) → Agrees h b → (k : ℕ) → slice_get facts k ≡ Some (rename (put h) a) → on k ≡ true

-- the first of the n places at or after `low` that lies on the route, or none where none of them does
pub record Leads (on : ℕ → Bool) (n low : ℕ) (o : Option ℕ) : Type 0 where
  pub found : ForSome o (λ k. (low ≤ k) × (k < n) × (on k ≡ true))
  pub passed : (j : ℕ) → low ≤ j → j < unwrap_or o n → on j ≢ true

-- the facts at places of the route, where the first of the facts is at place k
abbrev pub facts_along : (ℕ → Bool) → ℕ → Facts → Facts
facts_along on k [] = []
facts_along on k (f ∷ fs) = if on k then f ∷ facts_along on (k + 1) fs else facts_along on (k + 1) fs

-- those from a place on, or none
abbrev pub facts_from : (ℕ → Bool) → Facts → Option ℕ → Facts
facts_from on facts None = []
facts_from on facts (Some k) = facts_along on k (drop k facts)

-- some facts of a list, and among them each that the atom is under a giving that agrees with b
pub record AreCandidates (a : Atom Term) (b : List (Option Value)) (facts some : Facts) : Type 0 where
  pub among : (x : Atom Term) → In x some → In x facts
  pub each : (h : ℕ → Term) → Agrees h b → In (rename (put h) a) facts → In (rename (put h) a) some
