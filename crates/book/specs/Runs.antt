-- Strikes, one after another.
use Rattle.std.specs.Prelude.{◌≡◌, ℕ, List, [], ◌∷◌, Result}
use Rattle.book.specs.declared.refusal.Refusal.{Refusal}
use Rattle.book.specs.Strikes.{Book, Strikes}

-- from the first book the strikes, by the numbers of the two queries, lead to the last, and these are their answers
abbrev pub Ran : Book → List (ℕ × ℕ) → List (Result (Unit {0}) Refusal) → Book → Type 0
Ran b [] [] last = b ≡ last
Ran b [] (o ∷ os) last = ⊥
Ran b (e ∷ es) [] last = ⊥
Ran b (e ∷ es) (o ∷ os) last = (next : Book) × Strikes b e.0 e.1 o next × Ran next es os last
