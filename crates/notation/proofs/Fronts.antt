-- What one byte at the front does to a reading.
use Rattle.std.proofs.Common.{◌≡◌, ℕ, ◌<◌, List, ◌∷◌, length, get_or, ap, ◌∙◌}
use Rattle.std.specs.List.{between}
use Rattle.std.proofs.lemmas.Slice.{first_rest}

-- the list that a pattern [k, rest @ ..] was matched with
pub at_first : {Y : Type 0} (F : List ℕ → Y) (k : ℕ) (s : List ℕ) → 0 < length s → get_or s 0 0 ≡ k → F s ≡ F (k ∷ between 1 (length s) s)
at_first F k s h e = ap F (first_rest s 0 h ∙ ap (λ b. b ∷ between 1 (length s) s) e)
