-- A text at the start of a lent buffer.
use Rattle.std.specs.Prelude.{◌≡◌, ℕ, ◌<◌, List, ◌++◌, length, drop, Ok, Err, Result}
use Rattle.folder.specs.declared.buffer.Unprinted.{Unprinted}
use Rattle.folder.specs.declared.buffer.Unprinted.TheVariants.{Short, Memory}

-- the text stands at the start of the buffer, and the rest is as it was; where it does not fit, nothing is written
abbrev pub Copied : List ℕ → List ℕ → List ℕ → Result ℕ Unprinted → Type 0
Copied text old new (Ok n) = (n ≡ length text) × (new ≡ text ++ drop n old)
Copied text old new (Err Short) = (length old < length text) × (new ≡ old)
Copied text old new (Err Memory) = ⊥

-- the same of a text that has P, unless memory was wanting
abbrev pub Printed : (List ℕ → Type 0) → List ℕ → List ℕ → Result ℕ Unprinted → Type 0
Printed P old new (Ok n) = (text : List ℕ) × (P text × Copied text old new (Ok n))
Printed P old new (Err Short) = (text : List ℕ) × (P text × Copied text old new (Err Short))
Printed P old new (Err Memory) = new ≡ old
