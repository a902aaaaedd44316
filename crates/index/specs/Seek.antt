-- Places of a list of keys, and chains of those with one key.
use Rattle.std.specs.Prelude.{◌≡◌, ℕ, ◌+◌, ◌<◌, ◌≤◌, Bool, List, length, Some, None, Option, ◌==◌, slice_index, if◌then◌else◌}
use Rattle.search.specs.Routes.{Leads}

-- the key at place k is c
abbrev pub has_key : List ℕ → ℕ → ℕ → Bool
has_key keys c k = slice_index keys k == c

-- the place that is kept as n
abbrev pub place_of : ℕ → Option ℕ
place_of n = if n == 65535 then None else Some n

-- the first place of each key, and from each place the next with the same key
pub record IsChain (keys first next : List ℕ) : Type 0 where
  pub few : length keys ≤ 65535
  pub wide : length first ≡ 65536
  pub whole : length next ≡ length keys
  pub headed : (c : ℕ) → c < 65536 → Leads (has_key keys c) (length keys) 0 (place_of (slice_index first c))
  pub linked : (k : ℕ) → k < length keys → Leads (has_key keys (slice_index keys k)) (length keys) (k + 1) (place_of (slice_index next k))
