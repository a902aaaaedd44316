-- A table of classes through one tie more.
use Rattle.std.specs.Prelude.{ℕ, if◌then◌else◌, List, map, ◌==◌, nat_lt, slice_index_or}
use Rattle.notation.specs.declared.terms.Tie.{Tie}
use Rattle.rewriting.specs.Steps.{end, Ties}
use Rattle.rewriting.specs.Written.{tie_of}

-- the entry x, where `from` has become `to`
abbrev pub relabelled : ℕ → ℕ → ℕ → ℕ
relabelled from to x = if x == from then to else x

-- the classes of the places a and b made one: a name that is a constant stays
abbrev pub joined_table : List ℕ → ℕ → ℕ → List ℕ
joined_table t a b =
    let u = slice_index_or t a 0 in
    let v = slice_index_or t b 0 in
    if nat_lt u 1000 then map (relabelled v u) t else map (relabelled u v) t

-- the ties that part i writes
abbrev pub written_ties : ℕ → List Tie → Ties
written_ties i ts = map (λ t. (end i t.0, end i t.1)) (map tie_of ts)
