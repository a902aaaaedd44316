-- How a number is read.
use Rattle.std.specs.Prelude.{ℕ, ◌+◌, ◌-◌, ◌*◌, min, Bool, true, false, cond, List, [], ◌∷◌, Some, None, Option, ◌==◌, nat_le}
use Rattle.std.specs.Borrow.{Bor}

-- an answer with the text that its reference points to
abbrev pub some_seen : {X : Type 0} → Option (X × Bor (List ℕ)) → Option (X × List ℕ)
some_seen (Some p) = Some (p.0, p.1.now)
some_seen None = None

abbrev pub digit : ℕ → Bool
digit b = cond (nat_le 48 b) (nat_le b 57) false

-- the text begins with a digit
abbrev pub starts_digit : List ℕ → Bool
starts_digit [] = false
starts_digit (b ∷ s) = digit b

-- the text begins with a digit, and not with a 0 before another digit
abbrev pub starts_number : List ℕ → Bool
starts_number [] = false
starts_number (b ∷ s) = cond (digit b) (cond (b == 48) (cond (starts_digit s) false true) true) false

-- the digits at the front, read on from n, and the text after them; 1000 stands for all larger numbers
abbrev pub scan : ℕ → List ℕ → ℕ × List ℕ
scan n [] = (n, [])
scan n (b ∷ s) = cond (digit b) (scan (min (n * 10 + (b - 48)) 1000) s) (n, b ∷ s)

abbrev pub up_to : ℕ → ℕ × List ℕ → Option (ℕ × List ℕ)
up_to most p = cond (nat_le p.0 most) (Some p) None

-- the number at the front, at most `most`, and the text after it
abbrev pub read_number : ℕ → List ℕ → Option (ℕ × List ℕ)
read_number most s = cond (starts_number s) (up_to most (scan 0 s)) None
