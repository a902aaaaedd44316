-- How the lines of a step are read: the numbers of atoms, and ties.
use Rattle.std.specs.Prelude.{ℕ, cond, List, [], ◌∷◌, Ok, Err, Result, ◌==◌}
use Rattle.notation.specs.declared.faults.AtomFault.{AtomFault}
use Rattle.notation.specs.declared.faults.AtomFault.TheVariants.{InTerm}
use Rattle.notation.specs.declared.faults.LineFault.{LineFault}
use Rattle.notation.specs.declared.faults.LineFault.TheVariants.{InAtom, Unreadable}
use Rattle.notation.specs.declared.terms.End.{End}
use Rattle.notation.specs.declared.terms.Tie.{Tie}
use Rattle.notation.specs.Lists.{ending, read_list, whole_number}
use Rattle.notation.specs.Reading.{carry, end_of, read_word}

-- the end of a tie at the front, and the text after it
abbrev pub read_end : List ℕ → Result (End × List ℕ) AtomFault
read_end s = carry InTerm (read_word end_of s) (λ p. Ok p)

-- the text after the sign "~", which has to stand first
abbrev pub read_sign : List ℕ → Result (List ℕ) LineFault
read_sign [] = Err Unreadable
read_sign (b ∷ s) = cond (b == 126) (Ok s) (Err Unreadable)

-- a text that is two ends with "~" between them and nothing else
abbrev pub whole_tie : List ℕ → Result Tie LineFault
whole_tie s =
    carry InAtom (read_end s) (λ l. carry (λ e. e) (read_sign l.1) (λ s.
    carry InAtom (read_end s) (λ r. ending (record { left = l.0; right = r.0 }) r.1)))

-- the numbers of atoms, with "," between them; there may be none
abbrev pub read_places : List ℕ → Result (List ℕ) LineFault
read_places [] = Ok []
read_places (b ∷ s) = read_list (whole_number 0 999) 44 (b ∷ s)
