-- How lists are read: a text cut at each separator, and each piece read whole.
use Rattle.std.specs.Prelude.{ℕ, Bool, true, false, cond, List, [], ◌∷◌, Some, None, Ok, Err, Option, Result, ◌==◌, nat_le}
use Rattle.std.specs.Borrow.{Bor}
use Rattle.std.specs.Option.{option_map}
use Rattle.notation.specs.declared.faults.LineFault.{LineFault}
use Rattle.notation.specs.declared.faults.LineFault.TheVariants.{InAtom, Unreadable}
use Rattle.notation.specs.declared.faults.TermFault.{TermFault}
use Rattle.notation.specs.declared.terms.Atom.{Atom}
use Rattle.notation.specs.Numbers.{read_number}
use Rattle.notation.specs.Reading.{carry, read_atom}

-- the text before the first separator, and the text after it
abbrev pub cut_at : ℕ → List ℕ → Option (List ℕ × List ℕ)
cut_at by [] = None
cut_at by (b ∷ s) = cond (b == by) (Some ([], s)) (option_map (λ p. (b ∷ p.0, p.1)) (cut_at by s))

abbrev pub both_seen : Option (Bor (List ℕ) × Bor (List ℕ)) → Option (List ℕ × List ℕ)
both_seen None = None
both_seen (Some p) = Some (p.0.now, p.1.now)

-- a byte before the first of the pieces, or a separator, which begins a new piece
abbrev pub onto_pieces : Bool → ℕ → List ℕ × List (List ℕ) → List ℕ × List (List ℕ)
onto_pieces true b ps = ([], ps.0 ∷ ps.1)
onto_pieces false b ps = (b ∷ ps.0, ps.1)

-- the pieces of a text between the separators: the first, and the others
abbrev pub pieces : ℕ → List ℕ → List ℕ × List (List ℕ)
pieces by [] = ([], [])
pieces by (b ∷ s) = onto_pieces (b == by) b (pieces by s)

-- each item as it is read, or the fault of the first that has one
abbrev pub every : {X Y E : Type 0} → (X → Result Y E) → List X → Result (List Y) E
every f [] = Ok []
every f (x ∷ xs) = carry (λ e. e) (f x) (λ y. carry (λ e. e) (every f xs) (λ ys. Ok (y ∷ ys)))

-- the items of a list, with the separator between them
abbrev pub read_list : {X : Type 0} → (List ℕ → Result X LineFault) → ℕ → List ℕ → Result (List X) LineFault
read_list f by s = every f ((pieces by s).0 ∷ (pieces by s).1)

abbrev pub ending : {X : Type 0} → X → List ℕ → Result X LineFault
ending x [] = Ok x
ending x (b ∷ s) = Err Unreadable

-- a text that is an atom and nothing else
abbrev pub whole_atom : {X : Type 0} → (ℕ → Result X TermFault) → List ℕ → Result (Atom X) LineFault
whole_atom of s = carry InAtom (read_atom of s) (λ p. ending p.0 p.1)

abbrev pub from_least : ℕ → Option (ℕ × List ℕ) → Result ℕ LineFault
from_least least None = Err Unreadable
from_least least (Some p) = cond (nat_le least p.0) (ending p.0 p.1) (Err Unreadable)

-- a text that is a number from `least` to `most` and nothing else
abbrev pub whole_number : ℕ → ℕ → List ℕ → Result ℕ LineFault
whole_number least most s = from_least least (read_number most s)
