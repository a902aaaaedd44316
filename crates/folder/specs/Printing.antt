-- What is printed for a folder.
use Rattle.std.specs.Prelude.{ℕ, ◌+◌, Bool, true, false, List, [], ◌∷◌, ◌++◌, Some, None, Ok, Err, codes, decimal, Option, Result}
use Rattle.notation.specs.declared.terms.Atom.{Atom}
use Rattle.notation.specs.declared.terms.Term.{Term}
use Rattle.notation.specs.Faults.{graded}
use Rattle.queries.specs.Printing.{print_atoms}
use Rattle.book.specs.declared.refusal.Refusal.{Refusal}
use Rattle.book.specs.Strikes.{refusal_number}
use Rattle.folder.specs.declared.parts.Fault.{Fault}

-- what a strike answered: the query that was struck, or the number of the refusal and its place
abbrev pub print_event : ℕ × ℕ → Result (Unit {0}) Refusal → List ℕ
print_event e (Ok u) = codes "struck=" ++ decimal e.0
print_event e (Err r) = codes "refused=" ++ (decimal (refusal_number r).0 ++ (codes "," ++ decimal (refusal_number r).1))

-- the answers of strikes, in their order, a line for each
abbrev pub print_events : List (ℕ × ℕ) → List (Result (Unit {0}) Refusal) → List ℕ
print_events [] os = []
print_events (e ∷ es) [] = []
print_events (e ∷ es) (o ∷ os) = print_event e o ++ (codes "\n" ++ print_events es os)

-- a `stands=` and a `query=` line for each query that stands, numbered from k
abbrev pub print_standing : ℕ → List (List (Atom Term)) → List Bool → List ℕ
print_standing k [] ss = []
print_standing k (q ∷ qs) [] = []
print_standing k (q ∷ qs) (false ∷ ss) = print_standing (k + 1) qs ss
print_standing k (q ∷ qs) (true ∷ ss) = codes "stands=" ++ (decimal k ++ (codes "\nquery=" ++ (print_atoms q ++ (codes "\n" ++ print_standing (k + 1) qs ss))))

-- a number, or the word for none
abbrev pub print_found : List ℕ → Option ℕ → List ℕ
print_found none (Some k) = decimal k
print_found none None = none

-- the answers of the rule check, the standing question and the opening question
abbrev pub print_answers : Option ℕ → Option ℕ → Option ℕ → List ℕ
print_answers broken standing opening = codes "rules=" ++ (print_found (codes "kept") broken ++ (codes "\nstanding=" ++ (print_found (codes "none") standing ++ (codes "\nopening=" ++ print_found (codes "none") opening))))

-- the number of a reading fault, and its line
abbrev pub print_fault : Fault → List ℕ
print_fault f = codes "fault=" ++ (decimal (graded f.fault).0 ++ (codes "," ++ decimal f.line))
