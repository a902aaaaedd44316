-- What the counts of rules and queries make of an opening.
use Rattle.std.proofs.Common.{◌≡◌, ℕ, List, length, Ok, Result}
use Rattle.notation.specs.declared.faults.FolderFault.{FolderFault}
use Rattle.notation.specs.declared.terms.Atom.{Atom}
use Rattle.notation.specs.declared.terms.Term.{Term}
use Rattle.notation.specs.Reading.{carry}
use Rattle.book.specs.Ledgers.{new_book, check_counts, open_book}

-- what is answered of the counts goes for the lists
pub opened : (rs : List (List (Atom Term) × List (List (Atom Term)))) (qs : List (List (Atom Term))) (n m : ℕ) (o : Result (Unit {0}) FolderFault) → length rs ≡ n → length qs ≡ m → o ≡ check_counts n m → open_book rs qs ≡ carry (λ e. e) o (λ _. Ok (new_book rs qs))
opened rs qs n m o rules queries e = cc
