-- The book of a ledger value.
use Rattle.std.specs.Prelude.{ℕ, true, cond, List, map, length, replicate, Ok, Err, vec_items, Result, nat_le}
use Rattle.notation.specs.declared.faults.FolderFault.{FolderFault}
use Rattle.notation.specs.declared.faults.FolderFault.TheVariants.{InLine, EndsTooSoon}
use Rattle.notation.specs.declared.faults.LineFault.TheVariants.{TooMany}
use Rattle.notation.specs.declared.terms.Atom.{Atom}
use Rattle.notation.specs.declared.terms.Term.{Term}
use Rattle.notation.specs.Reading.{carry}
use Rattle.queries.specs.Rules.{rule_of}
use Rattle.book.specs.declared.ledger.Ledger.{Ledger}
use Rattle.book.specs.Rows.{queries_in, standing_in}
use Rattle.book.specs.Strikes.{Book}

-- the rules, the number of opening queries, and the queries with their standing
abbrev pub book_of : Ledger → Book
book_of l = record { rules = map rule_of (vec_items l.rules); opened = l.opened; queries = queries_in l.table; standing = standing_in l.table }

-- the book that these rules and these queries open: each query stands
abbrev pub new_book : List (List (Atom Term) × List (List (Atom Term))) → List (List (Atom Term)) → Book
new_book rs qs = record { rules = rs; opened = length qs; queries = qs; standing = replicate (length qs) true }

-- at most 32 rules, and 1 to 64 queries; or the fault
abbrev pub check_counts : ℕ → ℕ → Result (Unit {0}) FolderFault
check_counts rules queries =
    cond (nat_le rules 32) (cond (nat_le 1 queries) (cond (nat_le queries 64) (Ok tt) (Err (InLine TooMany))) (Err EndsTooSoon)) (Err (InLine TooMany))

-- the book that rules and queries open, or the fault
abbrev pub open_book : List (List (Atom Term) × List (List (Atom Term))) → List (List (Atom Term)) → Result Book FolderFault
open_book rs qs = carry (λ e. e) (check_counts (length rs) (length qs)) (λ _. Ok (new_book rs qs))
