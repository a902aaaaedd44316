-- The law of runs, for a ledger that was opened and then carried out a list of calls.
use Rattle.std.specs.Prelude.{◌≡◌, List, ◌++◌, map, Ok, Err, vec_items, Result}
use Rattle.notation.specs.declared.failures.Failure.{Failure}
use Rattle.notation.specs.declared.failures.Failure.TheVariants.{Memory, Fault}
use Rattle.notation.specs.declared.faults.FolderFault.{FolderFault}
use Rattle.notation.specs.declared.terms.Atom.{Atom}
use Rattle.notation.specs.declared.terms.Term.{Term}
use Rattle.notation.specs.Logic.{Facts}
use Rattle.search.specs.Rules.{meant}
use Rattle.rewriting.specs.Judging.{Ledger, open_ledger, Call, after, after_all}
use Rattle.rewriting.specs.Written.{logic_atoms}
use Rattle.laws.specs.Law.{Law}
use Rattle.laws.specs.Runs.{Run}
use Rattle.book.specs.declared.answer.Answer.{Answer}
use Rattle.book.specs.declared.call.Call.{Call as WrittenCall}
use Rattle.book.specs.declared.ran.Ran.{Ran}
use Rattle.book.specs.Ledgers.{book_of, open_book}
use Rattle.book.specs.Strikes.{Book}
use Rattle.book.specs.Views.{Shows, call_of, told_of, telling, tellings}

-- opened with these rules and these queries, a ledger carried out the calls, its questions being put to the facts l, and
-- is now as the book says: there is one run of the calls that leads to it, what was answered is what is told of that run,
-- and the law holds of it
pub record CarriedOut (rs : List (List (Atom Term) × List (List (Atom Term)))) (qs : List (List (Atom Term))) (ks : List WrittenCall) (l : Facts) (answers : List Answer) (b : Book) : Type 0 where
  pub ledger : Ledger
  pub run : Run (open_ledger (map meant rs) (map logic_atoms qs)) (map (call_of l) ks) ledger
  pub shown : Shows b ledger
  pub told : map told_of answers ≡ tellings (open_ledger (map meant rs) (map logic_atoms qs)) (map (call_of l) ks)
  pub law : Law (map meant rs) (map logic_atoms qs) (map (call_of l) ks) ledger

-- ---------------------------------------------------------------- one call, and some

-- of every ledger of the law that the book shows, the call is told as it was answered, and the book afterwards shows what
-- the call leaves of it
abbrev pub Carries : Book → Call → Answer → Book → Type 0
Carries b k r new = (s : Ledger) → Shows b s → (told_of r ≡ telling s k) × Shows new (after s k)

-- the same of calls, answered after what was answered before
abbrev pub CarriesAll : Book → List Call → List Answer → List Answer → Book → Type 0
CarriesAll b ks was answers new = (s : Ledger) → Shows b s → (map told_of answers ≡ map told_of was ++ tellings s ks) × Shows new (after_all s ks)

-- a run was carried out; or the rules and the queries open no ledger, and this is the fault; or memory was wanting
abbrev pub RunsTo : List (List (Atom Term) × List (List (Atom Term))) → List (List (Atom Term)) → List WrittenCall → Facts → Result Ran (Failure FolderFault) → Type 0
RunsTo rs qs ks l (Ok x) = CarriedOut rs qs ks l (vec_items x.answers) (book_of x.ledger)
RunsTo rs qs ks l (Err (Fault f)) = open_book rs qs ≡ Err f
RunsTo rs qs ks l (Err Memory) = Unit {0}
