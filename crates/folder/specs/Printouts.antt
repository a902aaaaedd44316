-- The printout of a folder's text.
use Rattle.std.specs.Prelude.{◌≡◌, ℕ, List, [], ◌++◌, map, take, Ok, Err, codes, Option, Result}
use Rattle.notation.specs.declared.faults.FolderFault.{FolderFault}
use Rattle.notation.specs.Logic.{Facts, fact_atom}
use Rattle.book.specs.declared.refusal.Refusal.{Refusal}
use Rattle.book.specs.Ledgers.{open_book}
use Rattle.book.specs.Questions.{LowestStanding, LowestOpening, LowestBrokenRule}
use Rattle.book.specs.Runs.{Ran}
use Rattle.book.specs.Strikes.{Book}
use Rattle.folder.specs.declared.parts.Fault.{Fault}
use Rattle.folder.specs.Folders.{Folder, at_line, read_folder}
use Rattle.folder.specs.Printing.{print_events, print_standing, print_answers, print_fault}

-- the list that the folder's facts stand for, as every source's 65,535 at most
abbrev pub folder_facts : Folder → Facts
folder_facts d = map fact_atom (take 65535 d.facts)

-- the strikes lead from one book to another, and what they answered was printed after a text
pub record Struck (b : Book) (es : List (ℕ × ℕ)) (last : Book) (was new : List ℕ) : Type 0 where
  pub outcomes : List (Result (Unit {0}) Refusal)
  pub ran : Ran b es outcomes last
  pub printed : new ≡ was ++ print_events es outcomes

-- the three questions, put to a list, were answered, and the answers printed after a text
pub record Asked (b : Book) (l : Facts) (was new : List ℕ) : Type 0 where
  pub broken : Option ℕ
  pub standing : Option ℕ
  pub opening : Option ℕ
  pub broken_right : LowestBrokenRule b l broken
  pub standing_right : LowestStanding b l standing
  pub opening_right : LowestOpening b l opening
  pub printed : new ≡ was ++ (print_answers broken standing opening ++ codes "\n")

-- what is printed for a folder that opens the book b: the strikes' answers, what then stands, and the answers
pub record Answered (b : Book) (d : Folder) (was new : List ℕ) : Type 0 where
  pub last : Book
  pub events : List ℕ
  pub stands : List ℕ
  pub struck : Struck b d.strikes last was events
  pub standing : stands ≡ events ++ print_standing 0 last.queries last.standing
  pub asked : Asked last (folder_facts d) stands new

abbrev pub OpenedTo : Result Book FolderFault → Folder → List ℕ → List ℕ → Type 0
OpenedTo (Ok b) d was new = Answered b d was new
OpenedTo (Err f) d was new = new ≡ was ++ (print_fault (at_line 0 f) ++ codes "\n")

-- a reading fault is the whole printout
abbrev pub PrintoutOf : Result Folder Fault → List ℕ → List ℕ → Type 0
PrintoutOf (Ok d) was new = OpenedTo (open_book d.rules d.queries) d was new
PrintoutOf (Err f) was new = new ≡ was ++ (print_fault f ++ codes "\n")

-- the printout of a folder's text
abbrev pub Printout : List ℕ → List ℕ → Type 0
Printout folder text = PrintoutOf (read_folder folder) [] text
