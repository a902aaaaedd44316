-- A ledger opened from bare lists, as the lines of a folder would open it.
use Rattle.std.specs.Prelude.{ℕ, ◌+◌, Bool, cond, ◌&&◌, List, [], ◌∷◌, map, length, Ok, vec_items, Result, nat_le}
use Rattle.std.specs.List.{list_all}
use Rattle.notation.specs.declared.faults.FolderFault.{FolderFault}
use Rattle.notation.specs.declared.faults.FolderFault.TheVariants.{InLine, OutOfOrder, EndsTooSoon}
use Rattle.notation.specs.declared.faults.LineFault.{LineFault}
use Rattle.notation.specs.declared.faults.LineFault.TheVariants.{Unreadable, TooMany}
use Rattle.notation.specs.declared.terms.Atom.{Atom}
use Rattle.notation.specs.declared.terms.Term.{Term}
use Rattle.notation.specs.Reading.{carry}
use Rattle.queries.specs.Checks.{if_so, check_atoms}
use Rattle.queries.specs.RuleChecks.{add_head}
use Rattle.book.specs.declared.lists.RuleAtoms.{RuleAtoms}
use Rattle.book.specs.Ledgers.{new_book}
use Rattle.book.specs.Strikes.{Book}

-- the body and the heads of a rule that is written as lists
abbrev pub rule_lists : RuleAtoms → List (Atom Term) × List (List (Atom Term))
rule_lists r = (vec_items r.body, map vec_items (vec_items r.heads))

-- each number of terms is 1 to 4
abbrev pub counts_fit : List ℕ → Bool
counts_fit ns = list_all (λ n. nat_le 1 n && nat_le n 4) ns

-- 1 to 32 numbers of terms, or the fault
abbrev pub check_arity : List ℕ → Result (Unit {0}) LineFault
check_arity ns = carry (λ e. e) (if_so (nat_le 1 (length ns) && counts_fit ns) Unreadable) (λ _. if_so (nat_le (length ns) 32) TooMany)

-- how many atoms a further item may have, after n of at most `most` items: none where it is one too many
abbrev pub room : ℕ → ℕ → ℕ → ℕ
room most n atoms = cond (nat_le most n) 0 atoms

-- the heads one after another, after those that there are; or the first fault
abbrev pub check_heads : List ℕ → List (Atom Term) → List (List (Atom Term)) → List (List (Atom Term)) → Result (Unit {0}) LineFault
check_heads arity b hs [] = Ok tt
check_heads arity b hs (d ∷ ds) = carry (λ e. e) (add_head arity b hs d) (λ more. check_heads arity b more ds)

-- one rule more after n: its body, that it has a head, its heads; or the first fault
abbrev pub check_rule : List ℕ → ℕ → List (Atom Term) × List (List (Atom Term)) → Result (Unit {0}) FolderFault
check_rule arity n r =
    carry InLine (check_atoms (room 32 n 8) 0 0 0 arity r.0) (λ _.
    carry (λ e. e) (if_so (nat_le 1 (length r.1)) OutOfOrder) (λ _.
    carry InLine (check_heads arity r.0 [] r.1) (λ _.
    Ok tt)))

abbrev pub check_rules : List ℕ → ℕ → List (List (Atom Term) × List (List (Atom Term))) → Result (Unit {0}) FolderFault
check_rules arity n [] = Ok tt
check_rules arity n (r ∷ rs) = carry (λ e. e) (check_rule arity n r) (λ _. check_rules arity (n + 1) rs)

abbrev pub check_queries : List ℕ → ℕ → List (List (Atom Term)) → Result (Unit {0}) LineFault
check_queries arity n [] = Ok tt
check_queries arity n (q ∷ qs) = carry (λ e. e) (check_atoms (room 64 n 16) 0 0 0 arity q) (λ _. check_queries arity (n + 1) qs)

-- the book that the lists open, in the order of a folder's lines: the numbers of terms, rule by rule, that there is a
-- query, query by query; or the first fault
abbrev pub open_lists : List ℕ → List (List (Atom Term) × List (List (Atom Term))) → List (List (Atom Term)) → Result Book FolderFault
open_lists arity rs qs =
    carry InLine (check_arity arity) (λ _.
    carry (λ e. e) (check_rules arity 0 rs) (λ _.
    carry (λ e. e) (if_so (nat_le 1 (length qs)) EndsTooSoon) (λ _.
    carry InLine (check_queries arity 0 qs) (λ _.
    Ok (new_book rs qs)))))
