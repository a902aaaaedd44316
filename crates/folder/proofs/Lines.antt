-- A folder, one line after another.
use Rattle.std.proofs.Common.{◌≡◌, ℕ, ◌+◌, ◌≤◌, List, length, Some, None, Ok, Err, Result, sym, ap, ◌∙◌, subst}
use Rattle.std.proofs.lemmas.Bool.{cond-true, le-leb}
use Rattle.notation.specs.declared.failures.Failure.{Failure}
use Rattle.notation.specs.declared.failures.Failure.TheVariants as failure
use Rattle.notation.specs.declared.faults.FolderFault.{FolderFault}
use Rattle.notation.specs.Failures.{UnlessMemory}
use Rattle.notation.specs.Lists.{cut_at, pieces}
use Rattle.notation.specs.Reading.{carry}
use Rattle.notation.proofs.Pieces.{pieces_more, pieces_end}
use Rattle.folder.specs.declared.parts.Fault.{Fault}
use Rattle.folder.specs.Folders.{Folder, folder_of, nothing_read, take_line, take_end, at_line, read_from, read_folder, Reads, failure_at}

-- what is left of the text, from line n on
abbrev pub read_left : Folder → ℕ → List ℕ → Result Folder Fault
read_left d n s = read_from d n (pieces 10 s).0 (pieces 10 s).1

-- one line more, where o is what came of it
pub line_read : (d : Folder) (n : ℕ) (s line rest : List ℕ) (o : Result Folder FolderFault) → Some (line, rest) ≡ cut_at 10 s → take_line d line ≡ o → read_left d n s ≡ carry (at_line n) o (λ d. read_left d (n + 1) rest)
line_read d n s line rest o cut e =
    ap (λ p. read_from d n p.0 p.1) (pieces_more 10 s line rest cut)
    ∙ ap (λ r. carry (at_line n) r (λ d. read_left d (n + 1) rest)) e

-- the end of the text, where o is what came of it
pub end_read : (d : Folder) (n : ℕ) (s : List ℕ) (o : Result Folder FolderFault) → None ≡ cut_at 10 s → take_end d s ≡ o → read_left d n s ≡ carry (at_line n) o (λ d. Ok d)
end_read d n s o cut e =
    ap (λ p. read_from d n p.0 p.1) (pieces_end 10 s cut)
    ∙ ap (λ r. carry (at_line n) r (λ d. Ok d)) e

pub within : (s : List ℕ) → length s ≤ 65536 → read_folder s ≡ read_left nothing_read 1 s
within s h = cond-true _ _ _ (le-leb (length s) 65536 h)

-- a failure at line n, where o is what came of that line and k what would have followed
pub failed : (n : ℕ) (e : Failure FolderFault) (f : Failure Fault) (x : Folder) (o : Result Folder FolderFault) (w : Result Folder Fault) (k : Folder → Result Folder Fault) → f ≡ failure_at n e → Reads x (Err e) o → w ≡ carry (at_line n) o k → UnlessMemory folder_of (Err f) w
failed n failure.Memory f x o w k is h e = subst (λ g. UnlessMemory folder_of (Err g) w) (sym is) tt
failed n (failure.Fault g) f x o w k is h e = subst (λ g. UnlessMemory folder_of (Err g) w) (sym is) (e ∙ ap (λ r. carry (at_line n) r k) h)
