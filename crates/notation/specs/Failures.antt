-- What a reader answers where memory may be wanting.
use Rattle.std.specs.Prelude.{◌≡◌, Ok, Err, Result}
use Rattle.notation.specs.declared.failures.Failure.{Failure}
use Rattle.notation.specs.declared.failures.Failure.TheVariants.{Memory, Fault}
use Rattle.notation.specs.declared.faults.FolderFault.{FolderFault}
use Rattle.notation.specs.declared.faults.FolderFault.TheVariants.{InLine}
use Rattle.notation.specs.declared.faults.LineFault.{LineFault}

-- what was answered is what the definition says, unless memory was wanting
abbrev pub UnlessMemory : {X Y F : Type 0} → (X → Y) → Result X (Failure F) → Result Y F → Type 0
UnlessMemory see (Ok x) o = o ≡ Ok (see x)
UnlessMemory see (Err (Fault f)) o = o ≡ Err f
UnlessMemory see (Err Memory) o = Unit {0}

-- the failure of a line, inside that of a folder
abbrev pub failure_up : Failure LineFault → Failure FolderFault
failure_up Memory = Memory
failure_up (Fault e) = Fault (InLine e)

-- a fact for each variant
abbrev pub MatchFailure : {F : Type 0} → Failure F → Type 0 → (F → Type 0) → Type 0
MatchFailure Memory P Q = P
MatchFailure (Fault e) P Q = Q e

-- a fault, and a fact of it
abbrev pub IsFaultAnd : {F : Type 0} → Failure F → (F → Type 0) → Type 0
IsFaultAnd r P = MatchFailure r ⊥ P

-- a fact of the fault, if it is one
abbrev pub ForFault : {F : Type 0} → Failure F → (F → Type 0) → Type 0
ForFault r P = (e : _) → r ≡ Fault e → P e
