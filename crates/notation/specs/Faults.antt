-- The number and the level of each fault.
use Rattle.std.specs.Prelude.{ℕ}
use Rattle.notation.specs.declared.faults.TermFault.{TermFault}
use Rattle.notation.specs.declared.faults.TermFault.TheVariants.{NoTerm, BadNumber, Misnumbered}
use Rattle.notation.specs.declared.faults.AtomFault.{AtomFault}
use Rattle.notation.specs.declared.faults.AtomFault.TheVariants.{InTerm, Broken, Unlisted, WrongCount, Repeated}
use Rattle.notation.specs.declared.faults.LineFault.{LineFault}
use Rattle.notation.specs.declared.faults.LineFault.TheVariants.{InAtom, Unreadable, Unended, TooMany}
use Rattle.notation.specs.declared.faults.FolderFault.{FolderFault}
use Rattle.notation.specs.declared.faults.FolderFault.TheVariants.{InLine, OutOfOrder, EndsTooSoon, TooLong}
use Rattle.notation.specs.declared.faults.Level.{Level}
use Rattle.notation.specs.declared.faults.Level.TheVariants as level

-- the number and the level of a fault
abbrev pub graded_term : TermFault → ℕ × Level
graded_term NoTerm = (2, level.Term)
graded_term BadNumber = (2, level.Term)
graded_term Misnumbered = (5, level.Term)

abbrev pub graded_atom : AtomFault → ℕ × Level
graded_atom (InTerm e) = graded_term e
graded_atom Broken = (2, level.Atom)
graded_atom Unlisted = (4, level.Atom)
graded_atom WrongCount = (4, level.Atom)
graded_atom Repeated = (6, level.Atom)

abbrev pub graded_line : LineFault → ℕ × Level
graded_line (InAtom e) = graded_atom e
graded_line Unreadable = (2, level.Line)
graded_line Unended = (2, level.Line)
graded_line TooMany = (7, level.Line)

abbrev pub graded : FolderFault → ℕ × Level
graded (InLine e) = graded_line e
graded OutOfOrder = (3, level.Order)
graded EndsTooSoon = (3, level.Order)
graded TooLong = (1, level.Line)
