use Rattle.std.proofs.Common.{◌≡◌, ◌+◌, ◌≤◌, length}
use Rattle.folder.specs.Folders.{folder_of, nothing_read}
use Rattle.folder.proofs.Lines.{read_left}
use Rattle.folder.proofs.reader.read.Given as goal

abbrev pub invariant-loop-piece : goal.invariant-loop-piece
invariant-loop-piece l = (l.line + length l.left ≤ 1 + length l.text) × (read_left (folder_of l.reader) l.line l.left ≡ read_left nothing_read 1 l.text)

abbrev pub decreases-loop-piece : goal.decreases-loop-piece
decreases-loop-piece l = length l.left
