use Rattle.std.proofs.Common.{sym, refl, ◌∙◌, arith}
use Rattle.folder.specs.Folders.{folder_of, take_line, take_end}
use Rattle.notation.proofs.Pieces.{cut_shorter}
use Rattle.folder.proofs.Lines.{line_read, end_read, within, failed}
use Rattle.folder.proofs.reader.read.Goals as goal

pub loop-piece-smaller : goal.loop-piece-smaller
loop-piece-smaller c = cut_shorter 10 c.loop-piece.left.now c.in-Some.piece.now c.in-Some.rest.now c.in-Some.ensures

pub returns-in-Err : goal.returns-in-Err
returns-in-Err c =
    let d = folder_of c.loop-piece.reader in
    let s = c.loop-piece.left.now in
    let line = c.in-Some.piece.now in
    failed c.loop-piece.line c.in-Err.e _ (folder_of c.take_line.new.self) (take_line d line) _ _ c.at.ensures c.in-Err.ensures
    (within c.args.text.now (omega arith) ∙ sym c.loop-piece.invariant.1 ∙ line_read d c.loop-piece.line s line c.in-Some.rest.now _ c.in-Some.ensures refl)

pub loop-piece-preserved : goal.loop-piece-preserved
loop-piece-preserved c =
    let s = c.loop-piece.left.now in
    let line = c.in-Some.piece.now in
    let less = cut_shorter 10 s line c.in-Some.rest.now c.in-Some.ensures in (
      omega arith,
      sym (line_read (folder_of c.loop-piece.reader) c.loop-piece.line s line c.in-Some.rest.now _ c.in-Some.ensures c.in_default-take_line.ensures) ∙ c.loop-piece.invariant.1,
    )

pub returns-in-Err-finish : goal.returns-in-Err-finish
returns-in-Err-finish c =
    let d = folder_of c.loop-piece.reader in
    let s = c.loop-piece.left.now in
    failed c.loop-piece.line c.in-Err-finish.e _ d (take_end d s) _ _ c.at-in-Err-finish.ensures c.in-Err-finish.ensures
    (within c.args.text.now (omega arith) ∙ sym c.loop-piece.invariant.1 ∙ end_read d c.loop-piece.line s _ c.in_default.ensures refl)
