use Rattle.std.proofs.Common.{[], map, length, vec_items, sym, ◌∙◌, arith, rules}
use lib.ListN.{length-map}
use Rattle.std.proofs.lemmas.Bool.{le-leb}
use Rattle.std.proofs.lemmas.Iterator.{YieldsList-from_slice}
use Rattle.std.proofs.lemmas.Iterator.Search.{all_from_yields_List}
use borrow.Author.Tests.{tests}
use Rattle.notation.specs.declared.terms.Tie.{Tie}
use Rattle.rewriting.specs.Judging.{tie_fits}
use Rattle.rewriting.specs.Pieces.{piece_of}
use Rattle.rewriting.specs.Steps.{End, end, Piece}
use Rattle.rewriting.specs.Written.{end_of, tie_of}
use Rattle.rewriting.proofs.Turns.{and_both, all_mapped, all_of_list}
use Rattle.rewriting.proofs.pieces.Piece.ties_fit.Goals as goal

pub returns-then-len-le-MOST_TIES : goal.returns-then-len-le-MOST_TIES
returns-then-len-le-MOST_TIES c =
    let s = c.args.self.now in
    let i = s.number in
    let v = s.part.now.ties in
    let m : Piece = piece_of [] s in
    let n = length-map (vec_items v) tie_of in
    and_both _ _ _ (sym (le-leb (length (map tie_of (vec_items v))) 96 (omega (arith, v.ok.0))))
    (all_from_yields_List (λ (t : Tie). tie_fits m (end i (end_of t.left), end i (end_of t.right))) _ _ c.all.result c.all.ensures.ran
    (YieldsList-from_slice (vec_items v) (cc)) (λ x r q k. search (rules, tests))
    ∙ all_of_list (λ (t : End × End). tie_fits m (end i t.0, end i t.1)) tie_of (vec_items v)
    ∙ all_mapped (tie_fits m) (λ (t : End × End). (end i t.0, end i t.1)) (map tie_of (vec_items v)))
