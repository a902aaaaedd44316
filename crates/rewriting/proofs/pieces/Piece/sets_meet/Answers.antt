use Rattle.std.proofs.Common.{List, map, sym, ◌∙◌, ap₂}
use Rattle.notation.specs.Logic.{Atom, rename}
use Rattle.rewriting.specs.Judging.{within}
use Rattle.rewriting.specs.Steps.{Ref}
use Rattle.rewriting.proofs.Turns.{and_both, and_first}
use Rattle.rewriting.proofs.pieces.Piece.sets_meet.Goals as goal

pub returns-then-within : goal.returns-then-within
returns-then-within c f n =
    let W = λ (xs ys : List (Atom Ref)). within (map (rename f) xs) (map (rename f) ys) in
    and_both _ _ _
    (sym c.if-within.true ∙ c.within.ensures f n ∙ ap₂ W (c.taken-taken.ensures.meant) (c.named-named.ensures))
    (c.within-then-within.ensures f n ∙ ap₂ W (c.named-named.ensures) (c.taken-taken.ensures.meant))

pub returns-else-within : goal.returns-else-within
returns-else-within c f n =
    let W = λ (xs ys : List (Atom Ref)). within (map (rename f) xs) (map (rename f) ys) in
    and_first _ _ _ c.if-within.false (c.within.ensures f n ∙ ap₂ W (c.taken-taken.ensures.meant) (c.named-named.ensures))
