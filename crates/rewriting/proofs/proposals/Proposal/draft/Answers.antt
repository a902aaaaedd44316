use Rattle.std.proofs.Common.{◌≡◌, ℕ, ◌+◌, ◌<◌, Bool, true, false, List, [], ◌++◌, map, length, get_or, take, Some, None, Option, vec_items, sym, refl, ap, ◌∙◌, subst, rules}
use Rattle.std.proofs.lemmas.List.{take_all}
use Rattle.notation.specs.declared.terms.Term.{Term as WrittenTerm}
use Rattle.notation.specs.declared.terms.Atom.{Atom as WrittenAtom}
use Rattle.notation.specs.Logic.{Atom, rename}
use Rattle.queries.specs.declared.row.Row.{Row}
use Rattle.rewriting.specs.declared.draft.Draft.{Draft}
use Rattle.rewriting.specs.declared.pieces.Piece.{Piece}
use Rattle.rewriting.specs.declared.pieces.Side.{Side}
use Rattle.rewriting.specs.declared.steps.Owner.TheVariants as owner
use Rattle.rewriting.specs.declared.steps.Part.{Part}
use Rattle.rewriting.specs.Drafts.{Adds, Told}
use Rattle.rewriting.specs.Judging.{new_query}
use Rattle.rewriting.specs.Pieces.{atoms_left, piece_of}
use Rattle.rewriting.specs.Proposals.{all_left}
use Rattle.rewriting.specs.Steps.{Ref, in_rule}
use Rattle.rewriting.specs.Written.{logic_atoms, row_at}
use Rattle.rewriting.proofs.Leaving.{adds_then, adds_stop, adds_body, adds_part, untaken, parts_left, parts_split, told_some, told_none}
use Rattle.rewriting.proofs.Parted.{came, ended}
use Rattle.rewriting.proofs.proposals.Proposal.draft.Goals as goal

-- what was left of the parts before, and then what the side of part i leaves
side_added : (t : List ℕ) (r : Bool) (rows : List Row) (parts : List Part) (i : ℕ) (q : Piece) (s : Side) (d e g : Draft) → i < length parts →
    q.number ≡ i → q.query.now ≡ row_at rows q.part.now.query → q.part.now ≡ get_or parts i q.part.now → atoms_left s ≡ (piece_of [] q).rest →
    Adds true t (parts_left rows (take i parts)) d e → Adds r t (atoms_left s) e g → Adds r t (parts_left rows (take (i + 1) parts)) d g
side_added t r rows parts i q s d e g lt number query part others before this =
    let taken = vec_items q.part.now.taken in
    adds_part t r rows parts i q.part.now taken q.query.now d e g lt part refl query before
    (subst (λ (v : List (Atom Ref)). Adds r t v e g) (others ∙ ap (λ k. untaken (owner.Part k) taken q.query.now) number) this)

pub returns-in_err-add_others : goal.returns-in_err-add_others
returns-in_err-add_others c f known =
    let s = c.args.self.now in
    let t = c.args.classes.now.names in
    let body = c.body.result.now in
    let left = parts_left s.rows.now s.parts.now in
    let d = c.empty-query.result in
    let e = c.add_others.new.self in
    let none : c.from_residual.result ≡ None = search rules in
    subst (λ (r : Option Draft). Told r (new_query f (all_left s))) (sym none)
    (subst (λ (b : List (WrittenAtom WrittenTerm)). Told None (new_query f (map (rename in_rule) (logic_atoms b) ++ left))) c.body.ensures
    (told_none t d c.empty-query.ensures.atoms c.empty-query.ensures.names _ e
    (adds_stop t (map (rename in_rule) (logic_atoms body)) left d e e (adds_body t false body d e c.in_err-add_others.ensures)) f known))

pub loop-piece-preserved : goal.loop-piece-preserved
loop-piece-preserved c =
    let s = c.args.self.now in
    let t = c.args.classes.now.names in
    let e = c.add_others.new.self in
    let g = c.add_others-in-loop-piece.new.self in
    let turn = came s c.loop-piece.piece-iterator _ _ c.in-Some.piece c.loop-piece.invariant.0 c.in-Some.is c.next.ensures.steps in
    let p = turn.0 in (
      turn.2,
      subst (λ k. Adds true t (parts_left s.rows.now (take k s.parts.now)) e g) (sym turn.1)
          (side_added t true s.rows.now s.parts.now c.loop-piece.piece-iterator.next c.in-Some.piece c.taken.result e c.loop-piece.query g
          p.below p.number p.query p.part c.taken.ensures.others c.loop-piece.invariant.1 c.in_ok-add_others-2.ensures),
    )

pub returns-in_err-add_others-2 : goal.returns-in_err-add_others-2
returns-in_err-add_others-2 c f known =
    let s = c.args.self.now in
    let t = c.args.classes.now.names in
    let body = c.body.result.now in
    let rows = s.rows.now in
    let parts = s.parts.now in
    let left = parts_left rows parts in
    let i = c.loop-piece.piece-iterator.next in
    let d = c.empty-query.result in
    let e = c.add_others.new.self in
    let g = c.add_others-in-loop-piece.new.self in
    let p = (came s c.loop-piece.piece-iterator _ _ c.in-Some.piece c.loop-piece.invariant.0 c.in-Some.is c.next.ensures.steps).0 in
    let rest = parts_split rows parts (i + 1) in
    let none : c.from_residual-in_err-add_others-2.result ≡ None = search rules in
    subst (λ (r : Option Draft). Told r (new_query f (all_left s))) (sym none)
    (subst (λ (b : List (WrittenAtom WrittenTerm)). Told None (new_query f (map (rename in_rule) (logic_atoms b) ++ left))) c.body.ensures
    (told_none t d c.empty-query.ensures.atoms c.empty-query.ensures.names _ g
    (adds_then t false (map (rename in_rule) (logic_atoms body)) left d e g (adds_body t true body d e c.in_ok-add_others.ensures)
    (subst (λ (v : List (Atom Ref)). Adds false t v e g) (sym rest.1)
    (adds_stop t (parts_left rows (take (i + 1) parts)) rest.0 e g g
    (side_added t false rows parts i c.in-Some.piece c.taken.result e c.loop-piece.query g
    p.below p.number p.query p.part c.taken.ensures.others c.loop-piece.invariant.1 c.in_err-add_others-2.ensures)))) f known))

pub returns : goal.returns
returns c f known =
    let s = c.args.self.now in
    let t = c.args.classes.now.names in
    let body = c.body.result.now in
    let rows = s.rows.now in
    let parts = s.parts.now in
    let left = parts_left rows parts in
    let d = c.empty-query.result in
    let e = c.add_others.new.self in
    let g = c.loop-piece.query in
    subst (λ (b : List (WrittenAtom WrittenTerm)). Told (Some g) (new_query f (map (rename in_rule) (logic_atoms b) ++ left))) c.body.ensures
    (told_some t d c.empty-query.ensures.atoms c.empty-query.ensures.names _ g
    (adds_then t true (map (rename in_rule) (logic_atoms body)) left d e g (adds_body t true body d e c.in_ok-add_others.ensures)
    (subst (λ v. Adds true t (parts_left rows v) e g) (take_all c.loop-piece.piece-iterator.next parts (ended s c.loop-piece.piece-iterator _ _ c.loop-piece.invariant.0 c.in-None.is c.next.ensures.steps)) c.loop-piece.invariant.1)) f known)
