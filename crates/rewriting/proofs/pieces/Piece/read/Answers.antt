use Rattle.std.proofs.Common.{◌≡◌, Bool, true, false, ◌&&◌, List, [], length, vec_items, sym, refl, ap, ◌∙◌}
use Rattle.notation.specs.declared.terms.Term.{Term as WrittenTerm}
use Rattle.notation.specs.declared.terms.Atom.{Atom as WrittenAtom}
use Rattle.notation.specs.Logic.{Term, Atom}
use Rattle.rewriting.specs.declared.pieces.Piece.{Piece}
use Rattle.queries.specs.declared.row.Row.{Row}
use Rattle.rewriting.specs.Written.{part_of, logic_atoms, row_at, row_standing, stands_at}
use Rattle.rewriting.specs.Pieces.{piece_of}
use Rattle.rewriting.specs.Steps.{nth, piece}
use Rattle.rewriting.specs.Judging.{Read, part_read, part_tested, numbers_fit, ties_fit}
use Rattle.rewriting.proofs.PartsRead.{read_is}
use Rattle.rewriting.proofs.Ranged.{ties_within}
use Rattle.rewriting.proofs.pieces.Piece.read.Goals as goal

-- what the tests of the piece say of the part on its row
tested : (s : Piece) (rows : List Row) → s.query.now ≡ row_at rows s.part.now.query → (b : List (Atom Term)) (rest : Read) (v w : Bool) →
    stands_at rows s.part.now.query ≡ true →
    (numbers_fit (length s.query.now) (vec_items s.part.now.taken) && numbers_fit (length s.head.now) (vec_items s.part.now.named)) ≡ v →
    ties_fit (part_of s.part.now) (piece_of b s) ≡ w →
    part_read s.number b (logic_atoms s.head.now) (part_of s.part.now) (row_standing (nth s.part.now.query rows)) rest ≡ part_tested v w s.number (piece_of b s) rest
tested s rows is b rest v w st e f =
    let p = part_of s.part.now in
    let M = λ (qu : List (WrittenAtom WrittenTerm)). piece s.number b (logic_atoms s.head.now) (logic_atoms qu) p in
    read_is s.number b s.head.now p (nth s.part.now.query rows) rest v w st
    (ap (λ (qu : List (WrittenAtom WrittenTerm)). numbers_fit (length qu) p.taken && numbers_fit (length s.head.now) p.named) (sym is) ∙ e)
    (ap (λ (qu : List (WrittenAtom WrittenTerm)). ties_fit p (M qu)) (sym is) ∙ f)
    ∙ ap (λ (qu : List (WrittenAtom WrittenTerm)). part_tested v w s.number (M qu) rest) (sym is)

pub returns-then-not-numbers_fit : goal.returns-then-not-numbers_fit
returns-then-not-numbers_fit c = record {
  read = λ b rest. tested c.args.self.now c.args.rows.now c.requires b rest false _ (sym c.stands_at.ensures ∙ c.if-not-stands_at.false) (sym c.numbers_fit.ensures ∙ c.if-not-numbers_fit.true) refl;
  ties = tt;
}

pub returns-then-not-ties_fit : goal.returns-then-not-ties_fit
returns-then-not-ties_fit c = record {
  read = λ b rest. tested c.args.self.now c.args.rows.now c.requires b rest true false (sym c.stands_at.ensures ∙ c.if-not-stands_at.false) (sym c.numbers_fit.ensures ∙ c.if-not-numbers_fit.false) (sym (c.ties_fit.ensures) ∙ c.if-not-ties_fit.true);
  ties = tt;
}

pub returns : goal.returns
returns c =
    let s = c.args.self.now in
    record {
      read = λ b rest. tested s c.args.rows.now c.requires b rest true true (sym c.stands_at.ensures ∙ c.if-not-stands_at.false) (sym c.numbers_fit.ensures ∙ c.if-not-numbers_fit.false) (sym (c.ties_fit.ensures) ∙ c.if-not-ties_fit.false);
      ties = ties_within s.number [] s.head.now s.query.now (part_of s.part.now) s.numbered s.head_fits s.query_fits (sym (c.ties_fit.ensures) ∙ c.if-not-ties_fit.false);
    }
