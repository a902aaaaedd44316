use Rattle.std.proofs.Common.{Bool, true, false, sym, ap, ◌∙◌, ap₂, arith}
use Rattle.std.proofs.lemmas.List.{at_drop_all}
use Rattle.notation.specs.declared.terms.Term.{Term as WrittenTerm}
use Rattle.notation.specs.declared.terms.Atom.{Atom as WrittenAtom}
use Rattle.notation.specs.Logic.{Atom, rename, query_atom}
use Rattle.rewriting.specs.declared.steps.Owner.{Owner}
use Rattle.rewriting.specs.Classes.{same_ref}
use Rattle.rewriting.specs.Computing.{same_atom, any}
use Rattle.rewriting.specs.Pieces.{atom_of}
use Rattle.rewriting.specs.Steps.{Ref}
use Rattle.rewriting.specs.Written.{ref_of, named_side}
use Rattle.rewriting.proofs.Ranged.{fits_at}
use Rattle.rewriting.proofs.Sides.{no_atom, side_skip, any_side}
use Rattle.rewriting.proofs.Turns.{member_is}
use Rattle.rewriting.proofs.pieces.Side.meets.Goals as goal
use Rattle.rewriting.proofs.pieces.Side.meets.Goals.{else-contains-via-then-contains+else-make_same, else-contains-via-else-contains}

pub atom-requires : goal.atom-requires
atom-requires c = fits_at c.args.self.now.atoms.now c.loop-j.j-counter no_atom c.args.self.now.fit c.loop-j-test.true

pub returns-then-make_same : goal.returns-then-make_same
returns-then-make_same c f n =
    let s = c.args.self.now in
    let P : Atom Ref → Bool = same_atom same_ref (rename f (atom_of c.args.a)) in
    sym (any_side f P s.owner s.numbers.now s.atoms.now c.loop-j.j-counter no_atom true (omega arith)
    (sym (member_is s.numbers.now c.loop-j.j-counter) ∙ sym c.contains.ensures.value ∙ c.if-contains.true)
    (sym c.if-make_same.true ∙ c.make_same.ensures f n
    ∙ ap₂ (λ (o : Owner) (a : WrittenAtom WrittenTerm). P (rename f (rename (ref_of o) (query_atom a)))) c.atom.ensures.owner c.atom.ensures.atom))
    ∙ c.loop-j.invariant f n

pub loop-j-preserved : goal.loop-j-preserved
loop-j-preserved c f n =
    let s = c.args.self.now in
    let P : Atom Ref → Bool = same_atom same_ref (rename f (atom_of c.args.a)) in
    elim c.else-contains.branch [
      | else-contains-via-then-contains+else-make_same w ↦
          sym (any_side f P s.owner s.numbers.now s.atoms.now c.loop-j.j-counter no_atom false (omega arith)
          (sym (member_is s.numbers.now c.loop-j.j-counter) ∙ sym c.contains.ensures.value ∙ w.if-contains.true)
          (sym w.if-make_same.false ∙ w.make_same.ensures f n
          ∙ ap₂ (λ (o : Owner) (a : WrittenAtom WrittenTerm). P (rename f (rename (ref_of o) (query_atom a)))) w.atom.ensures.owner w.atom.ensures.atom))
          ∙ c.loop-j.invariant f n
      | else-contains-via-else-contains w ↦
          ap (any P) (sym (side_skip f s.owner s.numbers.now s.atoms.now c.loop-j.j-counter no_atom (omega arith)
          (sym (member_is s.numbers.now c.loop-j.j-counter) ∙ sym c.contains.ensures.value ∙ w.if-contains.false)))
          ∙ c.loop-j.invariant f n
    ]

pub returns : goal.returns
returns c f n =
    let s = c.args.self.now in
    let P : Atom Ref → Bool = same_atom same_ref (rename f (atom_of c.args.a)) in
    sym (at_drop_all (λ as'. any P (named_side f s.owner s.numbers.now c.loop-j.j-counter as')) s.atoms.now c.loop-j.j-counter (omega arith))
    ∙ c.loop-j.invariant f n
