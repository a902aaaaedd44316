use Rattle.std.proofs.Common.{Bool, true, false, map, sym, ap, ◌∙◌, ap₂, arith}
use Rattle.std.proofs.lemmas.List.{at_drop_all}
use Rattle.notation.specs.declared.terms.Term.{Term as WrittenTerm}
use Rattle.notation.specs.declared.terms.Atom.{Atom as WrittenAtom}
use Rattle.notation.specs.Logic.{Atom, rename, query_atom}
use Rattle.rewriting.specs.declared.steps.Owner.{Owner}
use Rattle.rewriting.specs.Classes.{same_ref}
use Rattle.rewriting.specs.Computing.{same_atom, any, all}
use Rattle.rewriting.specs.Pieces.{atoms_meant}
use Rattle.rewriting.specs.Steps.{Ref}
use Rattle.rewriting.specs.Written.{ref_of, named_side}
use Rattle.rewriting.proofs.Ranged.{fits_at}
use Rattle.rewriting.proofs.Sides.{no_atom, side_skip, all_side}
use Rattle.rewriting.proofs.Turns.{member_is}
use Rattle.rewriting.proofs.pieces.Side.within.Goals as goal
use Rattle.rewriting.proofs.pieces.Side.within.Goals.{else-contains-via-then-contains+else-not-meets, else-contains-via-else-contains}

pub atom-requires : goal.atom-requires
atom-requires c = fits_at c.args.self.now.atoms.now c.loop-j.j-counter no_atom c.args.self.now.fit c.loop-j-test.true

pub returns-then-not-meets : goal.returns-then-not-meets
returns-then-not-meets c f n =
    let s = c.args.self.now in
    let P : Atom Ref → Bool = λ a. any (same_atom same_ref a) (map (rename f) (atoms_meant c.args.other.now)) in
    sym (all_side f P s.owner s.numbers.now s.atoms.now c.loop-j.j-counter no_atom false (omega arith)
    (sym (member_is s.numbers.now c.loop-j.j-counter) ∙ sym c.contains.ensures.value ∙ c.if-contains.true)
    (sym c.if-not-meets.true ∙ c.meets.ensures f n
    ∙ ap₂ (λ (o : Owner) (a : WrittenAtom WrittenTerm). P (rename f (rename (ref_of o) (query_atom a)))) c.atom.ensures.owner c.atom.ensures.atom))
    ∙ c.loop-j.invariant f n

pub loop-j-preserved : goal.loop-j-preserved
loop-j-preserved c f n =
    let s = c.args.self.now in
    let P : Atom Ref → Bool = λ a. any (same_atom same_ref a) (map (rename f) (atoms_meant c.args.other.now)) in
    elim c.else-contains.branch [
      | else-contains-via-then-contains+else-not-meets w ↦
          sym (all_side f P s.owner s.numbers.now s.atoms.now c.loop-j.j-counter no_atom true (omega arith)
          (sym (member_is s.numbers.now c.loop-j.j-counter) ∙ sym c.contains.ensures.value ∙ w.if-contains.true)
          (sym w.if-not-meets.false ∙ w.meets.ensures f n
          ∙ ap₂ (λ (o : Owner) (a : WrittenAtom WrittenTerm). P (rename f (rename (ref_of o) (query_atom a)))) w.atom.ensures.owner w.atom.ensures.atom))
          ∙ c.loop-j.invariant f n
      | else-contains-via-else-contains w ↦
          ap (all P) (sym (side_skip f s.owner s.numbers.now s.atoms.now c.loop-j.j-counter no_atom (omega arith)
          (sym (member_is s.numbers.now c.loop-j.j-counter) ∙ sym c.contains.ensures.value ∙ w.if-contains.false)))
          ∙ c.loop-j.invariant f n
    ]

pub returns : goal.returns
returns c f n =
    let s = c.args.self.now in
    let P : Atom Ref → Bool = λ a. any (same_atom same_ref a) (map (rename f) (atoms_meant c.args.other.now)) in
    sym (at_drop_all (λ as'. all P (named_side f s.owner s.numbers.now c.loop-j.j-counter as')) s.atoms.now c.loop-j.j-counter (omega arith))
    ∙ c.loop-j.invariant f n
