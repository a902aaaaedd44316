use Rattle.std.proofs.Common.{◌≡◌, ◌+◌, true, false, List, [], ◌∷◌, ◌++◌, Option, None, is_some, get_or, take, sym, ap, ◌∙◌, subst, ap₂, rules}
use Rattle.std.proofs.lemmas.List.{take_all}
use Rattle.notation.specs.declared.terms.Term.{Term as WrittenTerm}
use Rattle.notation.specs.declared.terms.Atom.{Atom as WrittenAtom}
use Rattle.notation.specs.Logic.{Atom, rename, query_atom}
use Rattle.rewriting.specs.declared.pieces.Side.{Side}
use Rattle.rewriting.specs.declared.pieces.StepAtom.{StepAtom}
use Rattle.rewriting.specs.declared.steps.Owner.{Owner}
use Rattle.rewriting.specs.Drafts.{Adds}
use Rattle.rewriting.specs.Pieces.{atom_of, atoms_left}
use Rattle.rewriting.specs.Steps.{Ref}
use Rattle.rewriting.specs.Written.{ref_of}
use Rattle.rewriting.proofs.Leaving.{adds_then, adds_stop, untaken, one_taken, one_left, untaken_split}
use Rattle.rewriting.proofs.Ranged.{fits_at}
use Rattle.rewriting.proofs.Sides.{no_atom}
use Rattle.rewriting.proofs.Turns.{member_is}
use Rattle.rewriting.proofs.draft.Draft.add_others.Goals as goal

-- an atom of the side, as it is named
named : (s : Side) (j : _) (a : StepAtom) → a.atom ≡ get_or s.atoms.now j no_atom → a.owner ≡ s.owner → atom_of a ≡ rename (ref_of s.owner) (query_atom (get_or s.atoms.now j no_atom))
named s j a e o = ap₂ (λ (w : Owner) (b : WrittenAtom WrittenTerm). rename (ref_of w) (query_atom b)) o e

pub atom-requires : goal.atom-requires
atom-requires c = fits_at c.args.side.now.atoms.now c.loop-j.j-counter no_atom c.args.side.now.fit c.loop-j-test.true

pub loop-j-preserved-then-contains : goal.loop-j-preserved-then-contains
loop-j-preserved-then-contains c =
    let s = c.args.side.now in
    let on = sym (member_is s.numbers.now c.loop-j.j-counter) ∙ sym c.contains.ensures.value ∙ c.if-contains.true in
    subst (λ (v : List (Atom Ref)). Adds true c.args.classes.now.names v c.args.self.now c.loop-j.self) (sym (one_taken s.owner s.numbers.now s.atoms.now c.loop-j.j-counter no_atom c.loop-j-test.true on)) c.loop-j.invariant

pub loop-j-preserved : goal.loop-j-preserved
loop-j-preserved c =
    let s = c.args.side.now in
    let t = c.args.classes.now.names in
    let j = c.loop-j.j-counter in
    let d = c.args.self.now in
    let e = c.add.new.self in
    let is = named s j c.atom.result c.atom.ensures.atom c.atom.ensures.owner in
    let off = sym (member_is s.numbers.now j) ∙ sym c.contains.ensures.value ∙ c.if-contains.false in
    subst (λ (v : List (Atom Ref)). Adds true t v d e) (sym (one_left s.owner s.numbers.now s.atoms.now j no_atom c.loop-j-test.true off))
    (adds_then t true (untaken s.owner s.numbers.now (take j s.atoms.now)) (rename (ref_of s.owner) (query_atom (get_or s.atoms.now j no_atom)) ∷ []) d c.loop-j.self e c.loop-j.invariant
    (subst (λ (x : Atom Ref). Adds true t (x ∷ []) c.loop-j.self e) is c.in_ok-add.ensures))

pub returns-in_err-add : goal.returns-in_err-add
returns-in_err-add c =
    let s = c.args.side.now in
    let t = c.args.classes.now.names in
    let j = c.loop-j.j-counter in
    let d = c.args.self.now in
    let e = c.add.new.self in
    let is = named s j c.atom.result c.atom.ensures.atom c.atom.ensures.owner in
    let off = sym (member_is s.numbers.now j) ∙ sym c.contains.ensures.value ∙ c.if-contains.false in
    let last : List (Atom Ref) = rename (ref_of s.owner) (query_atom (get_or s.atoms.now j no_atom)) ∷ [] in
    let rest = untaken_split s.owner s.numbers.now s.atoms.now (j + 1) in
    let none : c.from_residual.result ≡ None = search rules in
    subst (λ (r : Option (Unit {0})). Adds (is_some r) t (atoms_left s) d e) (sym none)
    (subst (λ (v : List (Atom Ref)). Adds false t v d e) (sym (rest.1 ∙ ap (λ v. v ++ rest.0) (one_left s.owner s.numbers.now s.atoms.now j no_atom c.loop-j-test.true off)))
    (adds_stop t (untaken s.owner s.numbers.now (take j s.atoms.now) ++ last) rest.0 d e e
    (adds_then t false (untaken s.owner s.numbers.now (take j s.atoms.now)) last d c.loop-j.self e c.loop-j.invariant
    (subst (λ (x : Atom Ref). Adds false t (x ∷ []) c.loop-j.self e) is c.in_err-add.ensures))))

pub returns : goal.returns
returns c =
    let s = c.args.side.now in
    subst (λ v. Adds true c.args.classes.now.names (untaken s.owner s.numbers.now v) c.args.self.now c.loop-j.self) (take_all c.loop-j.j-counter s.atoms.now c.loop-j-test.false) c.loop-j.invariant
