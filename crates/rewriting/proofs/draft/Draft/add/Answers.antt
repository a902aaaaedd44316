use Rattle.std.proofs.Common.{◌≡◌, true, false, [], ◌∷◌, ◌++◌, Option, None, is_some, sym, refl, ap, ◌∙◌, subst, rules}
use Rattle.notation.specs.declared.terms.Atom.{Atom}
use Rattle.notation.specs.declared.terms.Term.{Term}
use Rattle.queries.specs.Checks.{among}
use Rattle.queries.proofs.Same.{contains_among}
use Rattle.rewriting.specs.declared.draft.Draft.{Draft}
use Rattle.rewriting.specs.Drafts.{draft_atoms, Added}
use Rattle.rewriting.specs.Pieces.{atom_of}
use Rattle.rewriting.proofs.OneMore.{too_many_names, had_already, pushed}
use Rattle.rewriting.proofs.draft.Draft.add.Goals as goal

pub returns-in_err-terms : goal.returns-in_err-terms
returns-in_err-terms c f ls known has =
    let none : c.from_residual.result ≡ None = search rules in
    subst (λ (r : Option (Unit {0})). Added (is_some r) f (ls ++ atom_of c.args.a ∷ []) (record { atoms = c.args.self.now.atoms; variables = c.terms_in.new.self })) (sym none)
    (too_many_names c.args.classes.now.names f ls c.args.self.now known has c.args.a.owner c.args.a.atom c.args.a.fit c.args.a.owned c.in_err-terms.ensures)

pub returns-then-contains : goal.returns-then-contains
returns-then-contains c f ls known has =
    let b : Atom Term = record { predicate = c.args.a.atom.predicate; terms = c.in_ok-terms.terms } in
    let d = c.args.self.now in
    let e : Draft = record { atoms = d.atoms; variables = c.terms_in.new.self } in
    let told = c.in_ok-terms.ensures in
    let found : among b (draft_atoms d) ≡ true =
    ap (among b) (sym c.as_slice.ensures) ∙ sym (contains_among b c.as_slice.result.now) ∙ sym c.contains.ensures.value ∙ c.if-contains.true in
    had_already c.args.classes.now.names f ls d known has c.args.a.owner c.args.a.atom c.args.a.fit c.args.a.owned
    b e refl told.0 told.1 found refl

pub returns : goal.returns
returns c f ls known has =
    let b : Atom Term = record { predicate = c.args.a.atom.predicate; terms = c.in_ok-terms.terms } in
    let d = c.args.self.now in
    let told = c.in_ok-terms.ensures in
    let fresh : among b (draft_atoms d) ≡ false =
    ap (among b) (sym c.as_slice.ensures) ∙ sym (contains_among b c.as_slice.result.now) ∙ sym c.contains.ensures.value ∙ c.if-contains.false in
    pushed c.args.classes.now.names f ls d known has c.args.a.owner c.args.a.atom c.args.a.fit c.args.a.owned
    b (record { atoms = d.atoms; variables = c.terms_in.new.self }) _ refl told.0 told.1 refl fresh refl c.push.result c.push.ensures.room c.push.ensures.pushed
