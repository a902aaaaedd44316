use Rattle.std.proofs.Common.{ℕ, ◌&&◌, eqb, map, ◌∙◌, rules}
use Rattle.std.specs.List.{list_any}
use Rattle.std.proofs.lemmas.Iterator.{YieldsList-from_slice}
use Rattle.std.proofs.lemmas.Iterator.Consumers.{YieldsList-from_enumerate}
use Rattle.std.proofs.lemmas.Iterator.Search.{any_from_yields_List}
use borrow.Author.Tests.{tests}
use Rattle.notation.specs.declared.terms.Term.{Term}
use Rattle.notation.specs.declared.terms.Atom.{Atom}
use Rattle.notation.specs.Logic.{terms_of, as_term}
use Rattle.rewriting.specs.Classes.{same_ref}
use Rattle.rewriting.specs.Computing.{any}
use Rattle.rewriting.specs.Written.{step_ref, ref_of}
use Rattle.rewriting.proofs.Sides.{has_at}
use Rattle.rewriting.proofs.pieces.Side.has.Goals as goal

pub returns : goal.returns
returns c =
    let s = c.args.self.now in
    any_from_yields_List (λ (p : ℕ × Atom Term). list_any (λ y. eqb y p.0) s.numbers.now && any (same_ref (step_ref c.args.x)) (map (ref_of s.owner) (map as_term (terms_of p.1.terms))))
    _ _ c.any.result c.any.ensures.ran (YieldsList-from_enumerate (YieldsList-from_slice s.atoms.now (cc)) (cc)) (λ x b q k. search (rules, tests))
    ∙ has_at (step_ref c.args.x) s.owner s.numbers.now 0 s.atoms.now
