use Rattle.std.proofs.Common.{◌∙◌, rules}
use Rattle.std.proofs.lemmas.Iterator.{YieldsList-from_slice}
use Rattle.std.proofs.lemmas.Iterator.Search.{any_from_yields_List}
use borrow.Author.Tests.{tests}
use Rattle.notation.specs.declared.terms.Term.{Term}
use Rattle.notation.specs.declared.terms.Atom.{Atom}
use Rattle.notation.specs.Logic.{query_atom}
use Rattle.rewriting.specs.Occurring.{mentions}
use Rattle.rewriting.proofs.Turns.{any_of_list}
use Rattle.rewriting.proofs.unnamed.occurs.Goals as goal

pub returns : goal.returns
returns c =
    any_from_yields_List (λ (a : Atom Term). mentions c.args.v (query_atom a)) _ _ c.any.result c.any.ensures.ran
    (YieldsList-from_slice c.args.atoms.now (cc)) (λ x b q k. search (rules, tests))
    ∙ any_of_list (mentions c.args.v) query_atom c.args.atoms.now
