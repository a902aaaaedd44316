use Rattle.std.proofs.Common.{List, [], rules, tests}
use Rattle.std.proofs.lemmas.Iterator.{IsFirst-from_position, YieldsList-from_slice}
use Rattle.std.proofs.lemmas.Bool.Decides.{not_from_Decides}
use Rattle.notation.specs.declared.terms.Atom.{Atom}
use Rattle.notation.specs.declared.terms.Term.{Term}
use Rattle.queries.specs.Rules.{rule_of}
use Rattle.search.specs.Keeping.{Keeps}
use Rattle.search.specs.Rules.{meant}
use Rattle.search.proofs.Asking.{lowest_from_first}
use Rattle.search.proofs.rules.lowest_broken.Goals as goal

pub returns : goal.returns
returns g c =
    let l = g.G.Source.facts c.args.s.now in
    let Broken : List (Atom Term) × List (List (Atom Term)) → Type 0 = λ r. Keeps (meant r) l → ⊥ in
    lowest_from_first rule_of ([], []) Broken c.args.rules.now c.position.result
    (IsFirst-from_position _ _ _ (λ r. Broken (rule_of r)) (λ r. Broken (rule_of r) → ⊥) c.position.ensures.ran (YieldsList-from_slice c.args.rules.now (cc)) (λ x q k. search (rules, tests)) (λ x q k. search (rules, tests, not_from_Decides)))
