use Rattle.std.proofs.Common.{◌∙◌, rules}
use Rattle.notation.specs.Logic.{as_term, terms_of, var}
use Rattle.rewriting.specs.Computing.{same_term}
use Rattle.rewriting.proofs.Turns.{any_mapped}
use Rattle.rewriting.proofs.unnamed.mentions.Goals as goal

pub returns : goal.returns
returns c =
    c.any_of.ensures (λ t. same_term (var c.args.v) (as_term t)) (λ t r e. search rules)
    ∙ any_mapped (same_term (var c.args.v)) as_term (terms_of c.args.a.terms)
