use Rattle.std.proofs.Common.{◌∙◌, map, rules}
use Rattle.notation.specs.Logic.{as_term, terms_of}
use Rattle.rewriting.specs.Classes.{same_ref}
use Rattle.rewriting.specs.Written.{step_ref, ref_of}
use Rattle.rewriting.proofs.Turns.{any_mapped}
use Rattle.rewriting.proofs.places.StepTerm.is_among.Goals as goal

pub returns : goal.returns
returns c =
    let o = c.args.owner in
    c.any_of.ensures (λ t. same_ref (step_ref c.args.self) (ref_of o (as_term t))) (λ t r e. search rules)
    ∙ any_mapped (λ t. same_ref (step_ref c.args.self) (ref_of o t)) as_term (terms_of c.args.ts) ∙ any_mapped (same_ref (step_ref c.args.self)) (ref_of o) (map as_term (terms_of c.args.ts))
