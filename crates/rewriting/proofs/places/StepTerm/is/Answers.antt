use Rattle.std.proofs.Common.{◌∙◌, ap}
use Rattle.rewriting.specs.Classes.{same_ref}
use Rattle.rewriting.specs.Written.{step_ref}
use Rattle.rewriting.proofs.StepTerms.{step_term_equal}
use Rattle.rewriting.proofs.places.StepTerm.is.Goals as goal

pub returns : goal.returns
returns c = c.eq.ensures ∙ step_term_equal c.args.self c.of.result ∙ ap (same_ref (step_ref c.args.self)) c.of.ensures
