use Rattle.std.proofs.Common.{◌≡◌, ℕ, refl, ◌∙◌}
use Rattle.notation.specs.declared.terms.Term.{Term}
use Rattle.notation.specs.declared.terms.Term.TheVariants.{Constant, Variable}
use Rattle.notation.specs.contracts.terms.TermPartialEq.TheImpl as term_eq
use Rattle.notation.specs.Logic.{as_term, var}
use Rattle.rewriting.specs.Computing.{same_term}
use Rattle.rewriting.proofs.Turns.{eqb_swap}
use Rattle.rewriting.proofs.unnamed.is_variable.Goals as goal

equal : (t : Term) (v : ℕ) → term_eq.ghosts.eq t (Variable v) ≡ same_term (var v) (as_term t)
equal (Constant k) v = refl
equal (Variable k) v = eqb_swap k v

pub returns : goal.returns
returns c = c.eq.ensures ∙ equal c.args.t c.args.v
