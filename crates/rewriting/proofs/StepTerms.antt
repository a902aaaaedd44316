-- The test of two terms of a step.
use Rattle.std.proofs.Common.{◌≡◌, refl}
use Rattle.rewriting.specs.declared.places.StepTerm.{StepTerm}
use Rattle.rewriting.specs.declared.places.StepTerm.TheVariants.{Constant, Rule, Copy}
use Rattle.rewriting.specs.contracts.places.StepTermPartialEq.TheImpl as step_term_eq
use Rattle.rewriting.specs.Classes.{same_ref}
use Rattle.rewriting.specs.Written.{step_ref}

pub step_term_equal : (x y : StepTerm) → step_term_eq.ghosts.eq x y ≡ same_ref (step_ref x) (step_ref y)
step_term_equal (Constant k) (Constant m) = refl
step_term_equal (Constant k) (Rule m) = refl
step_term_equal (Constant k) (Copy j m) = refl
step_term_equal (Rule k) (Constant m) = refl
step_term_equal (Rule k) (Rule m) = refl
step_term_equal (Rule k) (Copy j m) = refl
step_term_equal (Copy i k) (Constant m) = refl
step_term_equal (Copy i k) (Rule m) = refl
step_term_equal (Copy i k) (Copy j m) = refl
