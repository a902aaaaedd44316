-- What a `?` answers where memory may be wanting.
use Rattle.std.proofs.Common.{◌≡◌, Ok, Err, Result, refl}
use Rattle.std.specs.Result.{IsErrAnd}
use Rattle.notation.specs.declared.failures.Failure.{Failure}
use Rattle.notation.specs.declared.failures.Failure.TheVariants.{Memory, Fault}
use Rattle.notation.specs.Failures.{IsFaultAnd}

-- a fault that goes up is the error
pub fault_answered : {X F : Type 0} {P : F → Type 0} (r : Result X (Failure F)) → IsErrAnd r (λ e. IsFaultAnd e P) → (f : F) × (r ≡ Err (Fault f)) × P f
fault_answered (Ok x) h = absurd h
fault_answered (Err Memory) h = absurd h
fault_answered (Err (Fault f)) h = (f, refl, h)
