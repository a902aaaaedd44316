use Rattle.std.proofs.Common.{[], ◌∷◌, sym, ap, ◌∙◌}
use Rattle.notation.specs.Logic.{terms_of}
use Rattle.queries.specs.Scopes.{scope_after}
use Rattle.queries.proofs.Loops.{scope_more}
use Rattle.queries.proofs.checks.Scope.after_atom.Goals as goal

pub returns-in_ok-after-in-Three-2 : goal.returns-in_ok-after-in-Three-2
returns-in_ok-after-in-Three-2 c =
    let p = c.in-Three in
    c.after-in-Three-3.ensures
    ∙ scope_more _ (p.u ∷ []) (p.v ∷ []) _ c.in_ok-after-in-Three-2.ensures
    ∙ scope_more _ (p.t ∷ []) (p.u ∷ p.v ∷ []) _ c.in_ok-after-in-Three.ensures
    ∙ ap (λ ts. scope_after c.args.self (terms_of ts)) (sym p.is)

pub returns-in_err-after-in-Four-3 : goal.returns-in_err-after-in-Four-3
returns-in_err-after-in-Four-3 c =
    let p = c.in-Four in
    c.from_residual-in_err-after-in-Four-3.ensures
    ∙ scope_more _ (p.v ∷ []) (p.w ∷ []) _ c.in_err-after-in-Four-3.ensures
    ∙ scope_more _ (p.u ∷ []) (p.v ∷ p.w ∷ []) _ c.in_ok-after-in-Four-2.ensures
    ∙ scope_more _ (p.t ∷ []) (p.u ∷ p.v ∷ p.w ∷ []) _ c.in_ok-after-in-Four.ensures
    ∙ ap (λ ts. scope_after c.args.self (terms_of ts)) (sym p.is)

pub returns-in_ok-after-in-Four-3 : goal.returns-in_ok-after-in-Four-3
returns-in_ok-after-in-Four-3 c =
    let p = c.in-Four in
    c.after-in-Four-4.ensures
    ∙ scope_more _ (p.v ∷ []) (p.w ∷ []) _ c.in_ok-after-in-Four-3.ensures
    ∙ scope_more _ (p.u ∷ []) (p.v ∷ p.w ∷ []) _ c.in_ok-after-in-Four-2.ensures
    ∙ scope_more _ (p.t ∷ []) (p.u ∷ p.v ∷ p.w ∷ []) _ c.in_ok-after-in-Four.ensures
    ∙ ap (λ ts. scope_after c.args.self (terms_of ts)) (sym p.is)
