use Rattle.std.proofs.Common.{[], ◌∷◌}
use Rattle.search.specs.Bindings.{Meets, MeetsAll}
use Rattle.search.proofs.Narrowing.{met_then}
use Rattle.search.proofs.matching.Binding.meet_two.Goals as goal

pub returns : goal.returns
returns c =
    met_then _ c.meet-2.result (Meets c.args.t c.args.y) (MeetsAll (c.args.s ∷ c.args.t ∷ []) (c.args.x ∷ c.args.y ∷ []))
    (λ h p q. (p, (q, tt))) (λ h e. (e.0, e.1.0)) c.in_ok-meet.ensures c.meet-2.ensures
