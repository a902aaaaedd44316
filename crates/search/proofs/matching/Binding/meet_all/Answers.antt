use Rattle.std.proofs.Common.{[], ◌∷◌}
use Rattle.search.specs.Bindings.{Meets, MeetsAll}
use Rattle.search.proofs.Narrowing.{met_then, met_like}
use Rattle.search.proofs.matching.Binding.meet_all.Goals as goal

pub returns-in-One-One : goal.returns-in-One-One
returns-in-One-One c =
    let w = c.in-One-One in
    simp (w.is-0, w.is-1) (met_like _ _ c.meet.result (Meets w.s w.x) (MeetsAll (w.s ∷ []) (w.x ∷ []))
    (λ h e. (e, tt)) (λ h e. e.0) c.meet.ensures)

pub returns-in_ok-meet_two-in-Three-Three : goal.returns-in_ok-meet_two-in-Three-Three
returns-in_ok-meet_two-in-Three-Three c =
    let w = c.in-Three-Three in
    simp (w.is-0, w.is-1) (met_then _ c.meet-in-Three-Three.result (Meets w.u w.z) (MeetsAll (w.s ∷ w.t ∷ w.u ∷ []) (w.x ∷ w.y ∷ w.z ∷ []))
    (λ h p q. (p.0, (p.1.0, (q, tt)))) (λ h e. ((e.0, (e.1.0, tt)), e.1.1.0)) c.in_ok-meet_two-in-Three-Three.ensures c.meet-in-Three-Three.ensures)

pub returns-in_ok-meet_two-in-Four-Four : goal.returns-in_ok-meet_two-in-Four-Four
returns-in_ok-meet_two-in-Four-Four c =
    let w = c.in-Four-Four in
    simp (w.is-0, w.is-1) (met_then _ c.meet_two-in-Four-Four-2.result (MeetsAll (w.u ∷ w.v ∷ []) (w.z ∷ w.w ∷ [])) (MeetsAll (w.s ∷ w.t ∷ w.u ∷ w.v ∷ []) (w.x ∷ w.y ∷ w.z ∷ w.w ∷ []))
    (λ h p q. (p.0, (p.1.0, q))) (λ h e. ((e.0, (e.1.0, tt)), e.1.1)) c.in_ok-meet_two-in-Four-Four.ensures c.meet_two-in-Four-Four-2.ensures)
