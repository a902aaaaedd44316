-- A right step is sound.
use Rattle.std.proofs.Common.{◌≡◌, ℕ, suc, List, [], map, refl, ap, ◌∙◌, subst, ⊎_elim}
use Rattle.notation.specs.Logic.{Term, con, var, Atom, Facts, In, here, there, rename, terms}
use Rattle.search.specs.Holding.{put, Makes, Holds}
use Rattle.search.specs.Keeping.{SomeHead}
use Rattle.rewriting.specs.Computing.{each}
use Rattle.rewriting.specs.Judging.{numbered, order_from, new_query, Ledger}
use Rattle.rewriting.specs.Rightness.{Stands, Reads, done, more, StepsAreSound}
use Rattle.rewriting.specs.Steps.{Query, Ref, fixed, own, in_rule, Part, Piece, piece, bare, Unified, left, all_ties}
use Rattle.rewriting.proofs.Lists.{none_in, in_left, in_right, in_map, in_each, rename_same, rename_twice}
use Rattle.rewriting.proofs.Nth.{once_in}
use Rattle.rewriting.proofs.Named.{RightPieceBy, RightBy, names, right_named}
use Rattle.rewriting.proofs.Numbering.{new_query_is, new_query_is_one}
use Rattle.rewriting.proofs.Sound.{used_holds}

abbrev weigh : (ℕ → Term) → List Ref → Ref → Term
weigh g os x = put g (numbered os x)

-- where the new query holds, each atom that is left becomes a fact
left_made : (f : Ref → Ref) (ls : List (Atom Ref)) (l : Facts) (g : ℕ → Term) → Makes g (new_query f ls) l →
    (a : Atom Ref) → In a ls → In (rename (λ x. weigh g (order_from [] (terms (map (rename f) ls))) (f x)) a) l
left_made f ls l g made a m =
    let os = order_from [] (terms (map (rename f) ls)) in
    let n : In (rename (numbered os) (rename f a)) (map (rename (numbered os)) (map (rename f) ls)) = in_map (rename (numbered os)) (in_map (rename f) m) in
    let k : In (rename (numbered os) (rename f a)) (new_query f ls) = ⊎_elim (λ i. i) (λ i. absurd (none_in i)) (once_in [] (map (rename (numbered os)) (map (rename f) ls)) n) in
    subst (λ v. In v l)
    (rename_twice (put g) (numbered os) (rename f a) ∙ rename_twice (weigh g os) f a)
    (made (rename (numbered os) (rename f a)) k)

-- some query that a right step uses holds, where some head is met
some_used : (s : Ledger) (b : List (Atom Term)) (f : Ref → Ref) (w : Ref → Term) (h : ℕ → Term) (l : Facts) →
    ((k : ℕ) → f (fixed k) ≡ fixed k) → ((k : ℕ) → w (fixed k) ≡ con k) → ((n : ℕ) → h n ≡ w (f (own n))) →
    (i : ℕ) (ds : List (List (Atom Term))) (ps : List Part) (ms : List Piece) → Reads s b i ds ps ms →
    ((p : Piece) → In p ms → RightPieceBy f p) →
    ((p : Piece) → In p ms → (a : Atom Ref) → In a p.rest → In (rename (λ x. w (f x)) a) l) →
    SomeHead b h ds l → (p : Part) × In p ps × (x : Query) × Stands s p.query x × Holds x l
some_used s b f w h l wf wc hw i ds ps ms done right rest met = absurd met
some_used s b f w h l wf wc hw i ds ps ms (more {d = d} {p = p} x st pf rs) right rest met =
    ⊎_elim
    (λ g. (p, here refl, x, st, used_holds f w i b d x p g.0 l wf wc (right (piece i b d x p) (here refl)) (λ n o. g.1 n o ∙ hw n) g.2 (rest (piece i b d x p) (here refl))))
    (λ m. let u = some_used s b f w h l wf wc hw (suc i) _ _ _ rs (λ p k. right p (there k)) (λ p k. rest p (there k)) m in (u.0, there u.1, u.2, u.3, u.4))
    met

pub steps_are_sound : StepsAreSound
steps_are_sound s t n r l kept h =
    let b = r.rule.body in
    let ms = r.pieces in
    let f : Ref → Ref = names ms in
    let by : RightBy (names ms) ms = right_named ms r.right in
    let ls = left b (map bare ms) in
    let new : n ≡ new_query f ls = new_query_is_one (all_ties ms) ls n (new_query f ls) r.new (new_query_is (all_ties ms) ls by.constants) in
    let g = h.0 in
    let os = order_from [] (terms (map (rename f) ls)) in
    let w : Ref → Term = weigh g os in
    let made : Makes g (new_query f ls) l = subst (λ v. Makes g v l) new h.1 in
    let facts : (a : Atom Ref) → In a ls → In (rename (λ x. w (f x)) a) l = left_made f ls l g made in
    let hh : ℕ → Term = λ k. w (f (own k)) in
    let body_made : Makes hh b l = λ a m.
    subst (λ v. In v l)
    (rename_twice (λ x. w (f x)) in_rule a ∙ rename_same (λ u. w (f (in_rule u))) (put hh) a (λ u k. at_body f w by.constants (λ j. refl) u))
    (facts (rename in_rule a) (in_left (each (map bare ms) (λ u. u.rest)) (in_map (rename in_rule) m))) in
    some_used s b f w hh l by.constants (λ k. refl) (λ k. refl) 0 r.rule.heads t.parts ms r.reads by.each_piece
    (λ p m a k. facts a (in_right (map (rename in_rule) b) (in_each (λ (v : Unified). v.rest) (in_map bare m) k)))
    (kept hh body_made)
  where
    at_body : (f : Ref → Ref) (w : Ref → Term) → ((k : ℕ) → f (fixed k) ≡ fixed k) → ((k : ℕ) → w (fixed k) ≡ con k) → (u : Term) → w (f (in_rule u)) ≡ put (λ k. w (f (own k))) u
    at_body f w wf wc (con k) = ap w (wf k) ∙ wc k
    at_body f w wf wc (var k) = refl
