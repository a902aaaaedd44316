-- What holds after every list of calls.
use mathlib.Core.Path.{◌≡◌, refl, sym, ap, subst, ◌∙◌}
use mathlib.Core.List.{List, [], ◌∷◌}
use mathlib.Core.Logic.{◌⊎◌, inl, inr, ⊎_elim, ◌↔◌}
use Prim.Native.Nat.{ℕ}
use lib.Dec.{T, eqb, eqb→eq, eqb_refl}
use Rattle.notation.specs.Logic.{Facts, In}
use Rattle.search.specs.Holding.{Holds}
use Rattle.search.specs.Keeping.{Rule, Maps}
use Rattle.rewriting.specs.Computing.{some?}
use Rattle.rewriting.specs.Judging.{Ledger, open_ledger, Call, standing_answer, opening_answer}
use Rattle.rewriting.specs.Rightness.{RightStep, KeepsAll, StandingHolds, OpeningHolds, Lowest}
use Rattle.rewriting.specs.Steps.{Query, Step, nth}
use Rattle.laws.specs.Runs.{Does, entry, no_entry, stroke, no_stroke, standing_asked, opening_asked, rules_asked, Run, end, then}
use Rattle.search.proofs.Composing.{held_where_mapped}
use Rattle.rewriting.proofs.Lists.{decide, none_in, in_cases, in_either}
use Rattle.rewriting.proofs.Nth.{nth_in, in_nth, nth_more, one_of}
use Rattle.rewriting.proofs.Questions.{answers_right}
use Rattle.rewriting.proofs.Sounding.{steps_are_sound}

-- where the new query of a right step holds in a list that keeps the rules, a standing query holds
step_sound : (s : Ledger) (t : Step) (n : Query) → RightStep s t n → (l : Facts) → KeepsAll s.rules l → Holds n l → StandingHolds s l
step_sound s t n r l kept h =
    let u = steps_are_sound s t n r l (kept r.rule (nth_in t.rule s.rules r.is_rule)) h in
    (u.0.query, u.2, u.3, u.4)

-- every entered query that holds in l leads to an opening one
abbrev Leads : List Query → Facts → Ledger → Type 0
Leads os l s = (x : Query) → In x s.entered → Holds x l → OpeningHolds os l

module _ (os : List Query) (l : Facts) where
  call_leads : {s u : Ledger} {k : Call} → KeepsAll s.rules l → Does s k u → Leads os l s → KeepsAll u.rules l × Leads os l u
  call_leads {s} kept (entry {t = t} n r f) le = (kept, λ x m h. ⊎_elim (λ i. le x i h) (λ i. new x (in_cases i) h) (in_either s.entered m))
    where
      new : (x : Query) → (x ≡ n) ⊎ In x [] → Holds x l → OpeningHolds os l
      new x (inl e) h = let v = step_sound s t n r l kept (subst (λ y. Holds y l) e h) in le v.1 (nth_in v.0 s.entered v.2.0) v.3
      new x (inr i) h = absurd (none_in i)
  call_leads kept (no_entry no_step) le = (kept, le)
  call_leads kept (stroke o) le = (kept, le)
  call_leads kept (no_stroke no-strike) le = (kept, le)
  call_leads kept standing_asked le = (kept, le)
  call_leads kept opening_asked le = (kept, le)
  call_leads kept rules_asked le = (kept, le)

  run_leads : {s u : Ledger} {ks : List Call} → KeepsAll s.rules l → Run s ks u → Leads os l s → Leads os l u
  run_leads kept end le = le
  run_leads kept (then d r) le = let v = call_leads kept d le in run_leads v.0 r v.1

  call_stands : {s u : Ledger} {k : Call} → Does s k u → StandingHolds s l → StandingHolds u l
  call_stands {s} (entry n r f) h = (h.0, h.1, (nth_more h.0 s.entered (n ∷ []) h.2.0, h.2.1), h.3)
  call_stands (no_entry no_step) h = h
  call_stands {s} (stroke {a = a} {b = b} o) h = decide (eqb h.0 a)
      (λ t. (
        b,
        o.by,
        (o.b_stands.0, λ i. ⊎_elim (λ e. o.differ (sym e)) (λ j. o.b_stands.1 j) (in_cases i)),
        held_where_mapped o.by o.out l o.maps (subst (λ (v : Query). Holds v l) (one_of (sym h.2.0 ∙ ap (λ v. nth v s.entered) (eqb→eq h.0 a t) ∙ o.a_stands.0)) h.3),
      ))
      (λ t. (h.0, h.1, (h.2.0, λ i. ⊎_elim (λ e. t (subst (λ v. T (eqb h.0 v)) e (eqb_refl h.0))) (λ j. h.2.1 j) (in_cases i)), h.3))
  call_stands (no_stroke no-strike) h = h
  call_stands standing_asked h = h
  call_stands opening_asked h = h
  call_stands rules_asked h = h

  run_stands : {s u : Ledger} {ks : List Call} → Run s ks u → StandingHolds s l → StandingHolds u l
  run_stands end h = h
  run_stands (then d r) h = run_stands r (call_stands d h)

same_on_kept : (rs : List Rule) (os : List Query) (ks : List Call) (s : Ledger) → Run (open_ledger rs os) ks s →
    (l : Facts) → KeepsAll rs l → StandingHolds s l ↔ OpeningHolds os l
same_on_kept rs os ks s run l kept = (
  λ h. run_leads os l kept run (λ x m k. (x, m, k)) h.1 (nth_in h.0 s.entered h.2.0) h.3,
  λ h. let r = in_nth h.1 in run_stands os l run (r.0, h.0, (r.1, λ i. none_in i), h.2),
)

pub sound_on_any : (rs : List Rule) (os : List Query) (ks : List Call) (s : Ledger) → Run (open_ledger rs os) ks s →
    (l m : Facts) → StandingHolds s l → KeepsAll rs m → Maps l m → OpeningHolds os m
sound_on_any rs os ks s run l m h kept maps =
    (same_on_kept rs os ks s run m kept).0 (h.0, h.1, h.2, held_where_mapped h.1 l m h.3 maps)

-- what it was opened with stays
call_keeps : {s u : Ledger} {k : Call} → Does s k u → (u.rules ≡ s.rules) × (u.opening ≡ s.opening)
call_keeps (entry n r f) = (refl, refl)
call_keeps (no_entry h) = (refl, refl)
call_keeps (stroke o) = (refl, refl)
call_keeps (no_stroke h) = (refl, refl)
call_keeps standing_asked = (refl, refl)
call_keeps opening_asked = (refl, refl)
call_keeps rules_asked = (refl, refl)

pub run_keeps : {s u : Ledger} {ks : List Call} → Run s ks u → (u.rules ≡ s.rules) × (u.opening ≡ s.opening)
run_keeps end = (refl, refl)
run_keeps (then d r) = let a = call_keeps d in let b = run_keeps r in (b.0 ∙ a.0, b.1 ∙ a.1)

pub same_found : (rs : List Rule) (os : List Query) (ks : List Call) (s : Ledger) → Run (open_ledger rs os) ks s →
    (l : Facts) → KeepsAll rs l → some? (standing_answer s l) ≡ some? (opening_answer s l)
same_found rs os ks s run l kept =
    let q = answers_right s l in
    go (standing_answer s l) (opening_answer s l) q.standing q.opening
    (subst (λ v. StandingHolds s l ↔ OpeningHolds v l) (sym (run_keeps run).1) (same_on_kept rs os ks s run l kept))
  where
    go : (xs ys : List ℕ) → Lowest (λ n x. (In n s.struck → ⊥) × Holds x l) s.entered xs → Lowest (λ n x. Holds x l) s.opening ys → (StandingHolds s l ↔ OpeningHolds s.opening l) → some? xs ≡ some? ys
    go [] [] a b iff = refl
    go (m ∷ ms) (n ∷ ns) a b iff = refl
    go [] (n ∷ ns) a b iff =
        let h = iff.1 (b.1.0, nth_in n s.opening b.1.1, b.1.2) in absurd (a h.0 h.1 h.2.0 (h.2.1, h.3))
    go (m ∷ ms) [] a b iff =
        let h = iff.0 (m, a.1.0, (a.1.1, a.1.2.0), a.1.2.1) in
        let r = in_nth h.1 in absurd (b r.0 h.0 r.1 h.2)
