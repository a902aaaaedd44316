-- A derivation of two families.
use mathlib.Core.Path.{◌≡◌, refl, sym, ap, subst, ◌∙◌}
use mathlib.Core.List.{List, [], ◌∷◌}
use mathlib.Core.Logic.{◌⊎◌, inl, inr, ⊎_elim}
use Prim.Native.Nat.{ℕ, zero, suc, ◌<◌, ◌≤◌}
use lib.ListN.{length}
use native.Mathlib.Omega.{arith}
use Rattle.notation.specs.Logic.{Term, var, Atom, at, In, here, terms}
use Rattle.search.specs.Keeping.{Rule, Occurs}
use Rattle.rewriting.specs.Examples.{v0, v1, p1, p2, rule0, one_query, both_heads, both_again}
use Rattle.rewriting.specs.Judging.{open_ledger, enter, step}
use Rattle.rewriting.specs.Rightness.{Distinct, Narrow, Proper}
use Rattle.rewriting.specs.Steps.{Query}
use Rattle.rewriting.specs.Unifiers.{OneHead}
use Rattle.laws.specs.Law.{Opened}
use Rattle.laws.specs.Offerable.{AllEnter, DerivationHolds}
use Rattle.rewriting.proofs.Judged.{judge_is_right}
use Rattle.rewriting.proofs.Lists.{none_in, in_cases, in_vars}
use Rattle.rewriting.proofs.Nth.{nth_in, one_of}
use Rattle.laws.proofs.Calls.{run_all}
use Rattle.laws.proofs.Law.{law_holds}
use Rattle.laws.proofs.Offered.{steps_are_offered}

rule0_one_head : OneHead rule0
rule0_one_head zero j d e hi hj z o nb oe = absurd (nb (subst (λ v. Occurs (var z) v) (sym (one_of hi)) o))
rule0_one_head (suc zero) zero d e hi hj z o nb oe = absurd (nb (subst (λ v. Occurs (var z) v) (sym (one_of hj)) oe))
rule0_one_head (suc zero) (suc zero) d e hi hj z o nb oe = refl
rule0_one_head (suc zero) (suc (suc j)) d e hi hj z o nb oe = absurd (none_in (nth_in j [] hj))
rule0_one_head (suc (suc i)) j d e hi hj z o nb oe = absurd (none_in (nth_in i [] hi))

two_distinct : (x y : Atom Term) → (x ≡ y → ⊥) → Distinct (x ∷ y ∷ [])
two_distinct x y h zero zero a e f = refl
two_distinct x y h zero (suc zero) a e f = absurd (h (one_of e ∙ sym (one_of f)))
two_distinct x y h (suc zero) zero a e f = absurd (h (one_of f ∙ sym (one_of e)))
two_distinct x y h (suc zero) (suc zero) a e f = refl
two_distinct x y h (suc (suc i)) j a e f = absurd (none_in (nth_in i [] e))
two_distinct x y h zero (suc (suc j)) a e f = absurd (none_in (nth_in j [] f))
two_distinct x y h (suc zero) (suc (suc j)) a e f = absurd (none_in (nth_in j [] f))

fits : (a c : Atom Term) → a ≡ c → length (terms (c ∷ [])) ≤ 4 → length (terms (a ∷ [])) ≤ 4
fits a c e h = subst (λ v. length (terms (v ∷ [])) ≤ 4) (sym e) h

one_narrow : (c : Atom Term) → length (terms (c ∷ [])) ≤ 4 → Narrow (c ∷ [])
one_narrow c h a m = ⊎_elim (λ e. fits a c e h) (λ i. absurd (none_in i)) (in_cases m)

one_query_proper : (x : Query) → In x one_query → Proper x
one_query_proper x m = subst Proper (sym (only (in_cases m))) (record {
  some = λ e. none_in (subst (λ (v : Query). In (p1 1 v0) v) e (here refl));
  atoms = omega arith;
  narrow = λ a i. ⊎_elim (λ e. fits a (p1 1 v0) e (omega arith)) (λ j. ⊎_elim (λ e. fits a (p2 v0 v1) e (omega arith)) (λ l. absurd (none_in l)) (in_cases j)) (in_cases i);
  distinct = two_distinct (p1 1 v0) (p2 v0 v1) (λ e. differ (ap pred e));
  variables = λ k o. below k (in_vars (v0 ∷ v0 ∷ v1 ∷ []) o);
  in_order = inr (refl, inl (omega arith, inr (refl, tt)));
})
  where
    pred : Atom Term → ℕ
    pred (at n ts) = n

    differ : ◌≡◌ {A = ℕ} 1 2 → ⊥
    differ e = omega arith

    only : (x ≡ p1 1 v0 ∷ p2 v0 v1 ∷ []) ⊎ In x [] → x ≡ p1 1 v0 ∷ p2 v0 v1 ∷ []
    only (inl e) = e
    only (inr i) = absurd (none_in i)

    below : (k : ℕ) → In k (0 ∷ 0 ∷ 1 ∷ []) → k < 32
    below k i = ⊎_elim (λ e. let h : k ≡ 0 = e in omega arith) (λ j. ⊎_elim (λ e. let h : k ≡ 0 = e in omega arith) (λ l. ⊎_elim (λ e. let h : k ≡ 1 = e in omega arith) (λ n. absurd (none_in n)) (in_cases l)) (in_cases j)) (in_cases i)

opened : Opened (rule0 ∷ []) one_query
opened = record {
  bodies = λ u m e. body u (in_cases m) e;
  narrow = λ u m. ⊎_elim (λ e. subst (λ (v : Rule). Narrow v.body) (sym e) (one_narrow (p1 0 v0) (omega arith))) (λ i. absurd (none_in i)) (in_cases m);
  heads = λ u m d i. head d (subst (λ (v : Rule). In d v.heads) (only_rule u (in_cases m)) i);
  one_head = λ u m. ⊎_elim (λ e. subst OneHead (sym e) rule0_one_head) (λ i. absurd (none_in i)) (in_cases m);
  queries = one_query_proper;
}
  where
    body : (u : Rule) → (u ≡ rule0) ⊎ In u [] → u.body ≡ [] → ⊥
    body u (inl h) e = none_in (subst (λ (v : List (Atom Term)). In (p1 0 v0) v) (sym (ap (λ (w : Rule). w.body) h) ∙ e) (here refl))
    body u (inr i) e = none_in i

    only_rule : (u : Rule) → (u ≡ rule0) ⊎ In u [] → u ≡ rule0
    only_rule u (inl e) = e
    only_rule u (inr i) = absurd (none_in i)

    head : (d : List (Atom Term)) → In d rule0.heads → (length d ≤ 4) × Narrow d
    head d i = ⊎_elim (λ e. subst (λ v. (length v ≤ 4) × Narrow v) (sym e) (omega arith, one_narrow (p1 1 v0) (omega arith)))
        (λ j. ⊎_elim (λ e. subst (λ v. (length v ≤ 4) × Narrow v) (sym e) (omega arith, one_narrow (p2 v0 v1) (omega arith))) (λ l. absurd (none_in l)) (in_cases j)) (in_cases i)

pub derivation_holds : DerivationHolds
derivation_holds =
    let s = open_ledger (rule0 ∷ []) one_query in
    let n : Query = p1 0 v0 ∷ p2 v0 v1 ∷ p1 1 v0 ∷ [] in
    let a = (judge_is_right s both_heads n).0 refl in
    let b = (judge_is_right (enter s n) both_again n).0 refl in
    let ks = step both_heads ∷ step both_again ∷ [] in
    let r = steps_are_offered (rule0 ∷ []) one_query opened (both_heads ∷ both_again ∷ []) (AllEnter.more n a.0 a.1 (AllEnter.more n b.0 b.1 AllEnter.done)) in
    (r.0, r.1, r.2, r.3, (law_holds (rule0 ∷ []) one_query opened ks _ (run_all s ks)).offered_derivations_are_entered r.0 r.2 r.3)
