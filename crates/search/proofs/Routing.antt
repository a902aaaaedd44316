-- The facts along a route.
use Rattle.std.proofs.Common.{◌≡◌, ℕ, zero, suc, ◌+◌, ◌-◌, ◌<◌, ◌≤◌, Bool, true, false, List, [], ◌∷◌, length, drop, Some, None, Option, sym, refl, ap, ◌∙◌, subst, ⊎_elim, arith}
use Rattle.std.specs.Prelude.{if◌then◌else◌}
use Rattle.std.specs.List.{slice_get}
use Rattle.std.proofs.lemmas.List.{drop_more, drop_all}
use Rattle.std.proofs.lemmas.Option.{slice_get-get_or}
use Rattle.std.proofs.lemmas.Bool.{cases_Bool, cases_eq, false_from_ne_true}
use Rattle.notation.specs.declared.terms.Value.{Value}
use Rattle.notation.specs.Logic.{Term, Atom, at, In, here, there, Facts}
use Rattle.search.specs.Routes.{Covers, Leads, facts_along, facts_from, AreCandidates}
use Rattle.search.proofs.Places.{place_from_in}

module _ (on : ℕ → Bool) where
  along_here : (k : ℕ) (f : Atom Term) (fs : Facts) → on k ≡ true → facts_along on k (f ∷ fs) ≡ f ∷ facts_along on (k + 1) fs
  along_here k f fs e = ap (λ t. if t then f ∷ facts_along on (k + 1) fs else facts_along on (k + 1) fs) e

  along_past : (k : ℕ) (f : Atom Term) (fs : Facts) → on k ≡ false → facts_along on k (f ∷ fs) ≡ facts_along on (k + 1) fs
  along_past k f fs e = ap (λ t. if t then f ∷ facts_along on (k + 1) fs else facts_along on (k + 1) fs) e

  -- a fact along the route is a fact
  from_more : (x f : Atom Term) (fs more : Facts) → (In x more → In x fs) → In x (f ∷ more) → In x (f ∷ fs)
  from_more x f fs more sub (here e) = here e
  from_more x f fs more sub (there i) = there (sub i)

  among : (x : Atom Term) (k : ℕ) (fs : Facts) → In x (facts_along on k fs) → In x fs
  among x k [] i = i
  among x k (f ∷ fs) i =
      let more = among x (k + 1) fs in
      ⊎_elim
      (λ e. from_more x f fs (facts_along on (k + 1) fs) more (subst (In x) (along_here k f fs e) i))
      (λ e. there (more (subst (In x) (along_past k f fs e) i)))
      (cases_Bool (on k))

  -- a fact at a place of the route is along it
  in_along : (x : Atom Term) (i k : ℕ) (fs : Facts) → slice_get fs k ≡ Some x → on (i + k) ≡ true → In x (facts_along on i fs)
  in_along x i k [] e o = absurd (let z : ◌≡◌ {A = ℕ} 0 1 = cc in omega arith)
  in_along x i zero (f ∷ fs) e o = subst (In x) (sym (along_here i f fs (let n : i + 0 ≡ i = omega arith in ap on (sym n) ∙ o))) (here (cc))
  in_along x i (suc k) (f ∷ fs) e o =
      let more = in_along x (i + 1) k fs e (let n : i + 1 + k ≡ i + suc k = omega arith in ap on n ∙ o) in
      ⊎_elim
      (λ t. subst (In x) (sym (along_here i f fs t)) (there more))
      (λ t. subst (In x) (sym (along_past i f fs t)) more)
      (cases_Bool (on i))

module _ (on : ℕ → Bool) (facts : Facts) where
  -- what a route leads to is the rest of it
  lead_more : (m low : ℕ) (o : Option ℕ) → low + m ≡ length facts → Leads on (length facts) low o → facts_along on low (drop low facts) ≡ facts_from on facts o
  lead_more zero low None e to = ap (facts_along on low) (drop_all low facts (omega arith))
  lead_more zero low (Some r) e to = let here = to.found r refl in absurd (omega (arith, here.0, here.1))
  lead_more (suc m) low None e to =
      let blank : Atom Term = at 0 [] in
      let off = false_from_ne_true (on low) (to.passed low (omega arith) (omega arith)) in
      ap (facts_along on low) (drop_more facts low blank (omega arith))
      ∙ along_past on low _ (drop (low + 1) facts) off
      ∙ lead_more m (low + 1) None (omega arith) (record { found = λ k e. cc; passed = λ j l h. to.passed j (omega arith) h })
  lead_more (suc m) low (Some r) e to = ⊎_elim
      (λ (s : low ≡ r). ap (λ k. facts_along on k (drop k facts)) s)
      (λ n.
      let here = to.found r refl in
      let blank : Atom Term = at 0 [] in
      let past : low + 1 ≤ r = omega (arith, here.0, n) in
      let off = false_from_ne_true (on low) (to.passed low (omega arith) (omega arith)) in
      ap (facts_along on low) (drop_more facts low blank (omega arith))
      ∙ along_past on low _ (drop (low + 1) facts) off
      ∙ lead_more m (low + 1) (Some r) (omega arith) (record { found = λ k e. let there = to.found k e in let same : r ≡ k = cc in (omega arith, there.1, there.2); passed = λ j l h. to.passed j (omega arith) h }))
      (cases_eq low r)

  -- where a route begins
  pub candidates_first : (a : Atom Term) (b : List (Option Value)) (o : Option ℕ) → Covers on a b facts → Leads on (length facts) 0 o → AreCandidates a b facts (facts_from on facts o)
  candidates_first a b o cov to =
      let whole = lead_more (length facts) 0 o (omega arith) to in
      record {
        among = λ x i. among on x 0 facts (subst (In x) (sym whole) i);
        each = λ h ag i. let p = place_from_in _ facts i in let n : 0 + p.0 ≡ p.0 = omega arith in subst (In _) whole (in_along on _ 0 p.0 facts p.1 (ap on n ∙ cov h ag p.0 p.1));
      }

  -- its fact at a place, and what it leads to from there
  pub candidates_next : (k : ℕ) (f : Atom Term) (o : Option ℕ) → slice_get facts k ≡ Some f → k < length facts → on k ≡ true → Leads on (length facts) (k + 1) o → facts_from on facts (Some k) ≡ f ∷ facts_from on facts o
  candidates_next k f o is within now to =
      ap (facts_along on k) (drop_more facts k f within)
      ∙ along_here on k _ (drop (k + 1) facts) now
      ∙ (let more = lead_more (length facts - (k + 1)) (k + 1) o (omega arith) to in let e = slice_get-get_or facts k f within in cc)

  -- what is ahead after a place is what a route leads to from there
  pub candidates_after : (k : ℕ) (o : Option ℕ) → k < length facts → Leads on (length facts) (k + 1) o → facts_along on (k + 1) (drop (k + 1) facts) ≡ facts_from on facts o
  candidates_after k o within to = lead_more (length facts - (k + 1)) (k + 1) o (omega arith) to

  -- a place that lies on a route, as the first of what is ahead there
  pub candidates_here : (k : ℕ) (f : Atom Term) → slice_get facts k ≡ Some f → k < length facts → on k ≡ true → facts_from on facts (Some k) ≡ f ∷ facts_along on (k + 1) (drop (k + 1) facts)
  candidates_here k f is within now =
      ap (facts_along on k) (drop_more facts k f within)
      ∙ along_here on k _ (drop (k + 1) facts) now
      ∙ (let e = slice_get-get_or facts k f within in cc)

  pub candidates_at : (next : Option ℕ) (k : ℕ) (f : Atom Term) (o : Option ℕ) → next ≡ Some k → slice_get facts k ≡ Some f → k < length facts → on k ≡ true → Leads on (length facts) (k + 1) o → facts_from on facts next ≡ f ∷ facts_from on facts o
  candidates_at next k f o e is within now to = ap (facts_from on facts) e ∙ candidates_next k f o is within now to
