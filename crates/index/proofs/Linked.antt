-- How chains grow from one place to the place before it.
use Rattle.std.proofs.Common.{◌≡◌, ℕ, ◌+◌, ◌<◌, ◌≤◌, Bool, true, false, List, length, get_or, set, Some, None, Option, sym, ap, ◌∙◌, subst, ⊎_elim, arith, get_or-set_other, get_or-set_same, eq-eqb, ne_eqb, length-set}
use Rattle.std.specs.Prelude.{if◌then◌else◌}
use Rattle.std.proofs.lemmas.Bool.{cases_eq, true≢false}
use Rattle.search.specs.Routes.{Leads}
use Rattle.index.specs.Seek.{has_key, place_of, IsChain}

-- a place that is not on the route is passed
leads_past : (on : ℕ → Bool) (n k : ℕ) (o : Option ℕ) → on k ≡ false → Leads on n (k + 1) o → Leads on n k o
leads_past on n k o off to = record {
  found = λ j e. let here = to.found j e in (omega (arith, here.0), here.1, here.2);
  passed = λ j l h p. ⊎_elim
      (λ (q : j ≡ k). true≢false (sym p ∙ ap on q ∙ off))
      (λ q. to.passed j (omega (arith, q)) h p)
      (cases_eq j k);
}

-- one that is on it is the first from there
leads_here : (on : ℕ → Bool) (n k : ℕ) → k < n → on k ≡ true → Leads on n k (Some k)
leads_here on n k l t = record {
  found = λ j e. let same : k ≡ j = cc in (omega arith, omega arith, subst (λ i. on i ≡ true) same t);
  passed = λ j a b p. omega arith;
}

place_some : (k : ℕ) → k < 65535 → place_of k ≡ Some k
place_some k h = ap (λ t. if t then None else Some k) (ne_eqb k 65535 (λ e. omega arith))

-- the chains of the places from k on
pub record LinkedFrom (keys first next : List ℕ) (k : ℕ) : Type 0 where
  pub wide : length first ≡ 65536
  pub whole : length next ≡ length keys
  pub headed : (c : ℕ) → c < 65536 → Leads (has_key keys c) (length keys) k (place_of (get_or first c 0))
  pub linked : (j : ℕ) → k ≤ j → j < length keys → Leads (has_key keys (get_or keys j 0)) (length keys) (j + 1) (place_of (get_or next j 0))

pub linked_more : (keys first next : List ℕ) (k k₀ : ℕ) → k + 1 ≡ k₀ → k < length keys → length keys ≤ 65535 → get_or keys k 0 < 65536 → LinkedFrom keys first next k₀ → LinkedFrom keys (set first (get_or keys k 0) k) (set next k (get_or first (get_or keys k 0) 0)) k
linked_more keys first next k k₀ down within few fits old =
    let c₀ = get_or keys k 0 in
    let oldest : LinkedFrom keys first next (k + 1) = subst (LinkedFrom keys first next) (sym down) old in
    let wide = old.wide in
    let whole = old.whole in
    record {
      wide = simp length-set wide;
      whole = simp length-set whole;
      headed = λ c h. ⊎_elim
          (λ (e : c ≡ c₀). subst (Leads (has_key keys c) (length keys) k) (sym (ap (λ i. place_of (get_or (set first c₀ k) i 0)) e ∙ ap place_of (get_or-set_same first c₀ k 0 (omega arith)) ∙ place_some k (omega arith))) (leads_here (has_key keys c) (length keys) k within (eq-eqb _ _ (sym e))))
          (λ n. subst (λ x. Leads (has_key keys c) (length keys) k (place_of x)) (sym (get_or-set_other first c₀ c k 0 n)) (leads_past (has_key keys c) (length keys) k _ (ne_eqb _ _ (λ e. n (sym e))) (oldest.headed c h)))
          (cases_eq c c₀);
      linked = λ j l h. ⊎_elim
          (λ (e : j ≡ k).
          subst (λ i. Leads (has_key keys (get_or keys i 0)) (length keys) (i + 1) (place_of (get_or (set next k (get_or first c₀ 0)) i 0))) (sym e)
          (subst (λ x. Leads (has_key keys c₀) (length keys) (k + 1) (place_of x)) (sym (get_or-set_same next k (get_or first c₀ 0) 0 (omega arith))) (oldest.headed c₀ fits)))
          (λ n. subst (λ x. Leads (has_key keys (get_or keys j 0)) (length keys) (j + 1) (place_of x)) (sym (get_or-set_other next k j (get_or first c₀ 0) 0 n)) (old.linked j (omega (arith, n)) h))
          (cases_eq j k);
    }

pub linked_all : (keys first next : List ℕ) (k : ℕ) → k ≡ 0 → length keys ≤ 65535 → LinkedFrom keys first next k → IsChain keys first next
linked_all keys first next k all few l =
    let from : LinkedFrom keys first next 0 = subst (LinkedFrom keys first next) all l in
    record { few = few; wide = from.wide; whole = from.whole; headed = from.headed; linked = λ j h. from.linked j (omega arith) h }
