-- Every published derivation can be offered, to its end or to a limit.
use mathlib.Core.Path.{◌≡◌, refl, sym, subst}
use mathlib.Core.List.{List, [], ◌∷◌, ◌++◌, map}
use mathlib.Core.Logic.{◌⊎◌, inl, inr, ⊎_elim}
use Prim.Native.Nat.{ℕ, zero, suc, ◌+◌, ◌*◌, ◌≤◌}
use native.Mathlib.Omega.{arith}
use lib.ListN.{length}
use Rattle.notation.specs.Logic.{Term, Atom, at, In, here, there, terms}
use Rattle.search.specs.Keeping.{Rule}
use Rattle.rewriting.specs.Judging.{Ledger, open_ledger, enter, step}
use Rattle.rewriting.specs.Rightness.{RightStep, Fits, Narrow}
use Rattle.rewriting.specs.Steps.{Query, Step, nth}
use Rattle.rewriting.specs.Unifiers.{Alike}
use Rattle.laws.specs.Derivations.{Use, Family, Derivation, Numbers, numbered_from, StepOffers, Offers}
use Rattle.laws.specs.Offerable.{LimitMet, DerivationsCanBeOffered}
use Rattle.laws.specs.Runs.{Does}
use Rattle.rewriting.proofs.Judged.{fits_or, one_right}
use Rattle.rewriting.proofs.Lists.{none_in, in_cases}
use Rattle.rewriting.proofs.Nth.{nth_in, in_nth, nth_more, last_number, one_of}
use Rattle.laws.proofs.Derivations.{Stood, stood_entry}
use Rattle.laws.proofs.Law.{Fine, entry_fine, open_fine}
use Rattle.laws.proofs.Offered.{renames_itself, numbers_cover}
use Rattle.laws.proofs.Offering.{Has, family_offered, append_length}
use Rattle.laws.proofs.Offers.{step_right}

-- so many atoms of at most 4 terms
narrow_terms : (x : List (Atom Term)) (k : ℕ) → Narrow x → length x ≤ k → length (terms x) ≤ 4 * k
narrow_terms [] k h l = omega arith
narrow_terms (at p ts ∷ x) zero h l = absurd (none l)
  where
    none : suc (length x) ≤ 0 → ⊥
    none i = omega arith
narrow_terms (at p ts ∷ x) (suc k) h l =
    let a : length (terms x) ≤ 4 * k = narrow_terms x k (λ c m. h c (there m)) (less (length x) k l) in
    let b : length (ts ++ []) ≤ 4 = h (at p ts) (here refl) in
    sum (length (ts ++ terms x)) (length ts) (length (terms x)) (length (ts ++ [])) 0 k (append_length ts (terms x)) (append_length ts []) b a
  where
    less : (j k : ℕ) → suc j ≤ suc k → j ≤ k
    less j k i = omega arith

    sum : (a b c d e k : ℕ) → a ≡ b + c → d ≡ b + e → d ≤ 4 → c ≤ 4 * k → a ≤ 4 * suc k
    sum a b c d e k h1 h2 h3 h4 = omega arith

-- the ledger has the published query x
record Known (s : Ledger) (kn : Numbers) (x : Query) : Type 0 where
  number : ℕ
  query : Query
  known : In (x, number) kn
  is_there : nth number s.entered ≡ query ∷ []
  alike : Alike x query

abbrev at_first : {A : Type 0} → A → (ℕ → A) → ℕ → A
at_first a g zero = a
at_first a g (suc i) = g i

record Chosen (s : Ledger) (kn : Numbers) (ws : List Use) : Type 0 where
  to : ℕ → ℕ → ℕ
  fro : ℕ → ℕ → ℕ
  has : (i : ℕ) (w : Use) → nth i ws ≡ w ∷ [] → Has s kn (to i) (fro i) w

choose : (s : Ledger) (kn : Numbers) → Fine s → (ws : List Use) → ((w : Use) → In w ws → Known s kn w.query) → Chosen s kn ws
choose s kn fine [] h = record { to = λ i k. k; fro = λ i k. k; has = λ i w e. absurd (none_in (nth_in i [] e)) }
choose s kn fine (w ∷ ws) h =
    let r = choose s kn fine ws (λ v m. h v (there m)) in
    let k = h w (here refl) in
    let x = k.query in
    let p = fine.queries x (nth_in k.number s.entered k.is_there) in
    let first : Has s kn k.alike.0 k.alike.1 w = record { number = k.number; query = x; known = k.known; is_there = k.is_there; renames = k.alike.2; terms_fit = all_terms (length (terms x)) (narrow_terms x 16 p.narrow p.atoms) } in
    record { to = at_first k.alike.0 r.to; fro = at_first k.alike.1 r.fro; has = by_number first r }
  where
    all_terms : (m : ℕ) → m ≤ 4 * 16 → m ≤ 64
    all_terms m l = omega arith

    by_number : {to fro : ℕ → ℕ} → Has s kn to fro w → (r : Chosen s kn ws) → (i : ℕ) (v : Use) → nth i (w ∷ ws) ≡ v ∷ [] → Has s kn (at_first to r.to i) (at_first fro r.fro i) v
    by_number {to} {fro} f r zero v e = subst (Has s kn to fro) (one_of e) f
    by_number f r (suc i) v e = r.has i v e

one_more : (s : Ledger) (kn : Numbers) (t : Step) (n : Query) (f : Family) {fs : List Family} → StepOffers s kn f t → RightStep s t n → Fits s n → (ts : List Step) →
    Offers (enter s n) ((f.result, length s.entered) ∷ kn) (map step ts) fs ⊎ LimitMet (enter s n) ((f.result, length s.entered) ∷ kn) ts fs →
    Offers s kn (step t ∷ map step ts) (f ∷ fs) ⊎ LimitMet s kn (t ∷ ts) (f ∷ fs)
one_more s kn t n f so r fit ts (inl h) = inl (Offers.next so (λ m a. subst (Fits s) (sym (one_right s t n m r fit a)) fit) (Does.entry n r fit) h)
one_more s kn t n f so r fit ts (inr h) = inr (LimitMet.later n so r fit h)

offer_all : (rs : List Rule) {xs : List Query} {fs : List Family} → Derivation rs xs fs → (s : Ledger) (kn : Numbers) → Stood s → Fine s → s.rules ≡ rs →
    ((u : Rule) → In u rs → (d : List (Atom Term)) → In d u.heads → (length d ≤ 4) × Narrow d) → ((x : Query) → In x xs → Known s kn x) → (ts : List Step) × (Offers s kn (map step ts) fs ⊎ LimitMet s kn ts fs)
offer_all rs Derivation.done s kn st fine is small know = ([], inl Offers.end)
offer_all rs (Derivation.more f ru over d) s kn st fine is small know =
    let c = choose s kn fine f.uses (λ w m. know w.query (over w m)) in
    let r = in_nth ru in
    let o = family_offered s kn f st.distinct r.0 (subst (λ v. nth r.0 v ≡ f.rule ∷ []) (sym is) r.1)
    (λ e m. let h = small f.rule ru e m in head_terms (length (terms e)) (narrow_terms e 4 h.1 h.0)) c.to c.fro c.has in
    let t = o.0 in
    let q = step_right s kn f t (st.rules_right f.rule (subst (λ v. In f.rule v) (sym is) ru)) st.none_struck st.distinct o.1 in
    let n = q.0 in
    ⊎_elim
    (λ fit. let v = offer_all rs d (enter s n) ((f.result, length s.entered) ∷ kn) (stood_entry s t n q.1 st) (entry_fine s t n q.1 fit fine) is small
    (λ x m. ⊎_elim
    (λ e. subst (Known (enter s n) ((f.result, length s.entered) ∷ kn)) (sym e) (record { number = length s.entered; query = n; known = here refl; is_there = last_number n s.entered; alike = q.2 }))
    (λ i. let k = know x i in record { number = k.number; query = k.query; known = there k.known; is_there = nth_more k.number s.entered (n ∷ []) k.is_there; alike = k.alike })
    (in_cases m)) in
    (t ∷ v.0, one_more s kn t n f o.1 q.1 fit v.0 v.1))
    (λ no_fit. (t ∷ [], inr (LimitMet.due n o.1 q.1 no_fit)))
    (fits_or s n)
  where
    head_terms : (m : ℕ) → m ≤ 4 * 4 → m ≤ 16
    head_terms m l = omega arith

pub derivations_can_be_offered : DerivationsCanBeOffered
derivations_can_be_offered rs os op fs d =
    offer_all rs d (open_ledger rs os) (numbered_from 0 os) (record { none_struck = refl; rules_right = op.one_head; distinct = λ x m. (op.queries x m).distinct }) (open_fine rs os op) refl op.heads
    (λ x m. let r = in_nth m in record { number = r.0; query = x; known = subst (λ v. In (x, v) (numbered_from 0 os)) (z r.0) (numbers_cover os 0 r.0 x r.1); is_there = r.1; alike = (λ k. k, λ k. k, renames_itself x) })
  where
    z : (k : ℕ) → 0 + k ≡ k
    z k = omega arith
