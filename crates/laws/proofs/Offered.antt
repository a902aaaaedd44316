-- Steps that enter queries are published derivations, and offer them.
use mathlib.Core.Path.{◌≡◌, refl, sym, ap, ap₂, subst, ◌∙◌}
use mathlib.Core.List.{List, [], ◌∷◌, ◌++◌, map}
use mathlib.Core.Logic.{◌⊎◌, inl, inr, ⊎_elim, ◌↔◌}
use Prim.Native.Nat.{ℕ, zero, suc, ◌+◌}
use native.Mathlib.Omega.{arith}
use lib.Dec.{T}
use lib.ListN.{length}
use Rattle.notation.specs.Logic.{Term, con, var, Atom, In, here, there, rename}
use Rattle.search.specs.Keeping.{Rule}
use Rattle.rewriting.specs.Computing.{any, same_atom, same_term}
use Rattle.rewriting.specs.Judging.{Ledger, step}
use Rattle.rewriting.specs.Rightness.{Reads, RightStep, Fits, Distinct}
use Rattle.rewriting.specs.Steps.{Query, Ref, fixed, own, copy, in_rule, in_copy, Step, Part, Unified, Piece, piece, bare, nth, member, at_numbers, off_numbers, unnamed_of, left, all_ties, Linked}
use Rattle.rewriting.specs.Unifiers.{Joined, Result, relabel, Renames}
use Rattle.laws.specs.Derivations.{Use, minus, use_part, UsesOf, Family, Derivation, Numbers, numbered_from, published, PartsOffer, StepOffers, Offers}
use Rattle.laws.specs.Offerable.{AllEnter, StepsAreOffered}
use Rattle.laws.specs.Runs.{Does}
use Rattle.rewriting.proofs.Alike.{at_place}
use Rattle.rewriting.proofs.Apart.{read_is_apart}
use Rattle.rewriting.proofs.Classing.{names_are_classes}
use Rattle.rewriting.proofs.Judged.{one_right}
use Rattle.rewriting.proofs.Lists.{by_test, none_in, in_cases, any_in, any_of, at_in, term_eq, term_refl, atom_eq, atom_refl}
use Rattle.rewriting.proofs.Named.{names}
use Rattle.rewriting.proofs.NewQueries.{new_is_result}
use Rattle.rewriting.proofs.Nth.{nth_in, one_of}
use Rattle.rewriting.proofs.Unifiers.{joined_names, linked_joined, right_is_unifier}
use Rattle.laws.proofs.Derivations.{Stood, stood_entry}
use Rattle.laws.proofs.Offers.{rename_id}

-- ---------------------------------------------------------------- what is not taken, by atoms and by numbers

minus_by : (ts : List (Atom Term)) (ns : List ℕ) (i : ℕ) (ys : List (Atom Term)) →
    ((j : ℕ) (a : Atom Term) → nth j ys ≡ a ∷ [] → (In a ts → T (member (i + j) ns)) × (T (member (i + j) ns) → In a ts)) → minus ts ys ≡ off_numbers ns i ys
minus_by ts ns i [] h = refl
minus_by ts ns i (y ∷ ys) h =
    let rec : minus ts ys ≡ off_numbers ns (suc i) ys = minus_by ts ns (suc i) ys (λ j a e. let r = h (suc j) a e in
    (λ m. subst (λ v. T (member v ns)) (over i j) (r.0 m), λ t. r.1 (subst (λ v. T (member v ns)) (sym (over i j)) t))) in
    by_test (λ v. v ≡ off_numbers ns i (y ∷ ys)) (any (same_atom same_term y) ts) (minus ts ys) (y ∷ minus ts ys)
    (λ t. by_test (λ v. minus ts ys ≡ v) (member i ns) (off_numbers ns (suc i) ys) (y ∷ off_numbers ns (suc i) ys)
    (λ u. rec) (λ u. absurd (u (subst (λ v. T (member v ns)) (z i) ((h 0 y refl).0 (was t))))))
    (λ t. by_test (λ v. y ∷ minus ts ys ≡ v) (member i ns) (off_numbers ns (suc i) ys) (y ∷ off_numbers ns (suc i) ys)
    (λ u. absurd (t (any_of (same_atom same_term y) ((h 0 y refl).1 (subst (λ v. T (member v ns)) (sym (z i)) u)) (atom_refl same_term term_eq term_refl y)))) (λ u. ap (λ r. y ∷ r) rec))
  where
    z : (k : ℕ) → k + 0 ≡ k
    z k = omega arith

    over : (k j : ℕ) → k + suc j ≡ suc k + j
    over k j = omega arith

    was : T (any (same_atom same_term y) ts) → In y ts
    was t = let r = any_in (same_atom same_term y) ts t in subst (λ v. In v ts) (sym (atom_eq same_term term_eq term_refl y r.0 r.2)) r.1

pub at_of : {a : Atom Term} (ns : List ℕ) (i : ℕ) (xs : List (Atom Term)) (j : ℕ) → nth j xs ≡ a ∷ [] → T (member (i + j) ns) → In a (at_numbers ns i xs)
at_of ns i [] j e t = absurd (none_in (nth_in j [] e))
at_of {a} ns i (x ∷ xs) zero e t = by_test (λ v. In a v) (member i ns) (x ∷ at_numbers ns (suc i) xs) (at_numbers ns (suc i) xs)
    (λ u. here (sym (one_of e))) (λ u. absurd (u (subst (λ v. T (member v ns)) (z i) t)))
  where
    z : (k : ℕ) → k + 0 ≡ k
    z k = omega arith
at_of {a} ns i (x ∷ xs) (suc j) e t =
    let rec : In a (at_numbers ns (suc i) xs) = at_of ns (suc i) xs j e (subst (λ v. T (member v ns)) (over i j) t) in
    by_test (λ v. In a v) (member i ns) (x ∷ at_numbers ns (suc i) xs) (at_numbers ns (suc i) xs) (λ u. there rec) (λ u. rec)
  where
    over : (k j : ℕ) → k + suc j ≡ suc k + j
    over k j = omega arith

minus_off : (ns : List ℕ) (x : Query) → Distinct x → minus (at_numbers ns 0 x) x ≡ off_numbers ns 0 x
minus_off ns x d = minus_by (at_numbers ns 0 x) ns 0 x (λ j a e.
    (λ m. let r = at_place ns 0 x m in subst (λ v. T (member (0 + v) ns)) (d r.0 j a r.1 e) r.2, λ t. at_of ns 0 x j e t))

-- ---------------------------------------------------------------- one step

same_name : (t : Term) → relabel (λ k. k) t ≡ t
same_name (con k) = refl
same_name (var k) = refl

same_atom_name : (a : Atom Term) → rename (relabel (λ k. k)) a ≡ a
same_atom_name a = rename_id (relabel (λ k. k)) a (λ t m. same_name t)

pub renames_itself : (x : Query) → Renames (λ k. k) (λ k. k) x x
renames_itself x = record {
  to_back = λ n o. refl;
  back_to = λ n o. refl;
  has = λ a m. subst (λ v. In v x) (sym (same_atom_name a)) m;
  only = λ a m. subst (λ v. In v x) (sym (same_atom_name a)) m;
}

-- each number has its query
abbrev Covers : Ledger → Numbers → Type 0
Covers s kn = (k : ℕ) (x : Query) → nth k s.entered ≡ x ∷ [] → In (x, k) kn

record UsesRead (s : Ledger) (kn : Numbers) (b : List (Atom Term)) (i : ℕ) (ds : List (List (Atom Term))) (ps : List Part) (ms : List Piece) : Type 0 where
  uses : List Use
  uses_of : UsesOf b i ds uses (map bare ms)
  offer : PartsOffer s kn (λ i k. k) (λ i k. k) b i ds uses ps ms
  over : (w : Use) → In w uses → In w.query s.entered

uses_read : {s : Ledger} {b : List (Atom Term)} {i : ℕ} {ds : List (List (Atom Term))} {ps : List Part} {ms : List Piece} → Reads s b i ds ps ms → (kn : Numbers) → Covers s kn →
    ((x : Query) → In x s.entered → Distinct x) → UsesRead s kn b i ds ps ms
uses_read Reads.done kn cov dis = record { uses = []; uses_of = UsesOf.done; offer = PartsOffer.done; over = λ w m. absurd (none_in m) }
uses_read {s} {b} (Reads.more {i = i} {d = d} {ds = ds} {p = p} {ms = ms} x st pf rs) kn cov dis =
    let r = uses_read rs kn cov dis in
    let w : Use = record { query = x; taken = at_numbers p.taken 0 x; named = at_numbers p.named 0 d } in
    let m = nth_in p.query s.entered st.0 in
    let e : use_part i b d w ≡ bare (piece i b d x p) = ap (with_rest i d p x) (minus_off p.taken x (dis x m)) in
    record {
      uses = w ∷ r.uses;
      uses_of = subst (λ v. UsesOf b i (d ∷ ds) (w ∷ r.uses) (v ∷ map bare ms)) e (UsesOf.more (λ a k. at_in p.taken 0 x k) (λ a k. at_in p.named 0 d k) r.uses_of);
      offer = PartsOffer.more x (cov p.query x st.0) st.0 (renames_itself x) pf
          (λ a k. subst (λ v. In v (at_numbers p.taken 0 x)) (sym (same_atom_name a)) k) (λ a k. subst (λ v. In v (at_numbers p.taken 0 x)) (sym (same_atom_name a)) k)
          (λ a. (λ k. k, λ k. k)) r.offer;
      over = λ v k. ⊎_elim (λ h. subst (λ (u : Use). In u.query s.entered) (sym h) m) (λ j. r.over v j) (in_cases k);
    }
  where
    with_rest : ℕ → List (Atom Term) → Part → Query → Query → Unified
    with_rest i d p x y = record { head = i; taken = map (rename (in_copy i)) (at_numbers p.taken 0 x); rest = map (rename (in_copy i)) y; named = map (rename in_rule) (at_numbers p.named 0 d); unnamed = unnamed_of b d }

result_same : (J K : Ref → Ref → Type 0) → ((x y : Ref) → J x y ↔ K x y) → (ls : List (Atom Ref)) (n : Query) → Result J ls n → Result K ls n
result_same J K h ls n r = record {
  term = r.term;
  constant = λ x k o. (λ e. (h x (fixed k)).0 ((r.constant x k o).0 e), λ j. (r.constant x k o).1 ((h x (fixed k)).1 j));
  of_class = λ x y o u. (λ e. (h x y).0 ((r.of_class x y o u).0 e), λ j. (r.of_class x y o u).1 ((h x y).1 j));
  has = r.has;
  only = r.only;
}

-- a right step offers a family whose result is its new query
record OfferedBy (s : Ledger) (kn : Numbers) (t : Step) (n : Query) : Type 0 where
  family : Family
  offers : StepOffers s kn family t
  result_is : family.result ≡ n
  rule_in : In family.rule s.rules
  over : (w : Use) → In w family.uses → In w.query s.entered

offered_by : (s : Ledger) (kn : Numbers) (t : Step) (n : Query) → Stood s → Covers s kn → RightStep s t n → OfferedBy s kn t n
offered_by s kn t n st cov r =
    let ms = r.pieces in
    let us = map bare ms in
    let ts = all_ties ms in
    let b = r.rule.body in
    let f : Ref → Ref = names ms in
    let m = nth_in t.rule s.rules r.is_rule in
    let ap_t = read_is_apart s r.rule t.parts ms (st.rules_right r.rule m) r.reads in
    let w = uses_read r.reads kn cov st.distinct in
    let nm : (x y : Ref) → (f x ≡ f y) ↔ Linked ts x y = λ x y. (names_are_classes ts x y).0 in
    let same : (x y : Ref) → Linked ts x y ↔ Joined us (λ i. f) x y = λ x y.
    (linked_joined (λ i. f) (λ e k. let h = ap_t.1 e k in Joined.within h.0 h.1 h.2 h.3 ((nm e.0 e.1).1 (Linked.tied k))), λ j. (nm x y).0 (joined_names f j)) in
    let fam : Family = record {
      rule = r.rule;
      uses = w.uses;
      parts = us;
      uses_of = w.uses_of;
      partition = λ i. f;
      unifier = (right_is_unifier us ts ap_t.0 ap_t.1 f nm).0 r.right;
      result = n;
      is_result = result_same (Linked ts) (Joined us (λ i. f)) same (left b us) n (new_is_result (Linked ts) (left b us) n r.new);
    } in
    record {
      family = fam;
      offers = record {
        is_rule = r.is_rule;
        to = λ i k. k;
        back = λ i k. k;
        pieces = ms;
        parts_offer = w.offer;
        classes = λ x y p q. subst (λ v. Linked ts x y ↔ Joined us (λ i. f) v (published (λ i k. k) y)) (sym (itself x)) (subst (λ v. Linked ts x y ↔ Joined us (λ i. f) x v) (sym (itself y)) (same x y));
      };
      result_is = refl;
      rule_in = m;
      over = w.over;
    }
  where
    itself : (x : Ref) → published (λ i k. k) x ≡ x
    itself (fixed k) = refl
    itself (own k) = refl
    itself (copy i k) = refl

-- ---------------------------------------------------------------- a list of steps

pair_same : {x y : Query} {k m : ℕ} → x ≡ y → k ≡ m → ◌≡◌ {A = Query × ℕ} (x, k) (y, m)
pair_same e f = ap₂ (λ a b. (a, b)) e f

nth_split : {X : Type 0} {x n : X} (k : ℕ) (xs : List X) → nth k (xs ++ n ∷ []) ≡ x ∷ [] → (nth k xs ≡ x ∷ []) ⊎ ((k ≡ length xs) × (n ≡ x))
nth_split zero [] e = inr (refl, one_of e)
nth_split {X} {x} (suc k) [] e = absurd (none_in (nth_in k [] e))
nth_split zero (y ∷ xs) e = inl e
nth_split (suc k) (y ∷ xs) e = ⊎_elim (λ h. inl h) (λ h. inr (ap suc h.0, h.1)) (nth_split k xs e)

in_snoc : {X : Type 0} {x n : X} (xs : List X) → In x (xs ++ n ∷ []) → In x xs ⊎ (x ≡ n)
in_snoc [] m = ⊎_elim (λ e. inr e) (λ i. absurd (none_in i)) (in_cases m)
in_snoc (y ∷ xs) m = ⊎_elim (λ e. inl (here e)) (λ i. ⊎_elim (λ j. inl (there j)) (λ j. inr j) (in_snoc xs i)) (in_cases m)

offered : (rs : List Rule) {s : Ledger} {ts : List Step} → AllEnter s ts → (kn : Numbers) (xs : List Query) → Stood s → Covers s kn →
    ((x : Query) → In x s.entered → In x xs) → ((u : Rule) → In u s.rules → In u rs) →
    (fs : List Family) × (length fs ≡ length ts) × Derivation rs xs fs × Offers s kn (map step ts) fs
offered rs AllEnter.done kn xs st cov inx inr' = ([], refl, Derivation.done, Offers.end)
offered rs (AllEnter.more {s = s} {t = t} n r fit rest) kn xs st cov inx inr' =
    let o = offered_by s kn t n st cov r in
    let f = o.family in
    let v = offered rs rest ((f.result, length s.entered) ∷ kn) (f.result ∷ xs) (stood_entry s t n r st)
    (λ k x e. ⊎_elim (λ h. there (cov k x h)) (λ h. here (pair_same (sym h.1 ∙ sym o.result_is) h.0)) (nth_split k s.entered e))
    (λ x m. ⊎_elim (λ i. there (inx x i)) (λ e. here (e ∙ sym o.result_is)) (in_snoc s.entered m)) inr' in (
      f ∷ v.0,
      ap suc v.1,
      Derivation.more f (inr' f.rule o.rule_in) (λ w m. inx w.query (o.over w m)) v.2,
      Offers.next o.offers (λ m h. subst (Fits s) (sym (one_right s t n m r fit h)) fit) (Does.entry n r fit) v.3,
    )

pub numbers_cover : (os : List Query) (i k : ℕ) (x : Query) → nth k os ≡ x ∷ [] → In (x, i + k) (numbered_from i os)
numbers_cover [] i k x e = absurd (none_in (nth_in k [] e))
numbers_cover (y ∷ os) i zero x e = here (pair_same (sym (one_of e)) (z i))
  where
    z : (k : ℕ) → k + 0 ≡ k
    z k = omega arith
numbers_cover (y ∷ os) i (suc k) x e = there (subst (λ v. In (x, v) (numbered_from (suc i) os)) (over i k) (numbers_cover os (suc i) k x e))
  where
    over : (k j : ℕ) → suc k + j ≡ k + suc j
    over k j = omega arith

pub steps_are_offered : StepsAreOffered
steps_are_offered rs os op ts a =
    offered rs a (numbered_from 0 os) os (record { none_struck = refl; rules_right = op.one_head; distinct = λ x m. (op.queries x m).distinct })
    (λ k x e. subst (λ v. In (x, v) (numbered_from 0 os)) (z k) (numbers_cover os 0 k x e)) (λ x m. m) (λ u m. m)
  where
    z : (k : ℕ) → 0 + k ≡ k
    z k = omega arith
