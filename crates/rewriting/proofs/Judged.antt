-- The judging of a step by computing is the definition of a right step.
use Rattle.std.proofs.Common.{◌≡◌, ℕ, zero, suc, Bool, true, false, not, ◌&&◌, ◌||◌, T, eqb, ltb, leb, ◌⊎◌, List, [], ◌∷◌, map, length, sym, refl, ap, ◌∙◌, subst, ap₂, inl, inr, ⊎_elim, le→leb, eqb→eq, ltb→lt, lt→ltb, leb→le}
use lib.Dec.{eqb_refl}
use Rattle.notation.specs.Logic.{Term, Atom, In, here, there, rename, terms}
use Rattle.search.specs.Holding.{Holds}
use Rattle.search.specs.Keeping.{Occurs, Rule}
use Rattle.rewriting.specs.Classes.{same_ref, name_in, joined, classes}
use Rattle.rewriting.specs.Computing.{any, all, same_atom, holds}
use Rattle.rewriting.specs.Judging.{ends, has_ref, may_join, numbers_fit, constant_alone, within, sets_meet, unnamed_right, new_query, Ledger, Outcome, enters, strikes, refuses, Read, read, refused, standing, ties_fit, part_tested, part_read, pieces, failing, limits, fitting, verdict, tested, judge_read, judge_rule, judge, strike_tested, judge_strike}
use Rattle.rewriting.specs.Rightness.{Stands, Reads, done, more, RightStep, Fits, StrikesOut, JudgeIsRight, StrikeIsRight}
use Rattle.rewriting.specs.Steps.{Query, Ref, fixed, own, copy, Ties, all_ties, Part, Step, Piece, piece, nth, member, vars, is_copy, left, bare, Linked, NewQuery}
use Rattle.rewriting.proofs.Lists.{by_test, decide, both_in, both_of, or_in, or_left, or_right, none_in, in_cases, in_map, of_map, ref_eq, ref_refl, atom_eq, atom_refl, any_in, any_of, all_at, member_in, in_member, in_vars, of_vars}
use Rattle.rewriting.proofs.Named.{RightBy, names, right_named, named_right}
use Rattle.rewriting.proofs.Numbering.{new_query_is, new_query_is_one}
use Rattle.rewriting.proofs.Fitting.{tests_in, tests_of}
use Rattle.rewriting.proofs.Search.{all_of, true_T, T_true, search_is_right}

-- ---------------------------------------------------------------- terms outside the ties

pub has_in : (x : Ref) (xs : List Ref) → T (any (same_ref x) xs) → In x xs
has_in x xs t = let r = any_in (same_ref x) xs t in subst (λ v. In v xs) (sym (ref_eq x r.0 r.2)) r.1

in_has : {x : Ref} {xs : List Ref} → In x xs → T (any (same_ref x) xs)
in_has {x} m = any_of (same_ref x) m (ref_refl x)

-- a name is the term itself or an end of a tie
name_or_end : (ts : Ties) (x : Ref) → (name_in (classes ts) x ≡ x) ⊎ In (name_in (classes ts) x) (ends ts)
name_or_end [] x = inl refl
name_or_end (t ∷ ts) x =
    let tb = classes ts in
    let y = name_in tb x in
    let a = name_in tb t.0 in
    let b = name_in tb t.1 in
    by_test (λ v. (v ≡ x) ⊎ In v (ends (t ∷ ts))) (same_ref y (joined a b).0) (joined a b).1 y
    (λ e. inr (entry a b
    (⊎_elim (λ i. here i) (λ i. there (there i)) (name_or_end ts t.0))
    (⊎_elim (λ i. there (here i)) (λ i. there (there i)) (name_or_end ts t.1))))
    (λ e. ⊎_elim (λ i. inl i) (λ i. inr (there (there i))) (name_or_end ts x))
  where
    entry : (a b : Ref) → In a (ends (t ∷ ts)) → In b (ends (t ∷ ts)) → In (joined a b).1 (ends (t ∷ ts))
    entry (fixed k) b m n = m
    entry (own k) b m n = n
    entry (copy i k) b m n = n

-- a term at no end is its own name
pub off_ends : (ts : Ties) (x : Ref) → (In x (ends ts) → ⊥) → name_in (classes ts) x ≡ x
off_ends [] x n = refl
off_ends (t ∷ ts) x n =
    let tb = classes ts in
    let y = name_in tb x in
    let a = name_in tb t.0 in
    let b = name_in tb t.1 in
    let below : y ≡ x = off_ends ts x (λ m. n (there (there m))) in
    by_test (λ v. v ≡ x) (same_ref y (joined a b).0) (joined a b).1 y
    (λ e. absurd (n (subst (λ v. In v (ends (t ∷ ts))) (sym (ref_eq y (joined a b).0 e) ∙ below) (entry a b
    (⊎_elim (λ i. here i) (λ i. there (there i)) (name_or_end ts t.0))
    (⊎_elim (λ i. there (here i)) (λ i. there (there i)) (name_or_end ts t.1))))))
    (λ e. below)
  where
    entry : (a b : Ref) → In a (ends (t ∷ ts)) → In b (ends (t ∷ ts)) → In (joined a b).0 (ends (t ∷ ts))
    entry (fixed k) b m n = n
    entry (own k) b m n = m
    entry (copy i k) b m n = m

-- ---------------------------------------------------------------- the three tests

abbrev Constants : (Ref → Ref) → Type 0
Constants f = (k : ℕ) → f (fixed k) ≡ fixed k

pub constants_in : (ts : Ties) → T (all (constant_alone (name_in (classes ts))) (ends ts)) → Constants (name_in (classes ts))
constants_in ts t k = decide (any (same_ref (fixed k)) (ends ts))
    (λ m. ref_eq (name_in (classes ts) (fixed k)) (fixed k) (all_at (constant_alone (name_in (classes ts))) t (has_in (fixed k) (ends ts) m)))
    (λ m. off_ends ts (fixed k) (λ n. m (in_has n)))

pub in_constants : (f : Ref → Ref) (xs : List Ref) → Constants f → T (all (constant_alone f) xs)
in_constants f xs h = all_of (constant_alone f) xs (λ x m. one x)
  where
    one : (x : Ref) → T (constant_alone f x)
    one (fixed k) = subst (λ v. T (same_ref v (fixed k))) (sym (h k)) (ref_refl (fixed k))
    one (own k) = tt
    one (copy i k) = tt

abbrev Meets : (Ref → Ref) → List (Atom Ref) → List (Atom Ref) → Type 0
Meets f xs ys = (a : Atom Ref) → In a xs → (b : Atom Ref) × In b ys × (rename f a ≡ rename f b)

within_in : (f : Ref → Ref) (xs ys : List (Atom Ref)) → T (within (map (rename f) xs) (map (rename f) ys)) → Meets f xs ys
within_in f xs ys t a m =
    let u = all_at (λ v. any (same_atom same_ref v) (map (rename f) ys)) t (in_map (rename f) m) in
    let r = any_in (same_atom same_ref (rename f a)) (map (rename f) ys) u in
    let o = of_map (rename f) ys r.1 in
    (o.0, o.1, atom_eq same_ref ref_eq ref_refl (rename f a) r.0 r.2 ∙ o.2)

in_within : (f : Ref → Ref) (xs ys : List (Atom Ref)) → Meets f xs ys → T (within (map (rename f) xs) (map (rename f) ys))
in_within f xs ys h = all_of (λ v. any (same_atom same_ref v) (map (rename f) ys)) (map (rename f) xs) (λ v m.
    let o = of_map (rename f) xs m in
    let r = h o.0 o.1 in
    any_of (same_atom same_ref v) (in_map (rename f) r.1) (subst (λ w. T (same_atom same_ref v w)) (o.2 ∙ r.2) (atom_refl same_ref ref_eq ref_refl v)))

abbrev pub MayJoin : Piece → ℕ → Ref → Type 0
MayJoin p z x = (x ≡ own z) ⊎ ((is_copy x ≡ true) × Occurs x p.taken × (Occurs x p.rest → ⊥))

not_in : (b : Bool) → T (not b) → T b → ⊥
not_in true t u = t
not_in false t u = u

not_of : (b : Bool) → (T b → ⊥) → T (not b)
not_of true n = n tt
not_of false n = tt

pub may_in : (p : Piece) (z : ℕ) (x : Ref) → T (may_join p z x) → MayJoin p z x
may_in p z x t = ⊎_elim
    (λ e. inl (ref_eq x (own z) e))
    (λ e. let a = both_in (is_copy x) (has_ref x p.taken && not (has_ref x p.rest)) e in
    let c = both_in (has_ref x p.taken) (not (has_ref x p.rest)) a.1 in
    inr (T_true (is_copy x) a.0, has_in x (terms p.taken) c.0, λ o. not_in (has_ref x p.rest) c.1 (in_has o)))
    (or_in (same_ref x (own z)) (is_copy x && (has_ref x p.taken && not (has_ref x p.rest))) t)

pub in_may : (p : Piece) (z : ℕ) (x : Ref) → MayJoin p z x → T (may_join p z x)
in_may p z x h = ⊎_elim
    (λ e. or_left (same_ref x (own z)) (is_copy x && (has_ref x p.taken && not (has_ref x p.rest))) (subst (λ v. T (same_ref x v)) e (ref_refl x)))
    (λ e. or_right (same_ref x (own z)) (is_copy x && (has_ref x p.taken && not (has_ref x p.rest)))
    (both_of (is_copy x) (has_ref x p.taken && not (has_ref x p.rest)) (true_T e.0)
    (both_of (has_ref x p.taken) (not (has_ref x p.rest)) (in_has e.1) (not_of (has_ref x p.rest) (λ o. e.2 (has_in x (terms p.rest) o))))))
    h

abbrev Alone : (Ref → Ref) → Piece → Type 0
Alone f p = (z : ℕ) → In z p.unnamed → (x : Ref) → f x ≡ f (own z) → MayJoin p z x

pub alone_in : (ts : Ties) (p : Piece) → T (unnamed_right (name_in (classes ts)) (ends ts) p) → Alone (name_in (classes ts)) p
alone_in ts p t z m x e =
    let f : Ref → Ref = name_in (classes ts) in
    let u = all_at (λ k. all (λ v. not (same_ref (f v) (f (own k))) || may_join p k v) (ends ts)) t m in
    let inside : In x (ends ts) → MayJoin p z x = λ n.
    ⊎_elim (λ i. absurd (not_in (same_ref (f x) (f (own z))) i (subst (λ v. T (same_ref (f x) v)) e (ref_refl (f x))))) (λ i. may_in p z x i)
    (or_in (not (same_ref (f x) (f (own z)))) (may_join p z x) (all_at (λ v. not (same_ref (f v) (f (own z))) || may_join p z v) u n)) in
    decide (any (same_ref x) (ends ts))
    (λ n. inside (has_in x (ends ts) n))
    (λ n. let s : x ≡ f (own z) = sym (off_ends ts x (λ k. n (in_has k))) ∙ e in
    ⊎_elim (λ i. inl (s ∙ i)) (λ i. inside (subst (λ v. In v (ends ts)) (sym s) i)) (name_or_end ts (own z)))

pub in_alone : (f : Ref → Ref) (xs : List Ref) (p : Piece) → Alone f p → T (unnamed_right f xs p)
in_alone f xs p h =
    all_of (λ k. all (λ v. not (same_ref (f v) (f (own k))) || may_join p k v) xs) p.unnamed (λ z m.
    all_of (λ v. not (same_ref (f v) (f (own z))) || may_join p z v) xs (λ x n.
    decide (same_ref (f x) (f (own z)))
    (λ e. or_right (not (same_ref (f x) (f (own z)))) (may_join p z x) (in_may p z x (h z m x (ref_eq (f x) (f (own z)) e))))
    (λ e. or_left (not (same_ref (f x) (f (own z)))) (may_join p z x) (not_of (same_ref (f x) (f (own z))) e))))

-- ---------------------------------------------------------------- the first piece that fails

none_fails : (g : Piece → Bool) (i : ℕ) (ms : List Piece) → failing g i ms ≡ [] → (p : Piece) → In p ms → T (g p)
none_fails g i [] e p m = absurd (none_in m)
none_fails g i (q ∷ ms) e p m =
    by_test (λ v. v ≡ [] → T (g p)) (g q) (failing g (suc i) ms) (i ∷ [])
    (λ t k. ⊎_elim (λ j. subst (λ v. T (g v)) (sym j) t) (λ j. none_fails g (suc i) ms k p j) (in_cases m))
    (λ t k. absurd (none_in (subst (λ v. In i v) k (here refl)))) e

fails_none : (g : Piece → Bool) (i : ℕ) (ms : List Piece) → ((p : Piece) → In p ms → T (g p)) → failing g i ms ≡ []
fails_none g i [] h = refl
fails_none g i (q ∷ ms) h =
    by_test (λ v. v ≡ []) (g q) (failing g (suc i) ms) (i ∷ [])
    (λ t. fails_none g (suc i) ms (λ p m. h p (there m)))
    (λ t. absurd (t (h q (here refl))))

-- ---------------------------------------------------------------- the parts

nth_one : {X : Type 0} {x : X} {xs : List X} (n : ℕ) (l : List X) → nth n l ≡ x ∷ xs → nth n l ≡ x ∷ []
nth_one {X} {x} {xs} n [] e = absurd (none_in (subst (λ (w : List X). In x w) (sym e) (here {ys = xs} refl)))
nth_one zero (y ∷ l) e = cc
nth_one (suc n) (y ∷ l) e = nth_one n l e

stands_in : (s : Ledger) (n : ℕ) (x : Query) (xs : List Query) → standing s n ≡ x ∷ xs → Stands s n x
stands_in s n x xs =
    by_test (λ v. v ≡ x ∷ xs → Stands s n x) (member n s.struck) [] (nth n s.entered)
    (λ t e. absurd (none_in (subst (λ (w : List Query). In x w) (sym e) (here refl))))
    (λ t e. (nth_one n s.entered e, λ m. t (in_member m)))

in_stands : (s : Ledger) (n : ℕ) (x : Query) → Stands s n x → standing s n ≡ x ∷ []
in_stands s n x h =
    by_test (λ v. v ≡ x ∷ []) (member n s.struck) [] (nth n s.entered)
    (λ t. absurd (h.1 (member_in n s.struck t)))
    (λ t. h.0)

abbrev IsRead : Read → Type 0
IsRead (read ms) = Unit {0}
IsRead (refused k i) = ⊥

abbrev read_of : Read → List Piece
read_of (read ms) = ms
read_of (refused k i) = []

no_read : {k i : ℕ} {ms : List Piece} → refused k i ≡ read ms → ⊥
no_read e = subst IsRead (sym e) tt

part_tested_in : (a c : Bool) (i : ℕ) (m : Piece) (rest : Read) (ms : List Piece) → part_tested a c i m rest ≡ read ms →
    T a × T c × (ns : List Piece) × (rest ≡ read ns) × (ms ≡ m ∷ ns)
part_tested_in false c i m rest ms e = absurd (no_read e)
part_tested_in true false i m rest ms e = absurd (no_read e)
part_tested_in true true i m (read ns) ms e = (tt, tt, ns, refl, sym (ap read_of e))
part_tested_in true true i m (refused k j) ms e = absurd (no_read e)

part_tested_of : (a c : Bool) (i : ℕ) (m : Piece) (ns : List Piece) → T a → T c → part_tested a c i m (read ns) ≡ read (m ∷ ns)
part_tested_of true true i m ns t u = refl
part_tested_of true false i m ns t u = absurd u
part_tested_of false c i m ns t u = absurd t

reads_in : (s : Ledger) (b : List (Atom Term)) (i : ℕ) (ds : List (List (Atom Term))) (ps : List Part) (ms : List Piece) → pieces s b i ds ps ≡ read ms → Reads s b i ds ps ms
reads_in s b i [] [] ms e = subst (λ v. Reads s b i [] [] v) (ap read_of e) done
reads_in s b i [] (p ∷ ps) ms e = absurd (no_read e)
reads_in s b i (d ∷ ds) [] ms e = absurd (no_read e)
reads_in s b i (d ∷ ds) (p ∷ ps) ms e = go (standing s p.query) refl e (reads_in s b (suc i) ds ps)
  where
    go : (xs : List Query) → standing s p.query ≡ xs → part_read i b d p xs (pieces s b (suc i) ds ps) ≡ read ms →
        ((ns : List Piece) → pieces s b (suc i) ds ps ≡ read ns → Reads s b (suc i) ds ps ns) → Reads s b i (d ∷ ds) (p ∷ ps) ms
    go [] st k h = absurd (no_read k)
    go (x ∷ xs) st k h =
        let r = part_tested_in (numbers_fit (length x) p.taken && numbers_fit (length d) p.named) (ties_fit p (piece i b d x p)) i (piece i b d x p) (pieces s b (suc i) ds ps) ms k in
        subst (λ v. Reads s b i (d ∷ ds) (p ∷ ps) v) (sym r.4) (more x (stands_in s p.query x xs st) (tests_in x d p (piece i b d x p) r.0 r.1) (h r.2 r.3))

in_reads : {s : Ledger} {b : List (Atom Term)} {i : ℕ} {ds : List (List (Atom Term))} {ps : List Part} {ms : List Piece} → Reads s b i ds ps ms → pieces s b i ds ps ≡ read ms
in_reads done = refl
in_reads {s} {b} (more {i = i} {d = d} {ds = ds} {p = p} {ps = ps} {ms = ms} x st pf rs) =
    let v = tests_of x d p (piece i b d x p) pf in
    ap₂ (part_read i b d p) (in_stands s p.query x st) (in_reads rs)
    ∙ part_tested_of (numbers_fit (length x) p.taken && numbers_fit (length d) p.named) (ties_fit p (piece i b d x p)) i (piece i b d x p) ms v.0 v.1

same_length : {s : Ledger} {b : List (Atom Term)} {i : ℕ} {ds : List (List (Atom Term))} {ps : List Part} {ms : List Piece} → Reads s b i ds ps ms → length ds ≡ length ps
same_length done = refl
same_length (more x st pf rs) = ap suc (same_length rs)

-- ---------------------------------------------------------------- the judgement

abbrev pub IsEntry : Outcome → Type 0
IsEntry (enters n) = Unit {0}
IsEntry strikes = ⊥
IsEntry (refuses k i) = ⊥

abbrev entry_of : Outcome → Query
entry_of (enters n) = n
entry_of strikes = []
entry_of (refuses k i) = []

no_entry_of : {k i : ℕ} {n : Query} → refuses k i ≡ enters n → ⊥
no_entry_of e = subst IsEntry (sym e) tt

verdict_in : (b : Bool) (is js : List ℕ) (o : Outcome) (n : Query) → verdict b is js o ≡ enters n → T b × (is ≡ []) × (js ≡ []) × (o ≡ enters n)
verdict_in false is js o n e = absurd (no_entry_of e)
verdict_in true (i ∷ is) js o n e = absurd (no_entry_of e)
verdict_in true [] (j ∷ js) o n e = absurd (no_entry_of e)
verdict_in true [] [] o n e = (tt, refl, refl, e)

limits_in : (a c : Bool) (m n : Query) → limits a c m ≡ enters n → T a × T c × (m ≡ n)
limits_in false c m n e = absurd (no_entry_of e)
limits_in true false m n e = absurd (no_entry_of e)
limits_in true true m n e = (tt, tt, ap entry_of e)

limits_of : (a c : Bool) (n : Query) → T a → T c → limits a c n ≡ enters n
limits_of true true n t u = refl
limits_of true false n t u = absurd u
limits_of false c n t u = absurd t

fits_in : (s : Ledger) (m n : Query) → fitting s m ≡ enters n → (m ≡ n) × Fits s n
fits_in s m n e =
    let r = limits_in (leb (length m) 16 && all (λ k. ltb k 32) (vars (terms m))) (ltb (length s.entered) 64) m n e in
    let a = both_in (leb (length m) 16) (all (λ k. ltb k 32) (vars (terms m))) r.0 in (
      r.2,
      subst (λ v. Fits s v) r.2 (record {
        atoms = leb→le (length m) 16 a.0;
        variables = λ k o. ltb→lt k 32 (all_at (λ j. ltb j 32) a.1 (in_vars (terms m) o));
        room = ltb→lt (length s.entered) 64 r.1;
      }),
    )

in_fits : (s : Ledger) (n : Query) → Fits s n → fitting s n ≡ enters n
in_fits s n f = limits_of (leb (length n) 16 && all (λ k. ltb k 32) (vars (terms n))) (ltb (length s.entered) 64) n
    (both_of (leb (length n) 16) (all (λ k. ltb k 32) (vars (terms n))) (le→leb (length n) 16 f.atoms)
    (all_of (λ k. ltb k 32) (vars (terms n)) (λ k m. lt→ltb k 32 (f.variables k (of_vars (terms n) m)))))
    (lt→ltb (length s.entered) 64 f.room)

tested_in : (s : Ledger) (b : List (Atom Term)) (ms : List Piece) (n : Query) → tested s b ms ≡ enters n →
    RightBy (names ms) ms × (n ≡ new_query (names ms) (left b (map bare ms))) × Fits s n
tested_in s b ms n e =
    let f : Ref → Ref = names ms in
    let es = ends (all_ties ms) in
    let r = verdict_in (all (constant_alone f) es) (failing (sets_meet f) 0 ms) (failing (unnamed_right f es) 0 ms) (fitting s (new_query f (left b (map bare ms)))) n e in
    let o = fits_in s (new_query f (left b (map bare ms))) n r.3 in (
      record {
        constants = constants_in (all_ties ms) r.0;
        each_piece = λ p m.
            let a = both_in (within (map (rename f) p.taken) (map (rename f) p.named)) (within (map (rename f) p.named) (map (rename f) p.taken)) (none_fails (sets_meet f) 0 ms r.1 p m) in
            record { met = within_in f p.taken p.named a.0; meets = within_in f p.named p.taken a.1; unnamed_alone = alone_in (all_ties ms) p (none_fails (unnamed_right f es) 0 ms r.2 p m) };
      },
      sym o.0,
      o.1,
    )

in_tested : (s : Ledger) (b : List (Atom Term)) (ms : List Piece) → RightBy (names ms) ms →
    tested s b ms ≡ fitting s (new_query (names ms) (left b (map bare ms)))
in_tested s b ms h =
    let f : Ref → Ref = names ms in
    let es = ends (all_ties ms) in
    let n = new_query f (left b (map bare ms)) in
    let e1 : all (constant_alone f) es ≡ true = T_true (all (constant_alone f) es) (in_constants f es h.constants) in
    let e2 : failing (sets_meet f) 0 ms ≡ [] = fails_none (sets_meet f) 0 ms (λ p m. let r = h.each_piece p m in
    both_of (within (map (rename f) p.taken) (map (rename f) p.named)) (within (map (rename f) p.named) (map (rename f) p.taken))
    (in_within f p.taken p.named r.met) (in_within f p.named p.taken r.meets)) in
    let e3 : failing (unnamed_right f es) 0 ms ≡ [] = fails_none (unnamed_right f es) 0 ms (λ p m. in_alone f es p (h.each_piece p m).unnamed_alone) in
    ap (λ v. verdict v (failing (sets_meet f) 0 ms) (failing (unnamed_right f es) 0 ms) (fitting s n)) e1
    ∙ ap (λ v. verdict true v (failing (unnamed_right f es) 0 ms) (fitting s n)) e2
    ∙ ap (λ v. verdict true [] v (fitting s n)) e3

rule_in : (s : Ledger) (t : Step) (n : Query) (us : List Rule) → nth t.rule s.rules ≡ us → judge_rule s t us ≡ enters n → RightStep s t n × Fits s n
rule_in s t n [] i e = absurd (no_entry_of e)
rule_in s t n (u ∷ us) i e = go (eqb (length u.heads) (length t.parts)) e
  where
    from_read : (v : Read) → pieces s u.body 0 u.heads t.parts ≡ v → judge_read s u.body v ≡ enters n → RightStep s t n × Fits s n
    from_read (refused k j) h is = absurd (no_entry_of is)
    from_read (read ms) h k =
        let r = tested_in s u.body ms n k in (
          record {
            rule = u;
            is_rule = nth_one t.rule s.rules i;
            pieces = ms;
            reads = reads_in s u.body 0 u.heads t.parts ms h;
            right = named_right ms r.0;
            new = subst (λ v. NewQuery (Linked (all_ties ms)) (left u.body (map bare ms)) v) (sym r.1) (new_query_is (all_ties ms) (left u.body (map bare ms)) r.0.constants);
          },
          r.2,
        )

    go : (b : Bool) → elim b [ false ↦ refuses 11 0 | true ↦ judge_read s u.body (pieces s u.body 0 u.heads t.parts) ] ≡ enters n → RightStep s t n × Fits s n
    go false k = absurd (no_entry_of k)
    go true k = from_read (pieces s u.body 0 u.heads t.parts) refl k

-- of a right step only the limits are left to judge
pub right_judged : (s : Ledger) (t : Step) (n : Query) → RightStep s t n → judge s t ≡ fitting s n
right_judged s t n r = ap (judge_rule s t) r.is_rule ∙ go (eqb (length r.rule.heads) (length t.parts)) (subst (λ v. T (eqb (length r.rule.heads) v)) (same_length r.reads) (eqb_refl (length r.rule.heads)))
  where
    by : RightBy (names r.pieces) r.pieces
    by = right_named r.pieces r.right

    new : n ≡ new_query (names r.pieces) (left r.rule.body (map bare r.pieces))
    new = new_query_is_one (all_ties r.pieces) (left r.rule.body (map bare r.pieces)) n (new_query (names r.pieces) (left r.rule.body (map bare r.pieces))) r.new
        (new_query_is (all_ties r.pieces) (left r.rule.body (map bare r.pieces)) by.constants)

    go : (b : Bool) → T b → elim b [ false ↦ refuses 11 0 | true ↦ judge_read s r.rule.body (pieces s r.rule.body 0 r.rule.heads t.parts) ] ≡ fitting s n
    go false x = absurd x
    go true x = ap (judge_read s r.rule.body) (in_reads r.reads) ∙ in_tested s r.rule.body r.pieces by ∙ ap (fitting s) (sym new)

pub judge_is_right : JudgeIsRight
judge_is_right s t n = (
  λ e. rule_in s t n (nth t.rule s.rules) refl e,
  λ h. right_judged s t n h.0 ∙ in_fits s n h.1,
)

-- a step has one new query, at least where one fits
pub one_right : (s : Ledger) (t : Step) (n m : Query) → RightStep s t n → Fits s n → RightStep s t m → m ≡ n
one_right s t n m r f o = (fits_in s m n (sym (right_judged s t m o) ∙ right_judged s t n r ∙ in_fits s n f)).0

pub fits_or : (s : Ledger) (n : Query) → Fits s n ⊎ (Fits s n → ⊥)
fits_or s n = go (fitting s n) refl
  where
    go : (o : Outcome) → fitting s n ≡ o → Fits s n ⊎ (Fits s n → ⊥)
    go (enters m) e = let r = fits_in s n m e in inl (subst (Fits s) (sym r.0) r.1)
    go strikes e = inr (λ f. subst IsEntry (sym (in_fits s n f) ∙ e) tt)
    go (refuses k i) e = inr (λ f. subst IsEntry (sym (in_fits s n f) ∙ e) tt)

-- ---------------------------------------------------------------- strikes

abbrev pub IsStroke : Outcome → Type 0
IsStroke (enters n) = ⊥
IsStroke strikes = Unit {0}
IsStroke (refuses k i) = ⊥

no_stroke_of : {k i : ℕ} → refuses k i ≡ strikes → ⊥
no_stroke_of e = subst IsStroke (sym e) tt

strike_in : (s : Ledger) (a b : ℕ) (xs ys : List Query) (w : Bool) → standing s a ≡ xs → standing s b ≡ ys → (T w → ⊥) ⊎ T w → (a ≡ b → T w) → strike_tested xs ys w ≡ strikes → StrikesOut s a b
strike_in s a b [] ys w i j c d e = absurd (no_stroke_of e)
strike_in s a b (x ∷ xs) [] w i j c d e = absurd (no_stroke_of e)
strike_in s a b (x ∷ xs) (y ∷ ys) true i j c d e = absurd (no_stroke_of e)
strike_in s a b (x ∷ xs) (y ∷ ys) false i j c d e = record {
  out = x;
  by = y;
  a_stands = stands_in s a x xs i;
  b_stands = stands_in s b y ys j;
  differ = d;
  maps = by_test (λ v. v ≡ strikes → Holds y x) (holds y x) strikes (refuses 21 0)
      (λ t k. (search_is_right y x).0 (T_true (holds y x) t)) (λ t k. absurd (no_stroke_of k)) e;
}

pub strike_is_right : StrikeIsRight
strike_is_right s a b = (
  λ e. strike_in s a b (standing s a) (standing s b) (eqb a b) refl refl (decide (eqb a b) (λ t. inr t) (λ t. inl t)) (λ i. subst (λ v. T (eqb a v)) i (eqb_refl a)) e,
  λ h. ap₂ (λ x y. strike_tested x y (eqb a b)) (in_stands s a h.out h.a_stands) (in_stands s b h.by h.b_stands)
      ∙ differing h.out h.by (eqb a b) (λ t. h.differ (eqb→eq a b t)) (true_T ((search_is_right h.by h.out).1 h.maps)),
)
  where
    differing : (x y : Query) (w : Bool) → (T w → ⊥) → T (holds y x) → strike_tested (x ∷ []) (y ∷ []) w ≡ strikes
    differing x y true n t = absurd (n tt)
    differing x y false n t = by_test (λ v. v ≡ strikes) (holds y x) strikes (refuses 21 0) (λ u. refl) (λ u. absurd (u t))

abbrev pub Refused : Outcome → Type 0
Refused o = (k : ℕ) × (i : ℕ) × (o ≡ refuses k i)

abbrev pub EnteredOr : Outcome → Type 0
EnteredOr o = ((n : Query) × (o ≡ enters n)) ⊎ Refused o

limits_or : (a c : Bool) (n : Query) → EnteredOr (limits a c n)
limits_or false c n = inr (18, 0, refl)
limits_or true false n = inr (19, 0, refl)
limits_or true true n = inl (n, refl)

verdict_or : (b : Bool) (is js : List ℕ) (o : Outcome) → EnteredOr o → EnteredOr (verdict b is js o)
verdict_or false is js o h = inr (15, 0, refl)
verdict_or true (i ∷ is) js o h = inr (16, i, refl)
verdict_or true [] (j ∷ js) o h = inr (17, j, refl)
verdict_or true [] [] o h = h

read_or : (s : Ledger) (b : List (Atom Term)) (r : Read) → EnteredOr (judge_read s b r)
read_or s b (refused k i) = inr (k, i, refl)
read_or s b (read ms) =
    let f : Ref → Ref = names ms in
    let es = ends (all_ties ms) in
    let n = new_query f (left b (map bare ms)) in
    verdict_or (all (constant_alone f) es) (failing (sets_meet f) 0 ms) (failing (unnamed_right f es) 0 ms) (fitting s n) (limits_or (leb (length n) 16 && all (λ k. ltb k 32) (vars (terms n))) (ltb (length s.entered) 64) n)

rule_or : (s : Ledger) (t : Step) (us : List Rule) → EnteredOr (judge_rule s t us)
rule_or s t [] = inr (11, 0, refl)
rule_or s t (u ∷ us) = go (eqb (length u.heads) (length t.parts))
  where
    go : (b : Bool) → EnteredOr (elim b [ false ↦ refuses 11 0 | true ↦ judge_read s u.body (pieces s u.body 0 u.heads t.parts) ])
    go false = inr (11, 0, refl)
    go true = read_or s u.body (pieces s u.body 0 u.heads t.parts)

pub step_or : (s : Ledger) (t : Step) → EnteredOr (judge s t)
step_or s t = rule_or s t (nth t.rule s.rules)

pub strike_or : (s : Ledger) (a b : ℕ) → (judge_strike s a b ≡ strikes) ⊎ Refused (judge_strike s a b)
strike_or s a b = go (standing s a) (standing s b) (eqb a b)
  where
    go : (xs ys : List Query) (w : Bool) → (strike_tested xs ys w ≡ strikes) ⊎ Refused (strike_tested xs ys w)
    go [] ys w = inr (12, 0, refl)
    go (x ∷ xs) [] w = inr (12, 0, refl)
    go (x ∷ xs) (y ∷ ys) true = inr (20, 0, refl)
    go (x ∷ xs) (y ∷ ys) false = by_test (λ v. (v ≡ strikes) ⊎ Refused v) (holds y x) strikes (refuses 21 0) (λ t. inl refl) (λ t. inr (21, 0, refl))
