-- Soundness of a right step.
use Rattle.std.proofs.Common.{◌≡◌, ℕ, Bool, true, false, cond, not, T, ◌⊎◌, List, [], ◌∷◌, sym, refl, ap, ◌∙◌, subst, ⊎_elim}
use Rattle.notation.specs.Logic.{Term, con, var, Atom, Facts, In, here, there, rename, terms}
use Rattle.search.specs.Holding.{put, Makes, Holds}
use Rattle.search.specs.Keeping.{Occurs}
use Rattle.rewriting.specs.Classes.{same_ref}
use Rattle.rewriting.specs.Steps.{Query, Ref, fixed, own, copy, in_rule, in_copy, is_copy, Part, piece, member, vars, at_numbers, unnamed_of}
use Rattle.rewriting.proofs.Named.{RightPieceBy}
use Rattle.rewriting.proofs.Lists.{by_test, decide, none_in, in_cases, in_map, of_map, in_args, rename_same, rename_twice, occurs_in, ref_eq, ref_refl, member_in, at_or_off, at_in, drop_keeps, dropped_off, in_vars, of_vars}

abbrev own_number : Ref → ℕ
own_number (fixed k) = k
own_number (own k) = k
own_number (copy i k) = k

abbrev is_own : Ref → Type 0
is_own (fixed k) = ⊥
is_own (own k) = Unit {0}
is_own (copy i k) = ⊥

-- the value of a class: what the head's giving has for an unnamed variable in it, and otherwise what the new query's giving has
abbrev value : (f : Ref → Ref) (w : Ref → Term) (h : ℕ → Term) → List ℕ → Ref → Term
value f w h [] y = w y
value f w h (z ∷ zs) y = cond (same_ref (f (own z)) y) (h z) (value f w h zs y)

value_else : (f : Ref → Ref) (w : Ref → Term) (h : ℕ → Term) (zs : List ℕ) (y : Ref) → ((z : ℕ) → In z zs → f (own z) ≡ y → ⊥) → value f w h zs y ≡ w y
value_else f w h [] y n = refl
value_else f w h (z ∷ zs) y n =
    by_test (λ v. v ≡ w y) (same_ref (f (own z)) y) (h z) (value f w h zs y)
    (λ t. absurd (n z (here refl) (ref_eq (f (own z)) y t)))
    (λ t. value_else f w h zs y (λ k m. n k (there m)))

value_of : (f : Ref → Ref) (w : Ref → Term) (h : ℕ → Term) (zs : List ℕ) (z : ℕ) → ((k : ℕ) → In k zs → f (own k) ≡ f (own z) → k ≡ z) → In z zs → value f w h zs (f (own z)) ≡ h z
value_of f w h [] z one m = absurd (none_in m)
value_of f w h (k ∷ zs) z one m =
    by_test (λ v. v ≡ h z) (same_ref (f (own k)) (f (own z))) (h k) (value f w h zs (f (own z)))
    (λ t. ap h (one k (here refl) (ref_eq (f (own k)) (f (own z)) t)))
    (λ t. ⊎_elim
    (λ e. absurd (t (subst (λ v. T (same_ref (f (own v)) (f (own z)))) e (ref_refl (f (own z))))))
    (λ n. value_of f w h zs z (λ j i. one j (there i)) n)
    (in_cases m))

-- one head: the query used for it holds
module _ (f : Ref → Ref) (w : Ref → Term) (i : ℕ) (b d : List (Atom Term)) (qu : Query) (p : Part) (h : ℕ → Term) (l : Facts)
    (wf : (k : ℕ) → f (fixed k) ≡ fixed k) (wc : (k : ℕ) → w (fixed k) ≡ con k)
    (right : RightPieceBy f (piece i b d qu p))
    (agree : (n : ℕ) → Occurs (var n) b → h n ≡ w (f (own n)))
    (made : Makes h d l)
    (left : (a : Atom Ref) → In a (piece i b d qu p).rest → In (rename (λ x. w (f x)) a) l) where
  zs : List ℕ
  zs = unnamed_of b d

  val : Ref → Term
  val x = value f w h zs (f x)

  alone : (z : ℕ) → In z zs → (x : Ref) → f x ≡ f (own z) → (x ≡ own z) ⊎ ((is_copy x ≡ true) × Occurs x (piece i b d qu p).taken × (Occurs x (piece i b d qu p).rest → ⊥))
  unfolding zs
  alone z m x e = right.unnamed_alone z m x e

  val_fixed : (k : ℕ) → val (fixed k) ≡ con k
  unfolding val
  val_fixed k =
      value_else f w h zs (f (fixed k)) (λ z m e.
      ⊎_elim (λ u. subst is_own (sym u) tt) (λ u. let r : ◌≡◌ {A = Bool} false true = u.0 in subst (λ v. T (not v)) r tt) (alone z m (fixed k) (sym e)))
      ∙ ap w (wf k) ∙ wc k

  val_own : (k : ℕ) → Occurs (var k) d → val (own k) ≡ h k
  unfolding val zs
  val_own k o = decide (member k (vars (terms b)))
      (λ t. value_else f w h zs (f (own k)) (λ z m e.
      ⊎_elim
      (λ u. dropped_off (vars (terms b)) (vars (terms d)) z m (subst (λ v. T (member v (vars (terms b)))) (ap own_number u) t))
      (λ u. let r : ◌≡◌ {A = Bool} false true = u.0 in subst (λ v. T (not v)) r tt)
      (alone z m (own k) (sym e)))
      ∙ sym (agree k (of_vars (terms b) (member_in k (vars (terms b)) t))))
      (λ t. let m = drop_keeps (vars (terms b)) (vars (terms d)) k t (in_vars (terms d) o) in
      value_of f w h zs k (λ j n e. ⊎_elim (λ u. ap own_number u) (λ u. absurd (let r : ◌≡◌ {A = Bool} false true = u.0 in subst (λ v. T (not v)) r tt)) (alone k m (own j) e)) m)

  val_rest : (t : Term) → Occurs (in_copy i t) (piece i b d qu p).rest → val (in_copy i t) ≡ w (f (in_copy i t))
  unfolding val
  val_rest (con k) o = val_fixed k ∙ sym (ap w (wf k) ∙ wc k)
  val_rest (var n) o = value_else f w h zs (f (copy i n)) (λ z m e.
      ⊎_elim (λ u. subst is_own (sym u) tt) (λ u. u.2 o) (alone z m (copy i n) (sym e)))

  val_head : (t : Term) → Occurs t d → val (in_rule t) ≡ put h t
  val_head (con k) o = val_fixed k
  val_head (var k) o = val_own k o

  -- both sides of a meeting have the same value
  val_met : (a c : Atom Ref) → rename f a ≡ rename f c → rename val a ≡ rename val c
  unfolding val
  val_met a c e = sym (rename_twice (value f w h zs) f a) ∙ ap (rename (value f w h zs)) e ∙ rename_twice (value f w h zs) f c

  giving : ℕ → Term
  giving n = val (copy i n)

  giving_is : (t : Term) → val (in_copy i t) ≡ put giving t
  unfolding giving
  giving_is (con k) = val_fixed k
  giving_is (var n) = refl

  at_copy : (a : Atom Term) → rename (put giving) a ≡ rename val (rename (in_copy i) a)
  at_copy a = sym (rename_twice val (in_copy i) a ∙ rename_same (λ t. val (in_copy i t)) (put giving) a (λ t m. giving_is t))

  taken_made : (a : Atom Term) → In (rename (in_copy i) a) (piece i b d qu p).taken → In (rename val (rename (in_copy i) a)) l
  taken_made a m =
      let r = right.met (rename (in_copy i) a) m in
      let o = of_map (rename in_rule) (at_numbers p.named 0 d) r.1 in
      let c = o.0 in
      let n = at_in p.named 0 d o.1 in
      let e : rename val (rename (in_copy i) a) ≡ rename (put h) c =
      val_met (rename (in_copy i) a) r.0 r.2 ∙ ap (rename val) o.2 ∙ rename_twice val in_rule c
      ∙ rename_same (λ t. val (in_rule t)) (put h) c (λ t k. val_head t (occurs_in c n k)) in
      subst (λ v. In v l) (sym e) (made c n)

  rest_made : (a : Atom Term) → In (rename (in_copy i) a) (piece i b d qu p).rest → In (rename val (rename (in_copy i) a)) l
  rest_made a m =
      let e : rename val (rename (in_copy i) a) ≡ rename (λ x. w (f x)) (rename (in_copy i) a) =
      rename_twice val (in_copy i) a
      ∙ rename_same (λ t. val (in_copy i t)) (λ t. w (f (in_copy i t))) a (λ t k. val_rest t (occurs_in (rename (in_copy i) a) m (in_args (in_copy i) a k)))
      ∙ sym (rename_twice (λ x. w (f x)) (in_copy i) a) in
      subst (λ v. In v l) (sym e) (left (rename (in_copy i) a) m)

  pub used_holds : Holds qu l
  used_holds = (
    giving,
    λ a m. subst (λ v. In v l) (sym (at_copy a))
        (⊎_elim (λ k. taken_made a (in_map (rename (in_copy i)) k)) (λ k. rest_made a (in_map (rename (in_copy i)) k)) (at_or_off p.taken 0 qu m)),
  )
