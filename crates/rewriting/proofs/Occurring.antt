-- Where variables occur in the atoms of a part, and which terms may stand with an unnamed variable.
use Rattle.std.proofs.Common.{◌≡◌, ℕ, ◌+◌, ◌-◌, ◌*◌, ◌<◌, Bool, true, false, not, ◌&&◌, ◌||◌, T, eqb, ltb, leb, List, [], ◌∷◌, map, get_or, sym, refl, ap, ◌∙◌, subst, ap₂, ⊎_elim, arith}
use Rattle.std.proofs.lemmas.Bool.{eq-eqb, ne_eqb, le-leb, lt-leb, lt-ltb, le-ltb, and_left, and_right, cases_order, cases_Bool}
use Rattle.notation.specs.declared.terms.Term.{Term as WrittenTerm}
use Rattle.notation.specs.declared.terms.Atom.{Atom as WrittenAtom}
use Rattle.notation.specs.Logic.{Term, con, var, Atom, at, In, rename, terms}
use Rattle.queries.specs.Checks.{atoms_all_fit}
use Rattle.rewriting.specs.declared.steps.Owner.TheVariants as owner
use Rattle.rewriting.specs.Classes.{same_ref, name_in, classes}
use Rattle.rewriting.specs.Computing.{same_term, any}
use Rattle.rewriting.specs.Judging.{has_ref, may_join}
use Rattle.rewriting.specs.Occurring.{occurs, only_at, may_stand, AllMayStand}
use Rattle.rewriting.specs.Steps.{Query, Ref, fixed, own, copy, in_copy, Part, piece, Ties, member, at_numbers, off_numbers, vars, is_copy, unnamed_of}
use Rattle.rewriting.specs.Tables.{place, Within, Names, TiesWithin}
use Rattle.rewriting.specs.Written.{logic_atoms, ref_of}
use Rattle.rewriting.proofs.Apart.{terms_rename, dropped_in}
use Rattle.rewriting.proofs.Judged.{MayJoin, may_in, in_may}
use Rattle.rewriting.proofs.Lists.{in_map, member_in, in_member, of_vars, drop_keeps, dropped_off}
use Rattle.rewriting.proofs.Placed.{place_below, place_one, same_place, at_place, within_or, outside}
use Rattle.rewriting.proofs.Ranged.{atoms_within}
use Rattle.rewriting.proofs.Search.{true_T, T_true}
use Rattle.rewriting.proofs.Turns.{any_append}

-- ---------------------------------------------------------------- variables of a copy

same_in_copy : (i v : ℕ) (t : Term) → same_ref (copy i v) (in_copy i t) ≡ same_term (var v) t
same_in_copy i v (con k) = refl
same_in_copy i v (var k) = ap (λ b. b && eqb v k) (eq-eqb i i refl)

other_copy : (i j v : ℕ) → (j ≡ i → ⊥) → (t : Term) → same_ref (copy j v) (in_copy i t) ≡ false
other_copy i j v n (con k) = refl
other_copy i j v n (var k) = and_left (eqb j i) (eqb v k) (ne_eqb j i n)

any_map : {X Y : Type 0} (f : Y → Bool) (g : X → Y) (h : X → Bool) → ((x : X) → f (g x) ≡ h x) → (xs : List X) → any f (map g xs) ≡ any h xs
any_map f g h e [] = refl
any_map f g h e (x ∷ xs) = ap₂ ◌||◌ (e x) (any_map f g h e xs)

occurs_terms : (v : ℕ) (xs : List (Atom Term)) → any (same_term (var v)) (terms xs) ≡ occurs v xs
occurs_terms v [] = refl
occurs_terms v (at p ts ∷ xs) = any_append (same_term (var v)) ts (terms xs) ∙ ap (λ b. any (same_term (var v)) ts || b) (occurs_terms v xs)

has_copy : (i v : ℕ) (xs : List (Atom Term)) → has_ref (copy i v) (map (rename (in_copy i)) xs) ≡ occurs v xs
has_copy i v xs =
    ap (any (same_ref (copy i v))) (terms_rename (in_copy i) xs)
    ∙ any_map (same_ref (copy i v)) (in_copy i) (same_term (var v)) (same_in_copy i v) (terms xs) ∙ occurs_terms v xs

has_other : (i j v : ℕ) (xs : List (Atom Term)) → (j ≡ i → ⊥) → has_ref (copy j v) (map (rename (in_copy i)) xs) ≡ false
has_other i j v xs n =
    ap (any (same_ref (copy j v))) (terms_rename (in_copy i) xs)
    ∙ any_map (same_ref (copy j v)) (in_copy i) (λ t. false) (other_copy i j v n) (terms xs) ∙ none_any (terms xs)
  where
    none_any : (ts : List Term) → any (λ t. false) ts ≡ false
    none_any [] = refl
    none_any (t ∷ ts) = none_any ts

member_vars : (v : ℕ) (ts : List Term) → member v (vars ts) ≡ any (same_term (var v)) ts
member_vars v [] = refl
member_vars v (con k ∷ ts) = member_vars v ts
member_vars v (var k ∷ ts) = ap (λ b. eqb v k || b) (member_vars v ts)

-- an unnamed variable is in the head and not in the body
pub unnamed_in : (b d : List (Atom Term)) (z : ℕ) → In z (unnamed_of b d) → (occurs z d ≡ true) × (occurs z b ≡ false)
unnamed_in b d z m = (
  sym (member_vars z (terms d) ∙ occurs_terms z d) ∙ T_true (member z (vars (terms d))) (in_member (dropped_in (vars (terms b)) (vars (terms d)) z m)),
  ⊎_elim
      (λ e. absurd (dropped_off (vars (terms b)) (vars (terms d)) z m (true_T (member_vars z (terms b) ∙ occurs_terms z b ∙ e))))
      (λ e. e) (cases_Bool (occurs z b)),
)

pub in_unnamed : (b d : List (Atom Term)) (z : ℕ) → true ≡ occurs z d → false ≡ occurs z b → In z (unnamed_of b d)
in_unnamed b d z e n =
    drop_keeps (vars (terms b)) (vars (terms d)) z
    (λ t. subst T (member_vars z (terms b) ∙ occurs_terms z b ∙ sym n) t)
    (member_in z (vars (terms d)) (true_T (member_vars z (terms d) ∙ occurs_terms z d ∙ sym e)))

pub unnamed_small : (b : List (Atom Term)) (d : List (WrittenAtom WrittenTerm)) (z : ℕ) → atoms_all_fit d ≡ true → In z (unnamed_of b (logic_atoms d)) → z < 32
unnamed_small b d z h m =
    atoms_within owner.Rule d h tt (own z)
    (subst (λ v. In (own z) v) (sym (terms_rename (ref_of owner.Rule) (logic_atoms d)))
    (in_map (ref_of owner.Rule) (of_vars (terms (logic_atoms d)) (dropped_in (vars (terms b)) (vars (terms (logic_atoms d))) z m))))

-- ---------------------------------------------------------------- the class of an unnamed variable

-- of a term that has a place
pub may_stand_is : (i z : ℕ) (b d : List (Atom Term)) (qu : Query) (p : Part) → z < 32 → (x : Ref) → Within x →
    may_stand i z p.taken qu (place x) ≡ may_join (piece i b d qu p) z x
may_stand_is i z b d qu p small x h = ap₂ ◌||◌ (same_place x (own z) h small) (in_copy_i x h)
  where
    held : Ref → Bool
    held y = has_ref y (map (rename (in_copy i)) (at_numbers p.taken 0 qu)) && not (has_ref y (map (rename (in_copy i)) (off_numbers p.taken 0 qu)))

    Stands : Ref → Type 0
    Stands y = (leb (1032 + 32 * i) (place y) && (ltb (place y) (1064 + 32 * i) && only_at p.taken qu (place y - (1032 + 32 * i)))) ≡ (is_copy y && held y)

    same_copy : (k : ℕ) → k < 32 → Stands (copy i k)
    same_copy k l =
        ap₂ ◌&&◌ (le-leb (1032 + 32 * i) (1032 + 32 * i + k) (omega arith))
        (ap₂ ◌&&◌ (lt-ltb (1032 + 32 * i + k) (1064 + 32 * i) (omega arith)) (let e : 1032 + 32 * i + k - (1032 + 32 * i) ≡ k = omega arith in ap (only_at p.taken qu) e))
        ∙ ap₂ (λ u v. u && not v) (sym (has_copy i k (at_numbers p.taken 0 qu))) (sym (has_copy i k (off_numbers p.taken 0 qu)))

    none_held : (j k : ℕ) → (j ≡ i → ⊥) → held (copy j k) ≡ false
    none_held j k n = and_left (has_ref (copy j k) (map (rename (in_copy i)) (at_numbers p.taken 0 qu))) _ (has_other i j k (at_numbers p.taken 0 qu) n)

    in_copy_i : (y : Ref) → Within y → Stands y
    in_copy_i (fixed k) l = and_left (leb (1032 + 32 * i) k) _ (lt-leb (1032 + 32 * i) k (omega arith))
    in_copy_i (own k) l = and_left (leb (1032 + 32 * i) (1000 + k)) _ (lt-leb (1032 + 32 * i) (1000 + k) (omega arith))
    in_copy_i (copy j k) l =
        let n = 1032 + 32 * j + k in
        ⊎_elim
        (λ e. subst (λ h. Stands (copy h k)) (sym e) (same_copy k l.1))
        (λ o. ⊎_elim
        (λ a. and_left (leb (1032 + 32 * i) n) _ (lt-leb (1032 + 32 * i) n (omega (arith, l.1))) ∙ sym (none_held j k (λ e. omega arith)))
        (λ a. and_right (leb (1032 + 32 * i) n) _ (and_left (ltb n (1064 + 32 * i)) _ (le-ltb n (1064 + 32 * i) (omega arith))) ∙ sym (none_held j k (λ e. omega arith)))
        o)
        (cases_order j i)

module _ (ts : Ties) (w : TiesWithin ts) (t : List ℕ) (n : Names t (name_in (classes ts)))
    (i z : ℕ) (b d : List (Atom Term)) (qu : Query) (p : Part) (small : z < 32) where
  -- the terms in the class of z, by its table and by its name
  pub stand_joined : AllMayStand t i p.taken qu z → (x : Ref) → name_in (classes ts) x ≡ name_in (classes ts) (own z) → MayJoin (piece i b d qu p) z x
  stand_joined h x e =
      ⊎_elim
      (λ l. may_in (piece i b d qu p) z x (true_T (sym (may_stand_is i z b d qu p small x l) ∙ h (place x) (place_below x l) (n.entry x l ∙ ap place e ∙ sym (n.entry (own z) small)))))
      (λ l. absurd (l (subst Within (sym e ∙ outside ts w x l) (n.inside (own z) small))))
      (within_or x)

  pub joined_stand : ((x : Ref) → name_in (classes ts) x ≡ name_in (classes ts) (own z) → MayJoin (piece i b d qu p) z x) → AllMayStand t i p.taken qu z
  joined_stand h k l e =
      let r = at_place k l in
      let x = r.0 in
      let same = sym (n.entry x r.1) ∙ ap (λ m. get_or t m 0) r.2 ∙ e ∙ n.entry (own z) small in
      subst (λ m. may_stand i z p.taken qu m ≡ true) r.2
      (may_stand_is i z b d qu p small x r.1
      ∙ T_true (may_join (piece i b d qu p) z x) (in_may (piece i b d qu p) z x
      (h x (place_one (name_in (classes ts) x) (name_in (classes ts) (own z)) (n.inside x r.1) (n.inside (own z) small) same))))
