-- What a ledger is opened with: rules and queries that were made are such as the law wants.
use Rattle.std.proofs.Common.{◌≡◌, ℕ, zero, suc, ◌+◌, ◌<◌, ◌≤◌, Bool, true, false, cond, not, ◌&&◌, eqb, ltb, leb, ◌⊎◌, List, [], ◌∷◌, ◌++◌, map, length, is_some, Some, None, Option, option_and_then, sym, refl, ap, ◌∙◌, subst, inl, inr, ⊎_elim, add-one, arith}
use Rattle.std.proofs.lemmas.List.{map-append, length-map}
use Rattle.std.proofs.lemmas.Option.{none-some, option_and_then_some}
use Rattle.std.proofs.lemmas.Bool.{and_parts, or_cases, not-true, both_ways, false≢true, leb-true, ltb-true, eqb-true, cases_lt}
use Rattle.notation.specs.declared.terms.Term.{Term as WrittenTerm}
use Rattle.notation.specs.declared.terms.Term.TheVariants.{Constant, Variable}
use Rattle.notation.specs.declared.terms.Terms.{Terms}
use Rattle.notation.specs.declared.terms.Terms.TheVariants.{One, Two, Three, Four}
use Rattle.notation.specs.declared.terms.Atom.{Atom as WrittenAtom}
use Rattle.notation.specs.Fits.{term_fits}
use Rattle.notation.specs.Logic.{Term, var, Atom, In, here, there, terms, terms_of, as_term, query_atom}
use Rattle.queries.specs.declared.query.Query.{Query}
use Rattle.queries.specs.declared.rule.Rule.{Rule}
use Rattle.queries.specs.Checks.{all_terms, allowed, numbered, among, distinct, atoms_all_fit, fine, valid}
use Rattle.queries.specs.Heads.{body_atoms}
use Rattle.queries.specs.Queries.{atoms_of}
use Rattle.queries.specs.RuleChecks.{heads_fine, heads_numbered}
use Rattle.queries.specs.Rules.{heads_of, rule_of}
use Rattle.queries.proofs.Valid.{few_from_fine, some_from_next}
use Rattle.search.specs.Keeping.{Occurs, Rule as LogicRule}
use Rattle.search.specs.Rules.{meant}
use Rattle.rewriting.specs.Computing.{same_atom, same_term}
use Rattle.rewriting.specs.Rightness.{Distinct, Narrow, Proper}
use Rattle.rewriting.specs.Steps.{nth, vars, InOrder}
use Rattle.rewriting.specs.Unifiers.{OneHead}
use Rattle.rewriting.specs.Written.{logic_atoms}
use Rattle.rewriting.proofs.Lists.{none_in, in_cases, in_either, in_map, of_map, any_of, term_eq, term_refl, atom_refl}
use Rattle.rewriting.proofs.Nth.{nth_in, one_of}
use Rattle.rewriting.proofs.OneMore.{among_is}
use Rattle.rewriting.proofs.Ranged.{fit_parts, atom_terms_fit, terms_fitting}
use Rattle.rewriting.proofs.Search.{T_true}
use Rattle.laws.specs.Law.{Opened}

-- ---------------------------------------------------------------- terms as they are written

-- the terms of the atoms are those that are written
terms_read : (as' : List (WrittenAtom WrittenTerm)) → terms (logic_atoms as') ≡ map as_term (all_terms as')
terms_read [] = refl
terms_read (a ∷ as') = ap (λ v. map as_term (terms_of a.terms) ++ v) (terms_read as') ∙ sym (map-append as_term (terms_of a.terms) (all_terms as'))

-- only a variable is read as one
variable_read : (v : ℕ) (t : WrittenTerm) → var v ≡ as_term t → Variable v ≡ t
variable_read v (Constant k) e = cc
variable_read v (Variable k) e = cc

-- a variable that occurs is written
written_in : (v : ℕ) (as' : List (WrittenAtom WrittenTerm)) → Occurs (var v) (logic_atoms as') → In (Variable v) (all_terms as')
written_in v as' m =
    let r = of_map as_term (all_terms as') (subst (In (var v)) (terms_read as') m) in
    subst (λ t. In t (all_terms as')) (sym (variable_read v r.0 r.2)) r.1

-- a variable that is written occurs
occurs_written : (v : ℕ) (as' : List (WrittenAtom WrittenTerm)) → In (Variable v) (all_terms as') → Occurs (var v) (logic_atoms as')
occurs_written v as' m = subst (In (var v)) (sym (terms_read as')) (in_map as_term m)

-- two equal variables have one number
same_number : {v w : ℕ} → Variable v ≡ Variable w → v ≡ w
same_number e = cc

-- a variable is no constant
other_term : {v k : ℕ} → Variable v ≡ Constant k → ⊥
other_term e = false≢true cc

-- ---------------------------------------------------------------- numbers by first appearance

-- equal numbers that are there
same_some : {m n : ℕ} → ◌≡◌ {A = Option ℕ} (Some m) (Some n) → m ≡ n
same_some e = cc

-- what follows a number that is there
then_some : {X Y : Type 0} (o : Option X) (k : X → Option Y) (y : Y) → option_and_then k o ≡ Some y → (x : X) × (o ≡ Some x) × (k x ≡ Some y)
then_some o k y e = option_and_then_some k o y e (λ x p q. (x, p, q))

module _ (known start : ℕ) where
  -- a variable is one that may stand here, or the next
  first_ways : (n v : ℕ) (ts : List WrittenTerm) (m : ℕ) → numbered known start n (Variable v ∷ ts) ≡ Some m →
      ((allowed known start n v ≡ true) × (numbered known start n ts ≡ Some m)) ⊎ ((v ≡ n) × (numbered known start (n + 1) ts ≡ Some m))
  first_ways n v ts m h = go (allowed known start n v) (eqb v n) refl refl h
    where
      go : (b e : Bool) → allowed known start n v ≡ b → eqb v n ≡ e → cond b (numbered known start n ts) (cond e (numbered known start (n + 1) ts) None) ≡ Some m →
          ((allowed known start n v ≡ true) × (numbered known start n ts ≡ Some m)) ⊎ ((v ≡ n) × (numbered known start (n + 1) ts ≡ Some m))
      go true e p q k = inl (p, k)
      go false true p q k = inr (eqb-true v n q, k)
      go false false p q k = absurd (none-some m k)

  -- the next variable after is no less than before
  next_grows : (n : ℕ) (ts : List WrittenTerm) (m : ℕ) → numbered known start n ts ≡ Some m → n ≤ m
  next_grows n [] m h = let e = same_some h in omega arith
  next_grows n (Constant k ∷ ts) m h = next_grows n ts m h
  next_grows n (Variable v ∷ ts) m h = ⊎_elim
      (λ p. next_grows n ts m p.1)
      (λ p. let l = next_grows (n + 1) ts m p.1 in omega arith)
      (first_ways n v ts m h)

  -- the variable v is one of the first `known`, or from `start` on and below m
  abbrev Below : ℕ → ℕ → Type 0
  Below m v = (v < known) ⊎ ((start ≤ v) × (v < m))

  -- so is one that may stand here
  allowed_ways : (n v : ℕ) → allowed known start n v ≡ true → Below n v
  allowed_ways n v h = ⊎_elim
      (λ e. inl (ltb-true v known e))
      (λ e. let p = and_parts (leb start v) (ltb v n) e in inr (leb-true start v p.0, ltb-true v n p.1))
      (or_cases (ltb v known) (leb start v && ltb v n) h)

  -- and so is each of the terms, with the next after them
  in_numbers : (n : ℕ) (ts : List WrittenTerm) (m : ℕ) → start ≤ n → numbered known start n ts ≡ Some m → (v : ℕ) → In (Variable v) ts → Below m v
  in_numbers n [] m s h v i = absurd (none_in i)
  in_numbers n (Constant k ∷ ts) m s h v i = ⊎_elim (λ e. absurd (other_term e)) (λ j. in_numbers n ts m s h v j) (in_cases i)
  in_numbers n (Variable w ∷ ts) m s h v i = ⊎_elim
      (λ p. ⊎_elim
      (λ e. subst (Below m) (sym (same_number e)) (old p))
      (λ j. in_numbers n ts m s p.1 v j)
      (in_cases i))
      (λ p. ⊎_elim
      (λ e. subst (Below m) (sym (same_number e)) (new p))
      (λ j. in_numbers (n + 1) ts m (omega arith) p.1 v j)
      (in_cases i))
      (first_ways n w ts m h)
    where
      old : (allowed known start n w ≡ true) × (numbered known start n ts ≡ Some m) → Below m w
      old p = let l = next_grows n ts m p.1 in ⊎_elim (λ k. inl k) (λ k. let a = k.0 in let b = k.1 in inr (a, omega arith)) (allowed_ways n w p.0)

      new : (w ≡ n) × (numbered known start (n + 1) ts ≡ Some m) → Below m w
      new p = let e = p.0 in let l = next_grows (n + 1) ts m p.1 in inr (omega arith, omega arith)

  -- each variable between the next before and the next after is there
  all_between : (n : ℕ) (ts : List WrittenTerm) (m : ℕ) → numbered known start n ts ≡ Some m → (v : ℕ) → n ≤ v → v < m → In (Variable v) ts
  all_between n [] m h v a b = let e = same_some h in absurd (omega arith)
  all_between n (Constant k ∷ ts) m h v a b = there (all_between n ts m h v a b)
  all_between n (Variable w ∷ ts) m h v a b = ⊎_elim
      (λ p. there (all_between n ts m p.1 v a b))
      (λ p. ⊎_elim (λ e. here (ap Variable (e ∙ sym p.0))) (λ e. there (all_between (n + 1) ts m p.1 v (omega arith) b)) (from n v a))
      (first_ways n w ts m h)
    where
      from : (n v : ℕ) → n ≤ v → (v ≡ n) ⊎ (n < v)
      from n v a = elim (cases_lt n v) [ inl l ↦ inr l | inr l ↦ inl (omega arith) ]

-- ---------------------------------------------------------------- heads

-- what is at a place of a mapped list
nth_of_map : {X Y : Type 0} (f : X → Y) (i : ℕ) (xs : List X) (y : Y) → nth i (map f xs) ≡ y ∷ [] → (x : X) × (nth i xs ≡ x ∷ []) × (y ≡ f x)
nth_of_map f i [] y e = absurd (false≢true cc)
nth_of_map f zero (x ∷ xs) y e = (x, refl, sym (one_of e))
nth_of_map f (suc i) (x ∷ xs) y e = nth_of_map f i xs y e

module _ (known : ℕ) where
  -- a variable of a head is one of the body, or no less than the next before the heads
  from_next : (n : ℕ) (hs : List (List (WrittenAtom WrittenTerm))) (m : ℕ) → heads_numbered known n hs ≡ Some m →
      (d : List (WrittenAtom WrittenTerm)) → In d hs → (v : ℕ) → In (Variable v) (all_terms d) → (v < known) ⊎ (n ≤ v)
  from_next n [] m h d i v o = absurd (none_in i)
  from_next n (d ∷ hs) m h e i v o =
      let p = then_some (numbered known n n (all_terms d)) (λ k. heads_numbered known k hs) m h in
      let l = next_grows known n n (all_terms d) p.0 p.1 in
      ⊎_elim
      (λ s. ⊎_elim (λ k. inl k) (λ k. inr k.0) (in_numbers known n n (all_terms d) p.0 (omega arith) p.1 v (subst (λ x. In (Variable v) (all_terms x)) s o)))
      (λ j. ⊎_elim (λ k. inl k) (λ k. inr (omega arith)) (from_next p.0 hs m p.2 e j v o))
      (in_cases i)

  -- a variable of the first head that is not one of the body is in no other
  first_only : (n : ℕ) (d : List (WrittenAtom WrittenTerm)) (hs : List (List (WrittenAtom WrittenTerm))) (m : ℕ) → heads_numbered known n (d ∷ hs) ≡ Some m →
      (e : List (WrittenAtom WrittenTerm)) → In e hs → (v : ℕ) → (v < known → ⊥) → In (Variable v) (all_terms d) → In (Variable v) (all_terms e) → ⊥
  first_only n d hs m h e i v new a b =
      let p = then_some (numbered known n n (all_terms d)) (λ k. heads_numbered known k hs) m h in
      ⊎_elim new
      (λ k. ⊎_elim new (λ l. let u = k.1 in omega arith) (from_next p.0 hs m p.2 e i v b))
      (in_numbers known n n (all_terms d) p.0 (omega arith) p.1 v a)

  -- a variable that is not one of the body is in one head only
  one_only : (n : ℕ) (hs : List (List (WrittenAtom WrittenTerm))) (m : ℕ) → heads_numbered known n hs ≡ Some m →
      (i j : ℕ) (d e : List (WrittenAtom WrittenTerm)) → nth i hs ≡ d ∷ [] → nth j hs ≡ e ∷ [] →
      (v : ℕ) → (v < known → ⊥) → In (Variable v) (all_terms d) → In (Variable v) (all_terms e) → i ≡ j
  one_only n [] m h i j d e p q v new a b = cc
  one_only n (x ∷ hs) m h zero zero d e p q v new a b = refl
  one_only n (x ∷ hs) m h zero (suc j) d e p q v new a b =
      absurd (first_only n x hs m h e (nth_in j hs q) v new (subst (λ y. In (Variable v) (all_terms y)) (sym (one_of p)) a) b)
  one_only n (x ∷ hs) m h (suc i) zero d e p q v new a b =
      absurd (first_only n x hs m h d (nth_in i hs p) v new (subst (λ y. In (Variable v) (all_terms y)) (sym (one_of q)) b) a)
  one_only n (x ∷ hs) m h (suc i) (suc j) d e p q v new a b =
      let r = then_some (numbered known n n (all_terms x)) (λ k. heads_numbered known k hs) m h in
      ap suc (one_only r.0 hs m r.2 i j d e p q v new a b)

-- a variable of a rule that was made, if not in the body, occurs in one head only
one_head_made : (u : Rule) → OneHead (meant (rule_of u))
one_head_made u i j d e p q z a out b =
    let body = some_from_next _ _ u.body.counted in
    let heads = some_from_next _ _ u.counted in
    let r = nth_of_map logic_atoms i (heads_of u) d p in
    let s = nth_of_map logic_atoms j (heads_of u) e q in
    one_only u.body.next u.body.next (heads_of u) u.next heads i j r.0 s.0 r.1 s.1 z
    (λ l. out (occurs_written z (body_atoms u.body) (all_between 0 0 0 (all_terms (body_atoms u.body)) u.body.next body z (omega arith) l)))
    (written_in z r.0 (subst (Occurs (var z)) r.2 a))
    (written_in z s.0 (subst (Occurs (var z)) s.2 b))

-- ---------------------------------------------------------------- how many atoms and terms

-- terms as they are written are at most four
few_terms : (ts : Terms WrittenTerm) → length (map as_term (terms_of ts) ++ []) ≤ 4
few_terms (One a) = omega arith
few_terms (Two a b) = omega arith
few_terms (Three a b d) = omega arith
few_terms (Four a b d e) = omega arith

-- so atoms as they are written are narrow
narrow_written : (as' : List (WrittenAtom WrittenTerm)) → Narrow (logic_atoms as')
narrow_written as' b m = let r = of_map query_atom as' m in subst (λ (a : Atom Term). length (terms (a ∷ [])) ≤ 4) (sym r.2) (few_terms r.0.terms)

-- atoms that are fine are not none
fine_some : (most : ℕ) (as' : List (WrittenAtom WrittenTerm)) → fine most as' ≡ true → logic_atoms as' ≡ [] → ⊥
fine_some most as' h e =
    let l = leb-true 1 (length as') (and_parts _ _ (and_parts _ _ h).0).0 in
    let none = sym (length-map as' query_atom) ∙ ap length e in
    omega arith

-- nor more than the most
fine_few : (most : ℕ) (as' : List (WrittenAtom WrittenTerm)) → fine most as' ≡ true → length (logic_atoms as') ≤ most
fine_few most as' h = let e = length-map as' query_atom in let l = few_from_fine most as' h in omega arith

-- each head is fine
head_fine : (hs : List (List (WrittenAtom WrittenTerm))) (d : List (WrittenAtom WrittenTerm)) → heads_fine hs ≡ true → In d hs → fine 4 d ≡ true
head_fine [] d h m = absurd (none_in m)
head_fine (x ∷ hs) d h m =
    let p = and_parts (fine 4 x) (heads_fine hs) h in
    ⊎_elim (λ e. subst (λ y. fine 4 y ≡ true) (sym e) p.0) (λ n. head_fine hs d p.1 n) (in_cases m)

-- ---------------------------------------------------------------- queries

-- variables that pass the check are numbered by first appearance
order_from_some : (n : ℕ) (ts : List WrittenTerm) (m : ℕ) → numbered 0 0 n ts ≡ Some m → InOrder n (vars (map as_term ts))
order_from_some n [] m h = tt
order_from_some n (Constant k ∷ ts) m h = order_from_some n ts m h
order_from_some n (Variable v ∷ ts) m h = ⊎_elim
    (λ p. inl (⊎_elim (λ l. absurd (omega arith)) (λ l. l.1) (allowed_ways 0 0 n v p.0), order_from_some n ts m p.1))
    (λ p. inr (p.0, subst (λ k. InOrder k (vars (map as_term ts))) (add-one n) (order_from_some (n + 1) ts m p.1)))
    (first_ways 0 0 n v ts m h)

-- a number that is there
some_there : (o : Option ℕ) → is_some o ≡ true → (m : ℕ) × (o ≡ Some m)
some_there None h = absurd (false≢true h)
some_there (Some m) h = (m, refl)

-- atoms of which none is among those after it are different
distinct_read : (as' : List (WrittenAtom WrittenTerm)) → distinct as' ≡ true → Distinct (logic_atoms as')
distinct_read [] h = λ i j b p q. cc
distinct_read (a ∷ as') h = both (distinct_read as' (and_parts (not (among a as')) (distinct as') h).1)
  where
    apart : In (query_atom a) (logic_atoms as') → ⊥
    apart m =
        let out = not-true (among a as') (and_parts (not (among a as')) (distinct as') h).0 in
        both_ways (among a as') out (among_is a as' ∙ T_true _ (any_of (same_atom same_term (query_atom a)) m (atom_refl same_term term_eq term_refl (query_atom a))))

    both : Distinct (logic_atoms as') → Distinct (query_atom a ∷ logic_atoms as')
    both rest zero zero b p q = refl
    both rest zero (suc j) b p q = absurd (apart (subst (λ x. In x (logic_atoms as')) (sym (one_of p)) (nth_in j (logic_atoms as') q)))
    both rest (suc i) zero b p q = absurd (apart (subst (λ x. In x (logic_atoms as')) (sym (one_of q)) (nth_in i (logic_atoms as') p)))
    both rest (suc i) (suc j) b p q = ap suc (rest i j b p q)

-- each term of atoms in range is in range
term_in_range : (as' : List (WrittenAtom WrittenTerm)) → atoms_all_fit as' ≡ true → (t : WrittenTerm) → In t (all_terms as') → term_fits t ≡ true
term_in_range [] h t m = absurd (none_in m)
term_in_range (a ∷ as') h t m =
    let p = fit_parts a as' h in
    ⊎_elim (λ n. terms_fitting a.terms (atom_terms_fit a p.0) t n) (λ n. term_in_range as' p.1 t n) (in_either (terms_of a.terms) m)

-- atoms of a query are such as the law wants
proper_read : (as' : List (WrittenAtom WrittenTerm)) → valid as' ≡ true → Proper (logic_atoms as')
proper_read as' h =
    let p = and_parts (fine 16 as') (is_some (numbered 0 0 0 (all_terms as'))) h in
    let apart = and_parts (atoms_all_fit as') (distinct as') (and_parts (leb 1 (length as') && leb (length as') 16) (atoms_all_fit as' && distinct as') p.0).1 in
    let next = some_there (numbered 0 0 0 (all_terms as')) p.1 in
    record {
      some = fine_some 16 as' p.0;
      atoms = fine_few 16 as' p.0;
      narrow = narrow_written as';
      distinct = distinct_read as' apart.1;
      variables = λ k o. ltb-true k 32 (term_in_range as' apart.0 (Variable k) (written_in k as' o));
      in_order = subst (λ ts. InOrder 0 (vars ts)) (sym (terms_read as')) (order_from_some 0 (all_terms as') next.0 next.1);
    }

-- ---------------------------------------------------------------- rules and queries

-- what each of the rules has, the meant ones have
each_meant : (P : LogicRule → Type 0) → ((u : Rule) → P (meant (rule_of u))) → (rs : List Rule) (u : LogicRule) → In u (map meant (map rule_of rs)) → P u
each_meant P h rs u m =
    let r = of_map meant (map rule_of rs) m in
    let s = of_map rule_of rs r.1 in
    subst P (sym (r.2 ∙ ap meant s.2)) (h s.0)

-- the heads of a rule that was made
heads_made : (u : Rule) (d : List (Atom Term)) → In d (meant (rule_of u)).heads → (length d ≤ 4) × Narrow d
heads_made u d m =
    let r = of_map logic_atoms (heads_of u) m in
    subst (λ (x : List (Atom Term)). (length x ≤ 4) × Narrow x) (sym r.2) (fine_few 4 r.0 (head_fine (heads_of u) r.0 u.proper r.1), narrow_written r.0)

-- rules and queries that were made can open a ledger
pub opened_with : (rs : List Rule) (qs : List Query) → Opened (map meant (map rule_of rs)) (map logic_atoms (map atoms_of qs))
opened_with rs qs = record {
  bodies = each_meant (λ u. u.body ≡ [] → ⊥) (λ u. fine_some 8 (body_atoms u.body) u.body.proper) rs;
  narrow = each_meant (λ u. Narrow u.body) (λ u. narrow_written (body_atoms u.body)) rs;
  heads = each_meant (λ u. (d : List (Atom Term)) → In d u.heads → (length d ≤ 4) × Narrow d) heads_made rs;
  one_head = each_meant OneHead one_head_made rs;
  queries = λ x m.
      let r = of_map logic_atoms (map atoms_of qs) m in
      let s = of_map atoms_of qs r.1 in
      subst Proper (sym (r.2 ∙ ap logic_atoms s.2)) (proper_read (atoms_of s.0) s.0.proper);
}
