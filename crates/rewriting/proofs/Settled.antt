-- A draft of a small new query has the atoms of a query.
use Rattle.std.proofs.Common.{◌≡◌, ℕ, suc, ◌+◌, ◌<◌, ◌≤◌, true, not, ◌&&◌, T, eqb, ltb, leb, List, [], ◌∷◌, ◌++◌, map, length, is_some, None, sym, refl, ap, ◌∙◌, subst, inl, inr, ⊎_elim, add-one, arith}
use Rattle.std.proofs.lemmas.List.{map-append, length-map}
use Rattle.std.proofs.lemmas.Bool.{and_parts, and_from, or_from, or_right, and_right, not_from_false, cond-true, cond-false, leb-true, ltb-true, le-leb, lt-ltb, le-ltb, eq-eqb, cases_Bool}
use Rattle.notation.specs.declared.terms.Term.{Term as WrittenTerm}
use Rattle.notation.specs.declared.terms.Term.TheVariants.{Constant, Variable}
use Rattle.notation.specs.declared.terms.Terms.{Terms}
use Rattle.notation.specs.declared.terms.Terms.TheVariants.{One, Two, Three, Four}
use Rattle.notation.specs.declared.terms.Atom.{Atom as WrittenAtom}
use Rattle.notation.specs.Fits.{term_fits, terms_fit, atom_fits}
use Rattle.notation.specs.Logic.{Term, con, var, Atom, at, In, here, there, rename, terms, terms_of, as_term, query_atom}
use Rattle.queries.specs.Checks.{all_terms, allowed, numbered as numbers, among, distinct, atoms_all_fit, fine, valid}
use Rattle.search.specs.Keeping.{Occurs}
use Rattle.rewriting.specs.declared.draft.Draft.{Draft}
use Rattle.queries.specs.declared.row.Row.{Row}
use Rattle.rewriting.specs.declared.steps.Owner.{Owner}
use Rattle.rewriting.specs.declared.steps.Owner.TheVariants as owner
use Rattle.rewriting.specs.Classes.{name_in, classes}
use Rattle.rewriting.specs.Computing.{all, same_atom, same_term}
use Rattle.rewriting.specs.Drafts.{draft_atoms}
use Rattle.rewriting.specs.Judging.{numbered, new_query, small}
use Rattle.rewriting.specs.Rightness.{Distinct}
use Rattle.rewriting.specs.Steps.{Ref, fixed, in_rule, in_copy, Part, Ties, Linked, member, off_numbers, vars, InOrder}
use Rattle.rewriting.specs.Tables.{Within, OwnerWithin}
use Rattle.rewriting.specs.Written.{ref_of, logic_atoms, all_valid, row_at, untaken_from, left_of}
use Rattle.rewriting.proofs.Alike.{once_distinct}
use Rattle.rewriting.proofs.Growing.{of_args, order_of, low}
use Rattle.rewriting.proofs.Lists.{by_test, none_in, in_left, in_cases, in_either, in_map, of_map, args, any_in, all_at, atom_eq, term_eq, term_refl, occurs_in, in_vars}
use Rattle.rewriting.proofs.Nth.{once_of, in_nth}
use Rattle.rewriting.proofs.Numbering.{new_query_is, new_in_order}
use Rattle.rewriting.proofs.OneMore.{among_is}
use Rattle.rewriting.proofs.Ranged.{fit_parts, atoms_within, row_fits}
use Rattle.rewriting.proofs.Results.{fixed_of}
use Rattle.rewriting.proofs.Search.{T_true}

-- ---------------------------------------------------------------- atoms in range

abbrev pub predicate_of : {X : Type 0} → Atom X → ℕ
predicate_of (at p ts) = p

-- the predicate is in range, and each term has a place
abbrev pub InRange : Atom Ref → Type 0
InRange a = (predicate_of a < 32) × ((x : Ref) → In x (args a) → Within x)

abbrev pub AllInRange : List (Atom Ref) → Type 0
AllInRange ls = (a : Atom Ref) → In a ls → InRange a

fit_in : {a : WrittenAtom WrittenTerm} (as' : List (WrittenAtom WrittenTerm)) → atoms_all_fit as' ≡ true → In a as' → atom_fits term_fits a ≡ true
fit_in [] h m = absurd (none_in m)
fit_in (b ∷ as') h m = let p = fit_parts b as' h in ⊎_elim (λ e. subst (λ v. atom_fits term_fits v ≡ true) (sym e) p.0) (λ n. fit_in as' p.1 n) (in_cases m)

one_in_range : (o : Owner) (a : WrittenAtom WrittenTerm) → atom_fits term_fits a ≡ true → OwnerWithin o → InRange (rename (ref_of o) (query_atom a))
one_in_range o a h w = (
  ltb-true a.predicate 32 (and_parts (ltb a.predicate 32) (terms_fit term_fits a.terms) h).0,
  λ x m. atoms_within o (a ∷ []) (and_from (atom_fits term_fits a) true h refl) w x (in_left [] m),
)

in_range : (o : Owner) (as' : List (WrittenAtom WrittenTerm)) → atoms_all_fit as' ≡ true → OwnerWithin o → AllInRange (map (rename (ref_of o)) (logic_atoms as'))
in_range o as' h w a m =
    let u = of_map (rename (ref_of o)) (logic_atoms as') m in
    let v = of_map query_atom as' u.1 in
    subst InRange (sym (u.2 ∙ ap (rename (ref_of o)) v.2)) (one_in_range o v.0 (fit_in as' h v.1) w)

off_in : {X : Type 0} (ns : List ℕ) (i : ℕ) {x : X} (xs : List X) → In x (off_numbers ns i xs) → In x xs
off_in ns i [] m = m
off_in ns i {x} (y ∷ xs) m =
    by_test (λ v. In x v → In x (y ∷ xs)) (member i ns) (off_numbers ns (suc i) xs) (y ∷ off_numbers ns (suc i) xs)
    (λ t n. there (off_in ns (suc i) xs n))
    (λ t n. ⊎_elim (λ e. here e) (λ k. there (off_in ns (suc i) xs k)) (in_cases n)) m

parts_in_range : (i : ℕ) (rows : List Row) (ps : List Part) → all_valid rows ≡ true → i + length ps ≤ 4 → AllInRange (untaken_from i rows ps)
parts_in_range i rows [] h few a m = absurd (none_in m)
parts_in_range i rows (p ∷ ps) h few a m = ⊎_elim
    (λ n.
    let u = of_map (rename (in_copy i)) (off_numbers p.taken 0 (logic_atoms (row_at rows p.query))) n in
    in_range (owner.Part i) (row_at rows p.query) (row_fits rows p.query h) (omega arith) a
    (subst (λ v. In v (map (rename (in_copy i)) (logic_atoms (row_at rows p.query)))) (sym u.2) (in_map (rename (in_copy i)) (off_in p.taken 0 (logic_atoms (row_at rows p.query)) u.1))))
    (λ n. parts_in_range (suc i) rows ps h (omega arith) a n)
    (in_either (map (rename (in_copy i)) (off_numbers p.taken 0 (logic_atoms (row_at rows p.query)))) m)

-- the atoms that a step leaves
pub left_in_range : (body : List (WrittenAtom WrittenTerm)) (rows : List Row) (ps : List Part) → atoms_all_fit body ≡ true → all_valid rows ≡ true → length ps ≤ 4 → AllInRange (left_of (logic_atoms body) rows ps)
left_in_range body rows ps fit ok few a m = ⊎_elim (λ n. in_range owner.Rule body fit tt a n) (λ n. parts_in_range 0 rows ps ok (omega arith) a n) (in_either (map (rename in_rule) (logic_atoms body)) m)

pub left_some : (body : List (WrittenAtom WrittenTerm)) (rows : List Row) (ps : List Part) → 1 ≤ length body → 1 ≤ length (left_of (logic_atoms body) rows ps)
left_some [] rows ps h = absurd (omega arith)
left_some (a ∷ body) rows ps h = omega arith

-- ---------------------------------------------------------------- variables by first appearance, and no repeats

terms_written : (as' : List (WrittenAtom WrittenTerm)) → terms (logic_atoms as') ≡ map as_term (all_terms as')
terms_written [] = refl
terms_written (a ∷ as') = ap (λ v. map as_term (terms_of a.terms) ++ v) (terms_written as') ∙ sym (map-append as_term (terms_of a.terms) (all_terms as'))

some_numbers : (n : ℕ) (ts : List WrittenTerm) → InOrder n (vars (map as_term ts)) → is_some (numbers 0 0 n ts) ≡ true
some_numbers n [] h = refl
some_numbers n (Constant k ∷ ts) h = some_numbers n ts h
some_numbers n (Variable v ∷ ts) (inl h) =
    ap is_some (cond-true (allowed 0 0 n v) _ _ (or_right (ltb v 0) (leb 0 v && ltb v n) (and_from (leb 0 v) (ltb v n) (le-leb 0 v (omega arith)) (lt-ltb v n h.0))))
    ∙ some_numbers n ts h.1
some_numbers n (Variable v ∷ ts) (inr h) =
    let e = h.0 in
    ap is_some
    (cond-false (allowed 0 0 n v) _ _ (or_from (ltb v 0) (leb 0 v && ltb v n) (le-ltb v 0 (omega arith)) (and_right (leb 0 v) (ltb v n) (le-ltb v n (omega arith))))
    ∙ cond-true (eqb v n) _ None (eq-eqb v n e))
    ∙ some_numbers (n + 1) ts (subst (λ k. InOrder k (vars (map as_term ts))) (sym (add-one n)) h.1)

distinct_written : (as' : List (WrittenAtom WrittenTerm)) → Distinct (logic_atoms as') → distinct as' ≡ true
distinct_written [] h = refl
distinct_written (a ∷ as') h =
    and_from (not (among a as')) (distinct as')
    (not_from_false (among a as') (⊎_elim (λ e. absurd (twice e)) (λ e. e) (cases_Bool (among a as'))))
    (distinct_written as' (λ i j b p q. less i j (h (suc i) (suc j) b p q)))
  where
    less : (i j : ℕ) → suc i ≡ suc j → i ≡ j
    less i j e = omega arith

    never : (i : ℕ) → ◌≡◌ {A = ℕ} 0 (suc i) → ⊥
    never i e = omega arith

    twice : among a as' ≡ true → ⊥
    twice e =
        let r = any_in (same_atom same_term (query_atom a)) (logic_atoms as') (subst T (sym (sym (among_is a as') ∙ e)) tt) in
        let n = in_nth r.1 in
        never n.0 (h 0 (suc n.0) (query_atom a) refl (n.1 ∙ ap (λ v. v ∷ []) (sym (atom_eq same_term term_eq term_refl (query_atom a) r.0 r.2))))

-- ---------------------------------------------------------------- the draft's atoms

terms_fit_from : (ts : Terms WrittenTerm) → ((u : WrittenTerm) → In u (terms_of ts) → term_fits u ≡ true) → terms_fit term_fits ts ≡ true
terms_fit_from (One a) h = h a (here refl)
terms_fit_from (Two a b) h = and_from _ _ (h a (here refl)) (h b (there (here refl)))
terms_fit_from (Three a b d) h = and_from _ _ (h a (here refl)) (and_from _ _ (h b (there (here refl))) (h d (there (there (here refl)))))
terms_fit_from (Four a b d e) h =
    and_from _ _ (h a (here refl)) (and_from _ _ (h b (there (here refl))) (and_from _ _ (h d (there (there (here refl)))) (h e (there (there (there (here refl)))))))

all_fit_from : (as' : List (WrittenAtom WrittenTerm)) → ((a : WrittenAtom WrittenTerm) → In a as' → atom_fits term_fits a ≡ true) → atoms_all_fit as' ≡ true
all_fit_from [] h = refl
all_fit_from (a ∷ as') h = and_from _ _ (h a (here refl)) (all_fit_from as' (λ b m. h b (there m)))

module _ (f : Ref → Ref) (ls : List (Atom Ref)) (as' : List (WrittenAtom WrittenTerm)) (ranged : AllInRange ls) (inside : (x : Ref) → Within x → Within (f x))
    (are : logic_atoms as' ≡ new_query f ls) (fits : small (new_query f ls) ≡ true) where
  -- an atom of the new query comes from one of the atoms
  from : (a : WrittenAtom WrittenTerm) → In a as' → (l : Atom Ref) × In l ls × (query_atom a ≡ rename (numbered (order_of f ls)) (rename f l))
  from a m =
      let g : Atom Ref → Atom Term = rename (numbered (order_of f ls)) in
      let u = of_map g (map (rename f) ls) (once_of [] (map g (map (rename f) ls)) (subst (In (query_atom a)) are (in_map query_atom m))) in
      let v = of_map (rename f) ls u.1 in
      (v.0, v.1, u.2 ∙ ap g v.2)

  predicate_same : (l : Atom Ref) → predicate_of (rename (numbered (order_of f ls)) (rename f l)) ≡ predicate_of l
  predicate_same (at p xs) = refl

  term_fit : (a : WrittenAtom WrittenTerm) → In a as' → (u : WrittenTerm) → In u (terms_of a.terms) → term_fits u ≡ true
  term_fit a m (Constant k) i =
      let l = from a m in
      let y = of_args (numbered (order_of f ls)) (rename f l.0) (subst (λ v. In (con k) (args v)) l.2 (in_map as_term i)) in
      let x = of_args f l.0 y.1 in
      lt-ltb k 1000 (subst Within (sym x.2 ∙ fixed_of (order_of f ls) y.0 k (sym y.2)) (inside x.0 ((ranged l.0 l.1).1 x.0 x.1)))
  term_fit a m (Variable k) i =
      let o : Occurs (var k) (new_query f ls) = subst (Occurs (var k)) are (occurs_in (query_atom a) (in_map query_atom m) (in_map as_term i)) in
      T_true (low k) (all_at low (subst T (sym (and_parts (leb (length (new_query f ls)) 16) (all low (vars (terms (new_query f ls)))) fits).1) tt) (in_vars (terms (new_query f ls)) o))

  fit_all : atoms_all_fit as' ≡ true
  fit_all = all_fit_from as' (λ a m.
      let l = from a m in
      and_from (ltb a.predicate 32) (terms_fit term_fits a.terms)
      (lt-ltb a.predicate 32 (subst (λ v. v < 32) (sym (ap predicate_of l.2 ∙ predicate_same l.0)) (ranged l.0 l.1).0))
      (terms_fit_from a.terms (term_fit a m)))

new_some : (f : Ref → Ref) (ls : List (Atom Ref)) → 1 ≤ length ls → 1 ≤ length (new_query f ls)
new_some f [] h = h
new_some f (a ∷ ls) h = omega arith

pub draft_valid : (d : Draft) (ts : Ties) (ls : List (Atom Ref)) → 1 ≤ length ls → ((k : ℕ) → name_in (classes ts) (fixed k) ≡ fixed k) →
    AllInRange ls → ((x : Ref) → Within x → Within (name_in (classes ts) x)) →
    logic_atoms (draft_atoms d) ≡ new_query (name_in (classes ts)) ls → small (new_query (name_in (classes ts)) ls) ≡ true → valid (draft_atoms d) ≡ true
draft_valid d ts ls some con_same ranged inside are fits =
    let f : Ref → Ref = name_in (classes ts) in
    let as' = draft_atoms d in
    let n = new_query f ls in
    let long : length as' ≡ length n = sym (length-map as' query_atom) ∙ ap length are in
    let least = new_some f ls some in
    let most = leb-true (length n) 16 (and_parts (leb (length n) 16) (all low (vars (terms n))) fits).0 in
    and_from (fine 16 as') (is_some (numbers 0 0 0 (all_terms as')))
    (and_from _ _
    (and_from _ _ (le-leb 1 (length as') (omega arith)) (le-leb (length as') 16 (omega arith)))
    (and_from _ _ (fit_all f ls as' ranged inside are fits) (distinct_written as' (subst Distinct (sym are) (once_distinct [] (map (rename (numbered (order_of f ls))) (map (rename f) ls)))))))
    (some_numbers 0 (all_terms as')
    (subst (λ v. InOrder 0 (vars v)) (ap terms (sym are) ∙ terms_written as') (new_in_order (Linked ts) ls n (new_query_is ts ls con_same))))
