-- A draft with one atom more.
use Rattle.std.proofs.Common.{◌≡◌, ℕ, ◌<◌, ◌≤◌, true, false, ◌&&◌, ◌||◌, eqb, List, [], ◌∷◌, ◌++◌, map, length, Some, None, Option, ◌↔◌, sym, refl, ap, ◌∙◌, subst, ap₂, ⊎_elim, append-nil, arith}
use Rattle.std.proofs.lemmas.List.{map-append, length-map, length-take, length_push}
use Rattle.std.specs.Option.{is_some, IsSome, OnSome}
use Rattle.std.proofs.lemmas.Bool.{and_from, cond-true, cond-false, cases_lt, false≢true}
use Rattle.notation.specs.declared.terms.Term.{Term as WrittenTerm}
use Rattle.notation.specs.declared.terms.Term.TheVariants.{Constant, Variable}
use Rattle.notation.specs.declared.terms.Atom.{Atom as WrittenAtom}
use Rattle.notation.specs.Fits.{term_fits, atom_fits}
use Rattle.notation.specs.Logic.{Term, var, Atom, at, In, here, rename, terms, terms_of, as_term, query_atom}
use Rattle.queries.proofs.Held.{length-held}
use Rattle.queries.specs.Checks.{among, same_terms, same_term as written_same_term}
use Rattle.rewriting.specs.declared.draft.Draft.{Draft}
use Rattle.rewriting.specs.declared.steps.Owner.{Owner}
use Rattle.rewriting.specs.Computing.{any, same_list, same_atom, same_term}
use Rattle.rewriting.specs.Drafts.{draft_atoms, draft_names, entry_of, entries_of, noted_all, shown_all, Drafted, Added}
use Rattle.rewriting.specs.Judging.{numbered, new_query, small}
use Rattle.rewriting.specs.Steps.{Query, Ref}
use Rattle.rewriting.specs.Tables.{place, Names, Within, OwnerWithin, AtomsWithin}
use Rattle.rewriting.specs.Written.{ref_of, logic_atoms}
use Rattle.rewriting.proofs.Lists.{by_test, none_in, in_left, in_right, in_either, in_map, any_in, map_same, map_twice, occurs_in, term_eq, term_refl, atom_eq}
use Rattle.rewriting.proofs.Apart.{of_terms}
use Rattle.rewriting.proofs.Ranged.{atoms_within}
use Rattle.rewriting.proofs.Drafting.{added, note_all, order_is, AllWithin, note_all_within, all_noted, all_shown, over_var}
use Rattle.rewriting.proofs.Growing.{terms_append, order_of, order_more, query_more, few_small, many_large, var_large}

-- ---------------------------------------------------------------- atoms as they are written

same_term_is : (t u : WrittenTerm) → written_same_term t u ≡ same_term (as_term t) (as_term u)
same_term_is (Constant k) (Constant m) = refl
same_term_is (Constant k) (Variable m) = refl
same_term_is (Variable k) (Constant m) = refl
same_term_is (Variable k) (Variable m) = refl

same_terms_is : (ts us : List WrittenTerm) → same_terms ts us ≡ same_list same_term (map as_term ts) (map as_term us)
same_terms_is [] [] = refl
same_terms_is [] (u ∷ us) = refl
same_terms_is (t ∷ ts) [] = refl
same_terms_is (t ∷ ts) (u ∷ us) = ap₂ ◌&&◌ (same_term_is t u) (same_terms_is ts us)

pub among_is : (b : WrittenAtom WrittenTerm) (as' : List (WrittenAtom WrittenTerm)) → among b as' ≡ any (same_atom same_term (query_atom b)) (logic_atoms as')
among_is b [] = refl
among_is b (a ∷ as') = ap₂ ◌||◌ (ap (λ v. eqb b.predicate a.predicate && v) (same_terms_is (terms_of b.terms) (terms_of a.terms))) (among_is b as')

added_has : (n : Query) (g : Atom Term) → In g (added (same_atom same_term) n g)
added_has n g =
    by_test (In g) (any (same_atom same_term g) n) n (n ++ g ∷ [])
    (λ t. let r = any_in (same_atom same_term g) n t in subst (λ v. In v n) (sym (atom_eq same_term term_eq term_refl g r.0 r.2)) r.1)
    (λ t. in_right n (here refl))

-- ---------------------------------------------------------------- what drafts have

few_names : (f : Ref → Ref) (ls : List (Atom Ref)) (d : Draft) → Drafted f ls d → length (order_of f ls) ≤ 32
few_names f ls d has =
    let e = ap length has.names_are ∙ length-map (order_of f ls) place in
    let l = length-take d.variables.count d.variables.entries in
    let h = d.variables.within in
    omega arith

pub drafted_small : (f : Ref → Ref) (ls : List (Atom Ref)) (d : Draft) → Drafted f ls d → small (new_query f ls) ≡ true
drafted_small f ls d has =
    let e = ap length (sym has.atoms_are) ∙ length-map (draft_atoms d) query_atom in
    let l = length-held d.atoms in
    few_small f ls (few_names f ls d has) (omega arith)

-- ---------------------------------------------------------------- one atom more

module _ (t : List ℕ) (f : Ref → Ref) (ls : List (Atom Ref)) (d : Draft) (known : Names t f) (has : Drafted f ls d)
    (o : Owner) (a : WrittenAtom WrittenTerm) (fit : atom_fits term_fits a ≡ true) (owned : OwnerWithin o) where
  abbrev new : Atom Ref
  new = rename (ref_of o) (query_atom a)

  abbrev refs : List Ref
  refs = map (ref_of o) (map as_term (terms_of a.terms))

  new_within : AtomsWithin (new ∷ [])
  new_within = atoms_within o (a ∷ []) (and_from (atom_fits term_fits a) true fit refl) owned

  names_within : AllWithin (map f refs)
  names_within x m = let r = of_terms f {y = x} (new ∷ []) (in_left [] m) in subst Within (sym r.2) (known.inside r.0 (new_within r.0 r.1))

  order_within : AllWithin (order_of f ls)
  order_within = subst AllWithin (sym (order_is (terms (map (rename f) ls)))) (note_all_within [] (terms (map (rename f) ls))
      (λ x m. let r = of_terms f ls m in subst Within (sym r.2) (known.inside r.0 (has.within r.0 r.1))) (λ x m. absurd (none_in m)))

  entries_are : entries_of t o a.terms ≡ map place (map f refs)
  entries_are =
      let us = terms_of a.terms in
      map_same (entry_of t o) (λ u. place (f (ref_of o (as_term u)))) us
      (λ u m. known.entry (ref_of o (as_term u)) (new_within (ref_of o (as_term u)) (in_left [] (in_map (ref_of o) (in_map as_term m)))))
      ∙ sym (ap (λ v. map place (map f v)) (map_twice (ref_of o) as_term us) ∙ ap (map place) (map_twice f (λ u. ref_of o (as_term u)) us) ∙ map_twice place (λ u. f (ref_of o (as_term u))) us)

  order_after : order_of f (ls ++ new ∷ []) ≡ note_all (order_of f ls) (map f refs)
  order_after = order_more f ls (new ∷ []) ∙ ap (note_all (order_of f ls)) (append-nil (map f refs))

  pub names_after : noted_all (draft_names d) (entries_of t o a.terms) ≡ map place (order_of f (ls ++ new ∷ []))
  names_after = ap₂ noted_all has.names_are entries_are ∙ all_noted (order_of f ls) (map f refs) names_within order_within ∙ ap (map place) (sym order_after)

  abbrev next : Atom Term
  next = rename (numbered (order_of f (ls ++ new ∷ []))) (rename f new)

  query_after : new_query f (ls ++ new ∷ []) ≡ added (same_atom same_term) (new_query f ls) next
  query_after = query_more f ls (new ∷ [])

  pub too_many_names : 32 < length (noted_all (draft_names d) (entries_of t o a.terms)) → small (new_query f (ls ++ new ∷ [])) ≡ false
  too_many_names h =
      let e = ap length (names_after ∙ ap (map place) order_after) ∙ length-map (note_all (order_of f ls) (map f refs)) place in
      let v = over_var (order_of f ls) (map f refs) (few_names f ls d has) (omega arith) in
      var_large (new_query f (ls ++ new ∷ []))
      (occurs_in next (subst (In next) (sym query_after) (added_has (new_query f ls) next)) (subst (λ os. In (var 32) (map (numbered os) (map f refs))) (sym order_after) v))

  -- b has the terms that stand for those of a
  module _ (b : WrittenAtom WrittenTerm) (e : Draft) (pred : b.predicate ≡ a.predicate) (shows : terms_of b.terms ≡ shown_all (draft_names d) (entries_of t o a.terms))
      (noted_are : draft_names e ≡ noted_all (draft_names d) (entries_of t o a.terms)) where
    atom_is : query_atom b ≡ next
    atom_is = ap₂ at pred
        (ap (map as_term) (shows ∙ ap₂ shown_all has.names_are entries_are) ∙ all_shown (order_of f ls) (map f refs) names_within order_within ∙ ap (λ os. map (numbered os) (map f refs)) (sym order_after))

    found_is : among b (draft_atoms d) ≡ any (same_atom same_term next) (new_query f ls)
    found_is = among_is b (draft_atoms d) ∙ ap₂ (λ g n. any (same_atom same_term g) n) atom_is has.atoms_are

    all_within : AtomsWithin (ls ++ new ∷ [])
    all_within x m = ⊎_elim (λ i. has.within x i) (λ i. new_within x i) (in_either (terms ls) (subst (In x) (terms_append ls (new ∷ [])) m))

    drafted : logic_atoms (draft_atoms e) ≡ new_query f (ls ++ new ∷ []) → Drafted f (ls ++ new ∷ []) e
    drafted is = record { within = all_within; atoms_are = is; names_are = noted_are ∙ names_after }

    pub had_already : among b (draft_atoms d) ≡ true → draft_atoms e ≡ draft_atoms d → Drafted f (ls ++ new ∷ []) e
    had_already found same = drafted (ap logic_atoms same ∙ has.atoms_are ∙ sym (query_after ∙ cond-true _ _ _ (sym found_is ∙ found)))

    fresh_query : among b (draft_atoms d) ≡ false → new_query f (ls ++ new ∷ []) ≡ logic_atoms (draft_atoms d) ++ query_atom b ∷ []
    fresh_query found = query_after ∙ cond-false _ _ _ (sym found_is ∙ found) ∙ ap₂ (λ n g. n ++ g ∷ []) (sym has.atoms_are) (sym atom_is)

    pub has_it_now : among b (draft_atoms d) ≡ false → draft_atoms e ≡ draft_atoms d ++ b ∷ [] → Drafted f (ls ++ new ∷ []) e
    has_it_now found more = drafted (ap logic_atoms more ∙ map-append query_atom (draft_atoms d) (b ∷ []) ∙ sym (fresh_query found))

    too_many_atoms : among b (draft_atoms d) ≡ false → 16 ≤ length (draft_atoms d) → small (new_query f (ls ++ new ∷ [])) ≡ false
    too_many_atoms found full =
        let l = ap length (fresh_query found) ∙ length_push (logic_atoms (draft_atoms d)) (query_atom b) in
        let k = length-map (draft_atoms d) query_atom in
        many_large (new_query f (ls ++ new ∷ [])) (omega arith)

  -- b was put after the atoms of e, or they are as many as may be
  pub pushed : (b : WrittenAtom WrittenTerm) (e g : Draft) → b.predicate ≡ a.predicate → terms_of b.terms ≡ shown_all (draft_names d) (entries_of t o a.terms) →
      draft_names e ≡ noted_all (draft_names d) (entries_of t o a.terms) → draft_atoms e ≡ draft_atoms d → among b (draft_atoms d) ≡ false → draft_names g ≡ draft_names e →
      (r : Option (Unit {0})) → IsSome r ↔ (length (draft_atoms e) < 16) → OnSome r (draft_atoms g ≡ draft_atoms e ++ b ∷ []) → Added (is_some r) f (ls ++ new ∷ []) g
  pushed b e g pred shows noted_e kept fresh same (Some u) room more = has_it_now b g pred shows (same ∙ noted_e) fresh (more ∙ ap (λ v. v ++ b ∷ []) kept)
  pushed b e g pred shows noted_e kept fresh same None room more =
      too_many_atoms b e pred shows noted_e fresh
      (⊎_elim (λ l. absurd (false≢true (room.1 (let k = ap length kept in omega arith)))) (λ l. l) (cases_lt (length (draft_atoms d)) 16))
