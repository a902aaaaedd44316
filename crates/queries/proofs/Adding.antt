-- One head more.
use Rattle.std.proofs.Common.{◌≡◌, ℕ, ◌+◌, ◌<◌, ◌≤◌, ◌≢◌, Bool, true, false, cond, leb, List, [], ◌∷◌, ◌++◌, map, length, take, set, Some, None, Ok, Err, Option, Result, option_and_then, unwrap_or, sym, refl, ap, ◌∙◌, arith}
use lib.ListN.{length-map}
use Rattle.std.proofs.lemmas.List.{take_more_set, map_push, length-take-le}
use Rattle.std.proofs.lemmas.Bool.{and_from, and_parts, leb-true, leb-false, le-leb, lt-leb, cond-true, cond-false}
use Rattle.notation.specs.declared.faults.AtomFault.TheVariants.{InTerm, Broken, Repeated}
use Rattle.notation.specs.declared.faults.TermFault.TheVariants.{Misnumbered}
use Rattle.notation.specs.declared.faults.LineFault.{LineFault}
use Rattle.notation.specs.declared.faults.LineFault.TheVariants.{InAtom, TooMany}
use Rattle.notation.specs.declared.terms.Atom.{Atom}
use Rattle.notation.specs.declared.terms.Term.{Term}
use Rattle.notation.specs.Reading.{carry}
use Rattle.queries.specs.declared.head.Head.{Head}
use Rattle.queries.specs.declared.checks.Scope.{Scope}
use Rattle.queries.specs.declared.rule.Rule.{Rule}
use Rattle.queries.specs.Checks.{all_terms, each, ranged, listed, numbered, distinct, fine, if_so, if_some, check_atoms}
use Rattle.queries.specs.Heads.{head_atoms, body_atoms}
use Rattle.queries.specs.RuleChecks.{heads_fine, heads_numbered, body_next, rule_next, add_head}
use Rattle.queries.specs.Rules.{heads_of}
use Rattle.queries.proofs.Valid.{some_from_next, few_from_fine, at_scope}

pub heads_more : (heads : List Head) (n : ℕ) (h : Head) (as' : List (Atom Term)) → n < length heads → head_atoms h ≡ as' → map head_atoms (take (n + 1) (set heads n h)) ≡ map head_atoms (take n heads) ++ as' ∷ []
heads_more heads n h as' l e = ap (map head_atoms) (take_more_set heads n h l) ∙ map_push head_atoms (take n heads) h ∙ ap (λ x. map head_atoms (take n heads) ++ x ∷ []) e

pub fine_push : (hs : List (List (Atom Term))) (as' : List (Atom Term)) → heads_fine hs ≡ true → fine 4 as' ≡ true → heads_fine (hs ++ as' ∷ []) ≡ true
fine_push [] as' h k = and_from _ _ k refl
fine_push (x ∷ hs) as' h k = let p = and_parts _ _ h in and_from _ _ p.0 (fine_push hs as' p.1 k)

numbered_append : (known n : ℕ) (hs : List (List (Atom Term))) (as' : List (Atom Term)) → heads_numbered known n (hs ++ as' ∷ []) ≡ option_and_then (λ m. numbered known m m (all_terms as')) (heads_numbered known n hs)
numbered_append known n [] as' = last (numbered known n n (all_terms as'))
  where
    last : (o : Option ℕ) → option_and_then (λ m. Some m) o ≡ o
    last None = refl
    last (Some m) = refl
numbered_append known n (h ∷ hs) as' = by_first (λ m. numbered_append known m hs as') (numbered known n n (all_terms h))
  where
    by_first : ((m : ℕ) → heads_numbered known m (hs ++ as' ∷ []) ≡ option_and_then (λ k. numbered known k k (all_terms as')) (heads_numbered known m hs)) → (o : Option ℕ) → option_and_then (λ m. heads_numbered known m (hs ++ as' ∷ [])) o ≡ option_and_then (λ m. numbered known m m (all_terms as')) (option_and_then (λ m. heads_numbered known m hs) o)
    by_first more None = refl
    by_first more (Some m) = more m

pub numbered_push : (known n m k : ℕ) (hs : List (List (Atom Term))) (as' : List (Atom Term)) → heads_numbered known n hs ≡ Some m → numbered known m m (all_terms as') ≡ Some k → heads_numbered known n (hs ++ as' ∷ []) ≡ Some k
numbered_push known n m k hs as' h e = numbered_append known n hs as' ∙ ap (option_and_then (λ m. numbered known m m (all_terms as'))) h ∙ e

-- where no atom may come, the variables make no difference
pub none_fit : (known start n : ℕ) (arity : List ℕ) (as' : List (Atom Term)) → check_atoms 0 known start n arity as' ≡ check_atoms 0 0 0 0 arity as'
none_fit known start n arity [] = refl
none_fit known start n arity (a ∷ as') =
    let none : leb (length (a ∷ as')) 0 ≡ false = lt-leb (length (a ∷ as')) 0 (omega arith) in
    ap (λ b. if_few b known start n) none ∙ sym (ap (λ b. if_few b 0 0 0) none)
  where
    if_few : Bool → ℕ → ℕ → ℕ → Result ℕ LineFault
    if_few b k s m =
        carry (λ e. e) (if_so (leb 1 (length (a ∷ as'))) (InAtom Broken)) (λ _.
        carry InAtom (each ranged (a ∷ as')) (λ _.
        carry (λ e. e) (if_so b TooMany) (λ _.
        carry InAtom (each (listed arity) (a ∷ as')) (λ _.
        carry (λ e. e) (if_some (numbered k s m (all_terms (a ∷ as'))) (InAtom (InTerm Misnumbered))) (λ m.
        carry (λ e. e) (if_so (distinct (a ∷ as')) (InAtom Repeated)) (λ _.
        Ok m))))))

module _ (r : Rule) (arity : List ℕ) (as' : List (Atom Term)) (four : length r.heads ≡ 4) where
  abbrev then_heads : Result ℕ LineFault → Result (List (List (Atom Term))) LineFault
  then_heads o = carry (λ e. e) o (λ _. Ok (heads_of r ++ as' ∷ []))

  -- a further head is checked as the rule's numbers say
  pub add_is : (most : ℕ) (o : Result ℕ LineFault) → cond (leb 4 r.count) 0 4 ≡ most → check_atoms most r.body.next r.next r.next arity as' ≡ o → add_head arity (body_atoms r.body) (heads_of r) as' ≡ then_heads o
  add_is most o few e =
      let known : body_next (body_atoms r.body) ≡ r.body.next = ap (λ o. unwrap_or o 0) (some_from_next _ _ r.body.counted) in
      let next : rule_next (body_atoms r.body) (heads_of r) ≡ r.next = ap (λ k. unwrap_or (heads_numbered k k (heads_of r)) 0) known ∙ ap (λ o. unwrap_or o 0) (some_from_next _ _ r.counted) in
      let count : length (heads_of r) ≡ r.count = length-map (take r.count r.heads) head_atoms ∙ length-take-le r.count r.heads (omega (arith, r.within)) in
      let n0 = rule_next (body_atoms r.body) (heads_of r) in
      let k0 = body_next (body_atoms r.body) in
      ap (λ n. then_heads (check_atoms (cond (leb 4 n) 0 4) k0 n0 n0 arity as')) count
      ∙ ap (λ m. then_heads (check_atoms m k0 n0 n0 arity as')) few
      ∙ ap (λ k. then_heads (check_atoms most k n0 n0 arity as')) known
      ∙ ap (λ n. then_heads (check_atoms most r.body.next n n arity as')) next
      ∙ ap then_heads e

  -- there is no place for a fifth head
  pub full_is : (e : LineFault) → r.count ≡ 4 → check_atoms 0 0 0 0 arity as' ≡ Err e → add_head arity (body_atoms r.body) (heads_of r) as' ≡ Err e
  full_is e full h = add_is 0 (Err e) (cond-true _ 0 4 (le-leb 4 r.count (omega (arith, full)))) (none_fit r.body.next r.next r.next arity as' ∙ h)

  -- and there is one for the others
  pub more_is : (s : Scope) (o : Result ℕ LineFault) → r.count ≢ 4 → s ≡ record { known = r.body.next; start = r.next; next = r.next } → check_atoms 4 s.known s.start s.next arity as' ≡ o → add_head arity (body_atoms r.body) (heads_of r) as' ≡ then_heads o
  more_is s o some is e = add_is 4 o (cond-false _ 0 4 (lt-leb 4 r.count (omega (arith, some, r.within)))) (at_scope 4 arity as' is e)

-- where the atoms after n of at most `most` items are fine there is room for them
pub room : (most atoms n : ℕ) (as' : List (Atom Term)) → fine (cond (leb most n) 0 atoms) as' ≡ true → n < most
room most atoms n as' h = by_test (leb most n) refl h
  where
    by_test : (t : Bool) → leb most n ≡ t → fine (cond t 0 atoms) as' ≡ true → n < most
    by_test true e k = let some = leb-true 1 (length as') (and_parts _ _ (and_parts _ _ k).0).0 in let few = few_from_fine 0 as' k in absurd (omega arith)
    by_test false e k = omega (arith, leb-false most n e)

four_atoms : (n : ℕ) → n < 4 → ◌≡◌ {A = ℕ} (cond (leb 4 n) 0 4) 4
four_atoms n h = cond-false _ 0 4 (lt-leb 4 n h)

pub few_fine : (n : ℕ) (as' : List (Atom Term)) → fine (cond (leb 4 n) 0 4) as' ≡ true → fine 4 as' ≡ true
few_fine n as' h = ap (λ m. fine m as') (sym (four_atoms n (room 4 4 n as' h))) ∙ h

pub few_head : (n : ℕ) (as' : List (Atom Term)) → fine (cond (leb 4 n) 0 4) as' ≡ true → length as' ≤ 4
few_head n as' h = few_from_fine 4 as' (few_fine n as' h)
