-- A turn of each loop over a list of atoms: what is left gives the same answer.
use Rattle.std.proofs.Common.{◌≡◌, ℕ, ◌+◌, ◌-◌, ◌<◌, Bool, true, false, cond, not, ◌&&◌, eqb, List, [], ◌∷◌, ◌++◌, length, get_or, take, drop, Some, None, Option, option_and_then, sym, refl, ap, ◌∙◌}
use Rattle.std.specs.Option.{option_map}
use Rattle.std.proofs.lemmas.List.{at_drop_more, take_rest}
use Rattle.std.specs.List.{list_any}
use Rattle.notation.specs.declared.terms.Atom.{Atom}
use Rattle.notation.specs.declared.terms.Term.{Term}
use Rattle.notation.specs.declared.terms.Term.TheVariants.{Constant, Variable}
use Rattle.notation.specs.declared.terms.Terms.TheVariants.{One}
use Rattle.queries.specs.declared.checks.Scope.{Scope}
use Rattle.queries.specs.Checks.{atom_terms, all_terms, allowed, numbered, among, distinct}
use Rattle.queries.specs.Scopes.{scope_after}
use Rattle.queries.proofs.Same.{atom_test, contains_among}

-- ---------------------------------------------------------------- variables

push : (b e : Bool) (o p : Option ℕ) (f : ℕ → Option ℕ) → cond b (option_and_then f o) (cond e (option_and_then f p) None) ≡ option_and_then f (cond b o (cond e p None))
push true e o p f = refl
push false true o p f = refl
push false false o p f = refl

module _ (known start : ℕ) where
  abbrev from : ℕ → List Term → Option ℕ
  from n ts = numbered known start n ts

  numbered_append : (n : ℕ) (xs ys : List Term) → from n (xs ++ ys) ≡ option_and_then (λ m. from m ys) (from n xs)
  numbered_append n [] ys = refl
  numbered_append n (Constant k ∷ xs) ys = numbered_append n xs ys
  numbered_append n (Variable v ∷ xs) ys =
      ap (λ o. cond (allowed known start n v) o (cond (eqb v n) (from (n + 1) (xs ++ ys)) None)) (numbered_append n xs ys)
      ∙ ap (λ o. cond (allowed known start n v) (option_and_then (λ m. from m ys) (from n xs)) (cond (eqb v n) o None)) (numbered_append (n + 1) xs ys)
      ∙ push (allowed known start n v) (eqb v n) (from n xs) (from (n + 1) xs) (λ m. from m ys)

-- the scope after some terms and then others, where o is what was answered for the first ones
pub scope_more : (s : Scope) (xs ys : List Term) (o : Option Scope) → o ≡ scope_after s xs → option_and_then (λ m. scope_after m ys) o ≡ scope_after s (xs ++ ys)
scope_more s xs ys o e =
    let to = λ (n : ℕ). record s { next = n } in
    ap (option_and_then (λ m. scope_after m ys)) e
    ∙ by_cases (numbered s.known s.start s.next xs)
    ∙ ap (option_map to) (sym (numbered_append s.known s.start s.next xs ys))
  where
    by_cases : (p : Option ℕ) → option_and_then (λ m. scope_after m ys) (option_map (λ n. record s { next = n }) p) ≡ option_map (λ n. record s { next = n }) (option_and_then (λ m. numbered s.known s.start m ys) p)
    by_cases None = refl
    by_cases (Some n) = refl

-- the next variable of the scope after terms
pub next-scope_after : (s : Scope) (ts : List Term) → option_map (λ (m : Scope). m.next) (scope_after s ts) ≡ numbered s.known s.start s.next ts
next-scope_after s ts = by_cases (numbered s.known s.start s.next ts)
  where
    by_cases : (p : Option ℕ) → option_map (λ (m : Scope). m.next) (option_map (λ n. record s { next = n }) p) ≡ p
    by_cases None = refl
    by_cases (Some n) = refl

-- a turn of the loop over atoms
pub scope_turn : (s : Scope) (atoms : List (Atom Term)) (i : ℕ) (d : Atom Term) (o : Option Scope) → i < length atoms → o ≡ scope_after s (atom_terms (get_or atoms i d)) → option_and_then (λ m. scope_after m (all_terms (drop (i + 1) atoms))) o ≡ scope_after s (all_terms (drop i atoms))
scope_turn s atoms i d o h e =
    scope_more s (atom_terms (get_or atoms i d)) (all_terms (drop (i + 1) atoms)) o e
    ∙ sym (at_drop_more (λ as'. scope_after s (all_terms as')) atoms i d h)

-- ---------------------------------------------------------------- repeats

-- an atom more, of which `contains` answered r; d is what stands where there is no atom
pub distinct_more : (d : Atom Term) (atoms : List (Atom Term)) (i : ℕ) (r : Bool) → i < length atoms → r ≡ list_any (λ b. atom_test b (get_or atoms i d)) (take (length atoms - (i + 1)) (drop (i + 1) atoms)) → (not r && distinct (drop (i + 1) atoms)) ≡ distinct (drop i atoms)
distinct_more d atoms i r h e =
    ap (λ t. not t && distinct (drop (i + 1) atoms)) (e ∙ contains_among (get_or atoms i d) _ ∙ ap (among (get_or atoms i d)) (take_rest atoms (i + 1)))
    ∙ sym (at_drop_more distinct atoms i d h)

abbrev pub no_atom : Atom Term
no_atom = record { predicate = 0; terms = One (Constant 0) }
