-- The new query is the published one.
use Rattle.std.proofs.Common.{◌≡◌, List, [], ◌∷◌, map, sym, refl, ap, subst, ⊎_elim}
use Rattle.notation.specs.Logic.{Atom, at, In, rename}
use Rattle.rewriting.specs.Rightness.{Distinct}
use Rattle.rewriting.specs.Steps.{Query, Ref, NewQuery, Linked}
use Rattle.rewriting.specs.Unifiers.{Result, NewQueryIsPublished}
use Rattle.rewriting.proofs.Lists.{none_in, in_map, of_map}
use Rattle.rewriting.proofs.Nth.{once_in, once_of}
use Rattle.rewriting.proofs.Numbering.{new_in_order}
use Rattle.rewriting.proofs.Alike.{results_alike, once_distinct}

pub new_is_result : (J : Ref → Ref → Type 0) (ls : List (Atom Ref)) (n : Query) → NewQuery J ls n → Result J ls n
new_is_result J ls n a = record {
  term = a.term;
  constant = a.constant;
  of_class = a.of_class;
  has = λ c m. subst (λ v. In (rename a.term c) v) (sym a.atoms) (⊎_elim (λ i. i) (λ i. absurd (none_in i)) (once_in [] (map (rename a.term) ls) (in_map (rename a.term) m)));
  only = λ c m. of_map (rename a.term) ls (once_of [] (map (rename a.term) ls) (subst (λ v. In c v) a.atoms m));
}

pub new_distinct : (J : Ref → Ref → Type 0) (ls : List (Atom Ref)) (n : Query) → NewQuery J ls n → Distinct n
new_distinct J ls n a = subst Distinct (sym a.atoms) (once_distinct [] (map (rename a.term) ls))

pub rename_id : (a : Atom Ref) → rename (λ x. x) a ≡ a
rename_id (at p ts) = ap (at p) (map-id ts)
  where
    map-id : (xs : List Ref) → map (λ x. x) xs ≡ xs
    map-id [] = refl
    map-id (x ∷ xs) = ap (λ ys. x ∷ ys) (map-id xs)

pub new_query_is_published : NewQueryIsPublished
new_query_is_published ts ls n new =
    let itself : (a : Atom Ref) → In a ls → In (rename (λ x. x) a) ls = λ a m. subst (λ v. In v ls) (sym (rename_id a)) m in
    record {
      result = new_is_result (Linked ts) ls n new;
      alike = λ m r. results_alike (Linked ts) (Linked ts) ls ls m n r (new_is_result (Linked ts) ls n new) (λ x. x) (λ x. x) itself itself
          (λ x o. refl) (λ x o. refl) (λ x y o u. (λ j. j, λ j. j)) (λ x k o. (λ j. j, λ j. j));
      distinct = new_distinct (Linked ts) ls n new;
      in_order = new_in_order (Linked ts) ls n new;
    }
