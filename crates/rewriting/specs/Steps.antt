-- Steps: what a part says, which terms are in one class, when a step is right, and its new query.
use Rattle.std.specs.Prelude.{◌≡◌, ℕ, zero, suc, ◌<◌, Bool, true, false, if◌then◌else◌, ◌⊎◌, ◌↔◌, List, [], ◌∷◌, ◌++◌, map, nat_eq}
use Rattle.notation.specs.Logic.{Term, con, var, Atom, at, In, rename, terms}
use Rattle.search.specs.Keeping.{Occurs}
use Rattle.rewriting.specs.Computing.{same_term, same_atom, any, each}

-- a query, by its atoms
abbrev pub Query : Type 0
Query = List (Atom Term)

-- a term of a step: constants and the rule's variables are common to all parts, and each part has the variables of its
-- own copy of its query
pub data Ref : Type 0 where
  fixed : ℕ → Ref
  own : ℕ → Ref
  copy : ℕ → ℕ → Ref

-- a term of the rule
abbrev pub in_rule : Term → Ref
in_rule (con k) = fixed k
in_rule (var n) = own n

-- a term of the copy that part i has
abbrev pub in_copy : ℕ → Term → Ref
in_copy i (con k) = fixed k
in_copy i (var n) = copy i n

-- an end of a tie, as a part writes it: a constant, a variable of the rule, a variable of the copy
pub data End : Type 0 where
  c : ℕ → End
  r : ℕ → End
  q : ℕ → End

abbrev pub end : ℕ → End → Ref
end i (c k) = fixed k
end i (r k) = own k
end i (q k) = copy i k

-- a query's number, the numbers of the atoms taken from it, those of the head atoms that they meet, and ties
pub record Part : Type 0 where
  pub query : ℕ
  pub taken : List ℕ
  pub named : List ℕ
  pub ties : List (End × End)

-- a rule's number, and one part for each head
pub record Step : Type 0 where
  pub rule : ℕ
  pub parts : List Part

-- ---------------------------------------------------------------- classes

abbrev pub Ties : Type 0
Ties = List (Ref × Ref)

-- in one class: the finest grouping in which both ends of every tie are together
pub data Linked (ts : Ties) : Ref → Ref → Type 0 where
  tied : {x y : Ref} → In (x, y) ts → Linked ts x y
  itself : {x : Ref} → Linked ts x x
  back : {x y : Ref} → Linked ts x y → Linked ts y x
  via : {x y z : Ref} → Linked ts x y → Linked ts y z → Linked ts x z

-- a grouping, by the name of each term's group, has both ends of every tie together
abbrev pub Joins : (Ref → Ref) → Ties → Type 0
Joins f ts = (t : Ref × Ref) → In t ts → f t.0 ≡ f t.1

-- together in each such grouping
abbrev pub Together : Ties → Ref → Ref → Type 0
Together ts x y = (f : Ref → Ref) → Joins f ts → f x ≡ f y

-- ---------------------------------------------------------------- what a part comes to

-- one head and the copy of a query that is used for it, whatever the ties
pub record Unified : Type 0 where
  -- the head's number
  pub head : ℕ
  -- the atoms taken from the copy, and its other atoms
  pub taken : List (Atom Ref)
  pub rest : List (Atom Ref)
  -- the head atoms that the taken ones are to meet
  pub named : List (Atom Ref)
  -- the head's variables that are not in the body
  pub unnamed : List ℕ

-- the same with its ties
pub record Piece : Type 0 where
  pub head : ℕ
  pub taken : List (Atom Ref)
  pub rest : List (Atom Ref)
  pub named : List (Atom Ref)
  pub unnamed : List ℕ
  pub ties : Ties

abbrev pub bare : Piece → Unified
bare p = record { head = p.head; taken = p.taken; rest = p.rest; named = p.named; unnamed = p.unnamed }

-- what is at place n, as a list of one, or none
abbrev pub nth : {X : Type 0} → ℕ → List X → List X
nth n [] = []
nth zero (x ∷ xs) = x ∷ []
nth (suc n) (x ∷ xs) = nth n xs

abbrev pub member : ℕ → List ℕ → Bool
member n ns = any (nat_eq n) ns

-- the atoms at the numbers, counted from i, and the others
abbrev pub at_numbers : {X : Type 0} → List ℕ → ℕ → List X → List X
at_numbers ns i [] = []
at_numbers ns i (x ∷ xs) = let more = at_numbers ns (suc i) xs in if member i ns then x ∷ more else more

abbrev pub off_numbers : {X : Type 0} → List ℕ → ℕ → List X → List X
off_numbers ns i [] = []
off_numbers ns i (x ∷ xs) = let more = off_numbers ns (suc i) xs in if member i ns then more else x ∷ more

abbrev pub vars : List Term → List ℕ
vars [] = []
vars (con k ∷ ts) = vars ts
vars (var n ∷ ts) = n ∷ vars ts

abbrev pub drop_all : List ℕ → List ℕ → List ℕ
drop_all ns [] = []
drop_all ns (m ∷ ms) = let more = drop_all ns ms in if member m ns then more else m ∷ more

-- the head's variables that are not in the body
abbrev pub unnamed_of : List (Atom Term) → List (Atom Term) → List ℕ
unnamed_of b d = drop_all (vars (terms b)) (vars (terms d))

-- part i of a step, for the body b, the head d and the query qu
abbrev pub piece : ℕ → List (Atom Term) → List (Atom Term) → Query → Part → Piece
piece i b d qu p = record {
  head = i;
  taken = map (rename (in_copy i)) (at_numbers p.taken 0 qu);
  rest = map (rename (in_copy i)) (off_numbers p.taken 0 qu);
  named = map (rename in_rule) (at_numbers p.named 0 d);
  unnamed = unnamed_of b d;
  ties = map (λ t. (end i t.0, end i t.1)) p.ties;
}

-- the ties of all parts: classes are joined over all of them
abbrev pub all_ties : List Piece → Ties
all_ties [] = []
all_ties (p ∷ ps) = p.ties ++ all_ties ps

-- ---------------------------------------------------------------- when a step is right; J tells which terms are in one class

abbrev pub is_copy : Ref → Bool
is_copy (fixed k) = false
is_copy (own k) = false
is_copy (copy i k) = true

-- term by term in one class
abbrev pub Pairwise : (Ref → Ref → Type 0) → List Ref → List Ref → Type 0
Pairwise J [] [] = Unit {0}
Pairwise J [] (y ∷ ys) = ⊥
Pairwise J (x ∷ xs) [] = ⊥
Pairwise J (x ∷ xs) (y ∷ ys) = J x y × Pairwise J xs ys

-- the atoms become the same once every term is replaced by its class
abbrev pub Become : (Ref → Ref → Type 0) → Atom Ref → Atom Ref → Type 0
Become J (at p ts) (at o us) = (p ≡ o) × Pairwise J ts us

-- a variable of the copy that occurs in taken atoms and in no other
abbrev pub OnlyTaken : Unified → Ref → Type 0
OnlyTaken u x = (is_copy x ≡ true) × Occurs x u.taken × (Occurs x u.rest → ⊥)

pub record RightPart (J : Ref → Ref → Type 0) (u : Unified) : Type 0 where
  -- the taken and the named atoms become the same set
  pub taken_met : (a : Atom Ref) → In a u.taken → (b : Atom Ref) × In b u.named × Become J a b
  pub named_met : (b : Atom Ref) → In b u.named → (a : Atom Ref) × In a u.taken × Become J a b
  -- besides an unnamed variable its class holds only variables that occur in taken atoms and in no other
  pub unnamed_alone : (z : ℕ) → In z u.unnamed → (x : Ref) → J (own z) x → (x ≡ own z) ⊎ OnlyTaken u x

pub record Right (J : Ref → Ref → Type 0) (us : List Unified) : Type 0 where
  -- no class holds two different constants
  pub constants : (k m : ℕ) → J (fixed k) (fixed m) → k ≡ m
  pub each_part : (u : Unified) → In u us → RightPart J u

-- ---------------------------------------------------------------- the new query

-- the body and then, head by head, the atoms that are not taken
abbrev pub left : List (Atom Term) → List Unified → List (Atom Ref)
left b us = map (rename in_rule) b ++ each us (λ u. u.rest)

-- numbered by first appearance without a gap, `next` being the first number that has not appeared
abbrev pub InOrder : ℕ → List ℕ → Type 0
InOrder next [] = Unit {0}
InOrder next (k ∷ ks) = ((k < next) × InOrder next ks) ⊎ ((k ≡ next) × InOrder (suc next) ks)

-- each element that has not been seen, once
abbrev pub once : {X : Type 0} → (X → X → Bool) → List X → List X → List X
once f seen [] = []
once f seen (x ∷ xs) = elim (any (f x) seen) [ true ↦ once f seen xs | false ↦ x ∷ once f (x ∷ seen) xs ]

-- n is the new query of the atoms that are left
pub record NewQuery (J : Ref → Ref → Type 0) (ls : List (Atom Ref)) (n : Query) : Type 0 where
  pub term : Ref → Term
  -- a term for each class: its constant if it has one, otherwise a variable
  pub of_class : (x y : Ref) → Occurs x ls → Occurs y ls → (term x ≡ term y) ↔ J x y
  pub constant : (x : Ref) (k : ℕ) → Occurs x ls → (term x ≡ con k) ↔ J x (fixed k)
  pub in_order : InOrder 0 (vars (map term (terms ls)))
  -- an atom that has occurred is dropped
  pub atoms : n ≡ once (same_atom same_term) [] (map (rename term) ls)

-- there is exactly one
abbrev pub NewQueryIsOne : Type 0
NewQueryIsOne = (ts : Ties) (ls : List (Atom Ref)) (n m : Query) → NewQuery (Linked ts) ls n → NewQuery (Linked ts) ls m → n ≡ m
