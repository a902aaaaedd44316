-- Disjunctive piece-unifiers, as they are published, and how they are steps.
-- A partition is given by a name for each term's class; P has one for each head, by the head's number.
use Rattle.std.specs.Prelude.{◌≡◌, ℕ, true, ◌⊎◌, ◌↔◌, List, [], ◌∷◌, ◌++◌, map, ◌≢◌}
use Rattle.notation.specs.Logic.{Term, con, var, Atom, In, rename, terms}
use Rattle.search.specs.Keeping.{Rule, Occurs}
use Rattle.rewriting.specs.Judging.{Ledger, judge, enters}
use Rattle.rewriting.specs.Rightness.{Reads, Fits, Distinct}
use Rattle.rewriting.specs.Steps.{Query, Ref, fixed, own, is_copy, Unified, OnlyTaken, Piece, bare, Ties, all_ties, Linked, Right, NewQuery, Part, Step, nth, left, InOrder, vars}

-- terms(Q') ∪ terms(H')
abbrev pub part_terms : Unified → List Ref
part_terms u = terms u.taken ++ terms u.named

-- a piece-unifier: (taken, named, P) is one of the copy with the rule for this head
pub record PieceUnifier (P : Ref → Ref) (u : Unified) : Type 0 where
  pub not_empty : u.taken ≡ [] → ⊥
  -- no class has two constants
  pub admissible : (k m : ℕ) → In (fixed k) (part_terms u) → In (fixed m) (part_terms u) → P (fixed k) ≡ P (fixed m) → k ≡ m
  -- the taken and the named atoms become the same set
  pub taken_met : (a : Atom Ref) → In a u.taken → (b : Atom Ref) × In b u.named × (rename P a ≡ rename P b)
  pub named_met : (b : Atom Ref) → In b u.named → (a : Atom Ref) × In a u.taken × (rename P b ≡ rename P a)
  -- the other terms of an existential variable's class are variables of the taken atoms that are not separating
  pub existential : (z : ℕ) → In z u.unnamed → In (own z) (part_terms u) → (x : Ref) → In x (part_terms u) → P x ≡ P (own z) → (x ≡ own z) ⊎ OnlyTaken u x

-- the join of the partitions: their union, classes that meet being merged
pub data Joined (us : List Unified) (P : ℕ → Ref → Ref) : Ref → Ref → Type 0 where
  within : {x y : Ref} (u : Unified) → In u us → In x (part_terms u) → In y (part_terms u) → P u.head x ≡ P u.head y → Joined us P x y
  itself : {x : Ref} → Joined us P x x
  back : {x y : Ref} → Joined us P x y → Joined us P y x
  via : {x y z : Ref} → Joined us P x y → Joined us P y z → Joined us P x z

-- a disjunctive piece-unifier: one piece-unifier for each head, with an admissible join
pub record DisjunctivePieceUnifier (us : List Unified) (P : ℕ → Ref → Ref) : Type 0 where
  pub each_head : (u : Unified) → In u us → PieceUnifier (P u.head) u
  pub join_admissible : (k m : ℕ) → Joined us P (fixed k) (fixed m) → k ≡ m

-- its β, up to the names of variables: a term for each class, its constant if it has one and otherwise a variable of its own
pub record Result (J : Ref → Ref → Type 0) (ls : List (Atom Ref)) (n : Query) : Type 0 where
  pub term : Ref → Term
  pub constant : (x : Ref) (k : ℕ) → Occurs x ls → (term x ≡ con k) ↔ J x (fixed k)
  pub of_class : (x y : Ref) → Occurs x ls → Occurs y ls → (term x ≡ term y) ↔ J x y
  pub has : (a : Atom Ref) → In a ls → In (rename term a) n
  pub only : (b : Atom Term) → In b n → (a : Atom Ref) × In a ls × (b ≡ rename term a)

-- ---------------------------------------------------------------- up to the names of variables

abbrev pub relabel : (ℕ → ℕ) → Term → Term
relabel g (con k) = con k
relabel g (var n) = var (g n)

-- `to` renames x into y, and `back` y into x
pub record Renames (to back : ℕ → ℕ) (x y : Query) : Type 0 where
  pub to_back : (n : ℕ) → Occurs (var n) x → back (to n) ≡ n
  pub back_to : (n : ℕ) → Occurs (var n) y → to (back n) ≡ n
  pub has : (a : Atom Term) → In a x → In (rename (relabel to) a) y
  pub only : (a : Atom Term) → In a y → In (rename (relabel back) a) x

-- the same query up to the names of variables and the order of atoms
abbrev pub Alike : Query → Query → Type 0
Alike x y = (to : ℕ → ℕ) × (back : ℕ → ℕ) × Renames to back x y

-- the new query is the published one up to the names of variables and the order of atoms, whatever the choice of terms
-- for the classes; it has no atom twice, and its variables are numbered by first appearance without a gap
pub record IsPublished (J : Ref → Ref → Type 0) (ls : List (Atom Ref)) (n : Query) : Type 0 where
  pub result : Result J ls n
  pub alike : (m : Query) → Result J ls m → Alike m n
  pub distinct : Distinct n
  pub in_order : InOrder 0 (vars (terms n))

abbrev pub NewQueryIsPublished : Type 0
NewQueryIsPublished = (ts : Ties) (ls : List (Atom Ref)) (n : Query) → NewQuery (Linked ts) ls n → IsPublished (Linked ts) ls n

-- ---------------------------------------------------------------- and steps

-- a copy of its own for each part, unnamed variables in one head only
pub record Apart (us : List Unified) : Type 0 where
  pub some_taken : (u : Unified) → In u us → u.taken ≢ []
  pub own_copy : (u v : Unified) → In u us → In v us → (x : Ref) → is_copy x ≡ true → In x (part_terms u) → In x (part_terms v) → u ≡ v
  pub one_head : (u v : Unified) → In u us → In v us → (z : ℕ) → In z u.unnamed → In (own z) (part_terms v) → u ≡ v

-- each tie joins two terms of a part
abbrev pub TiedWithin : List Unified → Ties → Type 0
TiedWithin us ts = (t : Ref × Ref) → In t ts → (u : Unified) × In u us × In t.0 (part_terms u) × In t.1 (part_terms u)

-- f names the classes of J
abbrev pub Naming : (Ref → Ref) → (Ref → Ref → Type 0) → Type 0
Naming f J = (x y : Ref) → (f x ≡ f y) ↔ J x y

-- a step is right exactly when its classes, cut down to each part's terms, are such a family with an admissible join
abbrev pub RightIsUnifier : Type 0
RightIsUnifier = (us : List Unified) (ts : Ties) → Apart us → TiedWithin us ts → (f : Ref → Ref) → Naming f (Linked ts) →
    Right (Linked ts) us ↔ DisjunctivePieceUnifier us (λ i. f)

-- ties that make the join of a family the classes make a right step of it
abbrev pub UnifierIsRight : Type 0
UnifierIsRight = (us : List Unified) (ts : Ties) → Apart us → (P : ℕ → Ref → Ref) → DisjunctivePieceUnifier us P →
    ((x y : Ref) → Linked ts x y ↔ Joined us P x y) → Right (Linked ts) us

-- a rule's unnamed variable occurs in one head only
abbrev pub OneHead : Rule → Type 0
OneHead u = (i j : ℕ) (d e : List (Atom Term)) → nth i u.heads ≡ d ∷ [] → nth j u.heads ≡ e ∷ [] →
    (z : ℕ) → Occurs (var z) d → (Occurs (var z) u.body → ⊥) → Occurs (var z) e → i ≡ j

abbrev pub ReadIsApart : Type 0
ReadIsApart = (s : Ledger) (u : Rule) (ps : List Part) (ms : List Piece) → OneHead u → Reads s u.body 0 u.heads ps ms →
    Apart (map bare ms) × TiedWithin (map bare ms) (all_ties ms)

-- the parts name standing queries, a disjunctive piece-unifier of their copies with the rule has the classes for its join, and n is the new query
pub record UnifierStep (s : Ledger) (t : Step) (n : Query) : Type 0 where
  pub rule : Rule
  pub is_rule : nth t.rule s.rules ≡ rule ∷ []
  pub pieces : List Piece
  pub reads : Reads s rule.body 0 rule.heads t.parts pieces
  pub partition : ℕ → Ref → Ref
  pub unifier : DisjunctivePieceUnifier (map bare pieces) partition
  pub classes : (x y : Ref) → Linked (all_ties pieces) x y ↔ Joined (map bare pieces) partition x y
  pub new : NewQuery (Linked (all_ties pieces)) (left rule.body (map bare pieces)) n

-- a query is entered exactly when the step is a disjunctive piece-unifier step on standing queries and fits
abbrev pub EntersIsUnifier : Type 0
EntersIsUnifier = (s : Ledger) (t : Step) (n : Query) → ((u : Rule) → In u s.rules → OneHead u) →
    (judge s t ≡ enters n) ↔ (UnifierStep s t n × Fits s n)
