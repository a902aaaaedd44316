-- A table of classes: at the place of each term of a step, the place of its class's name.
use Rattle.std.specs.Prelude.{◌≡◌, ℕ, suc, ◌+◌, ◌*◌, ◌<◌, ◌↔◌, List, [], ◌∷◌, ◌++◌, map, length, slice_index}
use Rattle.std.specs.Coded.{×_prop, Unit-prop, le_prop}
use Rattle.notation.specs.Logic.{Atom, In}
use Rattle.search.specs.Keeping.{Occurs}
use Rattle.rewriting.specs.declared.steps.Owner.{Owner}
use Rattle.rewriting.specs.declared.steps.Owner.TheVariants as owner
use Rattle.rewriting.specs.Steps.{Ref, fixed, own, copy, end, Ties, Linked, Part}

-- 1,000 constants, 32 variables of the rule, 32 of each of four copies
abbrev pub place : Ref → ℕ
place (fixed k) = k
place (own k) = 1000 + k
place (copy i k) = 1032 + 32 * i + k

-- the term has a place
abbrev pub Within : Ref → Type 0
Within (fixed k) = k < 1000
Within (own k) = k < 32
Within (copy i k) = (i < 4) × (k < 32)

-- in one way only
pub Within-prop : (x : Ref) → IsProp (Within x)
Within-prop (fixed k) = le_prop
Within-prop (own k) = le_prop
Within-prop (copy i k) = ×_prop le_prop le_prop

-- there is such an owner: a step has at most four parts
abbrev pub OwnerWithin : Owner → Type 0
OwnerWithin owner.Rule = Unit {0}
OwnerWithin (owner.Part i) = i < 4

-- in one way only
pub OwnerWithin-prop : (o : Owner) → IsProp (OwnerWithin o)
OwnerWithin-prop owner.Rule = Unit-prop
OwnerWithin-prop (owner.Part i) = le_prop

-- f names the classes that the table has
pub record Names (t : List ℕ) (f : Ref → Ref) : Type 0 where
  pub long : length t ≡ 1160
  pub entry : (x : Ref) → Within x → slice_index t (place x) ≡ place (f x)
  pub inside : (x : Ref) → Within x → Within (f x)

-- two terms have one entry exactly when the ties have them in one class
abbrev pub Groups : List ℕ → Ties → Type 0
Groups t ts = (x y : Ref) → Within x → Within y → (slice_index t (place x) ≡ slice_index t (place y)) ↔ Linked ts x y

-- the ties of part i
abbrev pub part_ties : ℕ → Part → Ties
part_ties i p = map (λ t. (end i t.0, end i t.1)) p.ties

-- the ties of the parts, of which the first has the number i
abbrev pub ties_from : ℕ → List Part → Ties
ties_from i [] = []
ties_from i (p ∷ ps) = part_ties i p ++ ties_from (suc i) ps

-- both ends of each tie have a place
abbrev pub TiesWithin : Ties → Type 0
TiesWithin ts = (t : Ref × Ref) → In t ts → Within t.0 × Within t.1

-- each term of the atoms has a place
abbrev pub AtomsWithin : List (Atom Ref) → Type 0
AtomsWithin xs = (x : Ref) → Occurs x xs → Within x
