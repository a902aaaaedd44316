-- The classes by computing: each term's class has a name.
use Rattle.std.specs.Prelude.{◌≡◌, ℕ, Bool, false, if◌then◌else◌, ◌&&◌, ◌↔◌, List, [], ◌∷◌, ◌==◌}
use Rattle.rewriting.specs.Steps.{Ref, fixed, own, copy, Ties, Linked, Together}

abbrev pub same_ref : Ref → Ref → Bool
same_ref (fixed k) (fixed m) = k == m
same_ref (fixed k) (own m) = false
same_ref (fixed k) (copy j m) = false
same_ref (own k) (fixed m) = false
same_ref (own k) (own m) = k == m
same_ref (own k) (copy j m) = false
same_ref (copy i k) (fixed m) = false
same_ref (copy i k) (own m) = false
same_ref (copy i k) (copy j m) = i == j && k == m

-- the name of a term's class, by a list of renamings of which the first is the newest
abbrev pub name_in : List (Ref × Ref) → Ref → Ref
name_in [] x = x
name_in (e ∷ tb) x = let y = name_in tb x in if same_ref y e.0 then e.1 else y

-- which of two names gives way, and to which: a constant stays
abbrev pub joined : Ref → Ref → Ref × Ref
joined (fixed k) y = (y, fixed k)
joined (own k) y = (own k, y)
joined (copy i k) y = (copy i k, y)

-- the renamings that ties make
abbrev pub classes : Ties → List (Ref × Ref)
classes [] = []
classes (t ∷ ts) = let tb = classes ts in joined (name_in tb t.0) (name_in tb t.1) ∷ tb

-- the name of a term's class, by the ties
abbrev pub class_name : Ties → Ref → Ref
class_name ts = name_in (classes ts)

-- two terms have one name exactly when they are in one class, which is the finest grouping
abbrev pub NamesAreClasses : Type 0
NamesAreClasses = (ts : Ties) (x y : Ref) →
    ((name_in (classes ts) x ≡ name_in (classes ts) y) ↔ Linked ts x y) × (Together ts x y ↔ Linked ts x y)

-- no class has two constants exactly when each constant is its class's name
abbrev pub ConstantsApart : Type 0
ConstantsApart = (ts : Ties) →
    ((k m : ℕ) → Linked ts (fixed k) (fixed m) → k ≡ m) ↔ ((k : ℕ) → name_in (classes ts) (fixed k) ≡ fixed k)
