-- Equality tests, and holding and keeping by computing.
use Rattle.std.specs.Prelude.{◌≡◌, ℕ, Bool, true, false, if◌then◌else◌, ◌&&◌, ◌||◌, ◌↔◌, List, [], ◌∷◌, ◌++◌, ◌==◌}
use Rattle.notation.specs.Logic.{Term, con, var, Atom, at, Facts}
use Rattle.search.specs.Holding.{Holds}
use Rattle.search.specs.Keeping.{Rule, Keeps}

abbrev pub same_term : Term → Term → Bool
same_term (con k) (con m) = k == m
same_term (con k) (var m) = false
same_term (var k) (con m) = false
same_term (var k) (var m) = k == m

abbrev pub same_list : {X : Type 0} → (X → X → Bool) → List X → List X → Bool
same_list f [] [] = true
same_list f [] (y ∷ ys) = false
same_list f (x ∷ xs) [] = false
same_list f (x ∷ xs) (y ∷ ys) = f x y && same_list f xs ys

abbrev pub same_atom : {X : Type 0} → (X → X → Bool) → Atom X → Atom X → Bool
same_atom f (at p ts) (at q us) = p == q && same_list f ts us

abbrev pub any : {X : Type 0} → (X → Bool) → List X → Bool
any f [] = false
any f (x ∷ xs) = f x || any f xs

abbrev pub all : {X : Type 0} → (X → Bool) → List X → Bool
all f [] = true
all f (x ∷ xs) = f x && all f xs

abbrev pub each : {X Y : Type 0} → List X → (X → List Y) → List Y
each [] f = []
each (x ∷ xs) f = f x ++ each xs f

abbrev pub some? : {X : Type 0} → List X → Bool
some? [] = false
some? (x ∷ xs) = true

-- what has been given so far, the newest first
abbrev pub Given : Type 0
Given = List (ℕ × Term)

-- the term given to n, or none
abbrev pub given : ℕ → Given → List Term
given n [] = []
given n (e ∷ s) = if n == e.0 then e.1 ∷ [] else given n s

abbrev pub only : {X : Type 0} → Bool → X → List X
only true x = x ∷ []
only false x = []

-- give t to n: not when n was given another
abbrev pub give : List Term → ℕ → Term → Given → List Given
give [] n t s = ((n, t) ∷ s) ∷ []
give (u ∷ us) n t s = only (same_term u t) s

abbrev pub fit_term : Term → Term → Given → List Given
fit_term (con k) t s = only (same_term (con k) t) s
fit_term (var n) t s = give (given n s) n t s

abbrev pub fit_terms : List Term → List Term → Given → List Given
fit_terms [] [] s = s ∷ []
fit_terms [] (u ∷ us) s = []
fit_terms (t ∷ ts) [] s = []
fit_terms (t ∷ ts) (u ∷ us) s = each (fit_term t u s) (fit_terms ts us)

abbrev pub fit : Atom Term → Atom Term → Given → List Given
fit (at p ts) (at q us) s = elim (p == q) [ true ↦ fit_terms ts us s | false ↦ [] ]

-- every way to make the atoms facts, on from what was given; by fact places, the first way first
abbrev pub ways : List (Atom Term) → Facts → Given → List Given
ways [] l s = s ∷ []
ways (a ∷ q) l s = each l (λ f. each (fit a f s) (ways q l))

abbrev pub holds : List (Atom Term) → Facts → Bool
holds q l = some? (ways q l [])

abbrev pub keeps : Rule → Facts → Bool
keeps r l = all (λ s. any (λ d. some? (ways d l s)) r.heads) (ways r.body l [])

-- the search finds exactly what there is
abbrev pub SearchIsRight : Type 0
SearchIsRight = (q : List (Atom Term)) (l : Facts) → (holds q l ≡ true) ↔ Holds q l

abbrev pub RuleCheckIsRight : Type 0
RuleCheckIsRight = (r : Rule) (l : Facts) → (keeps r l ≡ true) ↔ Keeps r l
