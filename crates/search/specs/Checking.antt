-- What the check of a rule decides on its way.
use Rattle.std.specs.Prelude.{ℕ, Bool, true, ◌&&◌, ◌⊎◌, List, [], ◌∷◌, map, Option}
use Rattle.notation.specs.declared.terms.Term.{Term as WrittenTerm}
use Rattle.notation.specs.declared.terms.Value.{Value}
use Rattle.notation.specs.declared.terms.Atom.{Atom as WrittenAtom}
use Rattle.notation.specs.Logic.{Term, Atom, Facts, query_atom}
use Rattle.queries.specs.declared.head.Head.{Head}
use Rattle.queries.specs.Heads.{head_atoms}
use Rattle.search.specs.Bindings.{Agrees, HoldsFrom}
use Rattle.search.specs.Fitting.{variables_fit}
use Rattle.search.specs.Holding.{Makes}
use Rattle.search.specs.Keeping.{Rule, Agree}

-- P holds of some element
abbrev pub Any : {X : Type 0} → (X → Type 0) → List X → Type 0
Any P [] = ⊥
Any P (x ∷ xs) = P x ⊎ Any P xs

-- each variable of the heads is one of the 32
abbrev pub heads_fit : List (List (WrittenAtom WrittenTerm)) → Bool
heads_fit [] = true
heads_fit (d ∷ ds) = variables_fit d && heads_fit ds

-- the atoms of a head, as logic has them
abbrev pub read_head : Head → List (Atom Term)
read_head d = map query_atom (head_atoms d)

-- the rule with this body and these heads
abbrev pub rule_of : List (WrittenAtom WrittenTerm) → List Head → Rule
rule_of body heads = record { body = map query_atom body; heads = map read_head heads }

-- some head holds with what b has given
abbrev pub SomeFrom : List Head → List (Option Value) → Facts → Type 0
SomeFrom heads b facts = Any (λ d. HoldsFrom (read_head d) b facts) heads

-- the head becomes facts under a giving that agrees with b, and with h on the variables of the body
abbrev pub Reaches : List (Atom Term) → List (Option Value) → Facts → (ℕ → Term) → Head → Type 0
Reaches body b facts h d = (g : ℕ → Term) × Agree body h g × Agrees g b × Makes g (read_head d) facts

-- some of the heads does
abbrev pub Reached : List (Atom Term) → List Head → List (Option Value) → Facts → (ℕ → Term) → Type 0
Reached body heads b facts h = Any (Reaches body b facts h) heads

-- each giving that agrees with b and makes the body facts can be extended so that some head becomes facts
abbrev pub KeepsFrom : List (Atom Term) → List Head → List (Option Value) → Facts → Type 0
KeepsFrom body heads b facts = (h : ℕ → Term) → Agrees h b → Makes h body facts → Reached body heads b facts h
