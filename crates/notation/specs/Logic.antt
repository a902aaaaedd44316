-- Terms and atoms as logic has them, and how the written ones are read so.
use Rattle.std.specs.Prelude.{◌≡◌, ℕ, List, [], ◌∷◌, ◌++◌, map}
use Rattle.notation.specs.declared.terms.Term.{Term as WrittenTerm}
use Rattle.notation.specs.declared.terms.Term.TheVariants as term
use Rattle.notation.specs.declared.terms.Value.{Value}
use Rattle.notation.specs.declared.terms.Value.TheVariants as value
use Rattle.notation.specs.declared.terms.Terms.{Terms}
use Rattle.notation.specs.declared.terms.Terms.TheVariants.{One, Two, Three, Four}
use Rattle.notation.specs.declared.terms.Atom.{Atom as WrittenAtom}

-- a constant, or what a giving of terms replaces: a variable of a query or a rule, an unknown of a fact
pub data Term : Type 0 where
  con : ℕ → Term
  var : ℕ → Term

-- a predicate with its terms
pub data Atom (X : Type 0) : Type 0 where
  at : ℕ → List X → Atom X

-- x is at some place of the list
pub data In {X : Type 0} (x : X) : List X → Type 0 where
  here : {y : X} {ys : List X} → x ≡ y → In x (y ∷ ys)
  there : {y : X} {ys : List X} → In x ys → In x (y ∷ ys)

-- each term replaced by f
abbrev pub rename : {X Y : Type 0} → (X → Y) → Atom X → Atom Y
rename f (at p ts) = at p (map f ts)

-- the terms of atoms, in order
abbrev pub terms : {X : Type 0} → List (Atom X) → List X
terms [] = []
terms (at p ts ∷ more) = ts ++ terms more

-- ---------------------------------------------------------------- what is written

abbrev pub terms_of : {X : Type 0} → Terms X → List X
terms_of (One a) = a ∷ []
terms_of (Two a b) = a ∷ b ∷ []
terms_of (Three a b d) = a ∷ b ∷ d ∷ []
terms_of (Four a b d e) = a ∷ b ∷ d ∷ e ∷ []

abbrev pub as_term : WrittenTerm → Term
as_term (term.Constant k) = con k
as_term (term.Variable k) = var k

-- an unknown of a fact is a variable
abbrev pub as_value : Value → Term
as_value (value.Constant k) = con k
as_value (value.Unknown k) = var k

abbrev pub as_atom : {X Y : Type 0} → (X → Y) → WrittenAtom X → Atom Y
as_atom see a = at a.predicate (map see (terms_of a.terms))

abbrev pub query_atom : WrittenAtom WrittenTerm → Atom Term
query_atom a = as_atom as_term a

abbrev pub fact_atom : WrittenAtom Value → Atom Term
fact_atom f = as_atom as_value f

-- a list of facts
abbrev pub Facts : Type 0
Facts = List (Atom Term)
