-- A binding has, for each variable, the value that it has been given so far, if any.
use Rattle.std.specs.Prelude.{◌≡◌, ℕ, List, Some, None, MatchOption, Option, slice_index_or}
use Rattle.std.specs.List.{AllZip}
use Rattle.notation.specs.declared.terms.Term.{Term as WrittenTerm}
use Rattle.notation.specs.declared.terms.Term.TheVariants as term
use Rattle.notation.specs.declared.terms.Value.{Value}
use Rattle.notation.specs.declared.terms.Value.TheVariants as value
use Rattle.notation.specs.declared.terms.Atom.{Atom as WrittenAtom}
use Rattle.notation.specs.Logic.{Term, Atom, rename, Facts, as_term, as_value, terms_of, query_atom, fact_atom}
use Rattle.search.specs.Holding.{put, Makes}

-- a giving of terms agrees with a binding where that has a value
abbrev pub Agrees : (ℕ → Term) → List (Option Value) → Type 0
Agrees h b = (v : ℕ) (x : Value) → slice_index_or b v None ≡ Some x → h v ≡ as_value x

-- the givings that agree with b' are those that agree with b and of which P holds
pub record Narrowed (b : List (Option Value)) (P : (ℕ → Term) → Type 0) (b' : List (Option Value)) : Type 0 where
  pub back : (h : ℕ → Term) → Agrees h b' → Agrees h b × P h
  pub forth : (h : ℕ → Term) → Agrees h b → P h → Agrees h b'

-- of no giving that agrees with b does P hold
abbrev pub Clash : List (Option Value) → ((ℕ → Term) → Type 0) → Type 0
Clash b P = (h : ℕ → Term) → Agrees h b → P h → ⊥

-- b was narrowed to b' by P, or, where there is no answer, rules P out
abbrev pub Met : Option (Unit {0}) → List (Option Value) → ((ℕ → Term) → Type 0) → List (Option Value) → Type 0
Met r b P b' = MatchOption r (Clash b P) (λ _. Narrowed b P b')

-- the giving makes the term the value
abbrev pub Meets : WrittenTerm → Value → (ℕ → Term) → Type 0
Meets t x h = put h (as_term t) ≡ as_value x

-- the giving makes each term its value
abbrev pub MeetsAll : List WrittenTerm → List Value → (ℕ → Term) → Type 0
MeetsAll ts xs h = AllZip (λ t x. Meets t x h) ts xs

-- the giving makes the atom the fact
abbrev pub Matches : WrittenAtom WrittenTerm → WrittenAtom Value → (ℕ → Term) → Type 0
Matches a f h = rename (put h) (query_atom a) ≡ fact_atom f

-- the term is the value, or a variable that has been given the value or none
abbrev pub Free : List (Option Value) → WrittenTerm → Value → Type 0
Free b (term.Constant k) x = x ≡ value.Constant k
Free b (term.Variable v) x = (y : Value) → slice_index_or b v None ≡ Some y → y ≡ x

-- the atom and the fact have one predicate, and each term is free to be its value
abbrev pub May : List (Option Value) → WrittenAtom WrittenTerm → WrittenAtom Value → Type 0
May b a f = (a.predicate ≡ f.predicate) × AllZip (Free b) (terms_of a.terms) (terms_of f.terms)

-- some giving that agrees with b makes each atom a fact of the list
abbrev pub HoldsFrom : List (Atom Term) → List (Option Value) → Facts → Type 0
HoldsFrom q b facts = (h : ℕ → Term) × (Agrees h b × Makes h q facts)
