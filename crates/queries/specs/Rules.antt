-- The body and the heads of a rule value.
use Rattle.std.specs.Prelude.{◌≡◌, ℕ, List, [], map, take, Ok, Err, Result}
use Rattle.notation.specs.declared.faults.LineFault.{LineFault}
use Rattle.notation.specs.declared.terms.Atom.{Atom}
use Rattle.notation.specs.declared.terms.Term.{Term}
use Rattle.notation.specs.Reading.{carry}
use Rattle.queries.specs.declared.rule.Rule.{Rule}
use Rattle.queries.specs.Heads.{head_atoms, body_atoms}
use Rattle.queries.specs.RuleChecks.{add_head}

-- the atoms of the heads, in order
abbrev pub heads_of : Rule → List (List (Atom Term))
heads_of r = map head_atoms (take r.count r.heads)

-- a body and its heads
abbrev pub rule_of : Rule → List (Atom Term) × List (List (Atom Term))
rule_of r = (body_atoms r.body, heads_of r)

abbrev pub rule_seen : {E : Type 0} → Result Rule E → Result (List (Atom Term) × List (List (Atom Term))) E
rule_seen (Ok r) = Ok (rule_of r)
rule_seen (Err e) = Err e

-- a body with its first head, or the first fault
abbrev pub first_head : List ℕ → List (Atom Term) → List (Atom Term) → Result (List (Atom Term) × List (List (Atom Term))) LineFault
first_head arity b as' = carry (λ e. e) (add_head arity b [] as') (λ hs. Ok (b, hs))

-- a rule after one head more, or unchanged with the first fault of the head
abbrev pub Added : List ℕ → List (Atom Term) → Rule → Rule → Result (Unit {0}) LineFault → Type 0
Added arity as' old new (Ok u) = (new.body ≡ old.body) × (add_head arity (body_atoms old.body) (heads_of old) as' ≡ Ok (heads_of new))
Added arity as' old new (Err e) = (new ≡ old) × (add_head arity (body_atoms old.body) (heads_of old) as' ≡ Err e)
