-- Which bodies and heads make a rule, and what is wrong with the others.
use Rattle.std.specs.Prelude.{ℕ, Bool, true, cond, ◌&&◌, List, [], ◌∷◌, ◌++◌, length, Some, Ok, Option, Result, nat_le, option_and_then, unwrap_or}
use Rattle.notation.specs.declared.faults.LineFault.{LineFault}
use Rattle.notation.specs.declared.terms.Atom.{Atom}
use Rattle.notation.specs.declared.terms.Term.{Term}
use Rattle.notation.specs.Reading.{carry}
use Rattle.queries.specs.Checks.{all_terms, numbered, fine, check_atoms}

-- each head has one to four different atoms, each in range
abbrev pub heads_fine : List (List (Atom Term)) → Bool
heads_fine [] = true
heads_fine (h ∷ hs) = fine 4 h && heads_fine hs

-- the next variable after the heads, with n the next before: a head has variables of the body, of which there are
-- `known`, and its own, which no earlier head has
abbrev pub heads_numbered : ℕ → ℕ → List (List (Atom Term)) → Option ℕ
heads_numbered known n [] = Some n
heads_numbered known n (h ∷ hs) = option_and_then (λ m. heads_numbered known m hs) (numbered known n n (all_terms h))

-- a body of one to eight different atoms, with variables numbered from v0; or the first fault
abbrev pub make_body : List ℕ → List (Atom Term) → Result (List (Atom Term)) LineFault
make_body arity as' = carry (λ e. e) (check_atoms 8 0 0 0 arity as') (λ _. Ok as')

-- how many variables a body has
abbrev pub body_next : List (Atom Term) → ℕ
body_next b = unwrap_or (numbered 0 0 0 (all_terms b)) 0

-- the next variable after a body and heads
abbrev pub rule_next : List (Atom Term) → List (List (Atom Term)) → ℕ
rule_next b hs = unwrap_or (heads_numbered (body_next b) (body_next b) hs) 0

-- the heads with one more, of at most four; or the first fault
abbrev pub add_head : List ℕ → List (Atom Term) → List (List (Atom Term)) → List (Atom Term) → Result (List (List (Atom Term))) LineFault
add_head arity b hs as' = carry (λ e. e) (check_atoms (cond (nat_le 4 (length hs)) 0 4) (body_next b) (rule_next b hs) (rule_next b hs) arity as') (λ _. Ok (hs ++ as' ∷ []))
