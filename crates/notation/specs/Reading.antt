-- How terms and atoms are read.
use Rattle.std.specs.Prelude.{ℕ, ◌+◌, ◌-◌, cond, List, [], ◌∷◌, Some, None, Ok, Err, Option, Result, ◌==◌, nat_lt}
use Rattle.std.specs.Borrow.{Bor}
use Rattle.notation.specs.declared.faults.TermFault.{TermFault}
use Rattle.notation.specs.declared.faults.TermFault.TheVariants.{NoTerm, BadNumber}
use Rattle.notation.specs.declared.faults.AtomFault.{AtomFault}
use Rattle.notation.specs.declared.faults.AtomFault.TheVariants.{InTerm, Broken}
use Rattle.notation.specs.declared.terms.End.{End}
use Rattle.notation.specs.declared.terms.End.TheVariants as end
use Rattle.notation.specs.declared.terms.Term.{Term}
use Rattle.notation.specs.declared.terms.Term.TheVariants as term
use Rattle.notation.specs.declared.terms.Value.{Value}
use Rattle.notation.specs.declared.terms.Value.TheVariants as value
use Rattle.notation.specs.declared.terms.Terms.{Terms}
use Rattle.notation.specs.declared.terms.Terms.TheVariants.{One, Two, Three, Four}
use Rattle.notation.specs.declared.terms.Atom.{Atom}
use Rattle.notation.specs.declared.words.After.{After}
use Rattle.notation.specs.declared.words.After.TheVariants.{Comma, Bracket}
use Rattle.notation.specs.Numbers.{read_number}

-- results with the text that their reference points to
abbrev pub seen : {X E : Type 0} → Result (X × Bor (List ℕ)) E → Result (X × List ℕ) E
seen (Ok p) = Ok (p.0, p.1.now)
seen (Err e) = Err e

abbrev pub text_seen : {E : Type 0} → Result (Bor (List ℕ)) E → Result (List ℕ) E
text_seen (Ok s) = Ok s.now
text_seen (Err e) = Err e

abbrev pub item_seen : {X Y E : Type 0} → Result (X × Y × Bor (List ℕ)) E → Result (X × Y × List ℕ) E
item_seen (Ok p) = Ok (p.0, p.1, p.2.now)
item_seen (Err e) = Err e

-- what follows an answer; a fault goes up inside a fault of the next level
abbrev pub carry : {X Y E F : Type 0} → (E → F) → Result X E → (X → Result Y F) → Result Y F
carry up (Ok x) k = k x
carry up (Err e) k = Err (up e)

-- ---------------------------------------------------------------- terms

-- a letter and a number up to `most`, as a code from `base` on; 4001 where the number is wrong
abbrev pub coded : ℕ → Option (ℕ × List ℕ) → List ℕ → ℕ × List ℕ
coded base (Some p) s = (base + p.0, p.1)
coded base None s = (4001, s)

-- the code of the term at the front, and the text after it: constants from 0, unknowns from 1000, variables from 2000,
-- variables of a rule from 2032 and of a copy from 2064; 4000 where no term begins
abbrev pub read_term : List ℕ → ℕ × List ℕ
read_term [] = (4000, [])
read_term (b ∷ s) =
    cond (b == 99) (coded 0 (read_number 999 s) s)
    (cond (b == 110) (coded 1000 (read_number 999 s) s)
    (cond (b == 118) (coded 2000 (read_number 31 s) s)
    (cond (b == 114) (coded 2032 (read_number 31 s) s)
    (cond (b == 113) (coded 2064 (read_number 31 s) s) (4000, b ∷ s)))))

-- the fault of a code that is no term of the kind that belongs here
abbrev pub code_fault : ℕ → TermFault
code_fault code = cond (code == 4001) BadNumber NoTerm

-- the term of a query or a rule that a code stands for
abbrev pub term_of : ℕ → Result Term TermFault
term_of code =
    cond (nat_lt code 1000) (Ok (term.Constant code))
    (cond (nat_lt code 2000) (Err NoTerm)
    (cond (nat_lt code 2032) (Ok (term.Variable (code - 2000))) (Err (code_fault code))))

-- the term of a fact that a code stands for
abbrev pub value_of : ℕ → Result Value TermFault
value_of code =
    cond (nat_lt code 1000) (Ok (value.Constant code))
    (cond (nat_lt code 2000) (Ok (value.Unknown (code - 1000))) (Err (code_fault code)))

-- the end of a tie that a code stands for
abbrev pub end_of : ℕ → Result End TermFault
end_of code =
    cond (nat_lt code 1000) (Ok (end.Constant code))
    (cond (nat_lt code 2032) (Err NoTerm)
    (cond (nat_lt code 2064) (Ok (end.Rule (code - 2032)))
    (cond (nat_lt code 2096) (Ok (end.Copy (code - 2064))) (Err (code_fault code)))))

-- the term at the front, by what its code stands for, and the text after it
abbrev pub read_word : {X : Type 0} → (ℕ → Result X TermFault) → List ℕ → Result (X × List ℕ) TermFault
read_word of s = carry (λ e. e) (of (read_term s).0) (λ t. Ok (t, (read_term s).1))

-- ---------------------------------------------------------------- atoms

-- what follows a term inside the brackets: a comma, or the closing bracket
abbrev pub read_after : List ℕ → Result (After × List ℕ) AtomFault
read_after [] = Err Broken
read_after (b ∷ s) = cond (b == 44) (Ok (Comma, s)) (cond (b == 41) (Ok (Bracket, s)) (Err Broken))

-- a term inside the brackets, what follows it, and the text after both
abbrev pub read_item : {X : Type 0} → (ℕ → Result X TermFault) → List ℕ → Result (X × After × List ℕ) AtomFault
read_item of s = carry InTerm (read_word of s) (λ t. carry (λ e. e) (read_after t.1) (λ n. Ok (t.0, n.0, n.1)))

abbrev pub by_after : {X : Type 0} → X → (List ℕ → Result (X × List ℕ) AtomFault) → After → List ℕ → Result (X × List ℕ) AtomFault
by_after done more Comma s = more s
by_after done more Bracket s = Ok (done, s)

-- a term; a bracket ends the terms, and a comma goes on
abbrev pub then_item : {X Y : Type 0} → (ℕ → Result X TermFault) → (X → Y) → (X → List ℕ → Result (Y × List ℕ) AtomFault) → List ℕ → Result (Y × List ℕ) AtomFault
then_item of done more s = carry (λ e. e) (read_item of s) (λ t. by_after (done t.0) (more t.0) t.1 t.2)

-- one to four terms with commas between them, and the bracket after them
abbrev pub read_terms : {X : Type 0} → (ℕ → Result X TermFault) → List ℕ → Result (Terms X × List ℕ) AtomFault
read_terms of = then_item of One (λ a. then_item of (Two a) (λ b. then_item of (Three a b) (λ d. then_item of (Four a b d) (λ e s. Err Broken))))

-- the text after the byte b, which has to stand first
abbrev pub read_byte : ℕ → List ℕ → Result (List ℕ) AtomFault
read_byte b [] = Err Broken
read_byte b (x ∷ s) = cond (x == b) (Ok s) (Err Broken)

-- the number of a predicate, and the text after it
abbrev pub read_predicate : Option (ℕ × List ℕ) → Result (ℕ × List ℕ) AtomFault
read_predicate (Some p) = Ok p
read_predicate None = Err Broken

-- the atom at the front, and the text after it
abbrev pub read_atom : {X : Type 0} → (ℕ → Result X TermFault) → List ℕ → Result (Atom X × List ℕ) AtomFault
read_atom of s =
    carry (λ e. e) (read_byte 112 s) (λ s. carry (λ e. e) (read_predicate (read_number 31 s)) (λ p.
    carry (λ e. e) (read_byte 40 p.1) (λ s. carry (λ e. e) (read_terms of s) (λ t.
    Ok (record { predicate = p.0; terms = t.0 }, t.1)))))
