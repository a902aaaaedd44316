-- What is printed is read back.
use Rattle.std.proofs.Common.{◌≡◌, ℕ, ◌+◌, ◌*◌, ◌/◌, ◌%◌, ◌<◌, ◌≤◌, Bool, true, false, List, [], ◌∷◌, ◌++◌, Some, Ok, Err, decimal, Result, sym, refl, ap, ◌∙◌, append_assoc, arith}
use Rattle.std.proofs.lemmas.Fmt.{decimal_by_steps}
use Rattle.std.proofs.lemmas.Bool.{le-leb, cond-true, cond-false, ltb-true, and_parts}
use Rattle.std.proofs.lemmas.Bool.Decides.{nat_tests}
use Rattle.notation.specs.declared.faults.TermFault.{TermFault}
use Rattle.notation.specs.declared.faults.AtomFault.{AtomFault}
use Rattle.notation.specs.declared.faults.AtomFault.TheVariants.{InTerm}
use Rattle.notation.specs.declared.terms.Term.{Term}
use Rattle.notation.specs.declared.terms.Term.TheVariants as term
use Rattle.notation.specs.declared.terms.Value.{Value}
use Rattle.notation.specs.declared.terms.Value.TheVariants as value
use Rattle.notation.specs.declared.terms.Terms.{Terms}
use Rattle.notation.specs.declared.terms.Terms.TheVariants.{One, Two, Three, Four}
use Rattle.notation.specs.declared.terms.Atom.{Atom}
use Rattle.notation.specs.declared.words.After.{After}
use Rattle.notation.specs.Fits.{term_fits, value_fits, terms_fit, atom_fits}
use Rattle.notation.specs.Numbers.{digit, starts_digit, starts_number, scan, up_to, read_number}
use Rattle.notation.specs.Printing.{print_term, print_value, print_terms, print_atom}
use Rattle.notation.specs.Reading.{carry, coded, term_of, value_of, read_word, read_after, by_after, then_item, read_terms, read_byte, read_predicate, read_atom}
use Rattle.notation.specs.Laws.{TermsReadBack, AtomsReadBack, AtomsPrintApart}

-- ds, read from 0, gives n, whatever follows, and begins a number
pub record Spelt (n : ℕ) (ds : List ℕ) : Type 0 where
  pub reads : n ≤ 1000 → (t : List ℕ) → scan 0 (ds ++ t) ≡ scan n t
  pub leads : 0 < n → (t : List ℕ) → starts_number (ds ++ t) ≡ true
  pub ends : (t : List ℕ) → starts_digit t ≡ false → starts_number (ds ++ t) ≡ true

is_digit : (b : ℕ) → 48 ≤ b → b ≤ 57 → digit b ≡ true
is_digit b l h = cond-true _ _ _ (le-leb 48 b l) ∙ le-leb b 57 h

scan_on : (n d : ℕ) (t : List ℕ) → d ≤ 9 → n * 10 + d ≤ 1000 → scan n ((48 + d) ∷ t) ≡ scan (n * 10 + d) t
scan_on n d t h l = cond-true _ _ _ (is_digit (48 + d) (omega arith) (omega arith)) ∙ ap (λ k. scan k t) (omega arith)

one : (n : ℕ) → n < 10 → Spelt n ((48 + n) ∷ [])
one n h = record {
  reads = λ l t. scan_on 0 n t (omega arith) (omega arith) ∙ ap (λ k. scan k t) (omega arith);
  leads = λ p t. grind (arith, nat_tests);
  ends = λ t e. grind (arith, nat_tests);
}

more : (n : ℕ) (ds : List ℕ) → 10 ≤ n → Spelt (n / 10) ds → Spelt n (ds ++ ((48 + n % 10) ∷ []))
more n ds h s = record {
  reads = λ l t. rw append_assoc (s.reads (omega arith) _ ∙ scan_on (n / 10) (n % 10) t (omega arith) (omega arith) ∙ ap (λ k. scan k t) (omega arith));
  leads = λ p t. rw append_assoc (s.leads (omega arith) _);
  ends = λ t e. rw append_assoc (s.leads (omega arith) _);
}

stops : (n : ℕ) (s : List ℕ) → starts_digit s ≡ false → scan n s ≡ (n, s)
stops n [] e = refl
stops n (b ∷ s) e = cond-false _ _ _ e

pub number_back : (most n : ℕ) (rest : List ℕ) → starts_digit rest ≡ false → n ≤ most → most < 1000 → read_number most (decimal n ++ rest) ≡ Some (n, rest)
number_back most n rest e h l =
    let s = decimal_by_steps Spelt one more n (omega arith) in
    cond-true _ _ _ (s.ends rest e)
    ∙ ap (up_to most) (s.reads (omega arith) rest ∙ stops n rest e)
    ∙ cond-true _ _ _ (le-leb n most h)

-- ---------------------------------------------------------------- terms

pub term_back : (t : Term) (rest : List ℕ) → term_fits t ≡ true → starts_digit rest ≡ false → read_word term_of (print_term t ++ rest) ≡ Ok (t, rest)
term_back (term.Constant k) rest h e =
    let small = ltb-true k 1000 h in
    let code : coded 0 (read_number 999 (decimal k ++ rest)) (decimal k ++ rest) ≡ (k, rest) = ap (λ o. coded 0 o (decimal k ++ rest)) (number_back 999 k rest e (omega arith) (omega arith)) ∙ ap (λ n. (n, rest)) (omega arith) in
    ap (λ p. carry (λ e. e) (term_of p.0) (λ t. Ok (t, p.1))) code
    ∙ ap (λ r. carry (λ e. e) r (λ t. Ok (t, rest))) (cond-true _ _ _ h)
term_back (term.Variable k) rest h e =
    let small = ltb-true k 32 h in
    let code : coded 2000 (read_number 31 (decimal k ++ rest)) (decimal k ++ rest) ≡ (2000 + k, rest) = ap (λ o. coded 2000 o (decimal k ++ rest)) (number_back 31 k rest e (omega arith) (omega arith)) in
    let is : term_of (2000 + k) ≡ Ok (term.Variable k) = grind (arith, nat_tests) in
    ap (λ p. carry (λ e. e) (term_of p.0) (λ t. Ok (t, p.1))) code
    ∙ ap (λ r. carry (λ e. e) r (λ t. Ok (t, rest))) is

pub value_back : (t : Value) (rest : List ℕ) → value_fits t ≡ true → starts_digit rest ≡ false → read_word value_of (print_value t ++ rest) ≡ Ok (t, rest)
value_back (value.Constant k) rest h e =
    let small = ltb-true k 1000 h in
    let code : coded 0 (read_number 999 (decimal k ++ rest)) (decimal k ++ rest) ≡ (k, rest) = ap (λ o. coded 0 o (decimal k ++ rest)) (number_back 999 k rest e (omega arith) (omega arith)) ∙ ap (λ n. (n, rest)) (omega arith) in
    ap (λ p. carry (λ e. e) (value_of p.0) (λ t. Ok (t, p.1))) code
    ∙ ap (λ r. carry (λ e. e) r (λ t. Ok (t, rest))) (cond-true _ _ _ h)
value_back (value.Unknown k) rest h e =
    let small = ltb-true k 1000 h in
    let code : coded 1000 (read_number 999 (decimal k ++ rest)) (decimal k ++ rest) ≡ (1000 + k, rest) = ap (λ o. coded 1000 o (decimal k ++ rest)) (number_back 999 k rest e (omega arith) (omega arith)) in
    let is : value_of (1000 + k) ≡ Ok (value.Unknown k) = grind (arith, nat_tests) in
    ap (λ p. carry (λ e. e) (value_of p.0) (λ t. Ok (t, p.1))) code
    ∙ ap (λ r. carry (λ e. e) r (λ t. Ok (t, rest))) is

pub terms_read_back : TermsReadBack
terms_read_back = record { of_queries = term_back; of_facts = value_back }

-- what an answer holds, or d
abbrev answered : {X Y E : Type 0} → X → Result (X × Y) E → X
answered d (Ok p) = p.0
answered d (Err e) = d

same_answer : {X Y E : Type 0} {x y : X} {u v : Y} → ◌≡◌ {A = Result (X × Y) E} (Ok (x, u)) (Ok (y, v)) → x ≡ y
same_answer {x = x} e = ap (answered x) e

-- ---------------------------------------------------------------- atoms, of any kind of term that reads back

module _ {X : Type 0} (of : ℕ → Result X TermFault) (pr : X → List ℕ) (fits : X → Bool) (back : (t : X) (rest : List ℕ) → fits t ≡ true → starts_digit rest ≡ false → read_word of (pr t ++ rest) ≡ Ok (t, rest)) where
  -- what then-item makes of the term that was read
  abbrev item : Result (X × List ℕ) TermFault → Result (X × After × List ℕ) AtomFault
  item r = carry InTerm r (λ t. carry (λ e. e) (read_after t.1) (λ n. Ok (t.0, n.0, n.1)))

  abbrev item_then : {Y : Type 0} → (X → Y) → (X → List ℕ → Result (Y × List ℕ) AtomFault) → Result (X × List ℕ) TermFault → Result (Y × List ℕ) AtomFault
  item_then done go r = carry (λ e. e) (item r) (λ t. by_after (done t.0) (go t.0) t.1 t.2)

  -- a term before a comma, and before the bracket
  at_comma : {Y : Type 0} (done : X → Y) (go : X → List ℕ → Result (Y × List ℕ) AtomFault) (t : X) (rest : List ℕ) → fits t ≡ true → then_item of done go (pr t ++ (44 ∷ rest)) ≡ go t rest
  at_comma done go t rest h = ap (item_then done go) (back t (44 ∷ rest) h refl)

  at_bracket : {Y : Type 0} (done : X → Y) (go : X → List ℕ → Result (Y × List ℕ) AtomFault) (t : X) (rest : List ℕ) → fits t ≡ true → then_item of done go (pr t ++ (41 ∷ rest)) ≡ Ok (done t, rest)
  at_bracket done go t rest h = ap (item_then done go) (back t (41 ∷ rest) h refl)

  terms_back : (ts : Terms X) (rest : List ℕ) → terms_fit fits ts ≡ true → read_terms of (print_terms pr ts ++ (41 ∷ rest)) ≡ Ok (ts, rest)
  terms_back (One a) rest h = at_bracket _ _ a rest h
  terms_back (Two a b) rest h =
      let p = and_parts _ _ h in
      ap (read_terms of) (append_assoc (pr a) (44 ∷ pr b) (41 ∷ rest))
      ∙ at_comma _ _ a (pr b ++ (41 ∷ rest)) p.0
      ∙ at_bracket _ _ b rest p.1
  terms_back (Three a b d) rest h =
      let p = and_parts _ _ h in
      let q = and_parts _ _ p.1 in
      ap (read_terms of) (append_assoc (pr a) (44 ∷ (pr b ++ (44 ∷ pr d))) (41 ∷ rest) ∙ ap (λ l. pr a ++ (44 ∷ l)) (append_assoc (pr b) (44 ∷ pr d) (41 ∷ rest)))
      ∙ at_comma _ _ a (pr b ++ (44 ∷ (pr d ++ (41 ∷ rest)))) p.0
      ∙ at_comma _ _ b (pr d ++ (41 ∷ rest)) q.0
      ∙ at_bracket _ _ d rest q.1
  terms_back (Four a b d e) rest h =
      let p = and_parts _ _ h in
      let q = and_parts _ _ p.1 in
      let r = and_parts _ _ q.1 in
      ap (read_terms of) (append_assoc (pr a) (44 ∷ (pr b ++ (44 ∷ (pr d ++ (44 ∷ pr e))))) (41 ∷ rest) ∙ ap (λ l. pr a ++ (44 ∷ l)) (append_assoc (pr b) (44 ∷ (pr d ++ (44 ∷ pr e))) (41 ∷ rest) ∙ ap (λ l. pr b ++ (44 ∷ l)) (append_assoc (pr d) (44 ∷ pr e) (41 ∷ rest))))
      ∙ at_comma _ _ a (pr b ++ (44 ∷ (pr d ++ (44 ∷ (pr e ++ (41 ∷ rest)))))) p.0
      ∙ at_comma _ _ b (pr d ++ (44 ∷ (pr e ++ (41 ∷ rest)))) q.0
      ∙ at_comma _ _ d (pr e ++ (41 ∷ rest)) r.0
      ∙ at_bracket _ _ e rest r.1

  pub atom_back : (a : Atom X) (rest : List ℕ) → atom_fits fits a ≡ true → read_atom of (print_atom pr a ++ rest) ≡ Ok (a, rest)
  atom_back a rest h =
      let p = and_parts _ _ h in
      let small = ltb-true a.predicate 32 p.0 in
      let ts = print_terms pr a.terms in
      let text : (decimal a.predicate ++ (40 ∷ (ts ++ (41 ∷ [])))) ++ rest ≡ decimal a.predicate ++ (40 ∷ (ts ++ (41 ∷ rest))) = append_assoc (decimal a.predicate) (40 ∷ (ts ++ (41 ∷ []))) rest ∙ ap (λ l. decimal a.predicate ++ (40 ∷ l)) (append_assoc ts (41 ∷ []) rest) in
      let after_predicate : ℕ × List ℕ → Result (Atom X × List ℕ) AtomFault = λ p. carry (λ e. e) (read_byte 40 p.1) (λ s. carry (λ e. e) (read_terms of s) (λ t. Ok (record { predicate = p.0; terms = t.0 }, t.1))) in
      ap (λ s. carry (λ e. e) (read_predicate (read_number 31 s)) after_predicate) text
      ∙ ap (λ o. carry (λ e. e) (read_predicate o) after_predicate) (number_back 31 a.predicate (40 ∷ (ts ++ (41 ∷ rest))) refl (omega arith) (omega arith))
      ∙ ap (λ r. carry (λ e. e) r (λ t. Ok (record { predicate = a.predicate; terms = t.0 }, t.1))) (terms_back a.terms rest p.1)

  pub atom_apart : (a b : Atom X) → atom_fits fits a ≡ true → atom_fits fits b ≡ true → print_atom pr a ≡ print_atom pr b → a ≡ b
  atom_apart a b h k e = same_answer (sym (atom_back a [] h) ∙ ap (λ s. read_atom of (s ++ [])) e ∙ atom_back b [] k)

pub atoms_read_back : AtomsReadBack
atoms_read_back = record { of_queries = atom_back term_of print_term term_fits term_back; of_facts = atom_back value_of print_value value_fits value_back }

pub atoms_print_apart : AtomsPrintApart
atoms_print_apart = record { of_queries = atom_apart term_of print_term term_fits term_back; of_facts = atom_apart value_of print_value value_fits value_back }
