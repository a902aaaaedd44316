-- Texts that lack a byte: what is printed has no separator of an upper level in it.
use Rattle.std.proofs.Common.{◌≡◌, ℕ, ◌+◌, ◌%◌, ◌^◌, ◌<◌, ◌≤◌, Bool, true, false, not, ◌&&◌, eqb, ◌⊎◌, List, [], ◌∷◌, ◌++◌, decimal, refl, ap, ◌∙◌, ⊎_elim, arith}
use Rattle.std.proofs.lemmas.Fmt.{decimal_by_steps}
use Rattle.std.proofs.lemmas.Bool.{and_parts, and_from, not_from_false, not-true, ne_eqb, eq-eqb, ltb-true}
use Rattle.notation.specs.declared.terms.Atom.{Atom}
use Rattle.notation.specs.declared.terms.Term.{Term}
use Rattle.notation.specs.declared.terms.Term.TheVariants as term
use Rattle.notation.specs.declared.terms.Terms.{Terms}
use Rattle.notation.specs.declared.terms.Terms.TheVariants.{One, Two, Three, Four}
use Rattle.notation.specs.Fits.{term_fits, terms_fit, atom_fits}
use Rattle.notation.specs.Lists.{onto_pieces, pieces}
use Rattle.notation.specs.Printing.{print_term, print_terms, print_atom}

abbrev pub lacks : ℕ → List ℕ → Bool
lacks by [] = true
lacks by (b ∷ s) = not (eqb b by) && lacks by s

pub lacks_append : (by : ℕ) (s t : List ℕ) → lacks by s ≡ true → lacks by t ≡ true → lacks by (s ++ t) ≡ true
lacks_append by [] t h k = k
lacks_append by (b ∷ s) t h k = let p = and_parts _ _ h in and_from _ _ p.0 (lacks_append by s t p.1 k)

pub lacks_byte : (by b : ℕ) (s : List ℕ) → (b ≡ by → ⊥) → lacks by s ≡ true → lacks by (b ∷ s) ≡ true
lacks_byte by b s ne h = and_from _ _ (not_from_false _ (ne_eqb b by ne)) h

-- a piece without the separator, before a separator and at the end
pub pieces_past : (by : ℕ) (s rest : List ℕ) → lacks by s ≡ true → pieces by (s ++ (by ∷ rest)) ≡ (s, (pieces by rest).0 ∷ (pieces by rest).1)
pieces_past by [] rest h = ap (λ t. onto_pieces t by (pieces by rest)) (eq-eqb by by refl)
pieces_past by (b ∷ s) rest h =
    let p = and_parts _ _ h in
    ap (λ t. onto_pieces t b (pieces by (s ++ (by ∷ rest)))) (not-true _ p.0) ∙ ap (onto_pieces false b) (pieces_past by s rest p.1)

pub pieces_whole : (by : ℕ) (s : List ℕ) → lacks by s ≡ true → pieces by s ≡ (s, [])
pieces_whole by [] h = refl
pieces_whole by (b ∷ s) h =
    let p = and_parts _ _ h in
    ap (λ t. onto_pieces t b (pieces by s)) (not-true _ p.0) ∙ ap (onto_pieces false b) (pieces_whole by s p.1)

-- ---------------------------------------------------------------- what is printed

-- a byte that stands in no atom
abbrev pub Outside : ℕ → Type 0
Outside by = (by < 40) ⊎ (58 ≤ by) × (by < 99)

module _ (by : ℕ) (out : Outside by) where
  apart : (b : ℕ) → 40 ≤ b → b < 58 → b ≡ by → ⊥
  apart b l h e = ⊎_elim (λ (p : by < 40). omega arith) (λ (p : (58 ≤ by) × (by < 99)). omega (arith, p.0)) out

  letter_apart : (b : ℕ) → 99 ≤ b → b ≡ by → ⊥
  letter_apart b l e = ⊎_elim (λ (p : by < 40). omega arith) (λ (p : (58 ≤ by) × (by < 99)). omega (arith, p.1)) out

  abbrev Lacks : ℕ → List ℕ → Type 0
  Lacks n ds = lacks by ds ≡ true

  lacks_decimal : (n : ℕ) → n < 2 ^ 64 → lacks by (decimal n) ≡ true
  lacks_decimal = decimal_by_steps Lacks
      (λ n h. lacks_byte by (48 + n) [] (apart (48 + n) (omega arith) (omega arith)) refl)
      (λ n ds h k. lacks_append by ds _ k (lacks_byte by (48 + n % 10) [] (apart (48 + n % 10) (omega arith) (omega arith)) refl))

  lacks_term : (t : Term) → term_fits t ≡ true → lacks by (print_term t) ≡ true
  lacks_term (term.Constant k) h = let small = ltb-true k 1000 h in lacks_byte by 99 _ (letter_apart 99 (omega arith)) (lacks_decimal k (omega arith))
  lacks_term (term.Variable k) h = let small = ltb-true k 32 h in lacks_byte by 118 _ (letter_apart 118 (omega arith)) (lacks_decimal k (omega arith))

  comma : (t : Term) (s : List ℕ) → term_fits t ≡ true → lacks by s ≡ true → lacks by (print_term t ++ (44 ∷ s)) ≡ true
  comma t s h k = lacks_append by (print_term t) _ (lacks_term t h) (lacks_byte by 44 s (apart 44 (omega arith) (omega arith)) k)

  lacks_terms : (ts : Terms Term) → terms_fit term_fits ts ≡ true → lacks by (print_terms print_term ts) ≡ true
  lacks_terms (One a) h = lacks_term a h
  lacks_terms (Two a b) h = let p = and_parts _ _ h in comma a _ p.0 (lacks_term b p.1)
  lacks_terms (Three a b d) h = let p = and_parts _ _ h in let q = and_parts _ _ p.1 in comma a _ p.0 (comma b _ q.0 (lacks_term d q.1))
  lacks_terms (Four a b d e) h =
      let p = and_parts _ _ h in
      let q = and_parts _ _ p.1 in
      let r = and_parts _ _ q.1 in
      comma a _ p.0 (comma b _ q.0 (comma d _ r.0 (lacks_term e r.1)))

  pub lacks_atom : (a : Atom Term) → atom_fits term_fits a ≡ true → lacks by (print_atom print_term a) ≡ true
  lacks_atom a h =
      let p = and_parts _ _ h in
      let small = ltb-true a.predicate 32 p.0 in
      lacks_byte by 112 _ (letter_apart 112 (omega arith)) (lacks_append by (decimal a.predicate) _ (lacks_decimal a.predicate (omega arith))
      (lacks_byte by 40 _ (apart 40 (omega arith) (omega arith)) (lacks_append by (print_terms print_term a.terms) _ (lacks_terms a.terms p.1) (lacks_byte by 41 [] (apart 41 (omega arith) (omega arith)) refl))))
