-- A text read line by line.
use Rattle.std.proofs.Common.{◌≡◌, ℕ, ◌+◌, ◌≤◌, Bool, true, false, cond, eqb, List, [], ◌∷◌, ◌++◌, length, take, Some, None, Ok, Err, sym, refl, ap, ◌∙◌, arith}
use Rattle.std.proofs.lemmas.List.{append-nil, append_assoc, length_push, take_all, take_at}
use Rattle.std.proofs.lemmas.Bool.{cond-true, cond-false, eq-eqb, ne_eqb}
use Rattle.std.specs.Result.{result_ok}
use Rattle.notation.specs.declared.faults.LineFault.{LineFault}
use Rattle.notation.specs.declared.terms.Atom.{Atom}
use Rattle.notation.specs.declared.terms.Value.{Value}
use Rattle.notation.specs.Lines.{read_fact_line}
use Rattle.notation.specs.Lists.{cut_at, onto_pieces, pieces}
use Rattle.notation.proofs.Pieces.{pieces_more, pieces_end}
use Rattle.sources.specs.Reading.{Parted}
use Rattle.sources.specs.Facts.{onto}
use Rattle.sources.specs.Text.{told_from, text_facts, line_count, left_out_line}

-- the facts and the lines of the pieces of a text
abbrev told : List ℕ × List (List ℕ) → List (Atom Value)
told ps = told_from ps.0 ps.1

abbrev lines : List ℕ × List (List ℕ) → ℕ
lines ps = line_count ps.0 ps.1

-- s tells fs, and then what is left
pub record Reached (s : List ℕ) (fs : List (Atom Value)) (left : List ℕ) : Type 0 where
  pub facts_so_far : told (pieces 10 s) ≡ fs ++ told (pieces 10 left)
  pub lines_so_far : lines (pieces 10 s) ≡ length fs + lines (pieces 10 left)

one_line : (line : List ℕ) (ps : List ℕ × List (List ℕ)) → line_count line (ps.0 ∷ ps.1) ≡ 1 + lines ps
one_line [] ps = refl
one_line (b ∷ line) ps = refl

-- one fact more
pub reached_more : (s : List ℕ) (fs : List (Atom Value)) (left line rest : List ℕ) (f : Atom Value) → Reached s fs left → Some (line, rest) ≡ cut_at 10 left → Ok f ≡ read_fact_line line → Reached s (fs ++ f ∷ []) rest
reached_more s fs left line rest f r cut is =
    let split = pieces_more 10 left line rest cut in
    record {
      facts_so_far =
          r.facts_so_far
          ∙ ap (λ ps. fs ++ told ps) split
          ∙ ap (λ o. fs ++ onto (result_ok o) (told (pieces 10 rest))) (sym is)
          ∙ sym (append_assoc fs (f ∷ []) (told (pieces 10 rest)));
      lines_so_far =
          let n = r.lines_so_far in
          let one = ap lines split ∙ one_line line (pieces 10 rest) in
          omega (arith, length_push fs f);
    }

-- a text that is left has a line
some_line : (line : List ℕ) (more : List (List ℕ)) (b : ℕ) → 1 ≤ line_count (b ∷ line) more
some_line line [] b = omega arith
some_line line (next ∷ more) b = omega arith

lines_some : (b : ℕ) (t : Bool) (ps : List ℕ × List (List ℕ)) → 1 ≤ lines (onto_pieces t b ps)
lines_some b true ps = omega arith
lines_some b false ps = some_line ps.0 ps.1 b

number_at : (n : ℕ) (left : List ℕ) → cond (eqb (length left) 0) 0 (n + 1) ≡ cond (eqb n (n + lines (pieces 10 left))) 0 (n + 1)
number_at n [] = sym (cond-true _ 0 (n + 1) (eq-eqb n (n + 0) (omega arith)))
number_at n (b ∷ s) =
    cond-false _ 0 (n + 1) (ne_eqb (length (b ∷ s)) 0 (λ e. omega arith))
    ∙ sym (cond-false _ 0 (n + 1) (ne_eqb n _ (λ e. omega (arith, lines_some b (eqb b 10) (pieces 10 s)))))

-- what is left tells nothing, or there is no room for it
parted : (s : List ℕ) (fs : List (Atom Value)) (left : List ℕ) → Reached s fs left → length fs ≤ 65535 → take 65535 (fs ++ told (pieces 10 left)) ≡ fs → Parted s fs left
unfolding text_facts left_out_line
parted s fs left r few e =
    let are : text_facts s ≡ fs = ap (take 65535) r.facts_so_far ∙ e in
    record {
      few = few;
      told = record {
        facts_are = sym are;
        number_is =
            number_at (length fs) left
            ∙ ap (λ n. cond (eqb (length fs) n) 0 (length fs + 1)) (sym r.lines_so_far)
            ∙ ap (λ gs. cond (eqb (length gs) (lines (pieces 10 s))) 0 (length gs + 1)) (sym are);
      };
    }

module _ (s : List ℕ) (fs : List (Atom Value)) (left : List ℕ) (r : Reached s fs left) where
  pub parted_full : length fs ≡ 65535 → Parted s fs left
  parted_full n = parted s fs left r (omega arith) (take_at fs (told (pieces 10 left)) 65535 n)

  module _ (few : length fs ≤ 65535) where
    parted_rest : told (pieces 10 left) ≡ [] → Parted s fs left
    parted_rest e = parted s fs left r few (ap (λ gs. take 65535 (fs ++ gs)) e ∙ ap (take 65535) (append-nil fs) ∙ take_all 65535 fs few)

    pub parted_last : None ≡ cut_at 10 left → Parted s fs left
    parted_last cut = parted_rest (ap told (pieces_end 10 left cut))

    pub parted_fault : (line rest : List ℕ) (e : LineFault) → Some (line, rest) ≡ cut_at 10 left → Err e ≡ read_fact_line line → Parted s fs left
    parted_fault line rest e cut is = parted_rest (ap told (pieces_more 10 left line rest cut) ∙ ap (λ o. onto (result_ok o) (told (pieces 10 rest))) (sym is))
