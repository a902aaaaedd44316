-- What is made of a text that is read.
use Rattle.std.specs.Prelude.{◌≡◌, ℕ, ◌+◌, ◌≤◌, cond, List, length, ◌==◌}
use Rattle.notation.specs.declared.terms.Atom.{Atom}
use Rattle.notation.specs.declared.terms.Value.{Value}
use Rattle.sources.specs.Text.{text_facts, left_out_line}

-- the facts of a text, and the number of the first line left out
pub record Told (text : List ℕ) (facts : List (Atom Value)) (number : ℕ) : Type 0 where
  pub facts_are : facts ≡ text_facts text
  pub number_is : number ≡ left_out_line text

-- the facts of a text, and what is left of the text: nothing, or the first line left out and more
pub record Parted (text : List ℕ) (facts : List (Atom Value)) (rest : List ℕ) : Type 0 where
  pub few : length facts ≤ 65535
  pub told : Told text facts (cond (length rest == 0) 0 (length facts + 1))
