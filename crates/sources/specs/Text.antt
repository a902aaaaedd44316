-- The facts that a text tells, line by line.
use Rattle.std.specs.Prelude.{ℕ, ◌+◌, cond, List, [], ◌∷◌, length, take, ◌==◌}
use Rattle.std.specs.Result.{result_ok}
use Rattle.notation.specs.declared.terms.Atom.{Atom}
use Rattle.notation.specs.declared.terms.Value.{Value}
use Rattle.notation.specs.Lines.{read_fact_line}
use Rattle.notation.specs.Lists.{pieces}
use Rattle.sources.specs.Facts.{onto}

-- the facts of the lines before the first that is no fact line; the last piece lacks its end
abbrev pub told_from : List ℕ → List (List ℕ) → List (Atom Value)
told_from line [] = []
told_from line (next ∷ more) = onto (result_ok (read_fact_line line)) (told_from next more)

-- the facts that a text tells, 65,535 at most
unfoldable pub text_facts : List ℕ → List (Atom Value)
text_facts s = take 65535 (told_from (pieces 10 s).0 (pieces 10 s).1)

-- how many lines there are, the last with or without its end
abbrev pub line_count : List ℕ → List (List ℕ) → ℕ
line_count [] [] = 0
line_count (b ∷ line) [] = 1
line_count line (next ∷ more) = 1 + line_count next more

-- the number of the first line left out, counted from 1, or 0 if every line counts
unfoldable pub left_out_line : List ℕ → ℕ
left_out_line s = cond (length (text_facts s) == line_count (pieces 10 s).0 (pieces 10 s).1) 0 (length (text_facts s) + 1)
