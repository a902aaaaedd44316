-- What a line says, by the grammar of its key.
use Rattle.std.specs.Prelude.{ℕ, List, Ok, vec_items, Result}
use Rattle.notation.specs.declared.faults.LineFault.{LineFault}
use Rattle.notation.specs.declared.lines.Key.{Key}
use Rattle.notation.specs.declared.lines.Key.TheVariants as key
use Rattle.notation.specs.declared.terms.Atom.{Atom}
use Rattle.notation.specs.declared.terms.Term.{Term}
use Rattle.notation.specs.declared.terms.Value.{Value}
use Rattle.notation.specs.Lines.{read_key}
use Rattle.notation.specs.Lists.{read_list, whole_atom, whole_number}
use Rattle.notation.specs.Reading.{carry, term_of, value_of}
use Rattle.folder.specs.declared.contents.Content.{Content}
use Rattle.folder.specs.declared.contents.Content.TheVariants as content

-- what a line says
pub data Entry : Type 0 where
  arity : List ℕ → Entry
  body : List (Atom Term) → Entry
  head : List (Atom Term) → Entry
  query : List (Atom Term) → Entry
  strike : ℕ → Entry
  by : ℕ → Entry
  fact : Atom Value → Entry

abbrev pub entry_key : Entry → Key
entry_key (arity ns) = key.Arity
entry_key (body as') = key.Body
entry_key (head as') = key.Head
entry_key (query as') = key.Query
entry_key (strike n) = key.Strike
entry_key (by n) = key.By
entry_key (fact f) = key.Fact

abbrev pub content_seen : Content → Entry
content_seen (content.Arity ns) = arity (vec_items ns)
content_seen (content.Body as') = body (vec_items as')
content_seen (content.Head as') = head (vec_items as')
content_seen (content.Query as') = query (vec_items as')
content_seen (content.Strike n) = strike n
content_seen (content.By n) = by n
content_seen (content.Fact f) = fact f

abbrev pub by_key : Key × List ℕ → Result Entry LineFault
by_key (key.Arity, s) = carry (λ e. e) (read_list (whole_number 1 4) 44 s) (λ ns. Ok (arity ns))
by_key (key.Body, s) = carry (λ e. e) (read_list (whole_atom term_of) 59 s) (λ as'. Ok (body as'))
by_key (key.Head, s) = carry (λ e. e) (read_list (whole_atom term_of) 59 s) (λ as'. Ok (head as'))
by_key (key.Query, s) = carry (λ e. e) (read_list (whole_atom term_of) 59 s) (λ as'. Ok (query as'))
by_key (key.Strike, s) = carry (λ e. e) (whole_number 0 999 s) (λ n. Ok (strike n))
by_key (key.By, s) = carry (λ e. e) (whole_number 0 999 s) (λ n. Ok (by n))
by_key (key.Fact, s) = carry (λ e. e) (whole_atom value_of s) (λ f. Ok (fact f))

-- what a line says, which is written without its end
abbrev pub read_content : List ℕ → Result Entry LineFault
read_content line = carry (λ e. e) (read_key line) by_key
