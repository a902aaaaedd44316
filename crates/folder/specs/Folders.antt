-- How a folder is read, line by line.
use Rattle.std.specs.Prelude.{◌≡◌, ℕ, ◌+◌, Bool, true, false, cond, List, [], ◌∷◌, ◌++◌, map, length, Some, None, Ok, Err, vec_items, Option, Result, ◌==◌, nat_le, nat_lt}
use Rattle.notation.specs.declared.failures.Failure.{Failure}
use Rattle.notation.specs.declared.failures.Failure.TheVariants as failure
use Rattle.notation.specs.declared.faults.FolderFault.{FolderFault}
use Rattle.notation.specs.declared.faults.FolderFault.TheVariants.{InLine, OutOfOrder, EndsTooSoon, TooLong}
use Rattle.notation.specs.declared.faults.LineFault.{LineFault}
use Rattle.notation.specs.declared.faults.LineFault.TheVariants.{Unreadable, Unended, TooMany}
use Rattle.notation.specs.declared.lines.Key.{Key}
use Rattle.notation.specs.declared.lines.Key.TheVariants as key
use Rattle.notation.specs.declared.terms.Atom.{Atom}
use Rattle.notation.specs.declared.terms.Term.{Term}
use Rattle.notation.specs.declared.terms.Value.{Value}
use Rattle.notation.specs.Lists.{pieces}
use Rattle.notation.specs.Reading.{carry}
use Rattle.queries.specs.Checks.{make_query}
use Rattle.queries.specs.Heads.{body_atoms}
use Rattle.queries.specs.RuleChecks.{make_body, add_head}
use Rattle.queries.specs.Rules.{rule_of, first_head}
use Rattle.queries.specs.Queries.{atoms_of}
use Rattle.folder.specs.declared.parts.Draft.{Draft as WrittenDraft}
use Rattle.folder.specs.declared.parts.Draft.TheVariants as draft
use Rattle.folder.specs.declared.parts.Fault.{Fault}
use Rattle.folder.specs.declared.parts.Reader.{Reader}
use Rattle.folder.specs.declared.parts.Strike.{Strike}
use Rattle.folder.specs.Contents.{Entry, arity, body, head, query, strike, by, fact, entry_key, read_content}

-- the rule that is being read: nothing of it, its body, or its body and some heads
pub data Draft : Type 0 where
  nothing : Draft
  bare : List (Atom Term) → Draft
  headed : List (Atom Term) × List (List (Atom Term)) → Draft

-- a folder as far as it was read: the key of the last line, the numbers of terms, the rule that is being read, the rules before
-- it, the queries, the query that is to be struck, the strikes, the facts
pub record Folder : Type 0 where
  pub last : Option Key
  pub arities : List ℕ
  pub draft : Draft
  pub rules : List (List (Atom Term) × List (List (Atom Term)))
  pub queries : List (List (Atom Term))
  pub pending : ℕ
  pub strikes : List (ℕ × ℕ)
  pub facts : List (Atom Value)

abbrev pub draft_of : WrittenDraft → Draft
draft_of draft.Nothing = nothing
draft_of (draft.Bare b) = bare (body_atoms b)
draft_of (draft.Headed r) = headed (rule_of r)

abbrev pub strike_of : Strike → ℕ × ℕ
strike_of s = (s.struck, s.by)

abbrev pub folder_of : Reader → Folder
folder_of r = record {
  last = r.last;
  arities = vec_items r.arity;
  draft = draft_of r.draft;
  rules = map rule_of (vec_items r.rules);
  queries = map atoms_of (vec_items r.queries);
  pending = r.pending;
  strikes = map strike_of (vec_items r.strikes);
  facts = vec_items r.facts;
}

abbrev pub nothing_read : Folder
nothing_read = record { last = None; arities = []; draft = nothing; rules = []; queries = []; pending = 0; strikes = []; facts = [] }

-- ---------------------------------------------------------------- one line

-- the place of each key in their list
abbrev pub key_place : Key → ℕ
key_place key.Arity = 0
key_place key.Body = 1
key_place key.Head = 2
key_place key.Query = 3
key_place key.Strike = 4
key_place key.By = 5
key_place key.Fact = 6

-- the places of the keys that may follow the last one
abbrev pub followers : Option Key → List ℕ
followers None = 0 ∷ []
followers (Some key.Arity) = 1 ∷ 3 ∷ []
followers (Some key.Body) = 2 ∷ []
followers (Some key.Head) = 1 ∷ 2 ∷ 3 ∷ []
followers (Some key.Query) = 3 ∷ 4 ∷ 6 ∷ []
followers (Some key.Strike) = 5 ∷ []
followers (Some key.By) = 4 ∷ 6 ∷ []
followers (Some key.Fact) = 6 ∷ []

abbrev pub among : ℕ → List ℕ → Bool
among n [] = false
among n (m ∷ ms) = cond (n == m) true (among n ms)

-- the folder after a key that may follow
abbrev pub move : Folder → Key → Result Folder FolderFault
move d k = cond (among (key_place k) (followers d.last)) (Ok (record { last = Some k; arities = d.arities; draft = d.draft; rules = d.rules; queries = d.queries; pending = d.pending; strikes = d.strikes; facts = d.facts })) (Err OutOfOrder)

-- 1 to 32 numbers of terms
abbrev pub take_arity : Folder → List ℕ → Result Folder LineFault
take_arity d ns = cond (nat_le (length ns) 32) (Ok (record { last = d.last; arities = ns; draft = d.draft; rules = d.rules; queries = d.queries; pending = d.pending; strikes = d.strikes; facts = d.facts })) (Err TooMany)

-- the rule that was being read is read
abbrev pub drafted : Draft → List (List (Atom Term) × List (List (Atom Term)))
drafted nothing = []
drafted (bare b) = []
drafted (headed r) = r ∷ []

abbrev pub settle : Folder → Folder
settle d = record { last = d.last; arities = d.arities; draft = nothing; rules = d.rules ++ drafted d.draft; queries = d.queries; pending = d.pending; strikes = d.strikes; facts = d.facts }

abbrev pub with_draft : Folder → Draft → Folder
with_draft d x = record { last = d.last; arities = d.arities; draft = x; rules = d.rules; queries = d.queries; pending = d.pending; strikes = d.strikes; facts = d.facts }

-- one rule more, of at most 32
abbrev pub begin_rule : Folder → List (Atom Term) → Result Folder LineFault
begin_rule d as' = cond (nat_lt (length d.rules) 32) (carry (λ e. e) (make_body d.arities as') (λ b. Ok (with_draft d (bare b)))) (Err TooMany)

abbrev pub take_body : Folder → List (Atom Term) → Result Folder LineFault
take_body d as' = begin_rule (settle d) as'

-- one head more, of at most four
abbrev pub add_to : List ℕ → Draft → List (Atom Term) → Result Draft LineFault
add_to arities nothing as' = Err Unreadable
add_to arities (bare b) as' = carry (λ e. e) (first_head arities b as') (λ r. Ok (headed r))
add_to arities (headed r) as' = carry (λ e. e) (add_head arities r.0 r.1 as') (λ hs. Ok (headed (r.0, hs)))

abbrev pub take_head : Folder → List (Atom Term) → Result Folder LineFault
take_head d as' = carry (λ e. e) (add_to d.arities d.draft as') (λ x. Ok (with_draft d x))

-- one query more, of at most 64
abbrev pub add_query : Folder → List (Atom Term) → Result Folder LineFault
add_query d as' =
    cond (nat_lt (length d.queries) 64)
    (carry (λ e. e) (make_query d.arities as') (λ q. Ok (record { last = d.last; arities = d.arities; draft = d.draft; rules = d.rules; queries = d.queries ++ q ∷ []; pending = d.pending; strikes = d.strikes; facts = d.facts })))
    (Err TooMany)

abbrev pub take_query : Folder → List (Atom Term) → Result Folder LineFault
take_query d as' = add_query (settle d) as'

-- a strike: the query to be struck, and then the one by which
abbrev pub take_strike : Folder → ℕ → Folder
take_strike d n = record { last = d.last; arities = d.arities; draft = d.draft; rules = d.rules; queries = d.queries; pending = n; strikes = d.strikes; facts = d.facts }

abbrev pub take_by : Folder → ℕ → Folder
take_by d n = record { last = d.last; arities = d.arities; draft = d.draft; rules = d.rules; queries = d.queries; pending = d.pending; strikes = d.strikes ++ (d.pending, n) ∷ []; facts = d.facts }

-- one fact more
abbrev pub take_fact : Folder → Atom Value → Folder
take_fact d f = record { last = d.last; arities = d.arities; draft = d.draft; rules = d.rules; queries = d.queries; pending = d.pending; strikes = d.strikes; facts = d.facts ++ f ∷ [] }

abbrev pub take_content : Folder → Entry → Result Folder LineFault
take_content d (arity ns) = take_arity d ns
take_content d (body as') = take_body d as'
take_content d (head as') = take_head d as'
take_content d (query as') = take_query d as'
take_content d (strike n) = Ok (take_strike d n)
take_content d (by n) = Ok (take_by d n)
take_content d (fact f) = Ok (take_fact d f)

-- the folder after one line more: whether its key may follow, and then what it says
abbrev pub take_entry : Folder → Entry → Result Folder FolderFault
take_entry d e = carry (λ e. e) (move d (entry_key e)) (λ d. carry InLine (take_content d e) (λ d. Ok d))

-- the same of a line that is written without its end
abbrev pub take_line : Folder → List ℕ → Result Folder FolderFault
take_line d line = carry InLine (read_content line) (take_entry d)

-- ---------------------------------------------------------------- the end of the text

-- whether a text may end after the last line
abbrev pub may_end : Option Key → Bool
may_end None = false
may_end (Some key.Arity) = false
may_end (Some key.Body) = false
may_end (Some key.Head) = false
may_end (Some key.Query) = true
may_end (Some key.Strike) = false
may_end (Some key.By) = true
may_end (Some key.Fact) = true

-- a line that lacks its end has that fault, unless it is malformed before
abbrev pub unended : Result Entry LineFault → FolderFault
unended (Ok e) = InLine Unended
unended (Err e) = InLine e

-- the text after the last line's end, which should be empty
abbrev pub take_end : Folder → List ℕ → Result Folder FolderFault
take_end d [] = cond (may_end d.last) (Ok d) (Err EndsTooSoon)
take_end d (b ∷ s) = Err (unended (read_content (b ∷ s)))

-- ---------------------------------------------------------------- the text

abbrev pub at_line : ℕ → FolderFault → Fault
at_line n e = record { line = n; fault = e }

-- from line n on, of which the text up to the next line's end is given, and then the further ones
abbrev pub read_from : Folder → ℕ → List ℕ → List (List ℕ) → Result Folder Fault
read_from d n line [] = carry (at_line n) (take_end d line) (λ d. Ok d)
read_from d n line (next ∷ more) = carry (at_line n) (take_line d line) (λ d. read_from d (n + 1) next more)

-- a folder of at most 65,536 bytes
abbrev pub read_folder : List ℕ → Result Folder Fault
read_folder s = cond (nat_le (length s) 65536) (read_from nothing_read 1 (pieces 10 s).0 (pieces 10 s).1) (Err (at_line 0 TooLong))

-- ---------------------------------------------------------------- what a reader answers

-- the reader's answer, and the folder as it has it then, are what the definition says
abbrev pub Moves : {F : Type 0} → Folder → Result (Unit {0}) F → Result Folder F → Type 0
Moves d (Ok u) o = o ≡ Ok d
Moves d (Err f) o = o ≡ Err f

-- the same, unless memory was wanting
abbrev pub Reads : {F : Type 0} → Folder → Result (Unit {0}) (Failure F) → Result Folder F → Type 0
Reads d (Ok u) o = o ≡ Ok d
Reads d (Err (failure.Fault f)) o = o ≡ Err f
Reads d (Err failure.Memory) o = Unit {0}

-- a failure, with the line that it is in
abbrev pub failure_at : ℕ → Failure FolderFault → Failure Fault
failure_at n failure.Memory = failure.Memory
failure_at n (failure.Fault e) = failure.Fault (at_line n e)
