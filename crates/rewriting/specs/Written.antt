-- Steps, rows and answers of the code, as the definitions have them.
use Rattle.std.specs.Prelude.{◌≡◌, ℕ, suc, Bool, true, false, if◌then◌else◌, ◌&&◌, List, [], ◌∷◌, ◌++◌, map, length, Some, None, Ok, Err, vec_items, Option, Result}
use Rattle.notation.specs.declared.terms.Term.{Term as WrittenTerm}
use Rattle.notation.specs.declared.terms.Atom.{Atom as WrittenAtom}
use Rattle.notation.specs.Logic.{Term, Atom, rename, query_atom}
use Rattle.queries.specs.Checks.{valid}
use Rattle.queries.specs.Queries.{atoms_of}
use Rattle.queries.specs.Rules.{rule_of}
use Rattle.queries.specs.declared.query.Query.{Query as WrittenQuery}
use Rattle.queries.specs.declared.rule.Rule.{Rule as WrittenRule}
use Rattle.search.specs.Keeping.{Rule}
use Rattle.search.specs.Rules.{meant}
use Rattle.rewriting.specs.declared.refusal.StepRefusal.{StepRefusal}
use Rattle.rewriting.specs.declared.refusal.StepRefusal.TheVariants.{NoRule, NotStanding, BadAtoms, BadTie, TwoConstants, SetsDiffer, UnnamedJoined, TooLarge, Full}
use Rattle.queries.specs.declared.row.Row.{Row}
use Rattle.queries.specs.Rows.{row_atoms}
use Rattle.notation.specs.declared.terms.End.{End as WrittenEnd}
use Rattle.notation.specs.declared.terms.End.TheVariants as written
use Rattle.notation.specs.declared.terms.Tie.{Tie}
use Rattle.rewriting.specs.declared.steps.Part.{Part as WrittenPart}
use Rattle.rewriting.specs.declared.steps.Step.{Step as WrittenStep}
use Rattle.rewriting.specs.declared.steps.Owner.{Owner}
use Rattle.rewriting.specs.declared.steps.Owner.TheVariants as owner
use Rattle.rewriting.specs.Judging.{Ledger, Outcome, enters, refuses, Read, read, refused, part_tested, standing}
use Rattle.rewriting.specs.declared.places.StepTerm.{StepTerm}
use Rattle.rewriting.specs.declared.places.StepTerm.TheVariants as step_term
use Rattle.rewriting.specs.Steps.{Query, Ref, fixed, own, copy, in_rule, in_copy, End, c, r, q, Part, Step, nth, at_numbers, off_numbers, Piece, piece}

abbrev pub end_of : WrittenEnd → End
end_of (written.Constant k) = c k
end_of (written.Rule k) = r k
end_of (written.Copy k) = q k

abbrev pub tie_of : Tie → End × End
tie_of t = (end_of t.left, end_of t.right)

abbrev pub part_of : WrittenPart → Part
part_of p = record { query = p.query; taken = vec_items p.taken; named = vec_items p.named; ties = map tie_of (vec_items p.ties) }

abbrev pub step_of : WrittenStep → Step
step_of s = record { rule = s.rule; parts = map part_of (vec_items s.parts) }

-- a term of the owner's
abbrev pub ref_of : Owner → Term → Ref
ref_of owner.Rule t = in_rule t
ref_of (owner.Part i) t = in_copy i t

-- a term of a step
abbrev pub step_ref : StepTerm → Ref
step_ref (step_term.Constant k) = fixed k
step_ref (step_term.Rule k) = own k
step_ref (step_term.Copy i k) = copy i k

-- atoms as logic has them
abbrev pub logic_atoms : List (WrittenAtom WrittenTerm) → List (Atom Term)
logic_atoms as' = map query_atom as'

-- the owner's atoms at the numbers, counted from i
abbrev pub side : Owner → List ℕ → ℕ → List (WrittenAtom WrittenTerm) → List (Atom Ref)
side o ns i as' = map (rename (ref_of o)) (at_numbers ns i (logic_atoms as'))

-- each of their terms replaced by the name of its class
abbrev pub named_side : (Ref → Ref) → Owner → List ℕ → ℕ → List (WrittenAtom WrittenTerm) → List (Atom Ref)
named_side f o ns i as' = map (rename f) (side o ns i as')

-- ---------------------------------------------------------------- rules and rows

abbrev pub rule_meant : WrittenRule → Rule
rule_meant u = meant (rule_of u)

-- each row is a query
abbrev pub all_valid : List Row → Bool
all_valid [] = true
all_valid (w ∷ ws) = valid (row_atoms w) && all_valid ws

-- the atoms of the row with number k, or none where there is no such row
abbrev pub first_atoms : List Row → List (WrittenAtom WrittenTerm)
first_atoms [] = []
first_atoms (w ∷ ws) = row_atoms w

abbrev pub row_at : List Row → ℕ → List (WrittenAtom WrittenTerm)
row_at rows k = first_atoms (nth k rows)

-- whether there is a row k and it stands
abbrev pub first_stands : List Row → Bool
first_stands [] = false
first_stands (w ∷ ws) = w.standing

abbrev pub stands_at : List Row → ℕ → Bool
stands_at rows k = first_stands (nth k rows)

-- the query of a row that stands, as a list of one, or none
abbrev pub row_standing : List Row → List Query
row_standing [] = []
row_standing (w ∷ ws) = if w.standing then logic_atoms (row_atoms w) ∷ [] else []

-- the rules and the rows are those of the ledger s: each number's query stands as its row says
pub record Shows (rules : List WrittenRule) (rows : List Row) (s : Ledger) : Type 0 where
  pub rules_are : s.rules ≡ map rule_meant rules
  pub stand : (k : ℕ) → standing s k ≡ row_standing (nth k rows)
  pub count : length s.entered ≡ length rows

-- the atoms that parts leave, of which the first has the number i, each in its own copy
abbrev pub untaken_from : ℕ → List Row → List Part → List (Atom Ref)
untaken_from i rows [] = []
untaken_from i rows (p ∷ ps) = map (rename (in_copy i)) (off_numbers p.taken 0 (logic_atoms (row_at rows p.query))) ++ untaken_from (suc i) rows ps

-- the body and then, part by part, the atoms that are left
abbrev pub left_of : List (Atom Term) → List Row → List Part → List (Atom Ref)
left_of b rows ps = map (rename in_rule) b ++ untaken_from 0 rows ps

-- the pieces of the parts, of which the first has the number i, for the heads
abbrev pub pieces_from : List (Atom Term) → List Row → ℕ → List (List (Atom Term)) → List Part → List Piece
pieces_from b rows i [] ps = []
pieces_from b rows i (d ∷ ds) [] = []
pieces_from b rows i (d ∷ ds) (p ∷ ps) = piece i b d (logic_atoms (row_at rows p.query)) p ∷ pieces_from b rows (suc i) ds ps

-- ---------------------------------------------------------------- answers

-- the number of a refusal, with its place
abbrev pub refusal_number : StepRefusal → ℕ × ℕ
refusal_number NoRule = (11, 0)
refusal_number (NotStanding i) = (12, i)
refusal_number (BadAtoms i) = (13, i)
refusal_number (BadTie i) = (14, i)
refusal_number TwoConstants = (15, 0)
refusal_number (SetsDiffer i) = (16, i)
refusal_number (UnnamedJoined i) = (17, i)
refusal_number TooLarge = (18, 0)
refusal_number Full = (19, 0)

-- a part was read, and the parts after it decide; or the refusal stands whatever they say
abbrev pub PartRead : Result (Unit {0}) StepRefusal → Piece → Read → Read → Type 0
PartRead (Ok u) m rest v = v ≡ part_tested true true m.head m rest
PartRead (Err e) m rest v = v ≡ refused (refusal_number e).0 (refusal_number e).1

-- the parts were read as these pieces, or refused
abbrev pub ReadTo : Result (Unit {0}) StepRefusal → Read → List Piece → Type 0
ReadTo (Ok u) v ms = v ≡ read ms
ReadTo (Err e) v ms = v ≡ refused (refusal_number e).0 (refusal_number e).1

-- a number as a list of one, or none
abbrev pub option_list : Option ℕ → List ℕ
option_list (Some n) = n ∷ []
option_list None = []

-- the outcome that an answer tells
abbrev pub outcome_of : Result WrittenQuery StepRefusal → Outcome
outcome_of (Ok n) = enters (logic_atoms (atoms_of n))
outcome_of (Err e) = refuses (refusal_number e).0 (refusal_number e).1
