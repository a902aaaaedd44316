-- What a right step and a strike are on the queries that stand, and what the questions answer.
use Rattle.std.specs.Prelude.{◌≡◌, ℕ, suc, ◌<◌, ◌≤◌, ◌⊎◌, ◌↔◌, List, [], ◌∷◌, map, length}
use Rattle.notation.specs.Logic.{Term, var, Atom, Facts, In, terms}
use Rattle.search.specs.Holding.{Holds}
use Rattle.search.specs.Keeping.{Occurs, Rule, Keeps}
use Rattle.rewriting.specs.Steps.{Query, Ref, Part, Step, Piece, piece, bare, nth, vars, all_ties, left, Linked, Right, InOrder, NewQuery}
use Rattle.rewriting.specs.Judging.{Ledger, judge, judge_strike, enters, strikes, standing_answer, opening_answer, rule_answer}

-- the query of number n stands
abbrev pub Stands : Ledger → ℕ → Query → Type 0
Stands s n x = (nth n s.entered ≡ x ∷ []) × (In n s.struck → ⊥)

-- ascending from lo on, below hi
abbrev pub Ascending : ℕ → ℕ → List ℕ → Type 0
Ascending lo hi [] = Unit {0}
Ascending lo hi (n ∷ ns) = (lo ≤ n) × (n < hi) × Ascending (suc n) hi ns

-- a term of the part
abbrev pub OfPart : Piece → Ref → Type 0
OfPart m y = Occurs y m.taken ⊎ Occurs y m.named

-- the part names atoms of its query x and of its head d, and ties terms of the part; m is what it comes to
pub record PartFits (x d : List (Atom Term)) (p : Part) (m : Piece) : Type 0 where
  pub some_taken : p.taken ≡ [] → ⊥
  pub taken : Ascending 0 (length x) p.taken
  pub some_named : p.named ≡ [] → ⊥
  pub named : Ascending 0 (length d) p.named
  pub few_ties : length p.ties ≤ 96
  pub ends_in : (t : Ref × Ref) → In t m.ties → OfPart m t.0 × OfPart m t.1

-- the parts name standing queries, atoms of theirs and of the heads, and tie terms of the part: these are the pieces
pub data Reads (s : Ledger) (b : List (Atom Term)) : ℕ → List (List (Atom Term)) → List Part → List Piece → Type 0 where
  done : {i : ℕ} → Reads s b i [] [] []
  more : {i : ℕ} {d : List (Atom Term)} {ds : List (List (Atom Term))} {p : Part} {ps : List Part} {ms : List Piece} (x : Query) →
      Stands s p.query x →
      PartFits x d p (piece i b d x p) →
      Reads s b (suc i) ds ps ms → Reads s b i (d ∷ ds) (p ∷ ps) (piece i b d x p ∷ ms)

-- the step is right on the standing queries, and n is its new query
pub record RightStep (s : Ledger) (t : Step) (n : Query) : Type 0 where
  pub rule : Rule
  pub is_rule : nth t.rule s.rules ≡ rule ∷ []
  pub pieces : List Piece
  pub reads : Reads s rule.body 0 rule.heads t.parts pieces
  pub right : Right (Linked (all_ties pieces)) (map bare pieces)
  pub new : NewQuery (Linked (all_ties pieces)) (left rule.body (map bare pieces)) n

-- the limits
pub record Fits (s : Ledger) (n : Query) : Type 0 where
  pub atoms : length n ≤ 16
  pub variables : (k : ℕ) → Occurs (var k) n → k < 32
  pub room : length s.entered < 64

pub record StrikesOut (s : Ledger) (a b : ℕ) : Type 0 where
  pub out : Query
  pub by : Query
  pub a_stands : Stands s a out
  pub b_stands : Stands s b by
  pub differ : a ≡ b → ⊥
  pub maps : Holds by out

-- a step enters n exactly when it is right on standing queries, n is its query and fits
abbrev pub JudgeIsRight : Type 0
JudgeIsRight = (s : Ledger) (t : Step) (n : Query) → (judge s t ≡ enters n) ↔ (RightStep s t n × Fits s n)

abbrev pub StrikeIsRight : Type 0
StrikeIsRight = (s : Ledger) (a b : ℕ) → (judge_strike s a b ≡ strikes) ↔ StrikesOut s a b

-- ---------------------------------------------------------------- what is asked of a ledger

abbrev pub KeepsAll : List Rule → Facts → Type 0
KeepsAll rs l = (x : Rule) → In x rs → Keeps x l

abbrev pub StandingHolds : Ledger → Facts → Type 0
StandingHolds s l = (n : ℕ) × (x : Query) × Stands s n x × Holds x l

abbrev pub OpeningHolds : List Query → Facts → Type 0
OpeningHolds os l = (x : Query) × In x os × Holds x l

-- a query that the step uses holds in the list
abbrev pub UsedHolds : Ledger → Step → Facts → Type 0
UsedHolds s t l = (p : Part) × In p t.parts × (x : Query) × Stands s p.query x × Holds x l

-- where the new query of a right step holds in a list that keeps the step's rule, a query that the step uses holds
abbrev pub StepsAreSound : Type 0
StepsAreSound = (s : Ledger) (t : Step) (n : Query) (r : RightStep s t n) (l : Facts) → Keeps r.rule l → Holds n l → UsedHolds s t l

-- the answer is the lowest number of which P holds, or none
abbrev pub Lowest : {X : Type 0} → (ℕ → X → Type 0) → List X → List ℕ → Type 0
Lowest P xs [] = (n : ℕ) (x : _) → nth n xs ≡ x ∷ [] → P n x → ⊥
Lowest P xs (n ∷ ns) = (ns ≡ []) × ((x : _) × (nth n xs ≡ x ∷ []) × P n x) × ((m : ℕ) (x : _) → m < n → nth m xs ≡ x ∷ [] → P m x → ⊥)

pub record AnswersRight (s : Ledger) (l : Facts) : Type 0 where
  pub standing : Lowest (λ n x. (In n s.struck → ⊥) × Holds x l) s.entered (standing_answer s l)
  pub opening : Lowest (λ n x. Holds x l) s.opening (opening_answer s l)
  pub rules : Lowest (λ n x. Keeps x l → ⊥) s.rules (rule_answer s l)

abbrev pub AnswersAreRight : Type 0
AnswersAreRight = (s : Ledger) (l : Facts) → AnswersRight s l

-- no atom twice
abbrev pub Distinct : Query → Type 0
Distinct x = (i j : ℕ) (a : Atom Term) → nth i x ≡ a ∷ [] → nth j x ≡ a ∷ [] → i ≡ j

-- no atom has more than 4 terms
abbrev pub Narrow : List (Atom Term) → Type 0
Narrow x = (a : Atom Term) → In a x → length (terms (a ∷ [])) ≤ 4

-- what every query is that exists
pub record Proper (x : Query) : Type 0 where
  pub some : x ≡ [] → ⊥
  pub atoms : length x ≤ 16
  pub narrow : Narrow x
  pub distinct : Distinct x
  pub variables : (k : ℕ) → Occurs (var k) x → k < 32
  pub in_order : InOrder 0 (vars (terms x))
