-- Derivations as they are published, and what it is that a list of calls offers one.
use Rattle.std.specs.Prelude.{◌≡◌, List, [], ◌∷◌, map, cond, ◌↔◌, ℕ, suc, length}
use Rattle.notation.specs.Logic.{Term, Atom, In, rename}
use Rattle.search.specs.Keeping.{Rule}
use Rattle.rewriting.specs.Computing.{any, same_atom, same_term}
use Rattle.rewriting.specs.Judging.{Ledger, enter, Call, step, strike}
use Rattle.rewriting.specs.Rightness.{OfPart, PartFits, RightStep, Fits, StrikesOut}
use Rattle.rewriting.specs.Steps.{Query, Ref, fixed, own, copy, in_rule, in_copy, Unified, Part, Step, Piece, piece, nth, at_numbers, unnamed_of, all_ties, Linked, left}
use Rattle.rewriting.specs.Unifiers.{Joined, DisjunctivePieceUnifier, Result, relabel, Renames, Alike}
use Rattle.laws.specs.Runs.{Does}

-- ---------------------------------------------------------------- published derivations

-- what is used for one head: a query, and the atoms of it and of the head that are unified
pub record Use : Type 0 where
  pub query : Query
  pub taken : List (Atom Term)
  pub named : List (Atom Term)

-- the atoms of the query that are not taken
abbrev pub minus : List (Atom Term) → Query → Query
minus t [] = []
minus t (a ∷ x) = let more = minus t x in cond (any (same_atom same_term a) t) more (a ∷ more)

-- the same with variables of its own: those of the copy for head i
abbrev pub use_part : ℕ → List (Atom Term) → List (Atom Term) → Use → Unified
use_part i b d w = record {
  head = i;
  taken = map (rename (in_copy i)) w.taken;
  rest = map (rename (in_copy i)) (minus w.taken w.query);
  named = map (rename in_rule) w.named;
  unnamed = unnamed_of b d;
}

-- each head has a use, whose atoms are atoms of its query and of the head
pub data UsesOf (b : List (Atom Term)) : ℕ → List (List (Atom Term)) → List Use → List Unified → Type 0 where
  done : {i : ℕ} → UsesOf b i [] [] []
  more : {i : ℕ} {d : List (Atom Term)} {ds : List (List (Atom Term))} {w : Use} {ws : List Use} {us : List Unified} →
      ((a : Atom Term) → In a w.taken → In a w.query) →
      ((a : Atom Term) → In a w.named → In a d) →
      UsesOf b (suc i) ds ws us → UsesOf b i (d ∷ ds) (w ∷ ws) (use_part i b d w ∷ us)

-- one piece-unifier for each head of a rule with an admissible join, and the result: one step of a derivation
pub record Family : Type 0 where
  pub rule : Rule
  pub uses : List Use
  pub parts : List Unified
  pub uses_of : UsesOf rule.body 0 rule.heads uses parts
  pub partition : ℕ → Ref → Ref
  pub unifier : DisjunctivePieceUnifier parts partition
  pub result : Query
  pub is_result : Result (Joined parts partition) (left rule.body parts) result

-- each family uses a rule of rs, and queries of xs and results of earlier families
pub data Derivation (rs : List Rule) : List Query → List Family → Type 0 where
  done : {xs : List Query} → Derivation rs xs []
  more : {xs : List Query} {fs : List Family} (f : Family) → In f.rule rs → ((w : Use) → In w f.uses → In w.query xs) →
      Derivation rs (f.result ∷ xs) fs → Derivation rs xs (f ∷ fs)

-- ---------------------------------------------------------------- how a list of calls offers one

-- published queries with their numbers in the ledger
abbrev pub Numbers : Type 0
Numbers = List (Query × ℕ)

abbrev pub numbered_from : ℕ → List Query → Numbers
numbered_from i [] = []
numbered_from i (x ∷ xs) = (x, i) ∷ numbered_from (suc i) xs

-- the parts say in the ledger's numbers and names what the uses say:
-- in part i `to i` gives the ledger's names of variables, and `back i` the published ones
pub data PartsOffer (s : Ledger) (kn : Numbers) (to back : ℕ → ℕ → ℕ) (b : List (Atom Term)) : ℕ → List (List (Atom Term)) → List Use → List Part → List Piece → Type 0 where
  done : {i : ℕ} → PartsOffer s kn to back b i [] [] [] []
  more : {i : ℕ} {d : List (Atom Term)} {ds : List (List (Atom Term))} {w : Use} {ws : List Use} {p : Part} {ps : List Part} {ms : List Piece} (x : Query) →
      In (w.query, p.query) kn → nth p.query s.entered ≡ x ∷ [] → Renames (to i) (back i) w.query x →
      PartFits x d p (piece i b d x p) →
      ((a : Atom Term) → In a w.taken → In (rename (relabel (to i)) a) (at_numbers p.taken 0 x)) →
      ((a : Atom Term) → In a (at_numbers p.taken 0 x) → In (rename (relabel (back i)) a) w.taken) →
      ((a : Atom Term) → In a w.named ↔ In a (at_numbers p.named 0 d)) →
      PartsOffer s kn to back b (suc i) ds ws ps ms → PartsOffer s kn to back b i (d ∷ ds) (w ∷ ws) (p ∷ ps) (piece i b d x p ∷ ms)

-- a term of the step, by its published name
abbrev pub published : (ℕ → ℕ → ℕ) → Ref → Ref
published back (fixed k) = fixed k
published back (own k) = own k
published back (copy i k) = copy i (back i k)

-- a term of some part
abbrev pub OfParts : List Piece → Ref → Type 0
OfParts ms x = (p : Piece) × In p ms × OfPart p x

-- the step says what the family says
pub record StepOffers (s : Ledger) (kn : Numbers) (f : Family) (t : Step) : Type 0 where
  pub is_rule : nth t.rule s.rules ≡ f.rule ∷ []
  pub to : ℕ → ℕ → ℕ
  pub back : ℕ → ℕ → ℕ
  pub pieces : List Piece
  pub parts_offer : PartsOffer s kn to back f.rule.body 0 f.rule.heads f.uses t.parts pieces
  -- the ties make the classes those of the join
  pub classes : (x y : Ref) → OfParts pieces x → OfParts pieces y →
      Linked (all_ties pieces) x y ↔ Joined f.parts f.partition (published back x) (published back y)

-- the calls offer the families in their order, among other calls, with no strike done before the last; what a family's
-- step gives is not too large, and the ledger is not full; the result then goes by the number that the step takes
pub data Offers : Ledger → Numbers → List Call → List Family → Type 0 where
  end : {s : Ledger} {kn : Numbers} {ks : List Call} → Offers s kn ks []
  other : {s u : Ledger} {kn : Numbers} {k : Call} {ks : List Call} {f : Family} {fs : List Family} →
      ((a b : ℕ) → k ≡ strike a b → StrikesOut s a b → ⊥) → Does s k u →
      Offers u kn ks (f ∷ fs) → Offers s kn (k ∷ ks) (f ∷ fs)
  next : {s u : Ledger} {kn : Numbers} {t : Step} {ks : List Call} {f : Family} {fs : List Family} →
      StepOffers s kn f t → ((n : Query) → RightStep s t n → Fits s n) → Does s (step t) u →
      Offers u ((f.result, length s.entered) ∷ kn) ks fs → Offers s kn (step t ∷ ks) (f ∷ fs)

-- each of these steps enters a query, and it is the family's result up to the names of variables and the order of atoms
abbrev pub Entered : {s : Ledger} {kn : Numbers} {ks : List Call} {fs : List Family} → Offers s kn ks fs → Type 0
Entered Offers.end = Unit {0}
Entered (Offers.other h d o) = Entered o
Entered (Offers.next {s = s} {u = u} {f = f} so fit d o) = ((n : Query) × Alike f.result n × (u ≡ enter s n)) × Entered o
