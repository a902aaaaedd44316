-- A turn of each loop over the parts of a step.
use Rattle.std.proofs.Common.{◌≡◌, ℕ, zero, suc, ◌+◌, ◌<◌, ◌≤◌, Bool, true, cond, List, [], ◌∷◌, map, length, get_or, drop, Option, Some, None, sym, refl, ap, ◌∙◌, subst, ap₂, ⊎_elim, add-one, arith}
use lib.ListN.{length-map}
use Rattle.std.proofs.lemmas.List.{at_drop_more, at_drop_all, get_or-map}
use Rattle.queries.specs.Rules.{heads_of}
use Rattle.notation.specs.declared.terms.Term.{Term as WrittenTerm}
use Rattle.notation.specs.declared.terms.Atom.{Atom as WrittenAtom}
use Rattle.notation.specs.Logic.{Term, Atom, query_atom}
use Rattle.queries.specs.declared.row.Row.{Row}
use Rattle.rewriting.specs.declared.pieces.Piece.{Piece as WrittenPiece}
use Rattle.rewriting.specs.declared.piecewise.Pieces.{Pieces}
use Rattle.rewriting.specs.declared.proposals.Proposal.{Proposal}
use Rattle.rewriting.specs.declared.steps.Part.{Part as WrittenPart}
use Rattle.rewriting.specs.Judging.{failing, Ledger, Read, read, refused, part_read, part_tested, pieces, standing}
use Rattle.rewriting.specs.Pieces.{piece_of}
use Rattle.rewriting.specs.Proposals.{rule_of, parts_of, PieceAt, GivesPiece}
use Rattle.rewriting.specs.Steps.{Query, Part, Piece, piece, nth}
use Rattle.rewriting.specs.Tables.{TiesWithin, part_ties, ties_from}
use Rattle.rewriting.specs.Written.{logic_atoms, part_of, row_at, row_standing, pieces_from}
use Rattle.rewriting.proofs.Lists.{none_in, in_either}

-- the atoms of a head
pub head_is : (hs : List (List (WrittenAtom WrittenTerm))) (i : ℕ) → logic_atoms (get_or hs i []) ≡ get_or (map (map query_atom) hs) i []
head_is [] i = refl
head_is (d ∷ hs) zero = refl
head_is (d ∷ hs) (suc i) = head_is hs i

-- a part at a place
pub part_is : (ws : List WrittenPart) (i : ℕ) (w : WrittenPart) → i < length ws → w ≡ get_or ws i w → part_of w ≡ get_or (map part_of ws) i (part_of w)
part_is ws i w l is = ap part_of is ∙ sym (get_or-map part_of ws i w (part_of w) l)

-- a piece at its place
pub piece_is : (q : WrittenPiece) (rows : List Row) (i : ℕ) (b : List (Atom Term)) → q.number ≡ i → q.query.now ≡ row_at rows q.part.now.query →
    piece_of b q ≡ piece i b (logic_atoms q.head.now) (logic_atoms (row_at rows q.part.now.query)) (part_of q.part.now)
piece_is q rows i b number query = ap₂ (λ (k : ℕ) (qu : List (WrittenAtom WrittenTerm)). piece k b (logic_atoms q.head.now) (logic_atoms qu) (part_of q.part.now)) number query

-- a list from a place on, the element there first
drop_first : {X : Type 0} (xs : List X) (i : ℕ) (d : X) → i < length xs → drop i xs ≡ get_or xs i d ∷ drop (i + 1) xs
drop_first xs i d h = at_drop_more (λ v. v) xs i d h

-- the pieces from part i on
pub pieces_more : (b : List (Atom Term)) (rows : List Row) (ds : List (List (Atom Term))) (ps : List Part) (i : ℕ) (d : List (Atom Term)) (p : Part) → i < length ds → i < length ps → d ≡ get_or ds i [] → p ≡ get_or ps i p →
    pieces_from b rows i (drop i ds) (drop i ps) ≡ piece i b d (logic_atoms (row_at rows p.query)) p ∷ pieces_from b rows (i + 1) (drop (i + 1) ds) (drop (i + 1) ps)
pieces_more b rows ds ps i d p hd hp ed ep =
    ap₂ (pieces_from b rows i) (drop_first ds i [] hd ∙ ap (λ v. v ∷ drop (i + 1) ds) (sym ed)) (drop_first ps i p hp ∙ ap (λ v. v ∷ drop (i + 1) ps) (sym ep))
    ∙ ap (λ k. piece i b d (logic_atoms (row_at rows p.query)) p ∷ pieces_from b rows k (drop (i + 1) ds) (drop (i + 1) ps)) (sym (add-one i))

-- r is what was answered for part i
pub fail_more : (g : Piece → Bool) (b : List (Atom Term)) (rows : List Row) (ds : List (List (Atom Term))) (ps : List Part) (i : ℕ) (d : List (Atom Term)) (p : Part) (r : Bool) → i < length ds → i < length ps → d ≡ get_or ds i [] → p ≡ get_or ps i p →
    r ≡ g (piece i b d (logic_atoms (row_at rows p.query)) p) →
    cond r (failing g (i + 1) (pieces_from b rows (i + 1) (drop (i + 1) ds) (drop (i + 1) ps))) (i ∷ []) ≡ failing g i (pieces_from b rows i (drop i ds) (drop i ps))
fail_more g b rows ds ps i d p r hd hp ed ep is =
    ap₂ (λ (k : ℕ) (c : Bool). cond c (failing g k (pieces_from b rows (i + 1) (drop (i + 1) ds) (drop (i + 1) ps))) (i ∷ [])) (add-one i) is
    ∙ sym (ap (failing g i) (pieces_more b rows ds ps i d p hd hp ed ep))

-- what was answered for the pieces from i on
abbrev pub Rest : (Piece → Bool) → List (Atom Term) → Proposal → ℕ → List ℕ
Rest g b s i = failing g i (pieces_from b s.rows.now i (drop i (rule_of s).heads) (drop i (parts_of s)))

-- r is what was answered for the proposal's piece i
pub fail_piece : (g : Piece → Bool) (b : List (Atom Term)) (s : Proposal) (i : ℕ) (q : WrittenPiece) (r : Bool) → PieceAt s i q → r ≡ g (piece_of b q) → cond r (Rest g b s (i + 1)) (i ∷ []) ≡ Rest g b s i
fail_piece g b s i q r at is =
    let n = length-map s.parts.now part_of in
    let pairs = s.paired in
    let lt = at.below in
    fail_more g b s.rows.now (rule_of s).heads (parts_of s) i (logic_atoms q.head.now) (part_of q.part.now) r (omega arith) (omega arith)
    (ap logic_atoms at.head ∙ head_is (heads_of s.rule.now) i) (part_is s.parts.now i q.part.now lt at.part) (is ∙ ap g (piece_is q s.rows.now i b at.number at.query))

-- the piece that came is the proposal's next one
pub came : (s : Proposal) (a e : Pieces) (r : Option WrittenPiece) (q : WrittenPiece) → a.proposal ≡ s → r ≡ Some q → GivesPiece a r e → PieceAt s a.next q × (e.next ≡ a.next + 1) × (e.proposal ≡ s)
came s a e r q of is gives = let m = gives.more q is in (subst (λ p. PieceAt p a.next q) of m.0, m.1, gives.same ∙ of)

-- and none came after its last
pub ended : (s : Proposal) (a e : Pieces) (r : Option WrittenPiece) → a.proposal ≡ s → r ≡ None → GivesPiece a r e → length s.parts.now ≤ a.next
ended s a e r of is gives = subst (λ (p : Proposal). length p.parts.now ≤ a.next) of (gives.end is)

-- after the last part
pub pieces_all : (b : List (Atom Term)) (rows : List Row) (ds : List (List (Atom Term))) (ps : List Part) (i : ℕ) → length ds ≤ i → pieces_from b rows i (drop i ds) (drop i ps) ≡ []
pieces_all b rows ds ps i h = at_drop_all (λ v. pieces_from b rows i v (drop i ps)) ds i h

-- ---------------------------------------------------------------- reading

-- what is read from part i on decides the whole: a refusal of it, or its pieces
abbrev pub Leads : Ledger → List (Atom Term) → List Row → List (List (Atom Term)) → List Part → ℕ → Type 0
Leads s b rows ds ps i =
    ((k j : ℕ) → pieces s b i (drop i ds) (drop i ps) ≡ refused k j → pieces s b 0 ds ps ≡ refused k j)
    × (pieces s b i (drop i ds) (drop i ps) ≡ read (pieces_from b rows i (drop i ds) (drop i ps)) → pieces s b 0 ds ps ≡ read (pieces_from b rows 0 ds ps))

pub leads_none : (s : Ledger) (b : List (Atom Term)) (rows : List Row) (ds : List (List (Atom Term))) (ps : List Part) → Leads s b rows ds ps 0
leads_none s b rows ds ps = (λ k j e. e, λ e. e)

abbrev Standing : Ledger → List Row → Type 0
Standing s rows = (k : ℕ) → standing s k ≡ row_standing (nth k rows)

module _ (s : Ledger) (b : List (Atom Term)) (rows : List Row) (ds : List (List (Atom Term))) (ps : List Part) (i : ℕ) (d : List (Atom Term)) (p : Part)
    (st : Standing s rows) (hd : i < length ds) (hp : i < length ps) (ed : d ≡ get_or ds i []) (ep : p ≡ get_or ps i p) where
  step : pieces s b i (drop i ds) (drop i ps) ≡ part_read i b d p (row_standing (nth p.query rows)) (pieces s b (i + 1) (drop (i + 1) ds) (drop (i + 1) ps))
  step =
      ap₂ (pieces s b i) (drop_first ds i [] hd ∙ ap (λ v. v ∷ drop (i + 1) ds) (sym ed)) (drop_first ps i p hp ∙ ap (λ v. v ∷ drop (i + 1) ps) (sym ep))
      ∙ ap₂ (λ (xs : List Query) (k : ℕ). part_read i b d p xs (pieces s b k (drop (i + 1) ds) (drop (i + 1) ps))) (st p.query) (sym (add-one i))

  pub leads_more : ((rest : Read) → part_read i b d p (row_standing (nth p.query rows)) rest ≡ part_tested true true i (piece i b d (logic_atoms (row_at rows p.query)) p) rest) → Leads s b rows ds ps i → Leads s b rows ds ps (i + 1)
  leads_more is l =
      let m : Piece = piece i b d (logic_atoms (row_at rows p.query)) p in
      let here = step ∙ is (pieces s b (i + 1) (drop (i + 1) ds) (drop (i + 1) ps)) in (
        λ k j e. l.0 k j (here ∙ ap (part_tested true true i m) e),
        λ e. l.1 (here ∙ ap (part_tested true true i m) e ∙ ap read (sym (pieces_more b rows ds ps i d p hd hp ed ep))),
      )

  pub leads_refused : (k j : ℕ) → ((rest : Read) → part_read i b d p (row_standing (nth p.query rows)) rest ≡ refused k j) → Leads s b rows ds ps i → pieces s b 0 ds ps ≡ refused k j
  leads_refused k j is l = l.0 k j (step ∙ is (pieces s b (i + 1) (drop (i + 1) ds) (drop (i + 1) ps)))

pub leads_all : (s : Ledger) (b : List (Atom Term)) (rows : List Row) (ds : List (List (Atom Term))) (ps : List Part) (i : ℕ) → length ds ≤ i → length ps ≤ i → Leads s b rows ds ps i → pieces s b 0 ds ps ≡ read (pieces_from b rows 0 ds ps)
leads_all s b rows ds ps i hd hp l =
    l.1 (at_drop_all (λ v. pieces s b i v (drop i ps)) ds i hd ∙ at_drop_all (λ v. pieces s b i [] v) ps i hp ∙ ap read (sym (pieces_all b rows ds ps i hd)))

-- ---------------------------------------------------------------- the ties of the parts that were read

abbrev pub no_part : Part
no_part = record { query = 0; taken = []; named = []; ties = [] }

pub ties_all : (i : ℕ) (ps : List Part) → ((j : ℕ) → j < length ps → TiesWithin (part_ties (j + i) (get_or ps j no_part))) → TiesWithin (ties_from i ps)
ties_all i [] h t m = absurd (none_in m)
ties_all i (p ∷ ps) h t m = ⊎_elim
    (λ n. subst (λ k. TiesWithin (part_ties k p)) (omega arith) (h 0 (omega arith)) t n)
    (λ n. ties_all (suc i) ps (λ j l. subst (λ k. TiesWithin (part_ties k (get_or ps j no_part))) (omega arith) (h (suc j) (omega arith))) t n)
    (in_either (part_ties i p) m)
