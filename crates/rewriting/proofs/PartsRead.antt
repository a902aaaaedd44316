-- A part against the row that it names.
use Rattle.std.proofs.Common.{◌≡◌, ℕ, Bool, true, false, ◌&&◌, List, [], ◌∷◌, length, refl, ap, ◌∙◌, ap₂}
use lib.ListN.{length-map}
use Rattle.std.proofs.lemmas.Bool.{cond-true, cond-false, false≢true}
use Rattle.notation.specs.declared.terms.Term.{Term as WrittenTerm}
use Rattle.notation.specs.declared.terms.Atom.{Atom as WrittenAtom}
use Rattle.notation.specs.Logic.{Term, Atom, query_atom}
use Rattle.queries.specs.declared.row.Row.{Row}
use Rattle.queries.specs.Rows.{row_atoms}
use Rattle.rewriting.specs.Judging.{Read, part_read, part_tested, numbers_fit, ties_fit}
use Rattle.rewriting.specs.Steps.{Query, Part, piece}
use Rattle.rewriting.specs.Written.{logic_atoms, first_atoms, first_stands, row_standing}

-- the query of a row that stands
pub standing_is : (ws : List Row) → first_stands ws ≡ true → row_standing ws ≡ logic_atoms (first_atoms ws) ∷ []
standing_is [] h = absurd (false≢true h)
standing_is (w ∷ ws) h = cond-true w.standing (logic_atoms (row_atoms w) ∷ []) [] h

pub none_stands : (ws : List Row) → first_stands ws ≡ false → row_standing ws ≡ []
none_stands [] h = refl
none_stands (w ∷ ws) h = cond-false w.standing (logic_atoms (row_atoms w) ∷ []) [] h

-- the tests of a part whose query stands
pub read_is : (i : ℕ) (b : List (Atom Term)) (d : List (WrittenAtom WrittenTerm)) (p : Part) (ws : List Row) (rest : Read) (v w : Bool) → first_stands ws ≡ true →
    (numbers_fit (length (first_atoms ws)) p.taken && numbers_fit (length d) p.named) ≡ v →
    ties_fit p (piece i b (logic_atoms d) (logic_atoms (first_atoms ws)) p) ≡ w →
    part_read i b (logic_atoms d) p (row_standing ws) rest ≡ part_tested v w i (piece i b (logic_atoms d) (logic_atoms (first_atoms ws)) p) rest
read_is i b d p ws rest v w st e f =
    ap (λ (xs : List Query). part_read i b (logic_atoms d) p xs rest) (standing_is ws st)
    ∙ ap₂ (λ (n m : ℕ). part_tested (numbers_fit n p.taken && numbers_fit m p.named) (ties_fit p (piece i b (logic_atoms d) (logic_atoms (first_atoms ws)) p)) i (piece i b (logic_atoms d) (logic_atoms (first_atoms ws)) p) rest)
    (length-map (first_atoms ws) query_atom) (length-map d query_atom)
    ∙ ap₂ (λ (x y : Bool). part_tested x y i (piece i b (logic_atoms d) (logic_atoms (first_atoms ws)) p) rest) e f
