-- Terms in range have places.
use Rattle.std.proofs.Common.{◌≡◌, ℕ, zero, suc, ◌<◌, true, ◌&&◌, ◌||◌, T, ltb, leb, List, [], ◌∷◌, map, length, get_or, is_some, sym, refl, ap, ◌∙◌, subst, ⊎_elim, arith}
use Rattle.std.proofs.lemmas.Bool.{and_parts, ltb-true}
use Rattle.notation.specs.declared.terms.Term.{Term as WrittenTerm}
use Rattle.notation.specs.declared.terms.Term.TheVariants as term
use Rattle.notation.specs.declared.terms.Terms.{Terms}
use Rattle.notation.specs.declared.terms.Terms.TheVariants.{One, Two, Three, Four}
use Rattle.notation.specs.declared.terms.Atom.{Atom as WrittenAtom}
use Rattle.notation.specs.Fits.{term_fits, terms_fit, atom_fits}
use Rattle.notation.specs.Logic.{Term, Atom, In, rename, terms, terms_of, as_term}
use Rattle.queries.specs.Checks.{atoms_all_fit, all_terms, fine, distinct, numbered, valid}
use Rattle.queries.specs.RuleChecks.{heads_fine}
use Rattle.rewriting.specs.declared.steps.Owner.{Owner}
use Rattle.rewriting.specs.declared.steps.Owner.TheVariants as owner
use Rattle.queries.specs.declared.row.Row.{Row}
use Rattle.queries.specs.Rows.{row_atoms}
use Rattle.rewriting.specs.Computing.{all}
use Rattle.rewriting.specs.Judging.{has_ref, tie_fits, ties_fit}
use Rattle.rewriting.specs.Steps.{Ref, Part, Piece, piece, at_numbers}
use Rattle.rewriting.specs.Tables.{Within, OwnerWithin, AtomsWithin, TiesWithin, part_ties}
use Rattle.rewriting.specs.Written.{ref_of, logic_atoms, side, row_at, all_valid}
use Rattle.rewriting.proofs.Lists.{none_in, in_cases, in_either, in_map, of_map, at_in, all_at, both_in, or_in, occurs_in}
use Rattle.rewriting.proofs.Apart.{occurs_at}
use Rattle.rewriting.proofs.Judged.{has_in}
use Rattle.rewriting.proofs.Search.{true_T}

pub term_within : (o : Owner) (t : WrittenTerm) → term_fits t ≡ true → OwnerWithin o → Within (ref_of o (as_term t))
term_within owner.Rule (term.Constant k) h w = ltb-true k 1000 h
term_within owner.Rule (term.Variable k) h w = ltb-true k 32 h
term_within (owner.Part i) (term.Constant k) h w = ltb-true k 1000 h
term_within (owner.Part i) (term.Variable k) h w = (w, ltb-true k 32 h)

one_fits : (a t : WrittenTerm) → term_fits a ≡ true → t ≡ a → term_fits t ≡ true
one_fits a t h e = subst (λ v. term_fits v ≡ true) (sym e) h

two_fit : (a b t : WrittenTerm) → (term_fits a && term_fits b) ≡ true → In t (a ∷ b ∷ []) → term_fits t ≡ true
two_fit a b t h m =
    let p = and_parts (term_fits a) (term_fits b) h in
    ⊎_elim (one_fits a t p.0) (λ n. ⊎_elim (one_fits b t p.1) (λ k. absurd (none_in k)) (in_cases n)) (in_cases m)

three_fit : (a b d t : WrittenTerm) → (term_fits a && (term_fits b && term_fits d)) ≡ true → In t (a ∷ b ∷ d ∷ []) → term_fits t ≡ true
three_fit a b d t h m =
    let p = and_parts (term_fits a) (term_fits b && term_fits d) h in
    ⊎_elim (one_fits a t p.0) (λ n. two_fit b d t p.1 n) (in_cases m)

-- each of the terms
pub terms_fitting : (ts : Terms WrittenTerm) → terms_fit term_fits ts ≡ true → (t : WrittenTerm) → In t (terms_of ts) → term_fits t ≡ true
terms_fitting (One a) h t m = ⊎_elim (one_fits a t h) (λ n. absurd (none_in n)) (in_cases m)
terms_fitting (Two a b) h t m = two_fit a b t h m
terms_fitting (Three a b d) h t m = three_fit a b d t h m
terms_fitting (Four a b d e) h t m =
    let p = and_parts (term_fits a) (term_fits b && (term_fits d && term_fits e)) h in
    ⊎_elim (one_fits a t p.0) (λ n. three_fit b d e t p.1 n) (in_cases m)

-- the first atom, and the others
pub fit_parts : (a : WrittenAtom WrittenTerm) (as' : List (WrittenAtom WrittenTerm)) → atoms_all_fit (a ∷ as') ≡ true → (atom_fits term_fits a ≡ true) × (atoms_all_fit as' ≡ true)
fit_parts a as' h = and_parts (atom_fits term_fits a) (atoms_all_fit as') h

-- the terms of an atom in range
pub atom_terms_fit : (a : WrittenAtom WrittenTerm) → atom_fits term_fits a ≡ true → terms_fit term_fits a.terms ≡ true
atom_terms_fit a h = (and_parts (ltb a.predicate 32) (terms_fit term_fits a.terms) h).1

-- each term of atoms in range, as an owner has them, has a place
pub atoms_within : (o : Owner) (as' : List (WrittenAtom WrittenTerm)) → atoms_all_fit as' ≡ true → OwnerWithin o → AtomsWithin (map (rename (ref_of o)) (logic_atoms as'))
atoms_within o [] h w x m = absurd (none_in m)
atoms_within o (a ∷ as') h w x m =
    let p = fit_parts a as' h in
    ⊎_elim
    (λ n.
    let u = of_map (ref_of o) (map as_term (terms_of a.terms)) n in
    let v = of_map as_term (terms_of a.terms) u.1 in
    subst Within (sym (u.2 ∙ ap (ref_of o) v.2)) (term_within o v.0 (terms_fitting a.terms (atom_terms_fit a p.0) v.0 v.1) w))
    (λ n. atoms_within o as' p.1 w x n)
    (in_either (map (ref_of o) (map as_term (terms_of a.terms))) m)

-- the atom at a place
pub fits_at : (as' : List (WrittenAtom WrittenTerm)) (j : ℕ) (d : WrittenAtom WrittenTerm) → atoms_all_fit as' ≡ true → j < length as' → atom_fits term_fits (get_or as' j d) ≡ true
fits_at [] j d h l = absurd (omega arith)
fits_at (a ∷ as') zero d h l = (fit_parts a as' h).0
fits_at (a ∷ as') (suc j) d h l = fits_at as' j d (fit_parts a as' h).1 (omega arith)

-- atoms that are fine are in range
pub fine_fits : (most : ℕ) (as' : List (WrittenAtom WrittenTerm)) → fine most as' ≡ true → atoms_all_fit as' ≡ true
fine_fits most as' h =
    let p = (and_parts (leb 1 (length as') && leb (length as') most) (atoms_all_fit as' && distinct as') h).1 in
    (and_parts (atoms_all_fit as') (distinct as') p).0

-- a query is in range, and so is what a row has
pub valid_fits : (as' : List (WrittenAtom WrittenTerm)) → valid as' ≡ true → atoms_all_fit as' ≡ true
valid_fits as' h =
    let p = (and_parts (fine 16 as') (is_some (numbered 0 0 0 (all_terms as'))) h).0 in
    fine_fits 16 as' p

pub row_fits : (rows : List Row) (k : ℕ) → all_valid rows ≡ true → atoms_all_fit (row_at rows k) ≡ true
row_fits [] k h = refl
row_fits (w ∷ ws) zero h = valid_fits (row_atoms w) (and_parts (valid (row_atoms w)) (all_valid ws) h).0
row_fits (w ∷ ws) (suc k) h = row_fits ws k (and_parts (valid (row_atoms w)) (all_valid ws) h).1

-- each head of a rule is in range
pub head_fits : (hs : List (List (WrittenAtom WrittenTerm))) (i : ℕ) → heads_fine hs ≡ true → atoms_all_fit (get_or hs i []) ≡ true
head_fits [] i h = refl
head_fits (d ∷ hs) zero h = fine_fits 4 d (and_parts (fine 4 d) (heads_fine hs) h).0
head_fits (d ∷ hs) (suc i) h = head_fits hs i (and_parts (fine 4 d) (heads_fine hs) h).1

-- the terms of an owner's atoms at some numbers
pub side_within : (o : Owner) (ns : List ℕ) (as' : List (WrittenAtom WrittenTerm)) → atoms_all_fit as' ≡ true → OwnerWithin o → AtomsWithin (side o ns 0 as')
side_within o ns as' h w x m =
    let r = occurs_at (side o ns 0 as') m in
    let u = of_map (rename (ref_of o)) (at_numbers ns 0 (logic_atoms as')) r.1 in
    atoms_within o as' h w x (occurs_in r.0 (subst (λ v. In v (map (rename (ref_of o)) (logic_atoms as'))) (sym u.2) (in_map (rename (ref_of o)) (at_in ns 0 (logic_atoms as') u.1))) r.2)

-- both ends of each tie of a part that is read have a place
pub ties_within : (i : ℕ) (b : List (Atom Term)) (d qu : List (WrittenAtom WrittenTerm)) (p : Part) → i < 4 → atoms_all_fit d ≡ true → atoms_all_fit qu ≡ true →
    ties_fit p (piece i b (logic_atoms d) (logic_atoms qu) p) ≡ true → TiesWithin (part_ties i p)
ties_within i b d qu p w hd hq h t m =
    let mm : Piece = piece i b (logic_atoms d) (logic_atoms qu) p in
    let a = (and_parts (leb (length p.ties) 96) (all (tie_fits mm) (part_ties i p)) h).1 in
    let e = all_at (tie_fits mm) (true_T a) m in
    let ends = both_in (has_ref t.0 mm.taken || has_ref t.0 mm.named) (has_ref t.1 mm.taken || has_ref t.1 mm.named) e in
    (one t.0 ends.0, one t.1 ends.1)
  where
    one : (x : Ref) → T (has_ref x (piece i b (logic_atoms d) (logic_atoms qu) p).taken || has_ref x (piece i b (logic_atoms d) (logic_atoms qu) p).named) → Within x
    one x e = ⊎_elim
        (λ k. side_within (owner.Part i) p.taken qu hq w x (has_in x (terms (side (owner.Part i) p.taken 0 qu)) k))
        (λ k. side_within owner.Rule p.named d hd tt x (has_in x (terms (side owner.Rule p.named 0 d)) k))
        (or_in (has_ref x (piece i b (logic_atoms d) (logic_atoms qu) p).taken) (has_ref x (piece i b (logic_atoms d) (logic_atoms qu) p).named) e)
