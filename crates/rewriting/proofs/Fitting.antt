-- What a part names and ties, by tests.
use Rattle.std.proofs.Common.{◌≡◌, ℕ, suc, ◌&&◌, ◌||◌, T, ltb, leb, List, [], ◌∷◌, length, sym, refl, subst, inl, inr, ⊎_elim, le→leb, ltb→lt, lt→ltb, leb→le}
use Rattle.notation.specs.Logic.{Term, Atom, In, here, terms}
use Rattle.rewriting.specs.Classes.{same_ref}
use Rattle.rewriting.specs.Computing.{any, all}
use Rattle.rewriting.specs.Judging.{rising, numbers_fit, has_ref, tie_fits, ties_fit}
use Rattle.rewriting.specs.Rightness.{Ascending, OfPart, PartFits}
use Rattle.rewriting.specs.Steps.{Ref, Part, Piece}
use Rattle.rewriting.proofs.Lists.{both_in, both_of, or_in, or_left, or_right, none_in, ref_eq, ref_refl, any_in, any_of, all_at}
use Rattle.rewriting.proofs.Search.{all_of}

rising_in : (lo hi : ℕ) (ns : List ℕ) → T (rising lo hi ns) → Ascending lo hi ns
rising_in lo hi [] t = tt
rising_in lo hi (n ∷ ns) t =
    let a = both_in (leb lo n) (ltb n hi && rising (suc n) hi ns) t in
    let b = both_in (ltb n hi) (rising (suc n) hi ns) a.1 in
    (leb→le lo n a.0, ltb→lt n hi b.0, rising_in (suc n) hi ns b.1)

rising_of : (lo hi : ℕ) (ns : List ℕ) → Ascending lo hi ns → T (rising lo hi ns)
rising_of lo hi [] h = tt
rising_of lo hi (n ∷ ns) h = both_of (leb lo n) (ltb n hi && rising (suc n) hi ns) (le→leb lo n h.0) (both_of (ltb n hi) (rising (suc n) hi ns) (lt→ltb n hi h.1) (rising_of (suc n) hi ns h.2))

fit_in : (hi : ℕ) (ns : List ℕ) → T (numbers_fit hi ns) → (ns ≡ [] → ⊥) × Ascending 0 hi ns
fit_in hi [] t = absurd t
fit_in hi (n ∷ ns) t = (λ e. none_in (subst (λ (v : List ℕ). In n v) e (here refl)), rising_in 0 hi (n ∷ ns) t)

fit_of : (hi : ℕ) (ns : List ℕ) → (ns ≡ [] → ⊥) → Ascending 0 hi ns → T (numbers_fit hi ns)
fit_of hi [] n h = absurd (n refl)
fit_of hi (n ∷ ns) m h = rising_of 0 hi (n ∷ ns) h

part_in : (m : Piece) (y : Ref) → T (has_ref y m.taken || has_ref y m.named) → OfPart m y
part_in m y t = ⊎_elim (λ a. inl (got (terms m.taken) a)) (λ a. inr (got (terms m.named) a)) (or_in (has_ref y m.taken) (has_ref y m.named) t)
  where
    got : (xs : List Ref) → T (any (same_ref y) xs) → In y xs
    got xs a = let r = any_in (same_ref y) xs a in subst (λ v. In v xs) (sym (ref_eq y r.0 r.2)) r.1

part_of : (m : Piece) (y : Ref) → OfPart m y → T (has_ref y m.taken || has_ref y m.named)
part_of m y (inl a) = or_left (has_ref y m.taken) (has_ref y m.named) (any_of (same_ref y) a (ref_refl y))
part_of m y (inr a) = or_right (has_ref y m.taken) (has_ref y m.named) (any_of (same_ref y) a (ref_refl y))

pub tests_in : (x d : List (Atom Term)) (p : Part) (m : Piece) → T (numbers_fit (length x) p.taken && numbers_fit (length d) p.named) → T (ties_fit p m) → PartFits x d p m
tests_in x d p m n t =
    let a = both_in (numbers_fit (length x) p.taken) (numbers_fit (length d) p.named) n in
    let u = fit_in (length x) p.taken a.0 in
    let v = fit_in (length d) p.named a.1 in
    let b = both_in (leb (length p.ties) 96) (all (tie_fits m) m.ties) t in
    record {
      some_taken = u.0;
      taken = u.1;
      some_named = v.0;
      named = v.1;
      few_ties = leb→le (length p.ties) 96 b.0;
      ends_in = λ e i. let w = both_in (has_ref e.0 m.taken || has_ref e.0 m.named) (has_ref e.1 m.taken || has_ref e.1 m.named) (all_at (tie_fits m) b.1 i) in (part_in m e.0 w.0, part_in m e.1 w.1);
    }

pub tests_of : (x d : List (Atom Term)) (p : Part) (m : Piece) → PartFits x d p m → T (numbers_fit (length x) p.taken && numbers_fit (length d) p.named) × T (ties_fit p m)
tests_of x d p m f = (
  both_of (numbers_fit (length x) p.taken) (numbers_fit (length d) p.named) (fit_of (length x) p.taken f.some_taken f.taken) (fit_of (length d) p.named f.some_named f.named),
  both_of (leb (length p.ties) 96) (all (tie_fits m) m.ties) (le→leb (length p.ties) 96 f.few_ties)
      (all_of (tie_fits m) m.ties (λ e i. let w = f.ends_in e i in
      both_of (has_ref e.0 m.taken || has_ref e.0 m.named) (has_ref e.1 m.taken || has_ref e.1 m.named) (part_of m e.0 w.0) (part_of m e.1 w.1))),
)
