-- A variable at any position is one of the 32.
use Rattle.std.proofs.Common.{◌≡◌, ℕ, zero, suc, true, List, [], ◌∷◌, Some}
use Rattle.std.specs.List.{AllByRecursion as All, slice_get}
use Rattle.std.proofs.lemmas.Bool.{and_parts}
use Rattle.notation.specs.declared.terms.Term.{Term}
use Rattle.notation.specs.declared.terms.Terms.{Terms}
use Rattle.notation.specs.declared.terms.Terms.TheVariants.{One, Two, Three, Four}
use Rattle.notation.specs.Fits.{terms_fit}
use Rattle.notation.specs.Logic.{terms_of}
use Rattle.search.specs.Fitting.{slot_fits}

each_fits : (ts : Terms Term) → terms_fit slot_fits ts ≡ true → All (λ t. slot_fits t ≡ true) (terms_of ts)
each_fits (One a) f = (f, tt)
each_fits (Two a b) f = let p = and_parts _ _ f in (p.0, (p.1, tt))
each_fits (Three a b d) f = let p = and_parts _ _ f in let q = and_parts _ _ p.1 in (p.0, (q.0, (q.1, tt)))
each_fits (Four a b d e) f =
    let p = and_parts _ _ f in
    let q = and_parts _ _ p.1 in
    let r = and_parts _ _ q.1 in
    (p.0, (q.0, (r.0, (r.1, tt))))

all_nth : (ts : List Term) (k : ℕ) (t : Term) → All (λ u. slot_fits u ≡ true) ts → slice_get ts k ≡ Some t → slot_fits t ≡ true
all_nth [] k t all e = cc
all_nth (u ∷ ts) zero t all e = cc
all_nth (u ∷ ts) (suc k) t all e = all_nth ts k t all.1 e

pub fits_at : (ts : Terms Term) (k : ℕ) (t : Term) → terms_fit slot_fits ts ≡ true → slice_get (terms_of ts) k ≡ Some t → slot_fits t ≡ true
fits_at ts k t f e = all_nth (terms_of ts) k t (each_fits ts f) e
