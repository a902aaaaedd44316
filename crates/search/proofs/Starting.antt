-- Where the search begins and where it ends.
use Rattle.std.proofs.Common.{◌≡◌, ℕ, zero, suc, ◌-◌, ◌≤◌, Bool, true, List, [], ◌∷◌, length, get_or, take, drop, replicate, Some, None, Decides, Option, sym, refl, ap, ◌∙◌, arith}
use Rattle.std.proofs.lemmas.List.{drop_more, take_rest}
use Rattle.std.proofs.lemmas.Bool.{and_parts}
use Rattle.std.proofs.lemmas.Bool.Decides.{Decides-like}
use Rattle.notation.specs.declared.terms.Term.{Term as WrittenTerm}
use Rattle.notation.specs.declared.terms.Term.TheVariants.{Constant}
use Rattle.notation.specs.declared.terms.Value.{Value}
use Rattle.notation.specs.declared.terms.Terms.TheVariants.{One}
use Rattle.notation.specs.declared.terms.Atom.{Atom as WrittenAtom}
use Rattle.notation.specs.Logic.{Term, Atom, con, as_value, Facts}
use Rattle.search.specs.Fitting.{slots_fit, variables_fit}
use Rattle.search.specs.Holding.{Holds}
use Rattle.search.specs.Bindings.{Agrees, HoldsFrom}
use Rattle.search.proofs.Places.{makes_none}

-- the first atom of a query and the others, as the checker reads them
abbrev pub first : List (WrittenAtom WrittenTerm) → WrittenAtom WrittenTerm
first q = get_or q 0 (record { predicate = 0; terms = One (Constant 0) })

abbrev pub others : List (WrittenAtom WrittenTerm) → List (WrittenAtom WrittenTerm)
others q = take (length q - 1) (drop 1 q)

pub first_others : (q : List (WrittenAtom WrittenTerm)) → 1 ≤ length q → q ≡ first q ∷ others q
first_others q l = drop_more q 0 _ (omega arith) ∙ ap (λ more. first q ∷ more) (sym (take_rest q 1))

pub first_fits : (q : List (WrittenAtom WrittenTerm)) → 1 ≤ length q → variables_fit q ≡ true → slots_fit (first q) ≡ true
first_fits q l fit = (and_parts _ _ (ap variables_fit (sym (first_others q l)) ∙ fit)).0

pub others_fit : (q : List (WrittenAtom WrittenTerm)) → 1 ≤ length q → variables_fit q ≡ true → variables_fit (others q) ≡ true
others_fit q l fit = (and_parts _ _ (ap variables_fit (sym (first_others q l)) ∙ fit)).1

-- each binding has a giving that agrees with it
value_or : Option Value → Term
value_or (Some x) = as_value x
value_or None = con 0

pub none_left : (facts : Facts) (b : List (Option Value)) → HoldsFrom [] b facts
unfolding value_or
none_left facts b = ((λ v. value_or (get_or b v None)), ((λ v x e. ap value_or e), makes_none _ facts))

-- with nothing given, any giving agrees
open_at : (n v : ℕ) → get_or (replicate {A = Option Value} n None) v None ≡ None
open_at zero v = refl
open_at (suc n) zero = refl
open_at (suc n) (suc v) = open_at n v

pub open_agrees : (n : ℕ) (b : List (Option Value)) → b ≡ replicate n None → (h : ℕ → Term) → Agrees h b
open_agrees n b none h v x e = let o = open_at n v in cc

pub open_start : (facts : Facts) (q : List (Atom Term)) (n : ℕ) (b : List (Option Value)) (r : Bool) → b ≡ replicate n None → Decides r (HoldsFrom q b facts) → Decides r (Holds q facts)
open_start facts q n b r none d = Decides-like r (λ p. (p.0, p.1.1)) (λ p. (p.0, (open_agrees n b none p.0, p.1))) d
