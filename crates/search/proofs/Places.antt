-- Places of a list, and givings that make each atom a fact.
use Rattle.std.proofs.Common.{◌≡◌, ℕ, zero, suc, List, [], ◌∷◌, Some, sym, ap, subst, arith}
use Rattle.std.specs.List.{slice_get}
use Rattle.notation.specs.Logic.{Term, Atom, In, here, there, rename, Facts}
use Rattle.search.specs.Holding.{put, Makes}

pub place_from_in : {X : Type 0} (x : X) (xs : List X) → In x xs → (k : ℕ) × (slice_get xs k ≡ Some x)
place_from_in x [] i = elim i [ ]
place_from_in x (y ∷ ys) (here e) = (0, ap Some (sym e))
place_from_in x (y ∷ ys) (there i) = let p = place_from_in x ys i in (suc p.0, p.1)

pub in_from_place : {X : Type 0} (x : X) (xs : List X) (k : ℕ) → slice_get xs k ≡ Some x → In x xs
in_from_place x [] k e = absurd (let z : ◌≡◌ {A = ℕ} 0 1 = cc in omega arith)
in_from_place x (y ∷ ys) zero e = here (cc)
in_from_place x (y ∷ ys) (suc k) e = there (in_from_place x ys k e)

pub makes_none : (h : ℕ → Term) (facts : Facts) → Makes h [] facts
makes_none h facts a i = elim i [ ]

pub makes_more : (h : ℕ → Term) (facts : Facts) (a : Atom Term) (rest : List (Atom Term)) → In (rename (put h) a) facts → Makes h rest facts → Makes h (a ∷ rest) facts
makes_more h facts a rest i m x (here e) = subst (λ y. In (rename (put h) y) facts) (sym e) i
makes_more h facts a rest i m x (there j) = m x j
