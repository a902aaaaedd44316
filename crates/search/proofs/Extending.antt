-- One more atom, over the facts that it may be.
use Rattle.std.proofs.Common.{◌≡◌, ℕ, List, [], ◌∷◌, Option, sym, refl, ⊎_elim, ◌⊎◌, inl, inr, subst}
use Rattle.notation.specs.declared.terms.Term.{Term as WrittenTerm}
use Rattle.notation.specs.declared.terms.Value.{Value}
use Rattle.notation.specs.declared.terms.Atom.{Atom as WrittenAtom}
use Rattle.notation.specs.Logic.{Term, Atom, In, here, there, rename, Facts, query_atom, fact_atom}
use Rattle.search.specs.Holding.{put, Makes}
use Rattle.search.specs.Bindings.{Agrees, Narrowed, Clash, Matches, May, HoldsFrom}
use Rattle.search.proofs.Narrowing.{may_from_matches}
use Rattle.search.proofs.Places.{makes_more}

module _ (Q : (ℕ → Term) → Type 0) (facts : Facts) (a : WrittenAtom WrittenTerm) (rest : List (Atom Term)) (b : List (Option Value)) where
  -- Q holds of each giving that agrees with b, makes a the fact x, and the rest facts
  abbrev pub At : Atom Term → Type 0
  At x = (h : ℕ → Term) → Agrees h b → Makes h rest facts → rename (put h) (query_atom a) ≡ x → Q h

  -- of the facts that a may be these are left, and with each other one Q holds
  pub record Left (left : Facts) : Type 0 where
    pub among : (x : Atom Term) → In x left → In x facts
    pub each : (h : ℕ → Term) → Agrees h b → Makes h rest facts → In (rename (put h) (query_atom a)) facts → In (rename (put h) (query_atom a)) left ⊎ Q h

  pub at_other : (f : WrittenAtom Value) → (May b a f → ⊥) → At (fact_atom f)
  at_other f other h ag made e = absurd (other (may_from_matches a f b h ag e))

  pub at_clash : (f : WrittenAtom Value) → Clash b (Matches a f) → At (fact_atom f)
  at_clash f clash h ag made e = absurd (clash h ag e)

  pub at_below : (f : WrittenAtom Value) (m : List (Option Value)) → Narrowed b (Matches a f) m → ((h : ℕ → Term) → Agrees h m → Makes h rest facts → Q h) → At (fact_atom f)
  at_below f m to below h ag made e = below h (to.forth h ag e) made

  first_or : (x y : Atom Term) (more : Facts) (P : Type 0) → (y ≡ x → P) → In y (x ∷ more) → In y more ⊎ P
  first_or x y more P now (here e) = inr (now e)
  first_or x y more P now (there i) = inl i

  pub left_next : (left more : Facts) (x : Atom Term) → left ≡ x ∷ more → At x → Left left → Left more
  left_next left more x e now some = record {
    among = λ y i. some.among y (subst (In y) (sym e) (there i));
    each = λ h ag made i. ⊎_elim (λ j. first_or x _ more (Q h) (now h ag made) (subst (In _) e j)) inr (some.each h ag made i);
  }

  none_in : (x : Atom Term) (left : Facts) → left ≡ [] → In x left → ⊥
  none_in x left e i = elim (subst (In x) e i) [ ]

  pub left_none : (left : Facts) → left ≡ [] → Left left → (h : ℕ → Term) → Agrees h b → Makes h (query_atom a ∷ rest) facts → Q h
  left_none left e some h ag made =
      ⊎_elim (λ j. absurd (none_in _ left e j)) (λ q. q) (some.each h ag (λ x i. made x (there i)) (made (query_atom a) (here refl)))

  -- the first of those left is a fact
  pub first_left : (left more : Facts) (x : Atom Term) → left ≡ x ∷ more → Left left → In x facts
  first_left left more x e some = some.among x (subst (In x) (sym e) (here refl))

-- the fact makes one more atom hold
pub found : (facts : Facts) (a : WrittenAtom WrittenTerm) (rest : List (Atom Term)) (b : List (Option Value)) (f : WrittenAtom Value) (m : List (Option Value)) → In (fact_atom f) facts → Narrowed b (Matches a f) m → HoldsFrom rest m facts → HoldsFrom (query_atom a ∷ rest) b facts
found facts a rest b f m i to p =
    let h = p.0 in
    let q = to.back h p.1.0 in
    (h, (q.0, makes_more h facts (query_atom a) rest (subst (λ x. In x facts) (sym q.1) i) p.1.1))
