-- The atoms of a body, one after another.
use Rattle.std.proofs.Common.{◌≡◌, ℕ, Bool, List, [], ◌∷◌, map, replicate, None, Decides, Option, sym, ◌∙◌, inl, inr, subst}
use Rattle.std.proofs.lemmas.Bool.Decides.{Decides-like}
use Rattle.notation.specs.declared.terms.Term.{Term as WrittenTerm}
use Rattle.notation.specs.declared.terms.Value.{Value}
use Rattle.notation.specs.declared.terms.Atom.{Atom as WrittenAtom}
use Rattle.notation.specs.Logic.{Term, Atom, In, Facts, query_atom, fact_atom}
use Rattle.queries.specs.declared.head.Head.{Head}
use Rattle.search.specs.Bindings.{Agrees, Narrowed, Matches, HoldsFrom}
use Rattle.search.specs.Holding.{Makes}
use Rattle.search.specs.Keeping.{SomeHead, Keeps}
use Rattle.search.specs.Checking.{read_head, SomeFrom, Reaches, Reached, KeepsFrom}
use Rattle.search.proofs.Agreeing.{same_first, agree_rest, agree_more}
use Rattle.search.proofs.Heads.{any_like}
use Rattle.search.proofs.Places.{makes_more}
use Rattle.search.proofs.Starting.{none_left, open_agrees}

module _ (facts : Facts) (heads : List Head) where
  -- where no atom is left, it is the heads that count
  pub keeps_none : (b : List (Option Value)) (r : Bool) → Decides r (SomeFrom heads b facts) → Decides r (KeepsFrom [] heads b facts)
  keeps_none b r d =
      Decides-like r
      (λ some h ag made. any_like (λ d. HoldsFrom (read_head d) b facts) (Reaches [] b facts h) (λ d p. (p.0, (λ n o. elim o [ ]), p.1.0, p.1.1)) heads some)
      (λ keeps.
      let p = none_left facts b in
      any_like (Reaches [] b facts p.0) (λ d. HoldsFrom (read_head d) b facts) (λ d q. (q.0, (q.2, q.3))) heads (keeps p.0 p.1.0 p.1.1))
      d

  module _ (a : WrittenAtom WrittenTerm) (rest : List (Atom Term)) (b : List (Option Value)) (f : WrittenAtom Value) (m : List (Option Value)) (to : Narrowed b (Matches a f) m) where
    -- what the rest of the body reaches, once its first atom is the fact f, the body reaches
    pub reached_more : KeepsFrom rest heads m facts → (h : ℕ → Term) → Agrees h m → Makes h rest facts → Reached (query_atom a ∷ rest) heads b facts h
    reached_more keeps h ag made =
        any_like (Reaches rest m facts h) (Reaches (query_atom a ∷ rest) b facts h)
        (λ d p. let q = to.back p.0 p.2 in (p.0, agree_more h p.0 (query_atom a) rest (q.1 ∙ sym (to.back h ag).1) p.1, q.0, p.3))
        heads (keeps h ag made)

    -- and the other way round
    pub keeps_rest : In (fact_atom f) facts → KeepsFrom (query_atom a ∷ rest) heads b facts → KeepsFrom rest heads m facts
    keeps_rest i keeps h ag made =
        let q = to.back h ag in
        any_like (Reaches (query_atom a ∷ rest) b facts h) (Reaches rest m facts h)
        (λ d p. (p.0, agree_rest h p.0 (query_atom a) rest p.1, to.forth p.0 p.2 (same_first h p.0 (query_atom a) rest p.1 ∙ q.1), p.3))
        heads (keeps h q.0 (makes_more h facts (query_atom a) rest (subst (λ x. In x facts) (sym q.1) i) made))

-- with nothing given, each giving agrees
module _ (facts : Facts) (body : List (Atom Term)) (h : ℕ → Term) (n : ℕ) (b : List (Option Value)) where
  some_from_reached : (heads : List Head) → Reached body heads b facts h → SomeHead body h (map read_head heads) facts
  some_from_reached [] e = e
  some_from_reached (d ∷ ds) (inl p) = inl (p.0, p.1, p.3)
  some_from_reached (d ∷ ds) (inr e) = inr (some_from_reached ds e)

  reached_from_some : b ≡ replicate n None → (heads : List Head) → SomeHead body h (map read_head heads) facts → Reached body heads b facts h
  reached_from_some none [] e = e
  reached_from_some none (d ∷ ds) (inl p) = inl (p.0, p.1, open_agrees n b none p.0, p.2)
  reached_from_some none (d ∷ ds) (inr e) = inr (reached_from_some none ds e)

pub open_keeps : (facts : Facts) (body : List (Atom Term)) (heads : List Head) (n : ℕ) (b : List (Option Value)) (r : Bool) → b ≡ replicate n None → Decides r (KeepsFrom body heads b facts) → Decides r (Keeps (record { body = body; heads = map read_head heads }) facts)
open_keeps facts body heads n b r none d =
    Decides-like r
    (λ keeps h made. some_from_reached facts body h n b heads (keeps h (open_agrees n b none h) made))
    (λ keeps h ag made. reached_from_some facts body h n b none heads (keeps h made))
    d
