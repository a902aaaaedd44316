-- Several terms against as many values, and one atom against one fact.
use Rattle.std.proofs.Common.{◌≡◌, ℕ, true, false, Some, None, is_some, List, [], ◌∷◌, map, Option, refl, arith}
use Rattle.std.specs.List.{AllZip}
use Rattle.std.proofs.lemmas.Bool.{true≢false, false≢true}
use Rattle.notation.specs.declared.terms.Term.{Term as WrittenTerm}
use Rattle.notation.specs.declared.terms.Value.{Value}
use Rattle.notation.specs.declared.terms.Atom.{Atom as WrittenAtom}
use Rattle.notation.specs.Logic.{Term, as_term, as_value, terms_of}
use Rattle.search.specs.Holding.{put}
use Rattle.search.specs.Bindings.{Agrees, Narrowed, Clash, Met, Meets, MeetsAll, Matches, Free, May}
use Rattle.search.proofs.Meeting.{free_from_meets}

-- what is met in two steps
pub met_then : {b m : List (Option Value)} {P : (ℕ → Term) → Type 0} (n : List (Option Value)) (r : Option (Unit {0})) (Q R : (ℕ → Term) → Type 0) → ((h : ℕ → Term) → P h → Q h → R h) → ((h : ℕ → Term) → R h → P h × Q h) → Narrowed b P m → Met r m Q n → Met r b R n
met_then n (Some u) Q R join split x y = record {
  back = λ h ag. let q = y.back h ag in let p = x.back h q.0 in (p.0, join h p.1 q.1);
  forth = λ h ag e. let pq = split h e in y.forth h (x.forth h ag pq.0) pq.1;
}
met_then n None Q R join split x y = λ h ag e. let pq = split h e in y h (x.forth h ag pq.0) pq.1

-- the same said otherwise
pub narrowed_like : (b n : List (Option Value)) (P R : (ℕ → Term) → Type 0) → ((h : ℕ → Term) → P h → R h) → ((h : ℕ → Term) → R h → P h) → Narrowed b P n → Narrowed b R n
narrowed_like b n P R to from x = record {
  back = λ h ag. let p = x.back h ag in (p.0, to h p.1);
  forth = λ h ag e. x.forth h ag (from h e);
}

pub met_like : (b n : List (Option Value)) (r : Option (Unit {0})) (P R : (ℕ → Term) → Type 0) → ((h : ℕ → Term) → P h → R h) → ((h : ℕ → Term) → R h → P h) → Met r b P n → Met r b R n
met_like b n (Some u) P R to from x = narrowed_like b n P R to from x
met_like b n None P R to from x = λ h ag e. x h ag (from h e)

-- what was met, and what was not
pub met_some : (b n : List (Option Value)) (r : Option (Unit {0})) (P : (ℕ → Term) → Type 0) → is_some r ≡ true → Met r b P n → Narrowed b P n
met_some b n (Some u) P e x = x
met_some b n None P e x = absurd (false≢true e)

pub met_none : (b n : List (Option Value)) (r : Option (Unit {0})) (P : (ℕ → Term) → Type 0) → is_some r ≡ false → Met r b P n → Clash b P
met_none b n (Some u) P e x = absurd (true≢false e)
met_none b n None P e x = x

each_from : (R S : WrittenTerm → Value → Type 0) → ((t : WrittenTerm) (x : Value) → R t x → S t x) → (ts : List WrittenTerm) (xs : List Value) → AllZip R ts xs → AllZip S ts xs
each_from R S f [] [] e = tt
each_from R S f [] (x ∷ xs) e = absurd e
each_from R S f (t ∷ ts) [] e = absurd e
each_from R S f (t ∷ ts) (x ∷ xs) e = (f t x e.0, each_from R S f ts xs e.1)

-- the terms are the fact's where each is
same_from_meets : (h : ℕ → Term) (ts : List WrittenTerm) (xs : List Value) → MeetsAll ts xs h → map (put h) (map as_term ts) ≡ map as_value xs
same_from_meets h [] [] m = refl
same_from_meets h [] (x ∷ xs) m = absurd m
same_from_meets h (t ∷ ts) [] m = absurd m
same_from_meets h (t ∷ ts) (x ∷ xs) m = let more = same_from_meets h ts xs m.1 in cc

meets_from_same : (h : ℕ → Term) (ts : List WrittenTerm) (xs : List Value) → map (put h) (map as_term ts) ≡ map as_value xs → MeetsAll ts xs h
meets_from_same h [] [] e = tt
meets_from_same h [] (x ∷ xs) e = let z : ◌≡◌ {A = ℕ} 0 1 = cc in omega arith
meets_from_same h (t ∷ ts) [] e = let z : ◌≡◌ {A = ℕ} 0 1 = cc in omega arith
meets_from_same h (t ∷ ts) (x ∷ xs) e = ((cc), meets_from_same h ts xs (cc))

module _ (a : WrittenAtom WrittenTerm) (f : WrittenAtom Value) where
  pub matches_from_meets : (h : ℕ → Term) → a.predicate ≡ f.predicate → MeetsAll (terms_of a.terms) (terms_of f.terms) h → Matches a f h
  matches_from_meets h p m = let e = same_from_meets h (terms_of a.terms) (terms_of f.terms) m in cc

  pub meets_from_matches : (h : ℕ → Term) → Matches a f h → MeetsAll (terms_of a.terms) (terms_of f.terms) h
  meets_from_matches h e = meets_from_same h (terms_of a.terms) (terms_of f.terms) (cc)

  -- an atom that can be the fact may match it
  pub may_from_matches : (b : List (Option Value)) (h : ℕ → Term) → Agrees h b → Matches a f h → May b a f
  may_from_matches b h ag e = ((cc), each_from (λ t x. Meets t x h) (Free b) (λ t x. free_from_meets b t x h ag) (terms_of a.terms) (terms_of f.terms) (meets_from_matches h e))
