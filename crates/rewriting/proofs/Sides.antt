-- A turn of a loop over an owner's atoms at some numbers.
use Rattle.std.proofs.Common.{◌≡◌, ℕ, suc, ◌+◌, ◌<◌, Bool, true, false, cond, ◌&&◌, ◌||◌, eqb, List, [], ◌∷◌, map, length, get_or, drop, sym, refl, ap, ◌∙◌, ap₂, add-one}
use Rattle.std.specs.List.{list_any, enumerate_from}
use Rattle.std.proofs.lemmas.List.{at_drop_more}
use Rattle.std.proofs.lemmas.Bool.{cond-true, cond-false}
use Rattle.notation.specs.declared.terms.Term.{Term as WrittenTerm}
use Rattle.notation.specs.declared.terms.Term.TheVariants as term
use Rattle.notation.specs.declared.terms.Terms.TheVariants.{One}
use Rattle.notation.specs.declared.terms.Atom.{Atom as WrittenAtom}
use Rattle.notation.specs.Logic.{Term, Atom, rename, terms, terms_of, as_term, query_atom}
use Rattle.rewriting.specs.declared.steps.Owner.{Owner}
use Rattle.notation.specs.declared.terms.End.TheVariants as end_variant
use Rattle.notation.specs.declared.terms.Tie.{Tie}
use Rattle.rewriting.specs.Computing.{any, all}
use Rattle.rewriting.specs.Classes.{same_ref}
use Rattle.rewriting.specs.Judging.{has_ref}
use Rattle.rewriting.specs.Steps.{Ref, member, at_numbers}
use Rattle.rewriting.proofs.Turns.{any_append, member_is}
use Rattle.rewriting.specs.Written.{ref_of, logic_atoms, side, named_side}

-- what is read past the end
abbrev pub no_atom : WrittenAtom WrittenTerm
no_atom = record { predicate = 0; terms = One (term.Constant 0) }

abbrev pub no_tie : Tie
no_tie = record { left = end_variant.Constant 0; right = end_variant.Constant 0 }

-- an atom that is not at one of the numbers is passed over
pub skip : (o : Owner) (ns : List ℕ) (as' : List (WrittenAtom WrittenTerm)) (j : ℕ) (d : WrittenAtom WrittenTerm) → j < length as' → member j ns ≡ false →
    side o ns j (drop j as') ≡ side o ns (j + 1) (drop (j + 1) as')
skip o ns as' j d h e =
    at_drop_more (side o ns j) as' j d h
    ∙ ap (map (rename (ref_of o))) (cond-false (member j ns) (query_atom (get_or as' j d) ∷ at_numbers ns (suc j) (logic_atoms (drop (j + 1) as'))) (at_numbers ns (suc j) (logic_atoms (drop (j + 1) as'))) e)
    ∙ ap (λ k. side o ns k (drop (j + 1) as')) (sym (add-one j))

-- one that is comes first
pub pick : (o : Owner) (ns : List ℕ) (as' : List (WrittenAtom WrittenTerm)) (j : ℕ) (d : WrittenAtom WrittenTerm) → j < length as' → member j ns ≡ true →
    side o ns j (drop j as') ≡ rename (ref_of o) (query_atom (get_or as' j d)) ∷ side o ns (j + 1) (drop (j + 1) as')
pick o ns as' j d h e =
    at_drop_more (side o ns j) as' j d h
    ∙ ap (map (rename (ref_of o))) (cond-true (member j ns) (query_atom (get_or as' j d) ∷ at_numbers ns (suc j) (logic_atoms (drop (j + 1) as'))) (at_numbers ns (suc j) (logic_atoms (drop (j + 1) as'))) e)
    ∙ ap (λ k. rename (ref_of o) (query_atom (get_or as' j d)) ∷ side o ns k (drop (j + 1) as')) (sym (add-one j))

-- whether a term of the atoms at the numbers is x
pub has_at : (x : Ref) (o : Owner) (ns : List ℕ) (i : ℕ) (as' : List (WrittenAtom WrittenTerm)) →
    list_any (λ (p : ℕ × WrittenAtom WrittenTerm). list_any (λ y. eqb y p.0) ns && any (same_ref x) (map (ref_of o) (map as_term (terms_of p.1.terms)))) (enumerate_from i as')
    ≡ has_ref x (side o ns i as')
has_at x o ns i [] = refl
has_at x o ns i (a ∷ as') =
    ap₂ (λ b r. (b && any (same_ref x) refs) || r) (member_is ns i) (has_at x o ns (i + 1) as' ∙ ap (λ k. has_ref x (side o ns k as')) (add-one i)) ∙ kept (member i ns)
  where
    refs : List Ref
    refs = map (ref_of o) (map as_term (terms_of a.terms))

    more : List (Atom Term)
    more = at_numbers ns (suc i) (logic_atoms as')

    kept : (b : Bool) → ((b && any (same_ref x) refs) || has_ref x (map (rename (ref_of o)) more)) ≡ has_ref x (map (rename (ref_of o)) (cond b (query_atom a ∷ more) more))
    kept true = sym (any_append (same_ref x) refs (terms (map (rename (ref_of o)) more)))
    kept false = refl

pub side_skip : (f : Ref → Ref) (o : Owner) (ns : List ℕ) (as' : List (WrittenAtom WrittenTerm)) (j : ℕ) (d : WrittenAtom WrittenTerm) → j < length as' → member j ns ≡ false →
    named_side f o ns j (drop j as') ≡ named_side f o ns (j + 1) (drop (j + 1) as')
side_skip f o ns as' j d h e = ap (map (rename f)) (skip o ns as' j d h e)

side_take : (f : Ref → Ref) (o : Owner) (ns : List ℕ) (as' : List (WrittenAtom WrittenTerm)) (j : ℕ) (d : WrittenAtom WrittenTerm) → j < length as' → member j ns ≡ true →
    named_side f o ns j (drop j as') ≡ rename f (rename (ref_of o) (query_atom (get_or as' j d))) ∷ named_side f o ns (j + 1) (drop (j + 1) as')
side_take f o ns as' j d h e = ap (map (rename f)) (pick o ns as' j d h e)

-- r is what was answered for the atom
pub any_side : (f : Ref → Ref) (P : Atom Ref → Bool) (o : Owner) (ns : List ℕ) (as' : List (WrittenAtom WrittenTerm)) (j : ℕ) (d : WrittenAtom WrittenTerm) (r : Bool) → j < length as' → member j ns ≡ true →
    r ≡ P (rename f (rename (ref_of o) (query_atom (get_or as' j d)))) → any P (named_side f o ns j (drop j as')) ≡ (r || any P (named_side f o ns (j + 1) (drop (j + 1) as')))
any_side f P o ns as' j d r h e is = ap (any P) (side_take f o ns as' j d h e) ∙ ap (λ b. b || any P (named_side f o ns (j + 1) (drop (j + 1) as'))) (sym is)

pub all_side : (f : Ref → Ref) (P : Atom Ref → Bool) (o : Owner) (ns : List ℕ) (as' : List (WrittenAtom WrittenTerm)) (j : ℕ) (d : WrittenAtom WrittenTerm) (r : Bool) → j < length as' → member j ns ≡ true →
    r ≡ P (rename f (rename (ref_of o) (query_atom (get_or as' j d)))) → all P (named_side f o ns j (drop j as')) ≡ (r && all P (named_side f o ns (j + 1) (drop (j + 1) as')))
all_side f P o ns as' j d r h e is = ap (all P) (side_take f o ns as' j d h e) ∙ ap (λ b. b && all P (named_side f o ns (j + 1) (drop (j + 1) as'))) (sym is)
