-- The atoms that parts leave, one after the other, and drafts of them.
use Rattle.std.proofs.Common.{◌≡◌, ℕ, suc, ◌+◌, ◌<◌, Bool, true, false, cond, List, [], ◌∷◌, ◌++◌, map, length, get_or, take, drop, Some, None, vec_items, sym, refl, ap, ◌∙◌, subst, ap₂, append_assoc, append-nil, arith}
use Rattle.std.proofs.lemmas.List.{map-append, length-map, length-take-le, take_more, take-append-drop}
use Rattle.std.proofs.lemmas.Bool.{cond-true, cond-false}
use Rattle.notation.specs.declared.terms.Term.{Term as WrittenTerm}
use Rattle.notation.specs.declared.terms.Atom.{Atom as WrittenAtom}
use Rattle.notation.specs.Logic.{Atom, rename, query_atom}
use Rattle.rewriting.specs.declared.draft.Draft.{Draft}
use Rattle.queries.specs.declared.row.Row.{Row}
use Rattle.rewriting.specs.declared.steps.Owner.{Owner}
use Rattle.rewriting.specs.declared.steps.Owner.TheVariants as owner
use Rattle.rewriting.specs.declared.steps.Part.{Part as WrittenPart}
use Rattle.rewriting.specs.Drafts.{draft_atoms, draft_names, Drafted, Added, Adds, Told}
use Rattle.rewriting.specs.Judging.{new_query, small}
use Rattle.rewriting.specs.Steps.{Ref, in_rule, in_copy, Part, member, off_numbers}
use Rattle.rewriting.specs.Tables.{Names}
use Rattle.rewriting.specs.Written.{ref_of, logic_atoms, row_at, part_of, untaken_from}
use Rattle.rewriting.proofs.Lists.{none_in}
use Rattle.rewriting.proofs.Growing.{large_stays}
use Rattle.rewriting.proofs.OneMore.{drafted_small}

-- ---------------------------------------------------------------- one addition after the other

module _ (t : List ℕ) where
  pub adds_none : (d : Draft) → Adds true t [] d d
  adds_none d f ls known has = subst (λ v. Drafted f v d) (sym (append-nil ls)) has

  pub adds_then : (r : Bool) (xs ys : List (Atom Ref)) (d e g : Draft) → Adds true t xs d e → Adds r t ys e g → Adds r t (xs ++ ys) d g
  adds_then r xs ys d e g p q f ls known has = subst (λ v. Added r f v g) (append_assoc ls xs ys) (q f (ls ++ xs) known (p f ls known has))

  pub adds_stop : (xs ys : List (Atom Ref)) (d e g : Draft) → Adds false t xs d e → Adds false t (xs ++ ys) d g
  adds_stop xs ys d e g p f ls known has = subst (λ v. small (new_query f v) ≡ false) (append_assoc ls xs ys) (large_stays f (ls ++ xs) ys (p f ls known has))

-- ---------------------------------------------------------------- off the numbers

off_none : {X : Type 0} (i : ℕ) (xs : List X) → off_numbers [] i xs ≡ xs
off_none i [] = refl
off_none i (x ∷ xs) = ap (λ v. x ∷ v) (off_none (suc i) xs)

off_append : {X : Type 0} (ns : List ℕ) (i : ℕ) (xs ys : List X) → off_numbers ns i (xs ++ ys) ≡ off_numbers ns i xs ++ off_numbers ns (i + length xs) ys
off_append ns i [] ys = ap (λ k. off_numbers ns k ys) (same i)
  where
    same : (k : ℕ) → k ≡ k + 0
    same k = omega arith
off_append {X} ns i (x ∷ xs) ys = go (member i ns) (off_append ns (suc i) xs ys ∙ ap (λ k. off_numbers ns (suc i) xs ++ off_numbers ns k ys) (over i (length xs)))
  where
    over : (k m : ℕ) → suc k + m ≡ k + suc m
    over k m = omega arith

    go : (b : Bool) → off_numbers ns (suc i) (xs ++ ys) ≡ off_numbers ns (suc i) xs ++ off_numbers ns (i + suc (length xs)) ys →
        cond b (off_numbers ns (suc i) (xs ++ ys)) (x ∷ off_numbers ns (suc i) (xs ++ ys)) ≡ cond b (off_numbers ns (suc i) xs) (x ∷ off_numbers ns (suc i) xs) ++ off_numbers ns (i + suc (length xs)) ys
    go true e = e
    go false e = ap (λ v. x ∷ v) e

-- the owner's atoms that are not taken
abbrev pub untaken : Owner → List ℕ → List (WrittenAtom WrittenTerm) → List (Atom Ref)
untaken o ns as' = map (rename (ref_of o)) (off_numbers ns 0 (logic_atoms as'))

untaken_append : (o : Owner) (ns : List ℕ) (as' bs : List (WrittenAtom WrittenTerm)) → untaken o ns (as' ++ bs) ≡ untaken o ns as' ++ map (rename (ref_of o)) (off_numbers ns (length as') (logic_atoms bs))
untaken_append o ns as' bs =
    ap (λ v. map (rename (ref_of o)) (off_numbers ns 0 v)) (map-append query_atom as' bs)
    ∙ ap (map (rename (ref_of o))) (off_append ns 0 (logic_atoms as') (logic_atoms bs))
    ∙ map-append (rename (ref_of o)) (off_numbers ns 0 (logic_atoms as')) (off_numbers ns (0 + length (logic_atoms as')) (logic_atoms bs))
    ∙ ap (λ k. untaken o ns as' ++ map (rename (ref_of o)) (off_numbers ns k (logic_atoms bs))) (same (length (logic_atoms as')) ∙ length-map as' query_atom)
  where
    same : (k : ℕ) → 0 + k ≡ k
    same k = omega arith

module _ (o : Owner) (ns : List ℕ) (as' : List (WrittenAtom WrittenTerm)) (j : ℕ) (a : WrittenAtom WrittenTerm) (lt : j < length as') where
  one_more : untaken o ns (take (j + 1) as') ≡ untaken o ns (take j as') ++ map (rename (ref_of o)) (off_numbers ns j (query_atom (get_or as' j a) ∷ []))
  one_more =
      ap (untaken o ns) (take_more as' j a lt)
      ∙ untaken_append o ns (take j as') (get_or as' j a ∷ [])
      ∙ ap (λ k. untaken o ns (take j as') ++ map (rename (ref_of o)) (off_numbers ns k (query_atom (get_or as' j a) ∷ []))) (length-take-le j as' (omega arith))

  pub one_taken : member j ns ≡ true → untaken o ns (take (j + 1) as') ≡ untaken o ns (take j as')
  one_taken e = one_more ∙ ap (λ v. untaken o ns (take j as') ++ map (rename (ref_of o)) v) (cond-true _ _ _ e) ∙ append-nil (untaken o ns (take j as'))

  pub one_left : member j ns ≡ false → untaken o ns (take (j + 1) as') ≡ untaken o ns (take j as') ++ rename (ref_of o) (query_atom (get_or as' j a)) ∷ []
  one_left e = one_more ∙ ap (λ v. untaken o ns (take j as') ++ map (rename (ref_of o)) v) (cond-false _ _ _ e)

-- the first atoms come first
pub untaken_split : (o : Owner) (ns : List ℕ) (as' : List (WrittenAtom WrittenTerm)) (n : ℕ) → (r : List (Atom Ref)) × (untaken o ns as' ≡ untaken o ns (take n as') ++ r)
untaken_split o ns as' n =
    (map (rename (ref_of o)) (off_numbers ns (length (take n as')) (logic_atoms (drop n as'))), ap (untaken o ns) (sym (take-append-drop n as')) ∙ untaken_append o ns (take n as') (drop n as'))

-- ---------------------------------------------------------------- part by part

from_append : (i : ℕ) (rows : List Row) (ps qs : List Part) → untaken_from i rows (ps ++ qs) ≡ untaken_from i rows ps ++ untaken_from (i + length ps) rows qs
from_append i rows [] qs = ap (λ k. untaken_from k rows qs) (same i)
  where
    same : (k : ℕ) → k ≡ k + 0
    same k = omega arith
from_append i rows (p ∷ ps) qs =
    let first = map (rename (in_copy i)) (off_numbers p.taken 0 (logic_atoms (row_at rows p.query))) in
    ap (λ v. first ++ v) (from_append (suc i) rows ps qs ∙ ap (λ k. untaken_from (suc i) rows ps ++ untaken_from k rows qs) (over i (length ps)))
    ∙ sym (append_assoc first (untaken_from (suc i) rows ps) (untaken_from (i + suc (length ps)) rows qs))
  where
    over : (k m : ℕ) → suc k + m ≡ k + suc m
    over k m = omega arith

-- what the first parts leave
abbrev pub parts_left : List Row → List WrittenPart → List (Atom Ref)
parts_left rows ps = untaken_from 0 rows (map part_of ps)

parts_append : (rows : List Row) (ps qs : List WrittenPart) → parts_left rows (ps ++ qs) ≡ parts_left rows ps ++ untaken_from (length ps) rows (map part_of qs)
parts_append rows ps qs =
    ap (untaken_from 0 rows) (map-append part_of ps qs)
    ∙ from_append 0 rows (map part_of ps) (map part_of qs)
    ∙ ap (λ k. parts_left rows ps ++ untaken_from k rows (map part_of qs)) (same (length (map part_of ps)) ∙ length-map ps part_of)
  where
    same : (k : ℕ) → 0 + k ≡ k
    same k = omega arith

-- p is the part with number i
one_part : (rows : List Row) (ps : List WrittenPart) (i : ℕ) (p : WrittenPart) → i < length ps → p ≡ get_or ps i p →
    parts_left rows (take (i + 1) ps) ≡ parts_left rows (take i ps) ++ untaken (owner.Part i) (vec_items p.taken) (row_at rows p.query)
one_part rows ps i p lt is =
    ap (parts_left rows) (take_more ps i p lt ∙ ap (λ (q : WrittenPart). take i ps ++ q ∷ []) (sym is))
    ∙ parts_append rows (take i ps) (p ∷ [])
    ∙ ap (λ k. parts_left rows (take i ps) ++ untaken_from k rows (part_of p ∷ [])) (length-take-le i ps (omega arith))
    ∙ ap (λ v. parts_left rows (take i ps) ++ v) (append-nil (untaken (owner.Part i) (vec_items p.taken) (row_at rows p.query)))

pub parts_split : (rows : List Row) (ps : List WrittenPart) (n : ℕ) → (r : List (Atom Ref)) × (parts_left rows ps ≡ parts_left rows (take n ps) ++ r)
parts_split rows ps n = (untaken_from (length (take n ps)) rows (map part_of (drop n ps)), ap (parts_left rows) (sym (take-append-drop n ps)) ∙ parts_append rows (take n ps) (drop n ps))

pub body_left : (body : List (WrittenAtom WrittenTerm)) → untaken owner.Rule [] body ≡ map (rename in_rule) (logic_atoms body)
body_left body = ap (map (rename in_rule)) (off_none 0 (logic_atoms body))

-- ---------------------------------------------------------------- drafts of what is left

module _ (t : List ℕ) (r : Bool) where
  pub adds_body : (body : List (WrittenAtom WrittenTerm)) (d e : Draft) → Adds r t (untaken owner.Rule [] body) d e → Adds r t (map (rename in_rule) (logic_atoms body)) d e
  adds_body body d e p = subst (λ (v : List (Atom Ref)). Adds r t v d e) (body_left body) p

  -- what was left of the parts before, and then of part i
  pub adds_part : (rows : List Row) (ps : List WrittenPart) (i : ℕ) (p : WrittenPart) (ns : List ℕ) (as' : List (WrittenAtom WrittenTerm)) (d e g : Draft) →
      i < length ps → p ≡ get_or ps i p → ns ≡ vec_items p.taken → as' ≡ row_at rows p.query →
      Adds true t (parts_left rows (take i ps)) d e → Adds r t (untaken (owner.Part i) ns as') e g → Adds r t (parts_left rows (take (i + 1) ps)) d g
  adds_part rows ps i p ns as' d e g lt is taken-are atoms_are before this =
      subst (λ (v : List (Atom Ref)). Adds r t v d g)
      (ap (λ v. parts_left rows (take i ps) ++ v) (ap₂ (untaken (owner.Part i)) taken-are atoms_are) ∙ sym (one_part rows ps i p lt is))
      (adds_then t r (parts_left rows (take i ps)) (untaken (owner.Part i) ns as') d e g before this)

-- from the empty draft
module _ (t : List ℕ) (d : Draft) (no_atoms : draft_atoms d ≡ []) (no_names : draft_names d ≡ []) where
  starts : (f : Ref → Ref) → Drafted f [] d
  starts f = record { within = λ x m. absurd (none_in m); atoms_are = ap logic_atoms no_atoms; names_are = no_names }

  pub told_some : (xs : List (Atom Ref)) (e : Draft) → Adds true t xs d e → (f : Ref → Ref) → Names t f → Told (Some e) (new_query f xs)
  told_some xs e p f known = let has : Drafted f xs e = p f [] known (starts f) in (has.atoms_are, drafted_small f xs e has)

  pub told_none : (xs : List (Atom Ref)) (e : Draft) → Adds false t xs d e → (f : Ref → Ref) → Names t f → Told None (new_query f xs)
  told_none xs e p f known = p f [] known (starts f)
