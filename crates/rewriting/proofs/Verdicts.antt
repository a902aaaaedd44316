-- What a step whose parts were read comes to.
use Rattle.std.proofs.Common.{◌≡◌, ℕ, suc, ◌<◌, ◌≤◌, Bool, true, false, cond, eqb, ltb, List, [], ◌∷◌, ◌++◌, map, length, get_or, take, sym, refl, ap, ◌∙◌, ap₂, arith}
use lib.ListN.{length-map}
use Rattle.std.proofs.lemmas.Bool.{lt-ltb, le-ltb, eq-eqb, ne_eqb}
use Rattle.std.proofs.lemmas.List.{get_or-map}
use Rattle.notation.specs.Logic.{Term, Atom, rename, query_atom}
use Rattle.queries.specs.Heads.{head_atoms}
use Rattle.queries.specs.Rules.{heads_of}
use Rattle.queries.specs.declared.rule.Rule.{Rule as WrittenRule}
use Rattle.search.specs.Keeping.{Rule}
use Rattle.queries.specs.declared.row.Row.{Row}
use Rattle.rewriting.specs.Classes.{name_in, classes}
use Rattle.rewriting.specs.Computing.{all, each}
use Rattle.rewriting.specs.Judging.{Ledger, refuses, enters, ends, constant_alone, failing, sets_meet, unnamed_right, new_query, small, limits, fitting, verdict, tested, Read, pieces, judge, judge_rule, judge_read}
use Rattle.rewriting.specs.Steps.{Query, Ref, Part, Step, nth, Ties, bare, all_ties, in_rule, in_copy, off_numbers}
use Rattle.rewriting.specs.Tables.{ties_from, part_ties}
use Rattle.rewriting.specs.Written.{logic_atoms, row_at, pieces_from, untaken_from, left_of, rule_meant, Shows}
use Rattle.rewriting.proofs.Nth.{nth_at, nth_past}

-- as many heads as the rule says
pub heads_count : (u : WrittenRule) → length (rule_meant u).heads ≡ length (take u.count u.heads)
heads_count u = length-map (heads_of u) (map query_atom) ∙ length-map (take u.count u.heads) head_atoms

pub ties_are : (b : List (Atom Term)) (rows : List Row) (i : ℕ) (ds : List (List (Atom Term))) (ps : List Part) → length ds ≡ length ps → all_ties (pieces_from b rows i ds ps) ≡ ties_from i ps
ties_are b rows i [] [] e = refl
ties_are b rows i [] (p ∷ ps) e = absurd (omega arith)
ties_are b rows i (d ∷ ds) [] e = absurd (omega arith)
ties_are b rows i (d ∷ ds) (p ∷ ps) e = ap (λ ts. part_ties i p ++ ts) (ties_are b rows (suc i) ds ps (omega arith))

pub untaken_are : (b : List (Atom Term)) (rows : List Row) (i : ℕ) (ds : List (List (Atom Term))) (ps : List Part) → length ds ≡ length ps → each (map bare (pieces_from b rows i ds ps)) (λ u. u.rest) ≡ untaken_from i rows ps
untaken_are b rows i [] [] e = refl
untaken_are b rows i [] (p ∷ ps) e = absurd (omega arith)
untaken_are b rows i (d ∷ ds) [] e = absurd (omega arith)
untaken_are b rows i (d ∷ ds) (p ∷ ps) e = ap (λ xs. map (rename (in_copy i)) (off_numbers p.taken 0 (logic_atoms (row_at rows p.query))) ++ xs) (untaken_are b rows (suc i) ds ps (omega arith))

module _ (s : Ledger) (b : List (Atom Term)) (rows : List Row) (ds : List (List (Atom Term))) (ps : List Part) (same : length ds ≡ length ps) where
  -- x, is and js are what the three conditions came to
  pub judged_is : (x : Bool) (is js : List ℕ) →
      x ≡ all (constant_alone (name_in (classes (ties_from 0 ps)))) (ends (ties_from 0 ps)) →
      is ≡ failing (sets_meet (name_in (classes (ties_from 0 ps)))) 0 (pieces_from b rows 0 ds ps) →
      js ≡ failing (unnamed_right (name_in (classes (ties_from 0 ps))) (ends (ties_from 0 ps))) 0 (pieces_from b rows 0 ds ps) →
      verdict x is js (fitting s (new_query (name_in (classes (ties_from 0 ps))) (left_of b rows ps))) ≡ tested s b (pieces_from b rows 0 ds ps)
  judged_is x is js e1 e2 e3 =
      let ms = pieces_from b rows 0 ds ps in
      ap (λ v. verdict v is js (fitting s (new_query (name_in (classes (ties_from 0 ps))) (left_of b rows ps)))) e1
      ∙ ap₂ (λ v w. verdict (all (constant_alone (name_in (classes (ties_from 0 ps)))) (ends (ties_from 0 ps))) v w (fitting s (new_query (name_in (classes (ties_from 0 ps))) (left_of b rows ps)))) e2 e3
      ∙ ap₂ (λ (ts : Ties) (ls : List (Atom Ref)). verdict (all (constant_alone (name_in (classes ts))) (ends ts)) (failing (sets_meet (name_in (classes ts))) 0 ms) (failing (unnamed_right (name_in (classes ts)) (ends ts)) 0 ms) (fitting s (new_query (name_in (classes ts)) (map (rename in_rule) b ++ ls))))
      (sym (ties_are b rows 0 ds ps same)) (sym (untaken_are b rows 0 ds ps same))

pub too_large : (s : Ledger) (n : Query) → small n ≡ false → refuses 18 0 ≡ fitting s n
too_large s n e = sym (ap (λ v. limits v (ltb (length s.entered) 64) n) e)

pub is_full : (s : Ledger) (n : Query) → small n ≡ true → 64 ≤ length s.entered → refuses 19 0 ≡ fitting s n
is_full s n e h = sym (ap₂ (λ v w. limits v w n) e (le-ltb (length s.entered) 64 h))

pub fits_in_it : (s : Ledger) (n : Query) → small n ≡ true → length s.entered < 64 → enters n ≡ fitting s n
fits_in_it s n e h = sym (ap₂ (λ v w. limits v w n) e (lt-ltb (length s.entered) 64 h))

-- ---------------------------------------------------------------- the rule of a step

-- there is no such rule
pub rule_past : (rules : List WrittenRule) (rows : List Row) (s : Ledger) (t : Step) → Shows rules rows s → length rules ≤ t.rule → refuses 11 0 ≡ judge s t
rule_past rules rows s t sh h =
    let n = length-map rules rule_meant in
    sym (ap (judge_rule s t) (ap (nth t.rule) sh.rules_are ∙ nth_past t.rule (map rule_meant rules) (omega arith)))

-- the rule u has the step's number
rule_there : (rules : List WrittenRule) (rows : List Row) (s : Ledger) (t : Step) (u : WrittenRule) → Shows rules rows s → t.rule < length rules → u ≡ get_or rules t.rule u → nth t.rule s.rules ≡ rule_meant u ∷ []
rule_there rules rows s t u sh h is =
    let n = length-map rules rule_meant in
    ap (nth t.rule) sh.rules_are ∙ nth_at t.rule (map rule_meant rules) (rule_meant u) (omega arith)
    ∙ ap (λ v. v ∷ []) (get_or-map rule_meant rules t.rule u (rule_meant u) h ∙ ap rule_meant (sym is))

by_count : (s : Ledger) (t : Step) (u : Rule) (b : Bool) → eqb (length u.heads) (length t.parts) ≡ b → judge_rule s t (u ∷ []) ≡ cond b (judge_read s u.body (pieces s u.body 0 u.heads t.parts)) (refuses 11 0)
by_count s t u b e = ap (λ v. elim v [ false ↦ refuses 11 0 | true ↦ judge_read s u.body (pieces s u.body 0 u.heads t.parts) ]) e ∙ same b
  where
    same : (v : Bool) → elim v [ false ↦ refuses 11 0 | true ↦ judge_read s u.body (pieces s u.body 0 u.heads t.parts) ] ≡ cond v (judge_read s u.body (pieces s u.body 0 u.heads t.parts)) (refuses 11 0)
    same true = refl
    same false = refl

-- not one part for each head
pub heads_differ : (rules : List WrittenRule) (rows : List Row) (s : Ledger) (t : Step) (u : WrittenRule) → Shows rules rows s → t.rule < length rules → u ≡ get_or rules t.rule u →
    (length (rule_meant u).heads ≡ length t.parts → ⊥) → refuses 11 0 ≡ judge s t
heads_differ rules rows s t u sh h is ne = sym (ap (judge_rule s t) (rule_there rules rows s t u sh h is) ∙ by_count s t (rule_meant u) false (ne_eqb _ _ ne))

-- one part for each head: what is read of the parts decides
pub heads_same : (rules : List WrittenRule) (rows : List Row) (s : Ledger) (t : Step) (u : WrittenRule) → Shows rules rows s → t.rule < length rules → u ≡ get_or rules t.rule u →
    length (rule_meant u).heads ≡ length t.parts → (v : Read) → pieces s (rule_meant u).body 0 (rule_meant u).heads t.parts ≡ v → judge_read s (rule_meant u).body v ≡ judge s t
heads_same rules rows s t u sh h is same v r =
    ap (judge_read s (rule_meant u).body) (sym r) ∙ sym (ap (judge_rule s t) (rule_there rules rows s t u sh h is) ∙ by_count s t (rule_meant u) true (eq-eqb _ _ same))
