-- The law of the ledger.
use mathlib.Core.Path.{◌≡◌, refl, sym, subst, ◌∙◌}
use mathlib.Core.List.{List, [], ◌∷◌, map}
use mathlib.Core.Logic.{⊎_elim}
use Prim.Native.Nat.{ℕ, ◌≤◌}
use lib.ListN.{length}
use Rattle.notation.specs.Logic.{Term, Atom, terms, In, here, rename}
use Rattle.search.specs.Keeping.{Rule}
use Rattle.rewriting.specs.Computing.{same_atom, same_term}
use Rattle.rewriting.specs.Judging.{Ledger, open_ledger, enter, Call}
use Rattle.rewriting.specs.Rightness.{Reads, RightStep, Fits, Narrow, Proper}
use Rattle.rewriting.specs.Steps.{Query, Ref, Part, Step, Piece, in_rule, in_copy, off_numbers, Unified, bare, left, all_ties, once, Linked}
use Rattle.rewriting.specs.Unifiers.{OneHead}
use Rattle.laws.specs.Law.{Opened, CallsRight, LawHolds}
use Rattle.laws.specs.Runs.{Does, Run}
use Rattle.rewriting.proofs.Entering.{enters_is_unifier}
use Rattle.rewriting.proofs.Judged.{strike_is_right, step_or, strike_or}
use Rattle.rewriting.proofs.Lists.{none_in, in_cases, in_either, of_map, of_each}
use Rattle.rewriting.proofs.NewQueries.{new_is_result}
use Rattle.rewriting.proofs.Nth.{nth_in}
use Rattle.rewriting.proofs.Numbering.{new_in_order}
use Rattle.rewriting.proofs.Questions.{answers_right}
use Rattle.laws.proofs.Derivations.{right_distinct, enter_all}
use Rattle.laws.proofs.Offering.{renamed_length}
use Rattle.laws.proofs.Offers.{off_in}
use Rattle.laws.proofs.Runs.{run_keeps, sound_on_any, same_found}

-- a body has an atom, and so has the new query
some_left : (g : Ref → Term) (b : List (Atom Term)) (us : List Unified) → (b ≡ [] → ⊥) → once (same_atom same_term) [] (map (rename g) (left b us)) ≡ [] → ⊥
some_left g [] us h e = h refl
some_left g (a ∷ b) us h e = none_in (subst (λ (v : List (Atom Term)). In (rename g (rename in_rule a)) v) e (here refl))

-- an atom that is left is an atom of the body or of a standing query, renamed
rest_of : {s : Ledger} {b : List (Atom Term)} {i : ℕ} {ds : List (List (Atom Term))} {ps : List Part} {ms : List Piece} → Reads s b i ds ps ms → ((x : Query) → In x s.entered → Narrow x) →
    (p : Piece) → In p ms → (c : Atom Ref) → In c p.rest → length (terms (c ∷ [])) ≤ 4
rest_of Reads.done h p m c k = absurd (none_in m)
rest_of {s} {b} (Reads.more {i = i} {d = d} {p = o} x st pf rs) h p m c k = ⊎_elim
    (λ e. let r = of_map (rename (in_copy i)) (off_numbers o.taken 0 x) (subst (λ (v : Piece). In c v.rest) e k) in
    subst (λ v. length (terms (v ∷ [])) ≤ 4) (sym r.2) (subst (λ v. v ≤ 4) (sym (renamed_length (in_copy i) (r.0 ∷ []))) (h x (nth_in o.query s.entered st.0) r.0 (off_in o.taken 0 x r.1))))
    (λ e. rest_of rs h p e c k) (in_cases m)

right_narrow : (s : Ledger) (t : Step) (n : Query) → ((u : Rule) → In u s.rules → Narrow u.body) → ((x : Query) → In x s.entered → Narrow x) → RightStep s t n → Narrow n
right_narrow s t n nb nq r a m =
    let us = map bare r.pieces in
    let b = r.rule.body in
    let o = (new_is_result (Linked (all_ties r.pieces)) (left b us) n r.new).only a m in
    subst (λ v. length (terms (v ∷ [])) ≤ 4) (sym o.2) (subst (λ v. v ≤ 4) (sym (renamed_length (new_is_result (Linked (all_ties r.pieces)) (left b us) n r.new).term (o.0 ∷ [])))
    (⊎_elim
    (λ k. let w = of_map (rename in_rule) b k in subst (λ v. length (terms (v ∷ [])) ≤ 4) (sym w.2) (subst (λ v. v ≤ 4) (sym (renamed_length in_rule (w.0 ∷ []))) (nb r.rule (nth_in t.rule s.rules r.is_rule) w.0 w.1)))
    (λ k. let w = of_each (λ (u : Unified). u.rest) us k in let p = of_map bare r.pieces w.1 in
    rest_of r.reads nq p.0 p.1 o.0 (subst (λ (u : Unified). In o.0 u.rest) p.2 w.2))
    (in_either (map (rename in_rule) b) o.1)))

-- what stays right of rules and queries
pub record Fine (s : Ledger) : Type 0 where
  pub bodies : (u : Rule) → In u s.rules → u.body ≡ [] → ⊥
  pub narrow : (u : Rule) → In u s.rules → Narrow u.body
  pub queries : (x : Query) → In x s.entered → Proper x

right_proper : (s : Ledger) (t : Step) (n : Query) → Fine s → RightStep s t n → Fits s n → Proper n
right_proper s t n h r f = record {
  some = λ e. some_left r.new.term r.rule.body (map bare r.pieces) (h.bodies r.rule (nth_in t.rule s.rules r.is_rule)) (sym r.new.atoms ∙ e);
  atoms = f.atoms;
  narrow = right_narrow s t n h.narrow (λ x m. (h.queries x m).narrow) r;
  distinct = right_distinct s t n r;
  variables = f.variables;
  in_order = new_in_order (Linked (all_ties r.pieces)) (left r.rule.body (map bare r.pieces)) n r.new;
}

pub entry_fine : (s : Ledger) (t : Step) (n : Query) → RightStep s t n → Fits s n → Fine s → Fine (enter s n)
entry_fine s t n r f h = record {
  bodies = h.bodies;
  narrow = h.narrow;
  queries = λ x m. ⊎_elim (λ i. h.queries x i) (λ i. ⊎_elim (λ e. subst Proper (sym e) (right_proper s t n h r f)) (λ j. absurd (none_in j)) (in_cases i)) (in_either s.entered m);
}

call_fine : {s u : Ledger} {k : Call} → Does s k u → Fine s → Fine u
call_fine {s} (Does.entry {t = t} n r f) h = entry_fine s t n r f h
call_fine (Does.no_entry x) h = h
call_fine (Does.stroke o) h = record { bodies = h.bodies; narrow = h.narrow; queries = h.queries }
call_fine (Does.no_stroke x) h = h
call_fine Does.standing_asked h = h
call_fine Does.opening_asked h = h
call_fine Does.rules_asked h = h

pub open_fine : (rs : List Rule) (os : List Query) → Opened rs os → Fine (open_ledger rs os)
open_fine rs os op = record { bodies = op.bodies; narrow = op.narrow; queries = op.queries }

run_fine : {s u : Ledger} {ks : List Call} → Run s ks u → Fine s → Fine u
run_fine Run.end h = h
run_fine (Run.then d r) h = run_fine r (call_fine d h)

pub calls_right : (s : Ledger) → ((u : Rule) → In u s.rules → OneHead u) → CallsRight s
calls_right s one = record {
  step_entered = λ t n. enters_is_unifier s t n one;
  step_refused = λ t h. ⊎_elim (λ e. let r = (enters_is_unifier s t e.0 one).0 e.1 in absurd (h e.0 r.0 r.1)) (λ r. r) (step_or s t);
  strike_done = strike_is_right s;
  strike_refused = λ a b h. ⊎_elim (λ e. absurd (h ((strike_is_right s a b).0 e))) (λ r. r) (strike_or s a b);
  answers = answers_right s;
}

pub law_holds : LawHolds
law_holds rs os op ks s run = record {
  rules_stay = (run_keeps run).0;
  opening_stays = (run_keeps run).1;
  standing_finds_what_opening_finds = same_found rs os ks s run;
  calls_right = calls_right s (λ u m. op.one_head u (subst (λ v. In u v) (run_keeps run).0 m));
  what_stands_is_sound = sound_on_any rs os ks s run;
  offered_derivations_are_entered = λ fs d o. enter_all o (record { none_struck = refl; rules_right = op.one_head; distinct = λ x m. (op.queries x m).distinct });
  every_query_is_proper = (run_fine run (open_fine rs os op)).queries;
}
