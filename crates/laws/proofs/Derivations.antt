-- Published derivations are entered.
use mathlib.Core.Path.{◌≡◌, refl, sym, ap, subst, ◌∙◌}
use mathlib.Core.List.{List, [], map}
use mathlib.Core.Logic.{⊎_elim}
use Prim.Native.Nat.{ℕ}
use Rattle.notation.specs.Logic.{In}
use Rattle.search.specs.Keeping.{Rule}
use Rattle.rewriting.specs.Judging.{Ledger, enter, Call, step, strike, after_step}
use Rattle.rewriting.specs.Rightness.{RightStep, StrikesOut, Distinct}
use Rattle.rewriting.specs.Steps.{Query, Step, bare, left, all_ties, Linked}
use Rattle.rewriting.specs.Unifiers.{OneHead}
use Rattle.laws.specs.Derivations.{Family, Numbers, Offers, Entered}
use Rattle.laws.specs.Runs.{Does}
use Rattle.rewriting.proofs.Judged.{judge_is_right}
use Rattle.rewriting.proofs.Lists.{none_in, in_cases, in_either}
use Rattle.rewriting.proofs.NewQueries.{new_distinct}
use Rattle.rewriting.proofs.Nth.{nth_in}
use Rattle.laws.proofs.Calls.{calls_do}
use Rattle.laws.proofs.Offers.{step_right}

-- nothing is struck
pub record Stood (s : Ledger) : Type 0 where
  pub none_struck : s.struck ≡ []
  pub rules_right : (u : Rule) → In u s.rules → OneHead u
  pub distinct : (x : Query) → In x s.entered → Distinct x

pub right_distinct : (s : Ledger) (t : Step) (n : Query) → RightStep s t n → Distinct n
right_distinct s t n r = new_distinct (Linked (all_ties r.pieces)) (left r.rule.body (map bare r.pieces)) n r.new

pub stood_entry : (s : Ledger) (t : Step) (n : Query) → RightStep s t n → Stood s → Stood (enter s n)
stood_entry s t n r st = record {
  none_struck = st.none_struck;
  rules_right = st.rules_right;
  distinct = λ x m. ⊎_elim (λ i. st.distinct x i) (λ i. ⊎_elim (λ e. subst Distinct (sym e) (right_distinct s t n r)) (λ j. absurd (none_in j)) (in_cases i)) (in_either s.entered m);
}

stood_other : {s u : Ledger} {k : Call} → Does s k u → ((a b : ℕ) → k ≡ strike a b → StrikesOut s a b → ⊥) → Stood s → Stood u
stood_other {s} (Does.entry {t = t} n r f) h st = stood_entry s t n r st
stood_other (Does.no_entry x) h st = st
stood_other (Does.stroke {a = a} {b = b} o) h st = absurd (h a b refl o)
stood_other (Does.no_stroke x) h st = st
stood_other Does.standing_asked h st = st
stood_other Does.opening_asked h st = st
stood_other Does.rules_asked h st = st

pub enter_all : {s : Ledger} {kn : Numbers} {ks : List Call} {fs : List Family} (o : Offers s kn ks fs) → Stood s → Entered o
enter_all Offers.end st = tt
enter_all (Offers.other h d o) st = enter_all o (stood_other d h st)
enter_all (Offers.next {s = s} {u = u} {kn = kn} {t = t} {f = f} so fit d o) st =
    let r = step_right s kn f t (st.rules_right f.rule (nth_in t.rule s.rules so.is_rule)) st.none_struck st.distinct so in
    let e : u ≡ enter s r.0 = (calls_do s (step t) u).0 d ∙ ap (after_step s) ((judge_is_right s t r.0).1 (r.1, fit r.0 r.1)) in
    ((r.0, r.2, e), enter_all o (subst Stood (sym e) (stood_entry s t r.0 r.1 st)))
