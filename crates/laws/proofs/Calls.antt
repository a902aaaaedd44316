-- A call does what comes of computing, and nothing else.
use mathlib.Core.Path.{◌≡◌, refl, sym, ap, subst, ◌∙◌}
use mathlib.Core.List.{List, [], ◌∷◌}
use Prim.Native.Nat.{ℕ}
use Rattle.rewriting.specs.Judging.{Ledger, Outcome, enters, strikes, refuses, judge, judge_strike, Call, step, strike, ask_standing, ask_opening, ask_rules, after_step, after_strike, after, after_all}
use Rattle.rewriting.specs.Rightness.{RightStep, Fits, StrikesOut}
use Rattle.rewriting.specs.Steps.{Query, Step}
use Rattle.laws.specs.Runs.{Does, entry, no_entry, stroke, no_stroke, standing_asked, opening_asked, rules_asked, Run, CallsDo, RunsDo}
use Rattle.rewriting.proofs.Judged.{IsEntry, IsStroke, judge_is_right, strike_is_right}

does_after : (s : Ledger) (k : Call) → Does s k (after s k)
does_after s (step t) = go (judge s t) refl
  where
    go : (o : Outcome) → judge s t ≡ o → Does s (step t) (after_step s o)
    go (enters n) e = let r = (judge_is_right s t n).0 e in entry n r.0 r.1
    go strikes e = no_entry (λ n r f. absurd (subst IsEntry (sym ((judge_is_right s t n).1 (r, f)) ∙ e) tt))
    go (refuses k i) e = no_entry (λ n r f. absurd (subst IsEntry (sym ((judge_is_right s t n).1 (r, f)) ∙ e) tt))
does_after s (strike a b) = go (judge_strike s a b) refl
  where
    go : (o : Outcome) → judge_strike s a b ≡ o → Does s (strike a b) (after_strike s a o)
    go (enters n) e = no_stroke (λ r. subst IsStroke (sym ((strike_is_right s a b).1 r) ∙ e) tt)
    go strikes e = stroke ((strike_is_right s a b).0 e)
    go (refuses k i) e = no_stroke (λ r. subst IsStroke (sym ((strike_is_right s a b).1 r) ∙ e) tt)
does_after s (ask_standing l) = standing_asked
does_after s (ask_opening l) = opening_asked
does_after s (ask_rules l) = rules_asked

-- a query that is not entered, and a strike that is not done
not_entered : (s : Ledger) (t : Step) → ((n : Query) → RightStep s t n → Fits s n → ⊥) → after_step s (judge s t) ≡ s
not_entered s t h = go (judge s t) refl
  where
    go : (o : Outcome) → judge s t ≡ o → after_step s o ≡ s
    go (enters n) e = let r = (judge_is_right s t n).0 e in absurd (h n r.0 r.1)
    go strikes e = refl
    go (refuses k i) e = refl

not_struck : (s : Ledger) (a b : ℕ) → (StrikesOut s a b → ⊥) → after_strike s a (judge_strike s a b) ≡ s
not_struck s a b h = go (judge_strike s a b) refl
  where
    go : (o : Outcome) → judge_strike s a b ≡ o → after_strike s a o ≡ s
    go (enters n) e = refl
    go strikes e = absurd (h ((strike_is_right s a b).0 e))
    go (refuses k i) e = refl

after_does : {s u : Ledger} {k : Call} → Does s k u → u ≡ after s k
after_does {s} (entry {t = t} n r f) = ap (after_step s) (sym ((judge_is_right s t n).1 (r, f)))
after_does {s} (no_entry {t = t} h) = sym (not_entered s t h)
after_does {s} (stroke {a = a} {b = b} o) = ap (after_strike s a) (sym ((strike_is_right s a b).1 o))
after_does {s} (no_stroke {a = a} {b = b} h) = sym (not_struck s a b h)
after_does standing_asked = refl
after_does opening_asked = refl
after_does rules_asked = refl

pub calls_do : CallsDo
calls_do s k u = (after_does, λ e. subst (Does s k) (sym e) (does_after s k))

pub run_all : (s : Ledger) (ks : List Call) → Run s ks (after_all s ks)
run_all s [] = Run.end
run_all s (k ∷ ks) = Run.then (does_after s k) (run_all (after s k) ks)

all_run : {s u : Ledger} {ks : List Call} → Run s ks u → u ≡ after_all s ks
all_run Run.end = refl
all_run (Run.then {ks = ks} d r) = all_run r ∙ ap (λ v. after_all v ks) (after_does d)

pub runs_do : RunsDo
runs_do s ks u = (all_run, λ e. subst (Run s ks) (sym e) (run_all s ks))
