-- What a call does to a ledger, and what a list of calls does.
use Rattle.std.specs.Prelude.{◌≡◌, List, [], ◌∷◌, ◌↔◌, ℕ}
use Rattle.notation.specs.Logic.{Facts}
use Rattle.rewriting.specs.Judging.{Ledger, enter, strike_out, Call, step, strike, ask_standing, ask_opening, ask_rules, after, after_all}
use Rattle.rewriting.specs.Rightness.{RightStep, Fits, StrikesOut}
use Rattle.rewriting.specs.Steps.{Query, Step}

-- a right step that fits enters its query, a strike that is due strikes out, and nothing else changes the ledger
pub data Does (s : Ledger) : Call → Ledger → Type 0 where
  entry : {t : Step} (n : Query) → RightStep s t n → Fits s n → Does s (step t) (enter s n)
  no_entry : {t : Step} → ((n : Query) → RightStep s t n → Fits s n → ⊥) → Does s (step t) s
  stroke : {a b : ℕ} → StrikesOut s a b → Does s (strike a b) (strike_out s a)
  no_stroke : {a b : ℕ} → (StrikesOut s a b → ⊥) → Does s (strike a b) s
  standing_asked : {l : Facts} → Does s (ask_standing l) s
  opening_asked : {l : Facts} → Does s (ask_opening l) s
  rules_asked : {l : Facts} → Does s (ask_rules l) s

-- one call after the other
pub data Run : Ledger → List Call → Ledger → Type 0 where
  end : {s : Ledger} → Run s [] s
  then : {s u v : Ledger} {k : Call} {ks : List Call} → Does s k u → Run u ks v → Run s (k ∷ ks) v

-- what a call does is one thing, and it is what comes of computing; so it is with a list of calls
abbrev pub CallsDo : Type 0
CallsDo = (s : Ledger) (k : Call) (u : Ledger) → Does s k u ↔ (u ≡ after s k)

abbrev pub RunsDo : Type 0
RunsDo = (s : Ledger) (ks : List Call) (u : Ledger) → Run s ks u ↔ (u ≡ after_all s ks)
