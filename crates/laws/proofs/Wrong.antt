-- Wrong ledgers break the law.
use mathlib.Core.Path.{◌≡◌, sym, ap, subst, ◌∙◌}
use mathlib.Core.List.{List, [], ◌∷◌, ◌++◌}
use mathlib.Core.Bool.{Bool, true, false, not}
use Prim.Native.Nat.{ℕ, suc}
use native.Mathlib.Omega.{arith}
use lib.Dec.{T}
use lib.ListN.{length}
use Rattle.notation.specs.Logic.{con, In}
use Rattle.search.specs.Holding.{Holds}
use Rattle.search.specs.Keeping.{Keeps}
use Rattle.rewriting.specs.Examples.{p1}
use Rattle.rewriting.specs.Judging.{Ledger, enter, strike_out, step, strike, after_step, after_strike}
use Rattle.rewriting.specs.Rightness.{Lowest}
use Rattle.laws.specs.Runs.{Does}
use Rattle.laws.specs.Wrong.{WrongLedgersBreak}
use Rattle.rewriting.proofs.Judged.{judge_is_right, strike_is_right}
use Rattle.rewriting.proofs.Lists.{none_in}
use Rattle.rewriting.proofs.Numbering.{snoc_length}
use Rattle.laws.proofs.Calls.{calls_do}

not_same : (b c : Bool) → b ≡ c → T b → T (not c) → ⊥
not_same true false e t u = subst T e tt
not_same true true e t u = u
not_same false c e t u = t

longer : {X : Type 0} (x : X) (xs : List X) → xs ++ x ∷ [] ≡ xs → ⊥
longer x xs e = up (length xs) (sym (snoc_length x xs) ∙ ap length e)
  where
    up : (k : ℕ) → suc k ≡ k → ⊥
    up k h = omega arith

same_last : {X : Type 0} (x y : X) (xs : List X) → xs ++ x ∷ [] ≡ xs ++ y ∷ [] → x ≡ y
same_last x y [] e = cc
same_last x y (z ∷ xs) e = same_last x y xs (tail z (xs ++ x ∷ []) (xs ++ y ∷ []) e)
  where
    tail : {X : Type 0} (z : X) (us vs : List X) → z ∷ us ≡ z ∷ vs → us ≡ vs
    tail z us vs h = cc

self : {X : Type 0} (x : X) (xs : List X) → x ∷ xs ≡ xs → ⊥
self x xs e = up (length xs) (ap length e)
  where
    up : (k : ℕ) → suc k ≡ k → ⊥
    up k h = omega arith

pub wrong_ledgers_break : WrongLedgersBreak
wrong_ledgers_break = record {
  entered_what_no_step_gives = λ ks h. not_same true false (h.standing_finds_what_opening_finds (p1 3 (con 0) ∷ []) (λ x m. absurd (none_in m))) tt tt;
  struck_what_stood_alone = λ ks h. not_same true false (sym (h.standing_finds_what_opening_finds (p1 1 (con 0) ∷ []) (λ x m. absurd (none_in m)))) tt tt;
  refused_a_right_step = λ s t n r f d. longer n s.entered (sym (ap (λ (v : Ledger). v.entered) ((calls_do s (step t) s).0 d ∙ ap (after_step s) ((judge_is_right s t n).1 (r, f)))));
  entered_another_query = λ s t n m r f d. same_last m n s.entered (ap (λ (v : Ledger). v.entered) ((calls_do s (step t) (enter s m)).0 d ∙ ap (after_step s) ((judge_is_right s t n).1 (r, f))));
  entered_without_a_right_step = λ s t n h d. longer n s.entered (ap (λ (v : Ledger). v.entered) ((calls_do s (step t) (enter s n)).0 d ∙ sym ((calls_do s (step t) s).0 (Does.no_entry (λ m r f. h m r)))));
  refused_a_due_strike = λ s a b o d. self a s.struck (sym (ap (λ (v : Ledger). v.struck) ((calls_do s (strike a b) s).0 d ∙ ap (after_strike s a) ((strike_is_right s a b).1 o))));
  struck_when_not_due = λ s a b h d. self a s.struck (ap (λ (v : Ledger). v.struck) ((calls_do s (strike a b) (strike_out s a)).0 d ∙ sym ((calls_do s (strike a b) s).0 (Does.no_stroke h))));
  found_none_though_one_holds = λ s l n x h st o e. (subst (λ v. Lowest (λ n x. (In n s.struck → ⊥) × Holds x l) s.entered v) e h.standing) n x st.0 (st.1, o);
  said_kept_though_one_is_not = λ s l n x h i o e. (subst (λ v. Lowest (λ n x. Keeps x l → ⊥) s.rules v) e h.rules) n x i o;
}
