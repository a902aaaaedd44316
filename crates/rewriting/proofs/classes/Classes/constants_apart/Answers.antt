use Rattle.std.proofs.Common.{◌≡◌, ℕ, zero, suc, ◌+◌, ◌<◌, true, List, [], ◌∷◌, take, get_or, length, eqb, sym, refl, ap, ◌∙◌, ⊎_elim, Decides, arith, rules}
use Rattle.std.proofs.lemmas.List.{get_or-take, length-take-le}
use Rattle.std.specs.List.{list_all, enumerate_from}
use Rattle.std.proofs.lemmas.Bool.{eqb-true, eq-eqb, and_parts, and_from}
use Rattle.std.proofs.lemmas.Bool.Decides.{same_from_decides}
use Rattle.std.proofs.lemmas.Iterator.{YieldsList-from_slice, YieldsList-from_take}
use Rattle.std.proofs.lemmas.Iterator.Consumers.{YieldsList-from_enumerate}
use Rattle.std.proofs.lemmas.Iterator.Search.{all_from_yields_List}
use borrow.Author.Tests.{tests}
use Rattle.rewriting.specs.Classes.{name_in, classes}
use Rattle.rewriting.specs.Computing.{all}
use Rattle.rewriting.specs.Judging.{ends, constant_alone}
use Rattle.rewriting.specs.Steps.{Ref, fixed}
use Rattle.rewriting.specs.Tables.{place}
use Rattle.rewriting.proofs.Judged.{constants_in, in_constants}
use Rattle.rewriting.proofs.Placed.{place_one, within_or, outside}
use Rattle.rewriting.proofs.Search.{T_true, true_T}
use Rattle.rewriting.proofs.classes.Classes.constants_apart.Goals as goal

-- each number stands at its own place, counted from i
own_places : (i : ℕ) (xs : List ℕ) → list_all (λ (p : ℕ × ℕ). eqb p.1 p.0) (enumerate_from i xs) ≡ true → (k : ℕ) → k < length xs → get_or xs k 0 ≡ i + k
own_places i [] e k h = absurd (omega arith)
own_places i (x ∷ xs) e zero h = eqb-true x i (and_parts _ _ e).0 ∙ omega arith
own_places i (x ∷ xs) e (suc k) h = own_places (i + 1) xs (and_parts _ _ e).1 k (omega arith) ∙ omega arith

all_own : (i : ℕ) (xs : List ℕ) → ((k : ℕ) → k < length xs → get_or xs k 0 ≡ i + k) → list_all (λ (p : ℕ × ℕ). eqb p.1 p.0) (enumerate_from i xs) ≡ true
all_own i [] h = refl
all_own i (x ∷ xs) h = and_from _ _ (eq-eqb x i (h 0 (omega arith) ∙ omega arith)) (all_own (i + 1) xs (λ k l. h (suc k) (omega arith) ∙ omega arith))

pub returns : goal.returns
returns c ts w n =
    let f : Ref → Ref = name_in (classes ts) in
    let names = c.args.self.names in
    let is : c.all.result ≡ list_all (λ (p : ℕ × ℕ). eqb p.1 p.0) (enumerate_from 0 (take 1000 names)) =
    all_from_yields_List (λ (p : ℕ × ℕ). eqb p.1 p.0) _ _ c.all.result c.all.ensures.ran
    (YieldsList-from_enumerate (YieldsList-from_take 1000 (YieldsList-from_slice names (cc)) (cc)) (cc)) (λ x b q k. search (rules, tests)) in
    let long = length-take-le 1000 names (omega (arith, n.long)) in
    let own : Decides c.all.result ((k : ℕ) → k < 1000 → get_or names k 0 ≡ k) = (
      λ e k h. sym (get_or-take 1000 names k 0 h) ∙ own_places 0 (take 1000 names) (sym is ∙ e) k (omega arith) ∙ omega arith,
      λ p. is ∙ all_own 0 (take 1000 names) (λ k l. get_or-take 1000 names k 0 (omega arith) ∙ p k (omega arith) ∙ omega arith),
    ) in
    same_from_decides _ _ own (
      λ e k h. n.entry (fixed k) h ∙ ap place (constants_in ts (true_T e) k),
      λ p. T_true (all (constant_alone f) (ends ts)) (in_constants f (ends ts) (λ k.
          ⊎_elim
          (λ h. place_one (f (fixed k)) (fixed k) (n.inside (fixed k) h) h (sym (n.entry (fixed k) h) ∙ p k h))
          (λ h. outside ts w (fixed k) h)
          (within_or (fixed k)))),
    )
