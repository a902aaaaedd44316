-- Each book shows some ledger of the law.
use Rattle.std.proofs.Common.{◌≡◌, ℕ, zero, suc, ◌+◌, ◌<◌, ◌≤◌, Bool, true, false, not, ◌||◌, List, [], ◌∷◌, map, length, get_or, take, refl, ap, ◌∙◌, subst, ap₂, arith}
use Rattle.std.proofs.lemmas.Bool.{eq-eqb, ne_eqb}
use Rattle.search.specs.Rules.{meant}
use Rattle.rewriting.specs.Judging.{Ledger}
use Rattle.rewriting.specs.Steps.{member}
use Rattle.rewriting.specs.Written.{logic_atoms}
use Rattle.book.specs.Strikes.{Book}
use Rattle.book.specs.Views.{Shows}

-- the numbers, from i on, of what does not stand
abbrev struck_from : ℕ → List Bool → List ℕ
struck_from i [] = []
struck_from i (true ∷ bs) = struck_from (suc i) bs
struck_from i (false ∷ bs) = i ∷ struck_from (suc i) bs

lower : (k i : ℕ) (bs : List Bool) → k < i → member k (struck_from i bs) ≡ false
lower k i [] h = refl
lower k i (true ∷ bs) h = lower k (suc i) bs (omega arith)
lower k i (false ∷ bs) h = ap₂ ◌||◌ (ne_eqb k i (λ e. omega arith)) (lower k (suc i) bs (omega arith))

struck_is : (j i : ℕ) (bs : List Bool) → j < length bs → member (j + i) (struck_from i bs) ≡ not (get_or bs j false)
struck_is j i [] h = absurd (omega arith)
struck_is zero i (true ∷ bs) h = lower (0 + i) (suc i) bs (omega arith)
struck_is zero i (false ∷ bs) h = ap (λ b. b || member (0 + i) (struck_from (suc i) bs)) (eq-eqb (0 + i) i (omega arith))
struck_is (suc j) i (true ∷ bs) h = subst (λ k. member k (struck_from (suc i) bs) ≡ not (get_or bs j false)) (omega arith) (struck_is j (suc i) bs (omega arith))
struck_is (suc j) i (false ∷ bs) h =
    let e : j + suc i ≡ suc j + i = omega arith in
    ap (λ b. b || member (suc j + i) (struck_from (suc i) bs)) (ne_eqb (suc j + i) i (λ n. omega arith))
    ∙ subst (λ k. member k (struck_from (suc i) bs) ≡ not (get_or bs j false)) e (struck_is j (suc i) bs (omega arith))

higher : (k i : ℕ) (bs : List Bool) → length bs + i ≤ k → member k (struck_from i bs) ≡ false
higher k i [] h = refl
higher k i (true ∷ bs) h = higher k (suc i) bs (omega arith)
higher k i (false ∷ bs) h = ap₂ ◌||◌ (ne_eqb k i (λ e. omega arith)) (higher k (suc i) bs (omega arith))

-- a ledger of the law that the book shows
abbrev pub ledger_of : Book → Ledger
ledger_of b = record { rules = map meant b.rules; opening = map logic_atoms (take b.opened b.queries); entered = map logic_atoms b.queries; struck = struck_from 0 b.standing }

pub shows_it : (b : Book) → length b.standing ≡ length b.queries → Shows b (ledger_of b)
shows_it b even = record {
  rules_are = refl;
  opening_is = refl;
  entered_are = refl;
  standing_is = λ k h.
      let e : k + 0 ≡ k = omega arith in
      subst (λ v. member v (struck_from 0 b.standing) ≡ not (get_or b.standing k false)) e (struck_is k 0 b.standing (omega arith));
  none_to_come = λ k h. higher k 0 b.standing (omega arith);
}
