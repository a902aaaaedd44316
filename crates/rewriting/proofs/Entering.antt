-- A query is entered exactly by a disjunctive piece-unifier step.
use Rattle.std.proofs.Common.{◌≡◌, ◌↔◌, map}
use Rattle.rewriting.specs.Steps.{Ref, all_ties, bare, Linked}
use Rattle.rewriting.specs.Unifiers.{Joined, EntersIsUnifier}
use Rattle.rewriting.proofs.Nth.{nth_in}
use Rattle.rewriting.proofs.Named.{names}
use Rattle.rewriting.proofs.Classing.{names_are_classes}
use Rattle.rewriting.proofs.Judged.{judge_is_right}
use Rattle.rewriting.proofs.Unifiers.{linked_joined, joined_names, unifier_is_right, right_is_unifier}
use Rattle.rewriting.proofs.Apart.{read_is_apart}

pub enters_is_unifier : EntersIsUnifier
enters_is_unifier s t n one = (
  λ e. let r = (judge_is_right s t n).0 e in let h = r.0 in
      let ms = h.pieces in
      let ts = all_ties ms in
      let a = read_is_apart s h.rule t.parts ms (one h.rule (nth_in t.rule s.rules h.is_rule)) h.reads in
      let nm : (x y : Ref) → (names ms x ≡ names ms y) ↔ Linked ts x y = λ x y. (names_are_classes ts x y).0 in (
        record {
          rule = h.rule;
          is_rule = h.is_rule;
          pieces = ms;
          reads = h.reads;
          partition = λ i. names ms;
          unifier = (right_is_unifier (map bare ms) ts a.0 a.1 (names ms) nm).0 h.right;
          classes = λ x y. (linked_joined (λ i. names ms) (λ u m. let w = a.1 u m in Joined.within w.0 w.1 w.2 w.3 ((nm u.0 u.1).1 (Linked.tied m))), λ j. (nm x y).0 (joined_names (names ms) j));
          new = h.new;
        },
        r.1,
      ),
  λ r. let h = r.0 in
      let ms = h.pieces in
      let a = read_is_apart s h.rule t.parts ms (one h.rule (nth_in t.rule s.rules h.is_rule)) h.reads in
      (judge_is_right s t n).1 (
        record {
          rule = h.rule;
          is_rule = h.is_rule;
          pieces = ms;
          reads = h.reads;
          right = unifier_is_right (map bare ms) (all_ties ms) a.0 h.partition h.unifier h.classes;
          new = h.new;
        },
        r.1,
      ),
)
