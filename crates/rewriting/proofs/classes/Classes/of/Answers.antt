use Rattle.std.proofs.Common.{◌≡◌, ℕ, suc, [], ◌∷◌, ◌++◌, List, map, length, vec_items, sym, ap, ◌∙◌, subst, ap₂, append-nil, arith}
use Rattle.std.specs.Iterator.Adapters.{rev_source, enumerate_source, enumerate_count}
use Rattle.std.specs.Slice.Iter.{iter_rest}
use Rattle.std.proofs.lemmas.List.{length_push}
use Rattle.notation.specs.declared.terms.Tie.{Tie}
use Rattle.rewriting.specs.Classes.{class_name}
use Rattle.rewriting.specs.Joining.{written_ties}
use Rattle.rewriting.specs.Steps.{Ties}
use Rattle.rewriting.specs.Tables.{Names, ties_from, TiesWithin}
use Rattle.rewriting.specs.Written.{part_of}
use Rattle.rewriting.proofs.Placed.{names_apart, names_group, split_at, none_before, ties_of_part}
use Rattle.rewriting.proofs.classes.Classes.of.Goals as goal

pub loop-i-init : goal.loop-i-init
loop-i-init c =
    let same = c.into_iter-i-iterator.ensures.into_iter_gives in
    let source = ap rev_source same ∙ c.rev-i-items.ensures.source in
    let whole = ap (λ (it : _). iter_rest (enumerate_source it)) source ∙ ap iter_rest c.enumerate.ensures.source ∙ c.iter.ensures.rest in
    ([], ap enumerate_count source ∙ c.enumerate.ensures.count, sym (append-nil _ ∙ whole), names_apart _ c.apart-classes.ensures)

pub with_ties-classes-requires : goal.with_ties-classes-requires
with_ties-classes-requires c =
    let parts = c.args.parts.now in
    let inv = c.loop-i.invariant in
    let step = c.in-Some.ensures.steps in
    let number : c.in-Some.i ≡ length (iter_rest (enumerate_source (rev_source c.next.new.self))) = step.1.1 ∙ omega (arith, inv.1) in
    subst (λ l. TiesWithin (written_ties c.in-Some.i l)) (sym c.deref.ensures.value)
    (ties_of_part parts _ c.in-Some.part.now inv.0 c.in-Some.i number (split_at parts _ _ c.in-Some.part.now inv.0 inv.2 step.1.0) c.requires)

pub loop-i-preserved : goal.loop-i-preserved
loop-i-preserved c =
    let parts = c.args.parts.now in
    let inv = c.loop-i.invariant in
    let step = c.in-Some.ensures.steps in
    let part = c.in-Some.part.now in
    let rest = iter_rest (enumerate_source (rev_source c.loop-i.i-iterator)) in
    let before = iter_rest (enumerate_source (rev_source c.next.new.self)) in
    let number : c.in-Some.i ≡ length before = step.1.1 ∙ omega (arith, inv.1) in
    let count : length rest ≡ suc (length before) = ap length step.1.0 ∙ length_push before part ∙ omega arith in
    let later : Ties = ties_from (length rest) (map part_of inv.0) in (
      part ∷ inv.0,
      step.0 ∙ inv.1,
      split_at parts _ _ part inv.0 inv.2 step.1.0,
      subst (λ (l : Ties). Names c.with_ties-classes.result.names (class_name l))
          (ap₂ (λ (k : ℕ) (ts : List Tie). written_ties k ts ++ later) number c.deref.ensures.value
          ∙ ap (λ n. written_ties (length before) (vec_items part.ties) ++ ties_from n (map part_of inv.0)) count)
          (c.with_ties-classes.ensures later inv.3),
    )

names : (c : goal.In-None) → Names c.loop-i.classes.names (class_name (ties_from 0 (map part_of c.args.parts.now)))
names c =
    let inv = c.loop-i.invariant in
    let none = c.in-None.ensures.steps.1.0 in
    subst (λ l. Names c.loop-i.classes.names (class_name (ties_from 0 (map part_of l)))) (none_before c.args.parts.now _ inv.0 inv.2 none)
    (subst (λ k. Names c.loop-i.classes.names (class_name (ties_from k (map part_of inv.0)))) none inv.3)

pub returns-clause-names : goal.returns-clause-names
returns-clause-names c = names c

pub returns-clause-groups : goal.returns-clause-groups
returns-clause-groups c = names_group c.loop-i.classes.names (ties_from 0 (map part_of c.args.parts.now)) (names c)
