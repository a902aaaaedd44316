use Rattle.std.proofs.Common.{◌≡◌, [], ◌∷◌, ◌++◌, sym, ap, ◌∙◌, subst, ap₂, append-nil}
use Rattle.std.specs.Iterator.Adapters.{rev_source}
use Rattle.std.specs.Slice.Iter.{iter_rest}
use Rattle.rewriting.specs.Classes.{name_in, classes}
use Rattle.rewriting.specs.Joining.{joined_table, written_ties}
use Rattle.rewriting.specs.Steps.{Ref, end}
use Rattle.rewriting.specs.Tables.{Names, Within, place}
use Rattle.rewriting.specs.Written.{end_of}
use Rattle.rewriting.proofs.Placed.{names_joined, split_at, none_before, tie_within}
use Rattle.rewriting.proofs.classes.Classes.with_ties.Goals as goal

pub loop-tie-init : goal.loop-tie-init
loop-tie-init c =
    let whole = ap (λ (it : _). iter_rest (rev_source it)) c.into_iter-tie-iterator.ensures.into_iter_gives ∙ ap iter_rest c.rev-tie-items.ensures.source ∙ c.iter.ensures.rest in
    ([], sym (append-nil _ ∙ whole), λ ts n. n)

pub invariant_of-left : goal.invariant_of-left
invariant_of-left c =
    let ties = c.args.ties.now in
    let inv = c.loop-tie.invariant in
    record { within = subst Within (sym c.of_end.ensures) (tie_within c.args.i ties _ c.in-Some.tie.now inv.0 c.requires (split_at ties _ _ c.in-Some.tie.now inv.0 inv.1 c.in-Some.ensures.steps)).0 }

pub invariant_of-right : goal.invariant_of-right
invariant_of-right c =
    let ties = c.args.ties.now in
    let inv = c.loop-tie.invariant in
    record { within = subst Within (sym c.of_end-in-loop-tie.ensures) (tie_within c.args.i ties _ c.in-Some.tie.now inv.0 c.requires (split_at ties _ _ c.in-Some.tie.now inv.0 inv.1 c.in-Some.ensures.steps)).1 }

pub loop-tie-preserved : goal.loop-tie-preserved
loop-tie-preserved c =
    let ties = c.args.ties.now in
    let i = c.args.i in
    let inv = c.loop-tie.invariant in
    let tie = c.in-Some.tie.now in
    let t = c.loop-tie.classes.names in
    let x = end i (end_of tie.left) in
    let y = end i (end_of tie.right) in
    let all = split_at ties _ _ tie inv.0 inv.1 c.in-Some.ensures.steps in
    let w = tie_within i ties _ tie inv.0 c.requires all in
    let is : c.joined-classes.result.names ≡ joined_table t (place x) (place y) =
    c.joined-classes.ensures ∙ ap₂ (λ (u v : Ref). joined_table t (place u) (place v)) c.of_end.ensures c.of_end-in-loop-tie.ensures in (
      tie ∷ inv.0,
      all,
      λ ts n. subst (λ l. Names l (name_in (classes (written_ties i (tie ∷ inv.0) ++ ts)))) (sym is)
          (names_joined t (classes (written_ties i inv.0 ++ ts)) x y (inv.2 ts n) w.0 w.1),
    )

pub returns : goal.returns
returns c ts n =
    let inv = c.loop-tie.invariant in
    subst (λ l. Names c.loop-tie.classes.names (name_in (classes (written_ties c.args.i l ++ ts)))) (none_before c.args.ties.now _ inv.0 inv.1 c.in-None.ensures.steps.0) (inv.2 ts n)
