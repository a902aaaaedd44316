use Rattle.std.proofs.Common.{◌≡◌, ◌<◌, ◌≤◌, length, get_or, set, ap, ◌∙◌, append-nil, arith, length-set, rules}
use Rattle.std.proofs.lemmas.List.{take_all, drop_all, get_or_default}
use Rattle.std.proofs.lemmas.List.Edits.{map_over_more}
use Rattle.rewriting.specs.Joining.{relabelled}
use Rattle.rewriting.proofs.classes.Classes.renamed.Goals as goal

pub loop-name-preserved : goal.loop-name-preserved
loop-name-preserved c =
    let inv = c.loop-name.invariant in
    let names = c.loop-name.name-items in
    let i = c.loop-name.name-index in
    let old = c.args.self.names in
    let x = get_or names i 0 in
    let long : length old ≡ 1160 = search rules in
    let in_old : i < length old = omega (arith, long, c.loop-name-test.true) in
    let in_names : i < length names = omega (arith, inv.0, in_old) in
    let step = map_over_more (relabelled c.args.from c.args.to) old names i x in_old inv.1 (get_or_default names i 0 x in_names) in
    (length-set names i _ ∙ inv.0, ap (set names i) c.replaced.ensures ∙ step)

pub returns : goal.returns
returns c =
    let old = c.args.self.names in
    let long : length old ≡ 1160 = search rules in
    let all : length old ≤ c.loop-name.name-index = omega (arith, long, c.loop-name-test.false) in
    c.loop-name.invariant.1 ∙ simp (take_all _ old all, drop_all _ old all, append-nil)
