use Rattle.std.proofs.Common.{List, map, length, vec_items, sym, ap, ◌∙◌, arith, length-take}
use lib.ListN.{length-map}
use Rattle.std.proofs.lemmas.Result.{err_from_is_err_and}
use Rattle.rewriting.specs.Judging.{pieces, read}
use Rattle.rewriting.specs.declared.steps.Part.{Part as WrittenPart}
use Rattle.rewriting.specs.Written.{part_of, rule_meant, step_of, pieces_from}
use Rattle.rewriting.proofs.Verdicts.{heads_count, rule_past, heads_differ, heads_same}
use Rattle.rewriting.proofs.judge.judge.Goals as goal

pub returns-in_default : goal.returns-in_default
returns-in_default c s sh = rule_past c.args.rules.now c.args.rows.now s (step_of c.args.step.now) sh c.in_default.ensures.lookup.3

pub returns-then-heads-parts : goal.returns-then-heads-parts
returns-then-heads-parts c s sh =
    let u = c.in-Some.rule.now in
    let n = heads_count u in
    let k = ap length c.heads.ensures in
    let m = length-map (vec_items c.args.step.now.parts) part_of in
    let v = ap length c.as_slice-parts.ensures.value in
    heads_differ c.args.rules.now c.args.rows.now s (step_of c.args.step.now) u sh c.in-Some.ensures.lookup.3.0 c.in-Some.ensures.lookup.1
    (λ e. c.if-heads-parts.true (omega arith))

pub invariant_of-proposal : goal.invariant_of-proposal
invariant_of-proposal c =
    let u = c.in-Some.rule.now in
    let n = heads_count u in
    let k = ap length c.heads.ensures in
    let l = length-take u.count u.heads in
    let w = u.within in
    record { valid = c.requires; paired = omega arith; few = omega arith }

pub returns-in_err-read : goal.returns-in_err-read
returns-in_err-read c s sh =
    let p = err_from_is_err_and c.from_residual.result c.from_residual.ensures.1 in
    let u = c.in-Some.rule.now in
    let n = heads_count u in
    let k = ap length c.heads.ensures in
    let m = length-map (vec_items c.args.step.now.parts) part_of in
    let v = ap length c.as_slice-parts.ensures.value in
    rw (p.1, p.2)
    (heads_same c.args.rules.now c.args.rows.now s (step_of c.args.step.now) u sh c.in-Some.ensures.lookup.3.0 c.in-Some.ensures.lookup.1 (omega arith) _
    (ap (λ (ws : List WrittenPart). pieces s (rule_meant u).body 0 (rule_meant u).heads (map part_of ws)) (sym c.as_slice-parts.ensures.value)
    ∙ c.in_err-read.ensures.read s (rule_meant u).body sh.stand))

pub returns : goal.returns
returns c s sh =
    let u = c.in-Some.rule.now in
    let n = heads_count u in
    let k = ap length c.heads.ensures in
    let m = length-map (vec_items c.args.step.now.parts) part_of in
    let v = ap length c.as_slice-parts.ensures.value in
    let b = (rule_meant u).body in
    c.tested.ensures s sh.count
    ∙ heads_same c.args.rules.now c.args.rows.now s (step_of c.args.step.now) u sh c.in-Some.ensures.lookup.3.0 c.in-Some.ensures.lookup.1 (omega arith)
    (read (pieces_from b c.args.rows.now 0 (rule_meant u).heads (map part_of c.as_slice-parts.result.now)))
    (ap (λ (ws : List WrittenPart). pieces s b 0 (rule_meant u).heads (map part_of ws)) (sym c.as_slice-parts.ensures.value)
    ∙ c.in_ok-read.ensures.read s b sh.stand)
