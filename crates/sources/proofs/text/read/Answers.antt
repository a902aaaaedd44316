use Rattle.std.proofs.Common.{◌≤◌, length, vec_items, arith}
use Rattle.notation.proofs.Pieces.{cut_shorter}
use Rattle.sources.proofs.Lines.{reached_more, parted_full, parted_last, parted_fault}
use Rattle.sources.proofs.text.read.Goals as goal
use Rattle.sources.proofs.text.read.Goals.{else-loop-line-test, then-loop-line-test+in_default, then-loop-line-test+in-Some+in_default-fact_line}

pub loop-line-smaller : goal.loop-line-smaller
loop-line-smaller c = cut_shorter 10 c.loop-line.left.now c.in-Some.line.now c.in-Some.rest.now c.in-Some.ensures

pub loop-line-preserved : goal.loop-line-preserved
loop-line-preserved c =
    (omega (arith, c.in_ok-push.ensures.len), rw c.in_ok-push.ensures.items (reached_more c.args.text.now (vec_items c.loop-line.facts) c.loop-line.left.now c.in-Some.line.now c.in-Some.rest.now c.in-Ok.fact c.loop-line.invariant.1 c.in-Some.ensures c.in-Ok.ensures))

pub returns : goal.returns
returns c =
    let v = c.loop-line.facts in
    let few : length (vec_items v) ≤ 65535 = omega (arith, v.ok.0) in
    elim c.loop-line-test.branch [
      | else-loop-line-test w ↦ parted_full c.args.text.now (vec_items v) c.loop-line.left.now c.loop-line.invariant.1 (omega (arith, v.ok.0))
      | then-loop-line-test+in_default w ↦ parted_last c.args.text.now (vec_items v) c.loop-line.left.now c.loop-line.invariant.1 few w.in_default.ensures
      | then-loop-line-test+in-Some+in_default-fact_line w ↦ parted_fault c.args.text.now (vec_items v) c.loop-line.left.now c.loop-line.invariant.1 few w.in-Some.line.now w.in-Some.rest.now _ w.in-Some.ensures w.in_default-fact_line.ensures
    ]
