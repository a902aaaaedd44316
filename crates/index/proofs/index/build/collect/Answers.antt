use Rattle.std.proofs.Common.{◌≡◌, ◌≤◌, map, length, vec_items, ap, ◌∙◌, arith}
use lib.ListN.{length-map}
use Rattle.std.proofs.lemmas.List.{take_all}
use Rattle.notation.specs.Logic.{fact_atom}
use Rattle.index.proofs.Building.{collected_more, some_within}
use Rattle.index.proofs.index.build.collect.Goals as goal

pub unwrap-requires : goal.unwrap-requires
unwrap-requires g c =
    let n = c.len-n.ensures in
    some_within (g.S.Source.facts c.args.s.now) c.loop-k.k c.fact.result c.fact.ensures (omega arith)

pub loop-k-preserved : goal.loop-k-preserved
loop-k-preserved g c =
    let facts = g.S.Source.facts c.args.s.now in
    let k = c.loop-k.k in
    let n = c.len-n.ensures in
    collected_more facts k (vec_items c.loop-k.v) _ c.fact.result c.unwrap.result c.in_ok-push.ensures.items c.unwrap.ensures c.fact.ensures (omega arith) c.loop-k.invariant

pub returns : goal.returns
returns g c =
    let facts = g.S.Source.facts c.args.s.now in
    let n = c.len-n.ensures in
    let v = c.loop-k.v in
    let e : map fact_atom (vec_items v) ≡ facts = c.loop-k.invariant ∙ take_all c.loop-k.k facts (omega arith) in
    let few : length facts ≤ 65535 = g.S.Source.few c.args.s.now in
    (e, omega (arith, v.ok.0, length-map (vec_items v) fact_atom, ap length e))
