use Rattle.std.proofs.Common.{◌-◌, ◌<◌, get_or, arith, rules}
use Rattle.index.proofs.Linked.{linked_more, linked_all}
use Rattle.index.proofs.chain.link.Goals as goal

pub loop-k-preserved : goal.loop-k-preserved
loop-k-preserved c =
    let keys = c.args.keys.now in
    let k = c.loop-k.k - 1 in
    let fits : get_or keys k 0 < 65536 = search rules in
    linked_more keys c.loop-k.first c.loop-k.next k c.loop-k.k (omega arith) (omega arith) c.requires.few fits c.loop-k.invariant

pub returns : goal.returns
returns c = linked_all c.args.keys.now c.loop-k.first c.loop-k.next c.loop-k.k (omega arith) c.requires.few c.loop-k.invariant
