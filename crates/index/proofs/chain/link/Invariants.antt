use Rattle.index.proofs.Linked.{LinkedFrom}
use Rattle.index.proofs.chain.link.Given as goal

abbrev pub invariant-loop-k : goal.invariant-loop-k
invariant-loop-k l = LinkedFrom l.keys l.first l.next l.k
