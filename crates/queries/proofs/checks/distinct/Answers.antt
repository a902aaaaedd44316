use Rattle.std.proofs.Common.{◌∙◌, arith}
use Rattle.queries.proofs.Loops.{distinct_more, no_atom}
use Rattle.queries.proofs.checks.distinct.Goals as goal

pub returns-then-contains : goal.returns-then-contains
returns-then-contains c = distinct_more no_atom c.args.atoms.now c.loop-i.i _ (omega arith) c.if-contains.ensures.value ∙ c.loop-i.invariant

pub loop-i-preserved : goal.loop-i-preserved
loop-i-preserved c = distinct_more no_atom c.args.atoms.now c.loop-i.i _ (omega arith) c.if-contains.ensures.value ∙ c.loop-i.invariant
