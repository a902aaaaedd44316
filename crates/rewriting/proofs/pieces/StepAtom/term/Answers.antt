use Rattle.std.proofs.Common.{sym, subst}
use Rattle.rewriting.specs.Tables.{Within}
use Rattle.rewriting.proofs.Ranged.{term_within}
use Rattle.rewriting.proofs.pieces.StepAtom.term.Goals as goal

pub invariant_of-result : goal.invariant_of-result
invariant_of-result c = record { within = subst Within (sym c.of.ensures) (term_within c.args.self.now.owner c.args.t c.requires c.args.self.now.owned) }
