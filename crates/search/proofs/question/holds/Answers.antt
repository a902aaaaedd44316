use Rattle.std.proofs.Common.{ap, ◌∙◌}
use Rattle.search.specs.Fitting.{variables_fit}
use Rattle.search.proofs.Asking.{query_fits}
use Rattle.search.proofs.question.holds.Goals as goal

pub holds_atoms-requires : goal.holds_atoms-requires
holds_atoms-requires g c = ap variables_fit c.atoms.ensures ∙ query_fits c.args.q.now
