use Rattle.std.proofs.Common.{◌∙◌}
use Rattle.notation.specs.Logic.{fact_atom}
use Rattle.sources.proofs.Cutting.{cut_length}
use Rattle.sources.proofs.stored.StoredSourceSource.len.Goals as goal

pub returns : goal.returns
returns c = c.min.ensures ∙ cut_length fact_atom 65535 c.args.self.now.facts.now
