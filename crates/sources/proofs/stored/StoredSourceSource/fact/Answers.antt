use Rattle.std.proofs.Common.{map, ap, ◌∙◌}
use Rattle.std.specs.List.{slice_get}
use Rattle.notation.specs.Logic.{fact_atom}
use Rattle.sources.proofs.Cutting.{cut_within, cut_again}
use Rattle.sources.proofs.stored.StoredSourceSource.fact.Goals as goal

pub slice_bounds-fact_at-end : goal.slice_bounds-fact_at-end
slice_bounds-fact_at-end c = cut_within fact_atom 65535 c.args.self.now.facts.now c.len.result c.len.ensures

pub returns : goal.returns
returns c = c.fact_at.ensures ∙ ap (λ fs. slice_get (map fact_atom fs) c.args.k) (cut_again fact_atom 65535 c.args.self.now.facts.now c.len.result c.len.ensures)
