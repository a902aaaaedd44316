use Rattle.std.proofs.Common.{take, ap, ◌∙◌, arith, length-take}
use Rattle.std.specs.Option.{option_map}
use Rattle.notation.specs.Logic.{fact_atom}
use Rattle.sources.proofs.Counting.{facts_less, row_read, fact_told}
use Rattle.sources.proofs.rows.RowSourceSource.fact.Goals as goal

pub slice_bounds-get-end : goal.slice_bounds-get-end
slice_bounds-get-end c =
    let s = c.args.self.now in
    omega (arith, facts_less s.rows.now, length-take s.count s.rows.now, s.counted)

pub returns : goal.returns
returns c =
    let s = c.args.self.now in
    ap (option_map fact_atom) (row_read (take s.count s.rows.now) c.args.k c.get.result c.and_then.result c.get.ensures.lookup c.and_then.ensures) ∙ fact_told s.rows.now s.count c.args.k s.counted
