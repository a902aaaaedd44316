use Rattle.std.proofs.Common.{sym, ap, ◌∙◌, rules}
use Rattle.std.proofs.lemmas.Iterator.{YieldsList-from_take}
use Rattle.std.proofs.lemmas.Iterator.Consumers.{YieldsList-at, count_from_yields_List}
use Rattle.std.proofs.lemmas.List.{length-map}
use Rattle.std.specs.Slice.Iter.{iter_rest}
use Rattle.notation.specs.Logic.{fact_atom}
use Rattle.sources.specs.Rows.{row_facts}
use Rattle.sources.proofs.Counting.{told_yields}
use Rattle.sources.proofs.rows.count_facts.Goals as goal

pub returns : goal.returns
unfolding row_facts
returns c =
    let rows = c.args.rows.now in
    count_from_yields_List c.take.result _ c.count.ensures.ran
    (YieldsList-from_take 65535 (YieldsList-at c.take.ensures.source (told_yields _ _ (λ x o h k. search rules) c.map_while.result rows (ap iter_rest c.map_while.ensures.source ∙ c.iter.ensures.rest) c.map_while.ensures.closure)) c.take.ensures.count)
    ∙ sym (length-map (row_facts rows) fact_atom)
