use Rattle.std.proofs.Common.{false, length, set, vec_items, ap, ◌∙◌, arith}
use lib.ListN.{length-map}
use Rattle.std.proofs.Math.Seq.{map-set_same}
use Rattle.std.proofs.lemmas.List.{map-set}
use Rattle.book.specs.Rows.{Entry, entry_of, queries_in, standing_in}
use Rattle.book.proofs.Listed.{entry_at}
use Rattle.book.proofs.table.Table.strike.Goals as goal

pub returns : goal.returns
returns c =
    let rows = vec_items c.self.inside.list in
    let es = c.args.self.now in
    let k = c.args.k in
    let row = c.index_mut.result.now in
    let new = record row { standing = false } in
    let written = map-set entry_of rows k new ∙ ap (λ x. set x k (entry_of new)) c.self.view_is in
    let was = entry_at rows es c.self.view_is k row (omega (arith, length-map rows entry_of, ap length c.self.view_is, c.requires)) c.index_mut.ensures.value in record {
      queries = ap queries_in written ∙ map-set_same (λ (e : Entry). e.query) es k (entry_of new) (entry_of row) (ap (λ (e : Entry). e.query) was);
      standing = ap standing_in written ∙ map-set (λ (e : Entry). e.stands) es k (entry_of new);
    }
