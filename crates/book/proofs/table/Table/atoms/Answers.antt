use Rattle.std.proofs.Common.{◌<◌, length, vec_items, ap, ◌∙◌, arith}
use lib.ListN.{length-map}
use Rattle.book.specs.Rows.{entry_of}
use Rattle.book.proofs.Listed.{atoms_at}
use Rattle.book.proofs.table.Table.atoms.Goals as goal

pub returns : goal.returns
returns c =
    let rows = vec_items c.self.inside.list in
    let inside : c.args.k < length rows = omega (arith, length-map rows entry_of, ap length c.self.view_is, c.requires) in
    c.as_slice.ensures ∙ atoms_at rows c.args.self.now c.self.view_is c.args.k c.index.result.now inside c.index.ensures
