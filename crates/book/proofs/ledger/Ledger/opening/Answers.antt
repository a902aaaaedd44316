use Rattle.std.proofs.Common.{length, ap, arith, below_more, length-take}
use lib.ListN.{length-map}
use Rattle.std.proofs.lemmas.Bool.Decides.{not_from_Decides}
use Rattle.book.specs.Rows.{entry_of}
use Rattle.book.proofs.Listed.{row_among, row_valid, row_holds, holds_row}
use Rattle.book.proofs.ledger.Ledger.opening.Goals as goal

pub query-requires : goal.query-requires
query-requires g c =
    let rows = c.rows.result.now in
    let among = row_among rows c.args.self.now.opened c.loop-k.k c.row-item.result c.loop-k-test.true c.row-item.is in
    row_valid rows _ c.rows.ensures c.loop-k.k _ among.1 among.2 c.args.self.now.sound

pub loop-k-preserved : goal.loop-k-preserved
loop-k-preserved g c =
    let rows = c.rows.result.now in
    let among = row_among rows c.args.self.now.opened c.loop-k.k c.row-item.result c.loop-k-test.true c.row-item.is in
    below_more _ _ c.loop-k.invariant (λ p. not_from_Decides _ c.holds.ensures c.if-holds.false (holds_row rows _ c.rows.ensures c.loop-k.k _ among.1 among.2 c.query.result c.query.ensures _ p))

pub returns-then-holds : goal.returns-then-holds
returns-then-holds g c =
    let rows = c.rows.result.now in
    let among = row_among rows c.args.self.now.opened c.loop-k.k c.row-item.result c.loop-k-test.true c.row-item.is in
    (among.0, row_holds rows _ c.rows.ensures c.loop-k.k _ among.1 among.2 c.query.result c.query.ensures _ (c.holds.ensures.0 c.if-holds.true), c.loop-k.invariant)

pub returns : goal.returns
returns g c =
    let rows = c.rows.result.now in
    let few = length-take c.args.self.now.opened rows in
    let n = length-map rows entry_of in
    let m = ap length c.rows.ensures in
    λ j h. c.loop-k.invariant j (omega (arith, c.args.self.now.all))
