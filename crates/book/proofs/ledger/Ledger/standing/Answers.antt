use Rattle.std.proofs.Common.{sym, ◌∙◌, below_more}
use Rattle.std.proofs.lemmas.Bool.{false≢true}
use Rattle.std.proofs.lemmas.Bool.Decides.{not_from_Decides}
use Rattle.book.proofs.Listed.{stands_at, query_inside, row_valid, row_holds, holds_row}
use Rattle.book.proofs.ledger.Ledger.standing.Goals as goal
use Rattle.book.proofs.ledger.Ledger.standing.Goals.{else-row-via-then-row+else-holds, else-row-via-else-row}

pub query-requires : goal.query-requires
query-requires g c =
    let rows = c.rows-row-items in
    row_valid rows.result.now _ rows.ensures c.loop-k.k _ c.loop-k-test.true c.row-item.is c.args.self.now.sound

pub loop-k-preserved : goal.loop-k-preserved
loop-k-preserved g c =
    let rows = c.rows-row-items in
    let k = c.loop-k.k in
    let row = c.row-item.result in
    let l = c.loop-k-test.true in
    let is = c.row-item.is in
    let stands = stands_at rows.result.now _ rows.ensures k row l is in
    below_more _ _ c.loop-k.invariant (elim c.else-row.branch [
      | else-row-via-then-row+else-holds w ↦ λ p. not_from_Decides _ w.holds.ensures w.if-holds.false (holds_row rows.result.now _ rows.ensures k row l is w.query.result w.query.ensures _ p.1)
      | else-row-via-else-row w ↦ λ p. false≢true (sym w.if-row.false ∙ stands ∙ p.0)
    ])

pub returns-then-holds : goal.returns-then-holds
returns-then-holds g c =
    let rows = c.rows-row-items in
    let k = c.loop-k.k in
    let row = c.row-item.result in
    let l = c.loop-k-test.true in
    let is = c.row-item.is in
    let stands = stands_at rows.result.now _ rows.ensures k row l is in (
      query_inside rows.result.now _ rows.ensures k row l is,
      (sym stands ∙ c.if-row.true, row_holds rows.result.now _ rows.ensures k row l is c.query.result c.query.ensures _ (c.holds.ensures.0 c.if-holds.true)),
      c.loop-k.invariant,
    )
