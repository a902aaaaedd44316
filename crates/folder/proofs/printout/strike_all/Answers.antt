use Rattle.std.proofs.Common.{map, get_or, take, string_bytes, sym, subst, arith}
use Rattle.std.proofs.lemmas.List.{map_more}
use Rattle.book.specs.Ledgers.{book_of}
use Rattle.folder.specs.declared.parts.Strike.{Strike}
use Rattle.folder.specs.Folders.{strike_of}
use Rattle.folder.specs.Printouts.{Struck}
use Rattle.folder.proofs.Striking.{struck_more}
use Rattle.folder.proofs.printout.strike_all.Goals as goal

pub loop-s-preserved : goal.loop-s-preserved
loop-s-preserved c =
    let xs = c.args.strikes.now in
    let i = c.loop-s.s-index in
    let d : Strike = record { struck = 0; by = 0 } in
    subst (λ es. Struck (book_of c.args.ledger.now) es (book_of c.strike-answer.new.self) (string_bytes c.args.out.now) (string_bytes c.write.new.self)) (sym (map_more strike_of xs i d (omega arith)))
    (struck_more (book_of c.args.ledger.now) (book_of c.loop-s.ledger) (book_of c.strike-answer.new.self) (map strike_of (take i xs)) (strike_of (get_or xs i d)) c.strike-answer.result (string_bytes c.args.out.now) (string_bytes c.loop-s.out) (string_bytes c.write.new.self) c.loop-s.invariant c.strike-answer.ensures c.in_ok-write.ensures.bytes)
