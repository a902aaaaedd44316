use Rattle.std.proofs.Common.{string_bytes}
use Rattle.std.proofs.lemmas.Result.{IfOk-weaker}
use Rattle.book.specs.Ledgers.{book_of}
use Rattle.folder.specs.Folders.{folder_of}
use Rattle.folder.proofs.printout.answers.Goals as goal

pub returns-in_ok-put_standing-in-Ok : goal.returns-in_ok-put_standing-in-Ok
returns-in_ok-put_standing-in-Ok c =
    let d = folder_of c.args.reader.now in
    let was = string_bytes c.args.out.now in
    let last = book_of c.strike_all.new.ledger in
    let stands = string_bytes c.put_standing.new.out in
    let opened = rw (c.deref.ensures.value, c.deref-2.ensures.value) at c.in-Ok.ensures in
    let struck = rw c.deref-in-Ok.ensures.value at c.in_ok-strike_all-in-Ok.ensures in
    IfOk-weaker c.ask_in.result _ _
    (λ _ a. rw opened (record { last = last; events = string_bytes c.strike_all.new.out; stands = stands; struck = struck; standing = c.in_ok-put_standing-in-Ok.ensures; asked = rw c.deref-in-Ok-2.ensures.value at a }))
    c.ask_in.ensures
