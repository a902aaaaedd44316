use Rattle.std.proofs.Common.{◌+◌, ◌<◌, ◌++◌, length, string_bytes, sym, ap, ◌∙◌, arith}
use Rattle.book.specs.Ledgers.{book_of}
use Rattle.folder.proofs.Printed.{left, skipped, printed, as_many}
use Rattle.folder.proofs.printing.put_standing.Goals as goal
use Rattle.folder.proofs.printing.put_standing.Goals.{then-stands+in_ok-write, else-stands}

pub loop-k-preserved : goal.loop-k-preserved
loop-k-preserved c =
    let b = book_of c.args.ledger.now in
    let k = c.loop-k.k-counter in
    let n = c.len-k-end.ensures in
    let h : k < length b.queries = omega arith in
    let i : k < length b.standing = omega (arith, as_many c.args.ledger.now) in
    elim c.if-stands.branch [
      | then-stands+in_ok-write w ↦
          ap (λ s. string_bytes s ++ left b.queries b.standing (k + 1)) w.out-is
          ∙ printed b.queries b.standing k h i (string_bytes c.loop-k.out) _ _ (sym c.stands.ensures ∙ w.if-stands.true) w.in_ok-write.ensures.bytes w.atoms.ensures
          ∙ c.loop-k.invariant
      | else-stands w ↦
          ap (λ s. string_bytes s ++ left b.queries b.standing (k + 1)) w.out-is
          ∙ ap (λ x. string_bytes c.loop-k.out ++ x) (skipped b.queries b.standing k h i (sym c.stands.ensures ∙ w.if-stands.false))
          ∙ c.loop-k.invariant
    ]
