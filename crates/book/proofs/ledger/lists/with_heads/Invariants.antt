use Rattle.std.proofs.Common.{◌≡◌, map, drop, vec_items}
use Rattle.queries.specs.Heads.{body_atoms}
use Rattle.queries.specs.Rules.{heads_of}
use Rattle.book.proofs.Making.{heads_left}
use Rattle.book.proofs.ledger.lists.with_heads.Given as goal

abbrev pub invariant-loop-head : goal.invariant-loop-head
invariant-loop-head l =
    (l.rule.body ≡ l.initial.rule.body)
    × (heads_left l.arity (body_atoms l.initial.rule.body) (heads_of l.rule) (map vec_items (drop l.head-index l.heads))
    ≡ heads_left l.arity (body_atoms l.initial.rule.body) (heads_of l.initial.rule) (map vec_items l.heads))
