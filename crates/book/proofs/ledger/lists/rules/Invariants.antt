use Rattle.std.proofs.Common.{◌≡◌, [], drop, vec_items}
use Rattle.queries.specs.Rules.{rule_of}
use Rattle.book.specs.Opening.{rule_lists, check_rule, check_rules}
use Rattle.book.proofs.Making.{left}
use Rattle.book.proofs.ledger.lists.rules.Given as goal

abbrev pub invariant-loop-i : goal.invariant-loop-i
invariant-loop-i l =
    left rule_lists rule_of (check_rule l.arity) (check_rules l.arity) l.i (vec_items l.held) (drop l.i l.lists)
    ≡ left rule_lists rule_of (check_rule l.arity) (check_rules l.arity) 0 [] l.lists
