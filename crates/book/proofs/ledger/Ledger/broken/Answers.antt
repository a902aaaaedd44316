use Rattle.std.proofs.Common.{map, subst}
use Rattle.queries.specs.Rules.{rule_of}
use Rattle.search.specs.Rules.{LowestBroken}
use Rattle.book.proofs.ledger.Ledger.broken.Goals as goal

pub returns : goal.returns
returns g c = subst (λ rs. LowestBroken (map rule_of rs) (g.G.Source.facts c.args.s.now) c.lowest_broken.result) c.deref.ensures.value c.lowest_broken.ensures
