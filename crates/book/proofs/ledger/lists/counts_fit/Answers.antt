use Rattle.std.proofs.Common.{◌&&◌, leb, rules}
use Rattle.std.proofs.lemmas.Iterator.{YieldsList-from_slice}
use Rattle.std.proofs.lemmas.Iterator.Search.{all_from_yields_List}
use borrow.Author.Tests.{tests}
use Rattle.book.proofs.ledger.lists.counts_fit.Goals as goal

pub returns : goal.returns
returns c = all_from_yields_List (λ n. leb 1 n && leb n 4) _ _ c.all.result c.all.ensures.ran (YieldsList-from_slice c.args.arity.now (cc)) (λ x b q k. search (rules, tests))
