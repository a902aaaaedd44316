use Rattle.std.proofs.lemmas.Bool.Decides.{not_from_Decides}
use Rattle.search.proofs.Narrowing.{may_from_matches}
use Rattle.search.proofs.matching.matched.Goals as goal

pub returns-then-not-may_match : goal.returns-then-not-may_match
returns-then-not-may_match c = λ h ag e. not_from_Decides _ c.may_match.ensures c.if-not-may_match.true (may_from_matches _ _ _ h ag e)
