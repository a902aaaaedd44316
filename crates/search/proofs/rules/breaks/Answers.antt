use Rattle.std.proofs.lemmas.Bool.Decides.{Decides-not}
use Rattle.search.proofs.rules.breaks.Goals as goal

pub returns : goal.returns
returns g c = Decides-not _ c.keeps.ensures
