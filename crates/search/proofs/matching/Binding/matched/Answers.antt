use Rattle.notation.specs.Logic.{terms_of}
use Rattle.search.specs.Bindings.{MeetsAll, Matches}
use Rattle.search.proofs.Narrowing.{met_like, matches_from_meets, meets_from_matches}
use Rattle.search.proofs.matching.Binding.matched.Goals as goal

pub returns : goal.returns
returns c =
    let a = c.args.a.now in
    let f = c.args.f.now in
    met_like _ _ c.meet_all.result (MeetsAll (terms_of a.terms) (terms_of f.terms)) (Matches a f)
    (λ h. matches_from_meets a f h c.if-a-f.false) (meets_from_matches a f) c.meet_all.ensures
