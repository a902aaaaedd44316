use Rattle.std.proofs.Common.{◌≡◌, eqb, sym, ap, ◌∙◌, rules, tests}
use Rattle.std.specs.List.{position}
use Rattle.std.proofs.lemmas.Iterator.{YieldsList-from_slice}
use Rattle.std.proofs.lemmas.Iterator.Search.{position_from_yields_List}
use Rattle.notation.specs.Lists.{both_seen}
use Rattle.notation.proofs.Pieces.{cut_some, cut_none}
use Rattle.notation.proofs.lists.cut.Goals as goal

pub returns-in_err-at : goal.returns-in_err-at
returns-in_err-at c =
    let found : c.position.result ≡ position (λ b. eqb b c.args.separator) c.args.s.now = position_from_yields_List (λ b. eqb b c.args.separator) _ _ c.position.result c.position.ensures.ran (YieldsList-from_slice c.args.s.now (cc)) (λ x b q k. search (rules, tests)) in
    ap both_seen c.from_residual.ensures ∙ cut_none c.args.separator c.args.s.now (sym found ∙ c.in_err-at.was)

pub returns : goal.returns
returns c =
    let found : c.position.result ≡ position (λ b. eqb b c.args.separator) c.args.s.now = position_from_yields_List (λ b. eqb b c.args.separator) _ _ c.position.result c.position.ensures.ran (YieldsList-from_slice c.args.s.now (cc)) (λ x b q k. search (rules, tests)) in
    cut_some c.args.separator c.in_ok-at.at c.args.s.now (sym found ∙ c.in_ok-at.was)
