use Rattle.std.proofs.Common.{◌≡◌, IfOk, sym, subst, rules}
use Rattle.std.proofs.lemmas.Iterator.{items_from_collect, YieldsList-from_map, YieldsList-from_slice}
use Rattle.std.proofs.lemmas.Simd.{map-map}
use Rattle.notation.specs.Logic.{fact_atom}
use Rattle.index.specs.Keys.{keyed}
use Rattle.index.proofs.keys.keys.Goals as goal

pub returns : goal.returns
returns c =
    let at = c.args.at in
    let facts = c.args.facts.now in
    subst (λ l. IfOk c.collect.result (λ v. v.items ≡ l)) (sym (map-map (keyed at) fact_atom facts))
    (items_from_collect _ c.collect.ensures.ran (YieldsList-from_map _ (λ f. keyed at (fact_atom f)) (YieldsList-from_slice facts (cc)) c.map.ensures.closure (λ x r q k. search rules)))
