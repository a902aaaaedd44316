-- What an index stands for, and which of its places lie on a route.
use Rattle.std.specs.Prelude.{ℕ, ◌≤◌, Bool, map, length, vec_items}
use Rattle.std.proofs.Common.{sym, ◌∙◌, subst}
use lib.ListN.{length-map}
use Rattle.notation.specs.Logic.{Facts, fact_atom}
use Rattle.index.specs.Keys.{keys_at}
use Rattle.index.specs.Seek.{has_key}
use Rattle.index.specs.declared.index.Index.{Index}
use Rattle.index.specs.declared.index.Route.{Route}

-- the facts of an index
abbrev pub facts_of : Index → Facts
facts_of x = map fact_atom (vec_items x.items)

-- there are as few of them as places; it stands here since the member of an impl cites it, which reads specs/ alone
pub few_facts : (x : Index) → length (facts_of x) ≤ 65535
few_facts x = subst (λ n. n ≤ 65535) (x.items.ok.0 ∙ sym (length-map (vec_items x.items) fact_atom)) x.few

-- the fact at place k has the route's key
abbrev pub on_route : Index → Route → ℕ → Bool
on_route x c k = has_key (keys_at c.at (facts_of x)) c.key k
