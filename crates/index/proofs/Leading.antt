-- What the chains of an index lead to.
use Rattle.std.proofs.Common.{◌≡◌, ℕ, ◌+◌, ◌<◌, Bool, true, length, get_or, Some, Option, sym, ap, ◌∙◌, subst, eqb-true}
use lib.ListN.{length-map}
use Rattle.std.proofs.lemmas.Option.{slice_get-get_or}
use Rattle.search.specs.Routes.{Leads}
use Rattle.index.specs.Seek.{has_key, place_of, IsChain}
use Rattle.index.specs.Keys.{keyed, keys_at}
use Rattle.index.specs.Indexed.{facts_of, on_route}
use Rattle.index.specs.declared.chain.Chain.{Chain}
use Rattle.index.specs.declared.index.Index.{Index}
use Rattle.index.specs.declared.index.Route.{Route}

module _ (x : Index) (c : Route) (ch : Chain) (within : c.at < length x.chains) (is : ch ≡ get_or x.chains c.at ch) where
  its_chain : IsChain (keys_at c.at (facts_of x)) ch.first.items ch.next.items
  its_chain = x.chained c.at ch (slice_get-get_or x.chains c.at ch within ∙ ap Some (sym is))

  counted : (on : ℕ → Bool) (low : ℕ) (o : Option ℕ) → Leads on (length (keys_at c.at (facts_of x))) low o → Leads on (length (facts_of x)) low o
  counted on low o = subst (λ n. Leads on n low o) (length-map (facts_of x) (keyed c.at))

  pub leads_first : (o : Option ℕ) → c.key < 65536 → o ≡ place_of (get_or ch.first.items c.key 0) → Leads (on_route x c) (length (facts_of x)) 0 o
  leads_first o fits e = counted (on_route x c) 0 o (subst (Leads (on_route x c) _ 0) (sym e) (its_chain.headed c.key fits))

  pub leads_after : (k : ℕ) (o : Option ℕ) → k < length (facts_of x) → on_route x c k ≡ true → o ≡ place_of (get_or ch.next.items k 0) → Leads (on_route x c) (length (facts_of x)) (k + 1) o
  leads_after k o inside on e =
      let keys = keys_at c.at (facts_of x) in
      let l = its_chain.linked k (subst (λ n. k < n) (sym (length-map (facts_of x) (keyed c.at))) inside) in
      counted (on_route x c) (k + 1) o
      (subst (λ key. Leads (has_key keys key) (length keys) (k + 1) o) (eqb-true (get_or keys k 0) c.key on)
      (subst (Leads (has_key keys (get_or keys k 0)) (length keys) (k + 1)) (sym e) l))
