-- Every place at which an atom can be the fact has the key of the route.
use Rattle.std.proofs.Common.{ap, ◌≡◌, ℕ, ◌<◌, List, map, Some, Option, ◌∙◌, eq-eqb}
use Rattle.std.specs.Option.{option_map}
use Rattle.std.proofs.lemmas.Option.{get_or_from_slice_get, slice_get-map}
use Rattle.notation.specs.declared.terms.Atom.{Atom as WrittenAtom}
use Rattle.notation.specs.declared.terms.Term.{Term as WrittenTerm}
use Rattle.notation.specs.declared.terms.Value.{Value}
use Rattle.notation.specs.Logic.{Term, rename, as_term, as_value, terms_of, query_atom}
use Rattle.search.specs.Bindings.{Agrees}
use Rattle.search.specs.Holding.{put}
use Rattle.search.specs.Routes.{Covers}
use Rattle.index.specs.Keys.{blended, keyed}
use Rattle.index.specs.Indexed.{facts_of, on_route}
use Rattle.index.specs.Settled.{Settled}
use Rattle.index.specs.declared.index.Index.{Index}

module _ (x : Index) (a : WrittenAtom WrittenTerm) (b : List (Option Value)) (key : ℕ) where
  covered : (at : ℕ) (within : at < 5) → ((h : ℕ → Term) → Agrees h b → keyed at (rename (put h) (query_atom a)) ≡ key) → Covers (on_route x (record { at = at; key = key; within = within })) (query_atom a) b (facts_of x)
  covered at within all h ag k e =
      eq-eqb _ key (get_or_from_slice_get (map (keyed at) (facts_of x)) k _ 0 (slice_get-map (keyed at) (facts_of x) k ∙ ap (option_map (keyed at)) e) ∙ all h ag)

  pub covered_by_term : (at : ℕ) (within : at < 5) (v : Value) → key ≡ blended a.predicate (Some (as_value v)) → Settled b a.terms at v → Covers (on_route x (record { at = at; key = key; within = within })) (query_atom a) b (facts_of x)
  covered_by_term at within v is there = covered at within (λ h ag.
      let ts = terms_of a.terms in
      let m = slice_get-map (put h) (map as_term ts) at in
      let n = slice_get-map as_term ts at in
      cc (there h ag))
