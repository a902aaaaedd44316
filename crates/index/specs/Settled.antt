-- Terms whose value is settled.
use Rattle.std.specs.Prelude.{◌≡◌, ℕ, List, Some, Option}
use Rattle.std.specs.Option.{option_map}
use Rattle.std.specs.List.{slice_get}
use Rattle.notation.specs.declared.terms.Term.{Term as WrittenTerm}
use Rattle.notation.specs.declared.terms.Terms.{Terms}
use Rattle.notation.specs.declared.terms.Value.{Value}
use Rattle.notation.specs.Logic.{Term, as_term, as_value, terms_of}
use Rattle.search.specs.Bindings.{Agrees}
use Rattle.search.specs.Holding.{put}

-- there is a term at place k, and each giving that agrees with b makes it the value
abbrev pub Settled : List (Option Value) → Terms WrittenTerm → ℕ → Value → Type 0
Settled b ts k x = (h : ℕ → Term) → Agrees h b → option_map (put h) (option_map as_term (slice_get (terms_of ts) k)) ≡ Some (as_value x)
