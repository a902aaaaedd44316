-- Every published derivation can be offered, and steps that enter queries are one.
use Rattle.std.specs.Prelude.{◌≡◌, List, [], ◌∷◌, map, ◌⊎◌, length}
use Rattle.search.specs.Keeping.{Rule}
use Rattle.rewriting.specs.Examples.{rule0, one_query, both_heads, both_again}
use Rattle.rewriting.specs.Judging.{Ledger, open_ledger, enter, step}
use Rattle.rewriting.specs.Rightness.{RightStep, Fits}
use Rattle.rewriting.specs.Steps.{Query, Step}
use Rattle.laws.specs.Derivations.{Family, Derivation, Numbers, StepOffers, Offers, Entered, numbered_from}
use Rattle.laws.specs.Law.{Opened}

-- the steps offer the families one by one, up to one whose new query is too large or for which the ledger is full
pub data LimitMet : Ledger → Numbers → List Step → List Family → Type 0 where
  due : {s : Ledger} {kn : Numbers} {t : Step} {f : Family} {fs : List Family} (n : Query) →
      StepOffers s kn f t → RightStep s t n → (Fits s n → ⊥) → LimitMet s kn (t ∷ []) (f ∷ fs)
  later : {s : Ledger} {kn : Numbers} {t : Step} {ts : List Step} {f : Family} {fs : List Family} (n : Query) →
      StepOffers s kn f t → RightStep s t n → Fits s n → LimitMet (enter s n) ((f.result, length s.entered) ∷ kn) ts fs →
      LimitMet s kn (t ∷ ts) (f ∷ fs)

-- every published derivation can be offered, to its end or to a limit
abbrev pub DerivationsCanBeOffered : Type 0
DerivationsCanBeOffered = (rs : List Rule) (os : List Query) → Opened rs os → (fs : List Family) → Derivation rs os fs →
    (ts : List Step) × (Offers (open_ledger rs os) (numbered_from 0 os) (map step ts) fs ⊎ LimitMet (open_ledger rs os) (numbered_from 0 os) ts fs)

-- each step enters a query
pub data AllEnter : Ledger → List Step → Type 0 where
  done : {s : Ledger} → AllEnter s []
  more : {s : Ledger} {t : Step} {ts : List Step} (n : Query) → RightStep s t n → Fits s n → AllEnter (enter s n) ts → AllEnter s (t ∷ ts)

-- steps that all enter a query are a published derivation, and offer it
abbrev pub StepsAreOffered : Type 0
StepsAreOffered = (rs : List Rule) (os : List Query) → Opened rs os → (ts : List Step) → AllEnter (open_ledger rs os) ts →
    (fs : List Family) × (length fs ≡ length ts) × Derivation rs os fs × Offers (open_ledger rs os) (numbered_from 0 os) (map step ts) fs

-- a derivation of two families, the second over the first's result, that two steps offer and enter
abbrev pub DerivationHolds : Type 0
DerivationHolds = (fs : List Family) × (length fs ≡ 2) × Derivation (rule0 ∷ []) one_query fs
    × (o : Offers (open_ledger (rule0 ∷ []) one_query) (numbered_from 0 one_query) (step both_heads ∷ step both_again ∷ []) fs) × Entered o
