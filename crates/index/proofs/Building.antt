-- The facts of an index, and its chains at the five positions.
use Rattle.std.proofs.Common.{◌≡◌, ℕ, zero, suc, ◌+◌, ◌<◌, List, [], ◌∷◌, ◌++◌, map, length, take, Some, None, IsSome, Option, subst, rules}
use Rattle.std.specs.List.{slice_get}
use Rattle.std.specs.Option.{option_map}
use Rattle.std.proofs.lemmas.List.{map_push, take_more}
use Rattle.std.proofs.lemmas.Option.{slice_get-get_or}
use Rattle.notation.specs.declared.terms.Atom.{Atom}
use Rattle.notation.specs.declared.terms.Value.{Value}
use Rattle.notation.specs.Logic.{Facts, at, fact_atom}
use Rattle.index.specs.Keys.{keys_at}
use Rattle.index.specs.Seek.{IsChain}
use Rattle.index.specs.declared.chain.Chain.{Chain}

pub five : (l : Facts) (a b d e f : Chain) → IsChain (keys_at 0 l) a.first.items a.next.items → IsChain (keys_at 1 l) b.first.items b.next.items → IsChain (keys_at 2 l) d.first.items d.next.items → IsChain (keys_at 3 l) e.first.items e.next.items → IsChain (keys_at 4 l) f.first.items f.next.items → (at : ℕ) (ch : Chain) → slice_get (a ∷ b ∷ d ∷ e ∷ f ∷ []) at ≡ Some ch → IsChain (keys_at at l) ch.first.items ch.next.items
five l a b d e f p q r s t zero ch is = let same : a ≡ ch = cc in subst (λ x. IsChain (keys_at 0 l) x.first.items x.next.items) same p
five l a b d e f p q r s t (suc zero) ch is = let same : b ≡ ch = cc in subst (λ x. IsChain (keys_at 1 l) x.first.items x.next.items) same q
five l a b d e f p q r s t (suc (suc zero)) ch is = let same : d ≡ ch = cc in subst (λ x. IsChain (keys_at 2 l) x.first.items x.next.items) same r
five l a b d e f p q r s t (suc (suc (suc zero))) ch is = let same : e ≡ ch = cc in subst (λ x. IsChain (keys_at 3 l) x.first.items x.next.items) same s
five l a b d e f p q r s t (suc (suc (suc (suc zero)))) ch is = let same : f ≡ ch = cc in subst (λ x. IsChain (keys_at 4 l) x.first.items x.next.items) same t
five l a b d e f p q r s t (suc (suc (suc (suc (suc n))))) ch is = cc

-- one more fact
pub collected_more : (facts : Facts) (k : ℕ) (vs ws : List (Atom Value)) (o : Option (Atom Value)) (f : Atom Value) → ws ≡ vs ++ f ∷ [] → o ≡ Some f → option_map fact_atom o ≡ slice_get facts k → k < length facts → map fact_atom vs ≡ take k facts → map fact_atom ws ≡ take (k + 1) facts
collected_more facts k vs ws o f push some is within before =
    let there = slice_get-get_or facts k (at 0 []) within in
    let more = take_more facts k (at 0 []) within in
    let pushed = map_push fact_atom vs f in
    cc

-- there is a fact at each place
pub some_within : (facts : Facts) (k : ℕ) (o : Option (Atom Value)) → option_map fact_atom o ≡ slice_get facts k → k < length facts → IsSome o
some_within facts k (Some f) is within = search rules
some_within facts k None is within = let there = slice_get-get_or facts k (at 0 []) within in cc
