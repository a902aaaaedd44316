-- What is shown of atoms is their text.
use Rattle.std.proofs.Common.{◌≡◌, ℕ, List, [], ◌∷◌, Some, decimal, refl, ap}
use Rattle.std.specs.Fmt.{option_append}
use Rattle.notation.specs.declared.terms.Atom.{Atom}
use Rattle.notation.specs.declared.terms.Terms.{Terms}
use Rattle.notation.specs.declared.terms.Terms.TheVariants.{One, Two, Three, Four}
use Rattle.notation.specs.Printing.{print_terms, print_atom, show_terms, show_atom}

shown_terms : {X : Type 0} (pr : X → List ℕ) (ts : Terms X) → show_terms (λ t. Some (pr t)) ts ≡ Some (print_terms pr ts)
shown_terms pr (One a) = refl
shown_terms pr (Two a b) = refl
shown_terms pr (Three a b d) = refl
shown_terms pr (Four a b d e) = refl

pub shown_atom : {X : Type 0} (pr : X → List ℕ) (a : Atom X) → show_atom (λ t. Some (pr t)) a ≡ Some (print_atom pr a)
shown_atom pr a = ap (λ o. option_append (Some (112 ∷ [])) (option_append (Some (decimal a.predicate)) (option_append (Some (40 ∷ [])) (option_append o (Some (41 ∷ [])))))) (shown_terms pr a.terms)
