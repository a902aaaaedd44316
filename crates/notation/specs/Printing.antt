-- What is printed of terms and atoms.
use Rattle.std.specs.Prelude.{ℕ, List, [], ◌∷◌, ◌++◌, Some, decimal, Option}
use Rattle.std.specs.Fmt.{option_append}
use Rattle.notation.specs.declared.terms.Term.{Term}
use Rattle.notation.specs.declared.terms.Term.TheVariants as term
use Rattle.notation.specs.declared.terms.Value.{Value}
use Rattle.notation.specs.declared.terms.Value.TheVariants as value
use Rattle.notation.specs.declared.terms.Terms.{Terms}
use Rattle.notation.specs.declared.terms.Terms.TheVariants.{One, Two, Three, Four}
use Rattle.notation.specs.declared.terms.Atom.{Atom}

-- a letter and a number
abbrev pub print_term : Term → List ℕ
print_term (term.Constant k) = 99 ∷ decimal k
print_term (term.Variable k) = 118 ∷ decimal k

abbrev pub print_value : Value → List ℕ
print_value (value.Constant k) = 99 ∷ decimal k
print_value (value.Unknown k) = 110 ∷ decimal k

-- the terms, with commas between them, where pr prints a term
abbrev pub print_terms : {X : Type 0} → (X → List ℕ) → Terms X → List ℕ
print_terms pr (One a) = pr a
print_terms pr (Two a b) = pr a ++ (44 ∷ pr b)
print_terms pr (Three a b d) = pr a ++ (44 ∷ (pr b ++ (44 ∷ pr d)))
print_terms pr (Four a b d e) = pr a ++ (44 ∷ (pr b ++ (44 ∷ (pr d ++ (44 ∷ pr e)))))

-- the predicate, and the terms in brackets
abbrev pub print_atom : {X : Type 0} → (X → List ℕ) → Atom X → List ℕ
print_atom pr a = 112 ∷ (decimal a.predicate ++ (40 ∷ (print_terms pr a.terms ++ (41 ∷ []))))

-- ---------------------------------------------------------------- the same, where a term may have no known text

abbrev pub show_terms : {X : Type 0} → (X → Option (List ℕ)) → Terms X → Option (List ℕ)
show_terms show (One a) = show a
show_terms show (Two a b) = option_append (show a) (option_append (Some (44 ∷ [])) (show b))
show_terms show (Three a b d) = option_append (show a) (option_append (Some (44 ∷ [])) (option_append (show b) (option_append (Some (44 ∷ [])) (show d))))
show_terms show (Four a b d e) = option_append (show a) (option_append (Some (44 ∷ [])) (option_append (show b) (option_append (Some (44 ∷ [])) (option_append (show d) (option_append (Some (44 ∷ [])) (show e))))))

abbrev pub show_atom : {X : Type 0} → (X → Option (List ℕ)) → Atom X → Option (List ℕ)
show_atom show a = option_append (Some (112 ∷ [])) (option_append (Some (decimal a.predicate)) (option_append (Some (40 ∷ [])) (option_append (show_terms show a.terms) (Some (41 ∷ [])))))
