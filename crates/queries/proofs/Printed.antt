-- A turn of the loop that prints atoms.
use Rattle.std.proofs.Common.{◌≡◌, ℕ, ◌+◌, ◌<◌, List, [], ◌∷◌, ◌++◌, length, get_or, take, sym, refl, ap, ◌∙◌, append_assoc, append-nil}
use Rattle.std.proofs.lemmas.List.{take_more}
use Rattle.notation.specs.declared.terms.Atom.{Atom}
use Rattle.notation.specs.declared.terms.Term.{Term}
use Rattle.notation.specs.Printing.{print_term, print_atom}
use Rattle.queries.specs.Printing.{print_further}

further_append : (as' bs : List (Atom Term)) → print_further (as' ++ bs) ≡ print_further as' ++ print_further bs
further_append [] bs = refl
further_append (a ∷ as') bs =
    let text = print_atom print_term a in
    ap (λ x. 59 ∷ (text ++ x)) (further_append as' bs) ∙ ap (λ x. 59 ∷ x) (sym (append_assoc text (print_further as') (print_further bs)))

pub further_more : (as' : List (Atom Term)) (i : ℕ) (d : Atom Term) → i < length as' → print_further (take (i + 1) as') ≡ print_further (take i as') ++ (59 ∷ print_atom print_term (get_or as' i d))
further_more as' i d h =
    ap print_further (take_more as' i d h)
    ∙ further_append (take i as') (get_or as' i d ∷ [])
    ∙ ap (λ x. print_further (take i as') ++ (59 ∷ x)) (append-nil (print_atom print_term (get_or as' i d)))
