-- What is printed of a query is read back.
use Rattle.std.proofs.Common.{◌≡◌, true, List, [], ◌∷◌, ◌++◌, Ok, Err, Result, sym, refl, ap, ◌∙◌, inr, append-nil, arith}
use Rattle.std.proofs.lemmas.Bool.{and_parts, false≢true}
use Rattle.notation.specs.declared.faults.LineFault.{LineFault}
use Rattle.notation.specs.declared.faults.LineFault.TheVariants.{InAtom}
use Rattle.notation.specs.declared.terms.Atom.{Atom}
use Rattle.notation.specs.declared.terms.Term.{Term}
use Rattle.notation.specs.Fits.{term_fits, atom_fits}
use Rattle.notation.specs.Lists.{every, read_list, ending, whole_atom}
use Rattle.notation.specs.Printing.{print_term, print_atom}
use Rattle.notation.specs.Reading.{carry, term_of}
use Rattle.notation.proofs.Back.{atom_back, term_back}
use Rattle.notation.proofs.Lacks.{lacks_atom, pieces_past, pieces_whole}
use Rattle.queries.specs.Checks.{atoms_all_fit, valid}
use Rattle.queries.specs.Laws.{QueriesReadBack, QueryLinesReadBack, QueriesPrintApart}
use Rattle.queries.specs.Printing.{print_further, print_atoms}
use Rattle.queries.specs.Queries.{atoms_of}

whole_back : (a : Atom Term) → atom_fits term_fits a ≡ true → whole_atom term_of (print_atom print_term a) ≡ Ok a
whole_back a h =
    ap (whole_atom term_of) (sym (append-nil (print_atom print_term a)))
    ∙ ap (λ r. carry InAtom r (λ p. ending p.0 p.1)) (atom_back term_of print_term term_fits term_back a [] h)

-- an item, and then the others
abbrev onto : Result (Atom Term) LineFault → Result (List (Atom Term)) LineFault → Result (List (Atom Term)) LineFault
onto r more = carry (λ e. e) r (λ a. carry (λ e. e) more (λ as'. Ok (a ∷ as')))

list_back : (a : Atom Term) (bs : List (Atom Term)) → atoms_all_fit (a ∷ bs) ≡ true → read_list (whole_atom term_of) 59 (print_atom print_term a ++ print_further bs) ≡ Ok (a ∷ bs)
list_back a [] h =
    let p = and_parts _ _ h in
    let text = print_atom print_term a in
    ap (read_list (whole_atom term_of) 59) (append-nil text)
    ∙ ap (λ q. every (whole_atom term_of) (q.0 ∷ q.1)) (pieces_whole 59 text (lacks_atom 59 (inr (omega arith, omega arith)) a p.0))
    ∙ ap (λ r. onto r (Ok [])) (whole_back a p.0)
list_back a (b ∷ bs) h =
    let p = and_parts _ _ h in
    let text = print_atom print_term a in
    let rest = print_atom print_term b ++ print_further bs in
    ap (λ q. every (whole_atom term_of) (q.0 ∷ q.1)) (pieces_past 59 text rest (lacks_atom 59 (inr (omega arith, omega arith)) a p.0))
    ∙ ap (λ r. onto r (read_list (whole_atom term_of) 59 rest)) (whole_back a p.0)
    ∙ ap (onto (Ok a)) (list_back b bs p.1)

some_back : (as' : List (Atom Term)) → valid as' ≡ true → read_list (whole_atom term_of) 59 (print_atoms as') ≡ Ok as'
some_back [] h = absurd (false≢true h)
some_back (a ∷ bs) h = list_back a bs (and_parts _ _ (and_parts _ _ (and_parts _ _ h).0).1).0

pub queries_read_back : QueriesReadBack
queries_read_back q = some_back (atoms_of q) q.proper

pub query_lines_read_back : QueryLinesReadBack
query_lines_read_back q = refl

abbrev items : {X E : Type 0} → X → Result X E → X
items d (Ok x) = x
items d (Err e) = d

pub queries_print_apart : QueriesPrintApart
queries_print_apart p q e = ap (items (atoms_of p)) (sym (queries_read_back p) ∙ ap (read_list (whole_atom term_of) 59) e ∙ queries_read_back q)
