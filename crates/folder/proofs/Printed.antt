-- A turn of the loop that prints the standing queries, and its end.
use Rattle.std.proofs.Common.{◌≡◌, ℕ, ◌+◌, ◌<◌, Bool, true, false, List, [], ◌∷◌, ◌++◌, length, get_or, drop, codes, decimal, sym, ap, ◌∙◌, append_assoc}
use lib.ListN.{length-map}
use Rattle.std.proofs.lemmas.List.{drop_more}
use Rattle.notation.specs.declared.terms.Atom.{Atom}
use Rattle.notation.specs.declared.terms.Term.{Term}
use Rattle.queries.specs.Printing.{print_atoms}
use Rattle.book.specs.declared.ledger.Ledger.{Ledger}
use Rattle.book.specs.Ledgers.{book_of}
use Rattle.book.specs.Rows.{Entry}
use Rattle.folder.specs.Printing.{print_standing}

module _ (qs : List (List (Atom Term))) (ss : List Bool) where
  -- what is left to print from query k on
  abbrev pub left : ℕ → List ℕ
  left k = print_standing k (drop k qs) (drop k ss)

  module _ (k : ℕ) (h : k < length qs) (i : k < length ss) where
    split : left k ≡ print_standing k (get_or qs k [] ∷ drop (k + 1) qs) (get_or ss k false ∷ drop (k + 1) ss)
    split = ap (λ l. print_standing k l (drop k ss)) (drop_more qs k [] h) ∙ ap (print_standing k (get_or qs k [] ∷ drop (k + 1) qs)) (drop_more ss k false i)

    pub skipped : get_or ss k false ≡ false → left (k + 1) ≡ left k
    skipped e = sym (split ∙ ap (λ b. print_standing k (get_or qs k [] ∷ drop (k + 1) qs) (b ∷ drop (k + 1) ss)) e)

    pub printed : (was new : List ℕ) (as' : List (Atom Term)) → get_or ss k false ≡ true → new ≡ was ++ (codes "stands=" ++ (decimal k ++ (codes "\nquery=" ++ (print_atoms as' ++ codes "\n")))) → as' ≡ get_or qs k [] → new ++ left (k + 1) ≡ was ++ left k
    printed was new as' t e is =
        let more = left (k + 1) in
        ap (λ x. x ++ more) e
        ∙ regroup was (codes "stands=") (decimal k) (codes "\nquery=") (print_atoms as') (codes "\n") more
        ∙ ap (λ x. was ++ (codes "stands=" ++ (decimal k ++ (codes "\nquery=" ++ (print_atoms x ++ (codes "\n" ++ more)))))) is
        ∙ ap (λ x. was ++ x) (sym (split ∙ ap (λ b. print_standing k (get_or qs k [] ∷ drop (k + 1) qs) (b ∷ drop (k + 1) ss)) t))
      where
        regroup : (was a b e f g h : List ℕ) → (was ++ (a ++ (b ++ (e ++ (f ++ g))))) ++ h ≡ was ++ (a ++ (b ++ (e ++ (f ++ (g ++ h)))))
        regroup was a b e f g h = simp append_assoc

-- each query stands or does not
pub as_many : (l : Ledger) → length (book_of l).standing ≡ length (book_of l).queries
as_many l = length-map l.table (λ (e : Entry). e.stands) ∙ sym (length-map l.table (λ (e : Entry). e.query))
