-- One strike more.
use Rattle.std.proofs.Common.{◌≡◌, ℕ, List, [], ◌∷◌, ◌++◌, codes, Result, sym, refl, ap, ◌∙◌, subst, append_assoc, append-nil}
use Rattle.book.specs.declared.refusal.Refusal.{Refusal}
use Rattle.book.specs.Runs.{Ran}
use Rattle.book.specs.Strikes.{Book, Strikes}
use Rattle.folder.specs.Printing.{print_event, print_events}
use Rattle.folder.specs.Printouts.{Struck}

abbrev Outcome : Type 0
Outcome = Result (Unit {0}) Refusal

ran_push : (b mid last : Book) (es : List (ℕ × ℕ)) (os : List Outcome) (e : ℕ × ℕ) (o : Outcome) → Ran b es os mid → Strikes mid e.0 e.1 o last → Ran b (es ++ e ∷ []) (os ++ o ∷ []) last
ran_push b mid last [] [] e o r s = (last, subst (λ x. Strikes x e.0 e.1 o last) (sym r) s, refl)
ran_push b mid last [] (p ∷ os) e o r s = absurd r
ran_push b mid last (x ∷ es) [] e o r s = absurd r
ran_push b mid last (x ∷ es) (p ∷ os) e o r s = (r.0, r.1, ran_push r.0 mid last es os e o r.2 s)

events_push : (b mid : Book) (es : List (ℕ × ℕ)) (os : List Outcome) (e : ℕ × ℕ) (o : Outcome) → Ran b es os mid → print_events (es ++ e ∷ []) (os ++ o ∷ []) ≡ print_events es os ++ (print_event e o ++ codes "\n")
events_push b mid [] [] e o r = refl
events_push b mid [] (p ∷ os) e o r = absurd r
events_push b mid (x ∷ es) [] e o r = absurd r
events_push b mid (x ∷ es) (p ∷ os) e o r =
    ap (λ l. print_event x p ++ (codes "\n" ++ l)) (events_push r.0 mid es os e o r.2)
    ∙ regroup (print_event x p) (codes "\n") (print_events es os) (print_event e o ++ codes "\n")
  where
    regroup : (a b d e : List ℕ) → a ++ (b ++ (d ++ e)) ≡ (a ++ (b ++ d)) ++ e
    regroup a b d e = simp append_assoc

pub struck_none : (b : Book) (was : List ℕ) → Struck b [] b was was
struck_none b was = record { outcomes = []; ran = refl; printed = sym (append-nil was) }

pub struck_more : (b mid last : Book) (es : List (ℕ × ℕ)) (e : ℕ × ℕ) (o : Outcome) (was so_far new : List ℕ) → Struck b es mid was so_far → Strikes mid e.0 e.1 o last → new ≡ so_far ++ (print_event e o ++ codes "\n") → Struck b (es ++ e ∷ []) last was new
struck_more b mid last es e o was so_far new s k p = record {
  outcomes = s.outcomes ++ o ∷ [];
  ran = ran_push b mid last es s.outcomes e o s.ran k;
  printed = p ∙ ap (λ x. x ++ (print_event e o ++ codes "\n")) s.printed ∙ append_assoc was (print_events es s.outcomes) (print_event e o ++ codes "\n") ∙ ap (λ x. was ++ x) (sym (events_push b mid es s.outcomes e o s.ran));
}
