-- What a step answers is what is told of it.
use Rattle.std.proofs.Common.{◌≡◌, ℕ, ◌+◌, ◌<◌, ◌≤◌, List, [], ◌∷◌, ◌++◌, map, length, get_or, drop, Ok, Err, sym, ap, ◌∙◌, subst, arith}
use lib.ListN.{length-map}
use Rattle.std.proofs.lemmas.List.{at_drop_more, map_push, append_assoc}
use Rattle.notation.specs.Logic.{Facts}
use Rattle.rewriting.specs.declared.refusal.StepRefusal.{StepRefusal}
use Rattle.rewriting.specs.Judging.{Ledger, Call, step, after, after_step}
use Rattle.rewriting.specs.Steps.{Step}
use Rattle.rewriting.specs.Written.{logic_atoms, refusal_number}
use Rattle.book.specs.declared.answer.Answer.{Answer}
use Rattle.book.specs.declared.call.Call.{Call as WrittenCall}
use Rattle.book.specs.declared.ledger.Ledger.{Ledger as WrittenLedger}
use Rattle.book.specs.Ledgers.{book_of}
use Rattle.book.specs.Rows.{Entry}
use Rattle.book.specs.Strikes.{Book}
use Rattle.book.specs.Views.{Shows, Steps, entered, entered_as, refused, call_of, told_of, tell, telling, tellings}
use Rattle.book.proofs.Answering.{Even, even_entries, entered_shows}

-- as many marks of standing as queries
pub even : (l : WrittenLedger) → Even (book_of l)
even l = even_entries l.table

-- no more were opened than there are
pub opened_there : (l : WrittenLedger) → l.opened ≤ length (book_of l).queries
opened_there l = let n = length-map l.table (λ (e : Entry). e.query) in omega (arith, l.all)

pub step_entered : (b : Book) (s : Ledger) → Even b → b.opened ≤ length b.queries → Shows b s → (t : Step) (k : ℕ) (new : Book) → Steps b t (Ok k) new →
    (entered_as k ≡ telling s (step t)) × Shows new (after s (step t))
step_entered b s ev few sh t k new h =
    let e = h.3 s sh in
    let n : length s.entered ≡ length b.queries = ap length sh.entered_are ∙ length-map b.queries logic_atoms in (
      ap entered_as (h.0 ∙ sym n) ∙ ap (tell (length s.entered)) (sym e),
      subst (λ v. Shows v (after s (step t))) (sym h.2) (subst (λ o. Shows (entered b h.1) (after_step s o)) (sym e) (entered_shows b s ev few sh h.1)),
    )

pub step_refused : (b : Book) (s : Ledger) → Shows b s → (t : Step) (e : StepRefusal) (new : Book) → Steps b t (Err e) new →
    (refused (refusal_number e).0 (refusal_number e).1 ≡ telling s (step t)) × Shows new (after s (step t))
step_refused b s sh t e new h =
    let j = h.1 s sh in
    (ap (tell (length s.entered)) (sym j), subst (λ v. Shows v (after s (step t))) (sym h.0) (subst (λ o. Shows b (after_step s o)) (sym j) sh))

-- ---------------------------------------------------------------- calls, one after the other

-- the calls from a place on, the one there first
pub calls_more : (l : Facts) (ws : List WrittenCall) (i : ℕ) (w : WrittenCall) → i < length ws → w ≡ get_or ws i w → map (call_of l) (drop i ws) ≡ call_of l w ∷ map (call_of l) (drop (i + 1) ws)
calls_more l ws i w h is = at_drop_more (map (call_of l)) ws i w h ∙ ap (λ v. call_of l v ∷ map (call_of l) (drop (i + 1) ws)) (sym is)

-- one answer more, which tells what is told of the call
pub told_more : (as' : List Answer) (a : Answer) (new : List Answer) (m u : Ledger) (k : Call) (ks : List Call) → new ≡ as' ++ a ∷ [] → told_of a ≡ telling m k →
    map told_of new ++ tellings u ks ≡ map told_of as' ++ (telling m k ∷ tellings u ks)
told_more as' a new m u k ks e t =
    ap (λ v. map told_of v ++ tellings u ks) e ∙ ap (λ v. v ++ tellings u ks) (map_push told_of as' a) ∙ append_assoc (map told_of as') (told_of a ∷ []) (tellings u ks)
    ∙ ap (λ v. map told_of as' ++ (v ∷ tellings u ks)) t
