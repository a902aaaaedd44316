use Rattle.std.proofs.Common.{◌≡◌, ◌<◌, Bool, List, [], ◌∷◌, map, length, vec_items, sym, refl, ap, ◌∙◌, subst, ap₂, arith, length-append}
use lib.ListN.{length-map}
use Rattle.std.proofs.lemmas.List.{map_push}
use Rattle.std.proofs.lemmas.Result.{err_from_is_err_and}
use Rattle.notation.specs.declared.terms.Atom.{Atom}
use Rattle.notation.specs.declared.terms.Term.{Term}
use Rattle.queries.specs.declared.rule.Rule.{Rule}
use Rattle.queries.specs.Queries.{atoms_of}
use Rattle.queries.specs.declared.row.Row.{Row}
use Rattle.rewriting.specs.Judging.{Ledger, Outcome, judge, enters}
use Rattle.rewriting.specs.Steps.{Step}
use Rattle.rewriting.specs.Written.{step_of, logic_atoms, Shows as ShowsRows}
use Rattle.rewriting.proofs.Judged.{judge_is_right}
use Rattle.book.specs.Ledgers.{book_of}
use Rattle.book.specs.Rows.{Entry, entry_of, entered, queries_in, standing_in, all_valid}
use Rattle.book.specs.Views.{Shows}
use Rattle.book.specs.declared.ledger.Ledger.{Ledger as WrittenLedger}
use Rattle.book.proofs.Answering.{rows_shown}
use Rattle.book.proofs.Listed.{rows_valid, valid_push}
use Rattle.book.proofs.Shown.{ledger_of, shows_it}
use Rattle.book.proofs.Stepping.{even}
use Rattle.book.proofs.ledger.Ledger.step.Goals as goal

-- what was judged on the rules and the rows of a ledger goes for each that its book shows
judged : (l : WrittenLedger) (rules : List Rule) (rows : List Row) (t : Step) (o : Outcome) → rules ≡ vec_items l.rules → map entry_of rows ≡ l.table → ((s : Ledger) → ShowsRows rules rows s → o ≡ judge s t) → (s : Ledger) → Shows (book_of l) s → judge s t ≡ o
judged l rules rows t o e f h s sh = sym (h s (subst (λ us. ShowsRows us rows s) (sym e) (rows_shown (vec_items l.rules) rows l.opened l.table s f sh)))

-- there is room where a step enters a query
room : (l : WrittenLedger) (t : Step) (n : List (Atom Term)) → ((s : Ledger) → Shows (book_of l) s → judge s t ≡ enters (logic_atoms n)) → length l.table < 64
room l t n h =
    let s = ledger_of (book_of l) in
    let f = ((judge_is_right s t (logic_atoms n)).0 (h s (shows_it (book_of l) (even l)))).1.room in
    let k = length-map (queries_in l.table) logic_atoms in
    let n = length-map l.table (λ (e : Entry). e.query) in
    omega arith

pub judge-requires : goal.judge-requires
judge-requires c = rows_valid c.rows.result.now c.args.self.now.table c.rows.ensures c.args.self.now.sound

pub push-requires : goal.push-requires
push-requires c = room c.args.self.now _ _ (judged c.args.self.now _ _ (step_of c.args.step.now) (enters (logic_atoms (atoms_of c.in_ok-new.new))) c.deref.ensures.value c.rows.ensures c.in_ok-new.ensures)

pub invariant_of-self-2-clause-few : goal.invariant_of-self-2-clause-few
invariant_of-self-2-clause-few c =
    let h = room c.args.self.now _ _ (judged c.args.self.now _ _ (step_of c.args.step.now) (enters (logic_atoms (atoms_of c.in_ok-new.new))) c.deref.ensures.value c.rows.ensures c.in_ok-new.ensures) in
    let e = ap length c.push.ensures ∙ length-append c.args.self.now.table (entered (atoms_of c.in_ok-new.new) ∷ []) in
    omega arith

pub invariant_of-self-2-clause-sound : goal.invariant_of-self-2-clause-sound
invariant_of-self-2-clause-sound c =
    let l = c.args.self.now in
    let n = c.in_ok-new.new in
    ap (λ es. all_valid (queries_in es)) c.push.ensures ∙ valid_push l.table (atoms_of n) l.sound n.proper

pub returns-in_err-new : goal.returns-in_err-new
returns-in_err-new c =
    let p = err_from_is_err_and c.from_residual.result c.from_residual.ensures.1 in
    rw (p.1, p.2) (refl, judged c.args.self.now _ _ (step_of c.args.step.now) _ c.deref.ensures.value c.rows.ensures c.in_err-new.ensures)

pub returns : goal.returns
returns c =
    let l = c.args.self.now in
    let n = c.in_ok-new.new in (
      c.len-number.ensures ∙ sym (length-map l.table (λ (e : Entry). e.query)),
      atoms_of n,
      ap (λ (es : List Entry). record { rules = (book_of l).rules; opened = l.opened; queries = queries_in es; standing = standing_in es }) c.push.ensures
          ∙ ap₂ (λ (qs : List (List (Atom Term))) (bs : List Bool). record { rules = (book_of l).rules; opened = l.opened; queries = qs; standing = bs }) (map_push (λ (e : Entry). e.query) l.table (entered (atoms_of n))) (map_push (λ (e : Entry). e.stands) l.table (entered (atoms_of n))),
      judged l _ _ (step_of c.args.step.now) _ c.deref.ensures.value c.rows.ensures c.in_ok-new.ensures,
    )
