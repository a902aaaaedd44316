use Rattle.std.proofs.Common.{◌≡◌, List, [], length, map, vec_items, Ok, subst}
use Rattle.notation.specs.declared.faults.FolderFault.{FolderFault}
use Rattle.notation.specs.Logic.{Facts}
use Rattle.queries.specs.declared.query.Query.{Query}
use Rattle.queries.specs.declared.rule.Rule.{Rule}
use Rattle.queries.specs.Queries.{atoms_of}
use Rattle.queries.specs.Rules.{rule_of}
use Rattle.queries.proofs.Valid.{carried, same_ok}
use Rattle.search.specs.Rules.{meant}
use Rattle.rewriting.specs.Judging.{open_ledger, after_all}
use Rattle.rewriting.specs.Written.{logic_atoms}
use Rattle.laws.proofs.Calls.{run_all}
use Rattle.laws.proofs.Law.{law_holds}
use Rattle.book.specs.declared.answer.Answer.{Answer}
use Rattle.book.specs.declared.call.Call.{Call}
use Rattle.book.specs.LawOfRuns.{CarriedOut, CarriesAll}
use Rattle.book.specs.Ledgers.{book_of, check_counts, new_book, open_book}
use Rattle.book.specs.Strikes.{Book}
use Rattle.book.specs.Views.{Shows, call_of}
use Rattle.book.proofs.Answering.{opened_shows}
use Rattle.book.proofs.Opened.{opened_with}
use Rattle.book.proofs.ledger.run.run.Goals as goal
use Rattle.book.proofs.ledger.run.run.Goals.{in-Ok+in_ok-carry_all-in-Ok, in-Err+in_ok-carry_all-in-Err}

-- a book that was opened, and carried out calls with no answers before, has run
has_run : (rules : List Rule) (qs : List Query) (ks : List Call) (l : Facts) (was answers : List Answer) (b new : Book) →
    open_book (map rule_of rules) (map atoms_of qs) ≡ Ok b → was ≡ [] → CarriesAll b (map (call_of l) ks) was answers new →
    CarriedOut (map rule_of rules) (map atoms_of qs) ks l answers new
has_run rules qs ks l was answers b new opened none all =
    let rs = map rule_of rules in
    let os = map atoms_of qs in
    let s = open_ledger (map meant rs) (map logic_atoms os) in
    let is = same_ok (carried {X = Unit {0}} {E = FolderFault} (λ e. e) (check_counts (length rs) (length os)) (λ _. Ok (new_book rs os)) b opened).2 in
    let h = subst (λ v. CarriesAll b (map (call_of l) ks) v answers new) none all s (subst (λ v. Shows v s) is (opened_shows rs os)) in
    let ran = run_all s (map (call_of l) ks) in
    record { ledger = after_all s (map (call_of l) ks); run = ran; shown = h.1; told = h.0; law = law_holds _ _ (opened_with rules qs) _ _ ran }

pub returns : goal.returns
returns g c =
    let rs = c.args.rules.now in
    let qs = c.args.queries.now in
    let ks = c.args.calls.now in
    let l = g.S.Source.facts c.args.source.now in
    let b = book_of c.in_ok-ledger.ledger in
    elim c.match-build.branch [
      | in-Ok+in_ok-carry_all-in-Ok w ↦
          let carried = subst (λ l. CarriesAll b (map (call_of l) ks) (vec_items c.new-answers.result) (vec_items w.carry_all.new.answers) (book_of w.carry_all.new.self)) w.in-Ok.ensures w.in_ok-carry_all-in-Ok.ensures in
          rw (w.ledger-is, w.answers-is) (has_run rs qs ks l _ _ _ _ c.in_ok-ledger.ensures c.new-answers.ensures.items carried)
      | in-Err+in_ok-carry_all-in-Err w ↦ rw (w.ledger-is, w.answers-is) (has_run rs qs ks l _ _ _ _ c.in_ok-ledger.ensures c.new-answers.ensures.items w.in_ok-carry_all-in-Err.ensures)
    ]
