use Rattle.std.proofs.Common.{◌≡◌, ◌++◌, map, drop, vec_items}
use Rattle.rewriting.specs.Judging.{Ledger, after_all}
use Rattle.book.specs.Ledgers.{book_of}
use Rattle.book.specs.Views.{Shows, call_of, told_of, tellings}
use Rattle.book.proofs.ledger.Ledger.carry_all.Given as goal

-- what is left to carry out leads from here to where the whole leads
abbrev pub invariant-loop-call : goal.invariant-loop-call
invariant-loop-call g l = (s : Ledger) → Shows (book_of l.initial.self) s →
    (m : Ledger) × Shows (book_of l.self) m
    × (map told_of (vec_items l.answers) ++ tellings m (map (call_of (g.G.Source.facts l.s)) (drop l.call-index l.calls))
    ≡ map told_of (vec_items l.initial.answers) ++ tellings s (map (call_of (g.G.Source.facts l.s)) l.calls))
    × (after_all m (map (call_of (g.G.Source.facts l.s)) (drop l.call-index l.calls)) ≡ after_all s (map (call_of (g.G.Source.facts l.s)) l.calls))
