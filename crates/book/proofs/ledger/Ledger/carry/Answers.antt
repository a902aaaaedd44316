use Rattle.std.proofs.Common.{◌≡◌, Ok, Err, sym, subst}
use Rattle.notation.specs.Logic.{Facts}
use Rattle.rewriting.specs.Judging.{Ledger, after}
use Rattle.rewriting.specs.Written.{step_of}
use Rattle.book.specs.declared.call.Call.{Call}
use Rattle.book.specs.Ledgers.{book_of}
use Rattle.book.specs.Strikes.{Book}
use Rattle.book.specs.Views.{Shows, Told, call_of, telling}
use Rattle.book.proofs.Answering.{strike_told, standing_told, opening_told, rules_told}
use Rattle.book.proofs.Stepping.{step_entered, step_refused, even, opened_there}
use Rattle.book.proofs.ledger.Ledger.carry.Goals as goal

-- the call w is v
at_call : (l : Facts) (w v : Call) (s : Ledger) (t : Told) (new : Book) → w ≡ v →
    (t ≡ telling s (call_of l v)) × Shows new (after s (call_of l v)) → (t ≡ telling s (call_of l w)) × Shows new (after s (call_of l w))
at_call l w v s t new e h = subst (λ k. (t ≡ telling s (call_of l k)) × Shows new (after s (call_of l k))) (sym e) h

pub returns-in-Ok : goal.returns-in-Ok
returns-in-Ok g c s sh =
    let l = c.args.self.now in
    at_call (g.G.Source.facts c.args.s.now) c.args.call.now _ s _ _ c.in-Step.is
    (step_entered (book_of l) s (even l) (opened_there l) sh (step_of c.in-Step.step) _ _ c.in-Ok.ensures)

pub returns-in-Err : goal.returns-in-Err
returns-in-Err g c s sh =
    let l = c.args.self.now in
    at_call (g.G.Source.facts c.args.s.now) c.args.call.now _ s _ _ c.in-Step.is
    (step_refused (book_of l) s sh (step_of c.in-Step.step) _ _ c.in-Err.ensures)

pub returns-in-Ok-strike : goal.returns-in-Ok-strike
returns-in-Ok-strike g c s sh =
    let l = c.args.self.now in
    at_call (g.G.Source.facts c.args.s.now) c.args.call.now _ s _ _ c.in-Strike.is
    (strike_told (book_of l) s (even l) sh c.in-Strike.struck c.in-Strike.by (Ok tt) _ c.in-Ok-strike.ensures)

pub returns-in-Err-strike : goal.returns-in-Err-strike
returns-in-Err-strike g c s sh =
    let l = c.args.self.now in
    at_call (g.G.Source.facts c.args.s.now) c.args.call.now _ s _ _ c.in-Strike.is
    (strike_told (book_of l) s (even l) sh c.in-Strike.struck c.in-Strike.by (Err c.in-Err-strike.refusal) _ c.in-Err-strike.ensures)

pub returns-in-Standing : goal.returns-in-Standing
returns-in-Standing g c s sh =
    let l = c.args.self.now in
    at_call (g.G.Source.facts c.args.s.now) c.args.call.now _ s _ _ c.in-Standing.is
    (standing_told (book_of l) s (even l) sh (g.G.Source.facts c.args.s.now) c.standing.result c.standing.ensures, sh)

pub returns-in-Opening : goal.returns-in-Opening
returns-in-Opening g c s sh =
    let l = c.args.self.now in
    at_call (g.G.Source.facts c.args.s.now) c.args.call.now _ s _ _ c.in-Opening.is
    (opening_told (book_of l) s sh (opened_there l) (g.G.Source.facts c.args.s.now) c.opening.result c.opening.ensures, sh)

pub returns-in-Rules : goal.returns-in-Rules
returns-in-Rules g c s sh =
    let l = c.args.self.now in
    at_call (g.G.Source.facts c.args.s.now) c.args.call.now _ s _ _ c.in-Rules.is
    (rules_told (book_of l) s sh (g.G.Source.facts c.args.s.now) c.broken.result c.broken.ensures, sh)
