use Rattle.std.proofs.Common.{◌≡◌, ◌+◌, List, ◌∷◌, ◌++◌, map, drop, vec_items, sym, ap, ◌∙◌, subst, arith}
use Rattle.std.proofs.lemmas.List.{at_drop_all, append-nil}
use Rattle.rewriting.specs.Judging.{Ledger, after, after_all}
use Rattle.book.specs.declared.call.Call.{Call as WrittenCall}
use Rattle.book.specs.Ledgers.{book_of}
use Rattle.book.specs.Views.{Shows, call_of, told_of, tellings}
use Rattle.book.proofs.Stepping.{calls_more, told_more}
use Rattle.book.proofs.ledger.Ledger.carry_all.Goals as goal

pub loop-call-preserved : goal.loop-call-preserved
loop-call-preserved g c s sh =
    let l = g.G.Source.facts c.args.s.now in
    let i = c.loop-call.call-index in
    let ws = c.args.calls.now in
    let inv = c.loop-call.invariant s sh in
    let m : Ledger = inv.0 in
    let w : WrittenCall = c.call-item.result in
    let r = c.carry.ensures m inv.1 in
    let e : map (call_of l) (drop i ws) ≡ call_of l w ∷ map (call_of l) (drop (i + 1) ws) = calls_more l ws i w (omega arith) c.call-item.is in (
      after m (call_of l w),
      r.1,
      told_more (vec_items c.loop-call.answers) c.carry.result (vec_items c.push.new.self) m (after m (call_of l w)) (call_of l w) (map (call_of l) (drop (i + 1) ws)) c.in_ok-push.ensures.items r.0
          ∙ ap (λ ks. map told_of (vec_items c.loop-call.answers) ++ tellings m ks) (sym e) ∙ inv.2,
      ap (after_all m) (sym e) ∙ inv.3,
    )

pub returns : goal.returns
returns g c s sh =
    let l = g.G.Source.facts c.args.s.now in
    let i = c.loop-call.call-index in
    let ws = c.args.calls.now in
    let inv = c.loop-call.invariant s sh in
    let m : Ledger = inv.0 in
    let none = at_drop_all (λ (vs : List WrittenCall). map (call_of l) vs) ws i (omega arith) in (
      sym (append-nil (map told_of (vec_items c.loop-call.answers))) ∙ ap (λ ks. map told_of (vec_items c.loop-call.answers) ++ tellings m ks) (sym none) ∙ inv.2,
      subst (λ v. Shows (book_of c.loop-call.self) v) (ap (after_all m) (sym none) ∙ inv.3) inv.1,
    )
