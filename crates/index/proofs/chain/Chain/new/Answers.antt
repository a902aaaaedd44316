use Rattle.std.proofs.Common.{ℕ, get_or, ap, ◌∙◌, arith}
use lib.ListN.{get_or-replicate}
use Rattle.std.proofs.lemmas.List.{with_items_is}
use Rattle.std.proofs.lemmas.Result.{err_from_is_err_and}
use Rattle.index.proofs.chain.Chain.new.Goals as goal

pub returns-in_err-next : goal.returns-in_err-next
returns-in_err-next c = let p = err_from_is_err_and c.from_residual-in_err-next.result c.from_residual-in_err-next.ensures.1 in rw p.1 tt

pub link-requires-clause-clear : goal.link-requires-clause-clear
link-requires-clause-clear c = λ x h. ap (λ l. get_or l x 0) (c.as_mut_slice.ensures.value ∙ c.in_ok-first.ensures) ∙ get_or-replicate {A = ℕ} 65536 x 65535 0 h

pub returns : goal.returns
returns c =
    let firsts = with_items_is c.in_ok-first.first c.link.new.first (omega arith) in
    let nexts = with_items_is c.in_ok-next.next c.link.new.next (omega arith) in
    simp (firsts, nexts) c.link.ensures
