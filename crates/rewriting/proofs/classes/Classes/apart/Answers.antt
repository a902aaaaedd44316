use Rattle.std.proofs.Common.{◌≡◌, ℕ, ◌+◌, ◌<◌, get_or, set, ap, subst, ◌∙◌, arith, length-set}
use Rattle.std.proofs.lemmas.List.{map-id}
use Rattle.std.proofs.lemmas.List.Edits.{fill_by_more}
use Rattle.std.proofs.lemmas.List.FromFn.{fill_by_all}
use Rattle.rewriting.proofs.classes.Classes.apart.Goals as goal

pub loop-name-preserved : goal.loop-name-preserved
loop-name-preserved c =
    let inv = c.loop-name.invariant in
    let names = c.loop-name.name-items in
    let i = c.loop-name.name-index in
    let more : (k : ℕ) → k < i + 1 → get_or (set names i i) k 0 ≡ k = fill_by_more (λ k. k) names i 0 (omega (arith, inv.1, c.loop-name-test.true)) inv.2 in
    (ap (λ k. k + 1) inv.0, length-set names i _ ∙ inv.1, subst (λ v. (k : ℕ) → k < i + 1 → get_or (set names i v) k 0 ≡ k) (let e : i ≡ c.loop-name.place = omega (arith, inv.0) in e) more)

pub returns : goal.returns
returns c =
    let inv = c.loop-name.invariant in
    fill_by_all (λ k. k) c.loop-name.name-items 1160 0 inv.1 (λ k h. inv.2 k (omega arith)) ∙ map-id _
