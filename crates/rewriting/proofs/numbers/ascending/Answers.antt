use Rattle.std.proofs.Common.{◌≡◌, ℕ, suc, ◌<◌, ◌≤◌, ◌-◌, true, false, ◌&&◌, leb, ltb, List, [], ◌∷◌, length, sym, ◌∙◌, ⊎_elim, arith}
use Rattle.std.proofs.lemmas.Bool.{and_parts, leb-true, ltb-true, lt-leb, cases_Bool}
use Rattle.rewriting.specs.Judging.{rising, numbers_fit}
use Rattle.rewriting.proofs.numbers.ascending.Goals as goal

-- no more numbers rise from lo below hi than there are between them
rising_few : (lo hi : ℕ) (ns : List ℕ) → rising lo hi ns ≡ true → length ns ≤ hi - lo
rising_few lo hi [] e = omega arith
rising_few lo hi (n ∷ ns) e =
    let p = and_parts (leb lo n) (ltb n hi && rising (suc n) hi ns) e in
    let q = and_parts (ltb n hi) (rising (suc n) hi ns) p.1 in
    omega (arith, leb-true lo n p.0, ltb-true n hi q.0, rising_few (suc n) hi ns q.1)

many_unfit : (hi : ℕ) (ns : List ℕ) → hi < length ns → numbers_fit hi ns ≡ false
many_unfit hi [] l = absurd (omega arith)
many_unfit hi (n ∷ ns) l = ⊎_elim (λ e. absurd (omega (arith, l, rising_few 0 hi (n ∷ ns) e))) (λ e. e) (cases_Bool (rising 0 hi (n ∷ ns)))

pub returns-else-numbers-count : goal.returns-else-numbers-count
returns-else-numbers-count c =
    let ns = c.args.numbers.now in
    let many : c.args.count < length ns = omega (arith, c.if-numbers-count.false) in
    lt-leb (length ns) c.args.count many ∙ sym (many_unfit c.args.count ns many)
