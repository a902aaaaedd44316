use Rattle.std.proofs.Common.{◌≡◌, ℕ, Bool, true, false, not, ◌&&◌, ◌||◌, eqb, sym, ◌∙◌, rules}
use Rattle.std.specs.List.{list_any}
use Rattle.std.proofs.lemmas.Bool.{false≢true}
use Rattle.std.proofs.lemmas.Iterator.{YieldsList-from_slice}
use Rattle.std.proofs.lemmas.Iterator.Consumers.{YieldsList-from_enumerate}
use Rattle.std.proofs.lemmas.Iterator.Search.{all_from_yields_List}
use borrow.Author.Tests.{tests}
use Rattle.notation.specs.declared.terms.Term.{Term}
use Rattle.notation.specs.declared.terms.Atom.{Atom}
use Rattle.notation.specs.Logic.{query_atom}
use Rattle.rewriting.specs.Occurring.{mentions}
use Rattle.rewriting.specs.Written.{logic_atoms}
use Rattle.rewriting.proofs.Turns.{none_off, any_split}
use Rattle.rewriting.proofs.unnamed.occurs_only_at.Goals as goal

only : (a f r : Bool) → (a || f) ≡ true → r ≡ not f → r ≡ (a && not f)
only true f r e h = h
only false true r e h = h
only false false r e h = absurd (false≢true e)

never : (a f r : Bool) → r ≡ false → (a || f) ≡ r → r ≡ (a && not f)
never true f r e h = absurd (false≢true (sym e ∙ sym h))
never false f r e h = e

pub returns-then-occurs : goal.returns-then-occurs
returns-then-occurs c =
    let ns = c.args.numbers.now in
    let xs = c.args.atoms.now in
    let P = mentions c.args.v in
    only _ _ c.all.result (any_split P ns 0 (logic_atoms xs) ∙ sym c.occurs.ensures ∙ c.if-occurs.true)
    (all_from_yields_List (λ (p : ℕ × Atom Term). list_any (λ y. eqb y p.0) ns || not (mentions c.args.v (query_atom p.1))) _ _ c.all.result c.all.ensures.ran
    (YieldsList-from_enumerate (YieldsList-from_slice xs (cc)) (cc)) (λ x b q k. search (rules, tests))
    ∙ none_off P query_atom ns 0 xs)

pub returns-else-occurs : goal.returns-else-occurs
returns-else-occurs c = never _ _ _ c.if-occurs.false (any_split (mentions c.args.v) c.args.numbers.now 0 (logic_atoms c.args.atoms.now) ∙ sym c.occurs.ensures)
