use Rattle.std.proofs.Common.{List, [], map, rules, tests, sym, ◌∙◌, subst}
use Rattle.std.proofs.lemmas.Iterator.{IsFirst-from_position, YieldsList-from_slice}
use Rattle.std.proofs.lemmas.Bool.Decides.{not_from_Decides}
use Rattle.notation.specs.declared.terms.Atom.{Atom}
use Rattle.notation.specs.declared.terms.Term.{Term}
use Rattle.notation.specs.Logic.{query_atom}
use Rattle.queries.specs.Queries.{atoms_of}
use Rattle.search.specs.Holding.{Holds}
use Rattle.search.specs.Answers.{LowestHeld}
use Rattle.search.proofs.Asking.{lowest_from_first}
use Rattle.search.proofs.question.lowest.Goals as goal

pub returns-in_err-k : goal.returns-in_err-k
returns-in_err-k g c =
    let l = g.G.Source.facts c.args.s.now in
    let Held : List (Atom Term) → Type 0 = λ q. Holds (map query_atom q) l in
    subst (LowestHeld (map atoms_of c.args.queries.now) l) (c.in_err-k.was ∙ sym c.from_residual.ensures)
    (lowest_from_first atoms_of [] Held c.args.queries.now c.position.result
    (IsFirst-from_position _ _ _ (λ q. Held (atoms_of q)) (λ q. Held (atoms_of q) → ⊥) c.position.ensures.ran (YieldsList-from_slice c.args.queries.now (cc)) (λ x q k. search (rules, tests)) (λ x q k. search (rules, tests, not_from_Decides))))

pub returns : goal.returns
returns g c =
    let l = g.G.Source.facts c.args.s.now in
    let Held : List (Atom Term) → Type 0 = λ q. Holds (map query_atom q) l in
    subst (LowestHeld (map atoms_of c.args.queries.now) l) c.in_ok-k.was
    (lowest_from_first atoms_of [] Held c.args.queries.now c.position.result
    (IsFirst-from_position _ _ _ (λ q. Held (atoms_of q)) (λ q. Held (atoms_of q) → ⊥) c.position.ensures.ran (YieldsList-from_slice c.args.queries.now (cc)) (λ x q k. search (rules, tests)) (λ x q k. search (rules, tests, not_from_Decides))))
