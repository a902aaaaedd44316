use Rattle.std.proofs.Common.{◌-◌, [], ◌∷◌, length, get_or, take, drop, Some, sym, ap, arith, rules}
use Rattle.std.specs.Fmt.{option_append}
use Rattle.std.proofs.Output.{has_written_append, has_written_of_eq}
use Rattle.std.proofs.lemmas.Option.{MatchOption-at_some}
use Rattle.notation.specs.Printing.{print_term}
use Rattle.notation.proofs.Shown.{shown_atom}
use Rattle.queries.proofs.Loops.{no_atom}
use Rattle.queries.proofs.Printed.{further_more}
use Rattle.queries.proofs.printing.ListedDisplay.fmt.Goals as goal

pub loop-a-preserved : goal.loop-a-preserved
loop-a-preserved g c = λ p.
    let atoms = c.args.self.now.0.now in
    let rest = take (length atoms - 1) (drop 1 atoms) in
    let i = c.loop-a.a-index in
    let h = c.loop-a.invariant p in
    let text = ap (option_append (Some (59 ∷ []))) (shown_atom print_term (get_or rest i no_atom)) in
    has_written_of_eq _ _ _ _ _ (sym (further_more rest i no_atom (omega arith))) (has_written_append _ _ _ _ _ _ h (MatchOption-at_some _ _ _ text c.in_ok-write-2.ensures.writes h.plain (search rules)))
