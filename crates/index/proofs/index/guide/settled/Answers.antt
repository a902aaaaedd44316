use Rattle.std.proofs.Common.{Some, sym, ap, ◌∙◌}
use Rattle.std.proofs.lemmas.Bool.{ltb-true}
use Rattle.notation.specs.declared.terms.Term.TheVariants.{Variable}
use Rattle.index.proofs.Fitted.{fits_at}
use Rattle.index.proofs.index.guide.settled.Goals as goal

pub value_of-requires : goal.value_of-requires
value_of-requires c =
    let v = c.in-Variable.v in
    ltb-true v 32 (fits_at c.args.ts.now c.args.at (Variable v) c.requires (sym c.in_ok-k.ensures ∙ ap Some c.in-Variable.is))
