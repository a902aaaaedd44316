use Rattle.std.proofs.Common.{[], ◌∷◌, sym, ap, ◌∙◌}
use Rattle.queries.specs.declared.row.Row.{Row}
use Rattle.rewriting.specs.Written.{first_atoms}
use Rattle.rewriting.proofs.Nth.{nth_at, nth_past}
use Rattle.rewriting.proofs.rows.atoms_at.Goals as goal

pub returns-in-Some : goal.returns-in-Some
returns-in-Some c =
    let row = c.in-Some.ensures.lookup in
    c.as_slice.ensures ∙ ap (λ (w : Row). first_atoms (w ∷ [])) row.1 ∙ sym (ap first_atoms (nth_at c.args.k c.args.rows.now c.in-Some.row.now row.3.0))

pub returns-in-None : goal.returns-in-None
returns-in-None c = sym (ap first_atoms (nth_past c.args.k c.args.rows.now c.in-None.ensures.lookup.3))
