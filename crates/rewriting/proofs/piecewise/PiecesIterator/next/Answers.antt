use Rattle.std.proofs.Common.{ap, ◌∙◌, arith, rules, length, ◌<◌}
use Rattle.queries.specs.Checks.{atoms_all_fit}
use Rattle.rewriting.proofs.Ranged.{row_fits}
use Rattle.rewriting.proofs.piecewise.PiecesIterator.next.Goals as goal

pub invariant_of-result : goal.invariant_of-result
invariant_of-result c =
    let s = c.args.self.now.proposal in
    let few = s.few in
    let lt : c.args.self.now.next < length s.parts.now = search rules in
    record { numbered = omega arith; head_fits = c.head.ensures.fits; query_fits = ap atoms_all_fit c.atoms_at.ensures ∙ row_fits s.rows.now _ s.valid }
