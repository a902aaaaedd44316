use Rattle.std.proofs.Common.{true, map, take}
use Rattle.notation.specs.Logic.{rename}
use Rattle.rewriting.specs.Drafts.{Adds}
use Rattle.rewriting.specs.Steps.{off_numbers}
use Rattle.rewriting.specs.Written.{ref_of, logic_atoms}
use Rattle.rewriting.proofs.draft.Draft.add_others.Given as goal

abbrev pub invariant-loop-j : goal.invariant-loop-j
invariant-loop-j l = Adds true l.classes.names (map (rename (ref_of l.side.owner)) (off_numbers l.side.numbers.now 0 (logic_atoms (take l.j-counter l.side.atoms.now)))) l.initial.self l.self
