use Rattle.std.proofs.Common.{◌≡◌, drop, map}
use Rattle.notation.specs.Logic.{rename}
use Rattle.rewriting.specs.Judging.{within}
use Rattle.rewriting.specs.Pieces.{atoms_meant}
use Rattle.rewriting.specs.Steps.{Ref}
use Rattle.rewriting.specs.Tables.{Names}
use Rattle.rewriting.specs.Written.{named_side}
use Rattle.rewriting.proofs.pieces.Side.within.Given as goal

abbrev pub invariant-loop-j : goal.invariant-loop-j
invariant-loop-j l = (f : Ref → Ref) → Names l.classes.names f →
    within (named_side f l.self.owner l.self.numbers.now l.j-counter (drop l.j-counter l.self.atoms.now)) (map (rename f) (atoms_meant l.other))
    ≡ within (named_side f l.self.owner l.self.numbers.now 0 l.self.atoms.now) (map (rename f) (atoms_meant l.other))
