use Rattle.std.proofs.Common.{◌≡◌, drop}
use Rattle.notation.specs.Logic.{rename}
use Rattle.rewriting.specs.Classes.{same_ref}
use Rattle.rewriting.specs.Computing.{same_atom, any}
use Rattle.rewriting.specs.Pieces.{atom_of}
use Rattle.rewriting.specs.Steps.{Ref}
use Rattle.rewriting.specs.Tables.{Names}
use Rattle.rewriting.specs.Written.{named_side}
use Rattle.rewriting.proofs.pieces.Side.meets.Given as goal

abbrev pub invariant-loop-j : goal.invariant-loop-j
invariant-loop-j l = (f : Ref → Ref) → Names l.classes.names f →
    any (same_atom same_ref (rename f (atom_of l.a))) (named_side f l.self.owner l.self.numbers.now l.j-counter (drop l.j-counter l.self.atoms.now))
    ≡ any (same_atom same_ref (rename f (atom_of l.a))) (named_side f l.self.owner l.self.numbers.now 0 l.self.atoms.now)
