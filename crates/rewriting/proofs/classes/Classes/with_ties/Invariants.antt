use Rattle.std.proofs.Common.{◌≡◌, List, ◌++◌}
use Rattle.std.specs.Iterator.Adapters.{rev_source}
use Rattle.std.specs.Slice.Iter.{iter_rest}
use Rattle.notation.specs.declared.terms.Tie.{Tie}
use Rattle.rewriting.specs.Classes.{name_in, classes}
use Rattle.rewriting.specs.Joining.{written_ties}
use Rattle.rewriting.specs.Steps.{Ties}
use Rattle.rewriting.specs.Tables.{Names}
use Rattle.rewriting.proofs.classes.Classes.with_ties.Given as goal

-- the last ties are joined
abbrev pub invariant-loop-tie : goal.invariant-loop-tie
invariant-loop-tie l = (last : List Tie) × (l.ties ≡ iter_rest (rev_source l.tie-iterator) ++ last)
    × ((ts : Ties) → Names l.initial.classes.names (name_in (classes ts)) → Names l.classes.names (name_in (classes (written_ties l.i last ++ ts))))
