use Rattle.std.proofs.Common.{◌≡◌, List, ◌++◌, map, length}
use Rattle.std.specs.Iterator.Adapters.{rev_source, enumerate_source, enumerate_count}
use Rattle.std.specs.Slice.Iter.{iter_rest}
use Rattle.rewriting.specs.declared.steps.Part.{Part}
use Rattle.rewriting.specs.Classes.{class_name}
use Rattle.rewriting.specs.Tables.{Names, ties_from}
use Rattle.rewriting.specs.Written.{part_of}
use Rattle.rewriting.proofs.classes.Classes.of.Given as goal

-- the ties of the last parts are joined
abbrev pub invariant-loop-i : goal.invariant-loop-i
invariant-loop-i l =
    let it = rev_source l.i-iterator in
    let rest = iter_rest (enumerate_source it) in
    (last : List Part) × (enumerate_count it ≡ 0) × (l.parts ≡ rest ++ last) × Names l.classes.names (class_name (ties_from (length rest) (map part_of last)))
