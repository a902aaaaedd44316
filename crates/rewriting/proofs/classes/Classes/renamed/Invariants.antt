use Rattle.std.proofs.Common.{◌≡◌, ◌++◌, map, length, take, drop}
use Rattle.rewriting.specs.Joining.{relabelled}
use Rattle.rewriting.proofs.classes.Classes.renamed.Given as goal

abbrev pub invariant-loop-name : goal.invariant-loop-name
invariant-loop-name l =
    let old = l.fn.self.names in (length l.name-items ≡ length old) × (l.name-items ≡ map (relabelled l.from l.to) (take l.name-index old) ++ drop l.name-index old)
