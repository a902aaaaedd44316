-- The atoms that stand at the front of an array.
use Rattle.std.specs.Prelude.{ℕ, List, take}
use Rattle.notation.specs.declared.terms.Atom.{Atom}
use Rattle.notation.specs.declared.terms.Term.{Term}
use Rattle.queries.specs.declared.atoms.Atoms.{Atoms}

-- the atoms, in order
abbrev pub held : {N : ℕ} → Atoms N → List (Atom Term)
held as' = take as'.count as'.atoms
