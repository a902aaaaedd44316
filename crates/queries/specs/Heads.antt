-- The atoms of a head and of a body.
use Rattle.std.specs.Prelude.{List, Ok, Err, Result}
use Rattle.notation.specs.declared.terms.Atom.{Atom}
use Rattle.notation.specs.declared.terms.Term.{Term}
use Rattle.queries.specs.Atoms.{held}
use Rattle.queries.specs.declared.body.Body.{Body}
use Rattle.queries.specs.declared.head.Head.{Head}

-- the atoms of a head, in order
abbrev pub head_atoms : Head → List (Atom Term)
head_atoms h = held h.atoms

-- the atoms of a body, in order
abbrev pub body_atoms : Body → List (Atom Term)
body_atoms b = held b.atoms

-- the atoms of a body that was made
abbrev pub body_seen : {E : Type 0} → Result Body E → Result (List (Atom Term)) E
body_seen (Ok b) = Ok (body_atoms b)
body_seen (Err e) = Err e
