-- The facts of rows or lines, up to the first that is none.
use Rattle.std.specs.Prelude.{List, [], ◌∷◌, Some, None, Option}

-- a fact before the others; nothing from the first that is none on
abbrev pub onto : {X : Type 0} → Option X → List X → List X
onto None fs = []
onto (Some f) fs = f ∷ fs
