-- Parts of a step beside what they speak of, as the definitions have them.
use Rattle.std.specs.Prelude.{List, map}
use Rattle.notation.specs.Logic.{Term, Atom, rename, query_atom, as_term, terms_of}
use Rattle.rewriting.specs.declared.pieces.StepAtom.{StepAtom}
use Rattle.rewriting.specs.declared.pieces.Side.{Side}
use Rattle.rewriting.specs.declared.pieces.Piece.{Piece as WrittenPiece}
use Rattle.rewriting.specs.Steps.{Ref, off_numbers, Piece, piece}
use Rattle.rewriting.specs.Written.{ref_of, part_of, logic_atoms, side}

abbrev pub atom_of : StepAtom → Atom Ref
atom_of a = rename (ref_of a.owner) (query_atom a.atom)

abbrev pub terms_meant : StepAtom → List Ref
terms_meant a = map (ref_of a.owner) (map as_term (terms_of a.atom.terms))

-- the atoms at the numbers, and the others
abbrev pub atoms_meant : Side → List (Atom Ref)
atoms_meant s = side s.owner s.numbers.now 0 s.atoms.now

abbrev pub atoms_left : Side → List (Atom Ref)
atoms_left s = map (rename (ref_of s.owner)) (off_numbers s.numbers.now 0 (logic_atoms s.atoms.now))

-- the piece; only its unnamed variables depend on the body b
abbrev pub piece_of : List (Atom Term) → WrittenPiece → Piece
piece_of b p = piece p.number b (logic_atoms p.head.now) (logic_atoms p.query.now) (part_of p.part.now)
