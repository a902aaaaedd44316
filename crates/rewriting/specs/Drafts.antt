-- Drafts: what stands for each entry of a table of classes, and what a draft of a new query has.
use Rattle.std.specs.Prelude.{◌≡◌, ℕ, suc, ◌<◌, Bool, true, false, if◌then◌else◌, List, [], ◌∷◌, ◌++◌, map, length, take, Some, None, Option, ◌==◌, nat_lt, slice_index}
use Rattle.notation.specs.declared.terms.Term.{Term as WrittenTerm}
use Rattle.notation.specs.declared.terms.Term.TheVariants.{Constant, Variable}
use Rattle.notation.specs.declared.terms.Terms.{Terms}
use Rattle.notation.specs.declared.terms.Atom.{Atom as WrittenAtom}
use Rattle.notation.specs.Logic.{Atom, rename, terms, terms_of, as_term}
use Rattle.queries.specs.Atoms.{held}
use Rattle.rewriting.specs.declared.draft.Draft.{Draft}
use Rattle.rewriting.specs.declared.draft.Variables.{Variables}
use Rattle.rewriting.specs.declared.steps.Owner.{Owner}
use Rattle.rewriting.specs.Judging.{order_from, new_query, small}
use Rattle.rewriting.specs.Steps.{Query, Ref}
use Rattle.rewriting.specs.Tables.{place, Names, AtomsWithin}
use Rattle.rewriting.specs.Written.{ref_of, logic_atoms}

-- the atoms of a draft
abbrev pub draft_atoms : Draft → List (WrittenAtom WrittenTerm)
draft_atoms d = held d.atoms

-- the entries that variables stand for
abbrev pub entries : Variables → List ℕ
entries v = take v.count v.entries

abbrev pub draft_names : Draft → List ℕ
draft_names d = entries d.variables

-- ---------------------------------------------------------------- entries

-- the entry of a term of the owner's
abbrev pub entry_of : List ℕ → Owner → WrittenTerm → ℕ
entry_of t o u = slice_index t (place (ref_of o (as_term u)))

abbrev pub entries_of : List ℕ → Owner → Terms WrittenTerm → List ℕ
entries_of t o us = map (entry_of t o) (terms_of us)

-- where e stands first; the list's length where it does not
abbrev pub first_place : ℕ → List ℕ → ℕ
first_place e [] = 0
first_place e (n ∷ ns) = if n == e then 0 else suc (first_place e ns)

-- the entries that have variables, after e: those before, and e if it is new and no constant
abbrev pub noted : List ℕ → ℕ → List ℕ
noted ns e = if nat_lt e 1000 then ns else if nat_lt (first_place e ns) (length ns) then ns else ns ++ e ∷ []

abbrev pub noted_all : List ℕ → List ℕ → List ℕ
noted_all ns [] = ns
noted_all ns (e ∷ es) = noted_all (noted ns e) es

-- the term that stands for e, where ns have variables
abbrev pub shown : List ℕ → ℕ → WrittenTerm
shown ns e = if nat_lt e 1000 then Constant e else Variable (first_place e ns)

abbrev pub shown_all : List ℕ → List ℕ → List WrittenTerm
shown_all ns [] = []
shown_all ns (e ∷ es) = shown ns e ∷ shown_all (noted ns e) es

-- what stands for an entry, and what has variables then; or more than 32 would
abbrev pub ShownOne : Option WrittenTerm → ℕ → List ℕ → List ℕ → Type 0
ShownOne (Some u) e ns ms = (u ≡ shown ns e) × (ms ≡ noted ns e)
ShownOne None e ns ms = 32 < length (noted ns e)

abbrev pub ShownTerms : Option (Terms WrittenTerm) → List ℕ → List ℕ → List ℕ → Type 0
ShownTerms (Some us) es ns ms = (terms_of us ≡ shown_all ns es) × (ms ≡ noted_all ns es)
ShownTerms None es ns ms = 32 < length (noted_all ns es)

-- ---------------------------------------------------------------- drafts

-- the draft of the new query of the atoms, f naming each term's class
pub record Drafted (f : Ref → Ref) (ls : List (Atom Ref)) (d : Draft) : Type 0 where
  pub within : AtomsWithin ls
  pub atoms_are : logic_atoms (draft_atoms d) ≡ new_query f ls
  pub names_are : draft_names d ≡ map place (order_from [] (terms (map (rename f) ls)))

-- the draft has these atoms too; or their new query is too large
abbrev pub Added : Bool → (Ref → Ref) → List (Atom Ref) → Draft → Type 0
Added true f ls d = Drafted f ls d
Added false f ls d = small (new_query f ls) ≡ false

-- from the draft d these atoms are added to whatever it has, which gives e; or it is too large
abbrev pub Adds : Bool → List ℕ → List (Atom Ref) → Draft → Draft → Type 0
Adds r t more d e = (f : Ref → Ref) (ls : List (Atom Ref)) → Names t f → Drafted f ls d → Added r f (ls ++ more) e

-- the draft has the query n, which is small; or n is too large
abbrev pub Told : Option Draft → Query → Type 0
Told (Some d) n = (logic_atoms (draft_atoms d) ≡ n) × (small n ≡ true)
Told None n = small n ≡ false
