use Rattle.std.proofs.Common.{◌≡◌, ℕ, List, length, codes, sym, ap, rules}
use Rattle.std.proofs.lemmas.Slice.Eq.{HasBytesAt, text_from_reads}
use Rattle.notation.specs.Lines.{key_of}
use Rattle.notation.proofs.lines.KeyTryFromRefSliceU8.try_from.Goals as goal

-- the key of a name that is read byte by byte
named : (s p : List ℕ) → length s ≡ length p → HasBytesAt s 0 p → key_of p ≡ key_of s
named s p l h = sym (ap key_of (text_from_reads s p l h))

pub returns-in-arity : goal.returns-in-arity
returns-in-arity c = named c.args.name.now (codes "arity") (search rules) (search rules)

pub returns-in-body : goal.returns-in-body
returns-in-body c = named c.args.name.now (codes "body") (search rules) (search rules)

pub returns-in-head : goal.returns-in-head
returns-in-head c = named c.args.name.now (codes "head") (search rules) (search rules)

pub returns-in-query : goal.returns-in-query
returns-in-query c = named c.args.name.now (codes "query") (search rules) (search rules)

pub returns-in-strike : goal.returns-in-strike
returns-in-strike c = named c.args.name.now (codes "strike") (search rules) (search rules)

pub returns-in-fact : goal.returns-in-fact
returns-in-fact c = named c.args.name.now (codes "fact") (search rules) (search rules)
