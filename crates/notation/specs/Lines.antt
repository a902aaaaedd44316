-- How a line is read: a key, the sign "=", and a value.
use Rattle.std.specs.Prelude.{ℕ, cond, List, Some, None, Ok, Err, codes, Option, Result}
use Rattle.std.specs.Str.{bytes_eq}
use Rattle.notation.specs.declared.faults.LineFault.{LineFault}
use Rattle.notation.specs.declared.faults.LineFault.TheVariants.{Unreadable}
use Rattle.notation.specs.declared.lines.Key.{Key}
use Rattle.notation.specs.declared.lines.Key.TheVariants.{Arity, Body, Head, Query, Strike, By, Fact}
use Rattle.notation.specs.declared.terms.Atom.{Atom}
use Rattle.notation.specs.declared.terms.Value.{Value}
use Rattle.notation.specs.Lists.{cut_at, whole_atom}
use Rattle.notation.specs.Reading.{carry, value_of}

-- the key of a name
abbrev pub key_of : List ℕ → Result Key LineFault
key_of name =
    cond (bytes_eq name (codes "arity")) (Ok Arity)
    (cond (bytes_eq name (codes "body")) (Ok Body)
    (cond (bytes_eq name (codes "head")) (Ok Head)
    (cond (bytes_eq name (codes "query")) (Ok Query)
    (cond (bytes_eq name (codes "strike")) (Ok Strike)
    (cond (bytes_eq name (codes "by")) (Ok By)
    (cond (bytes_eq name (codes "fact")) (Ok Fact) (Err Unreadable)))))))

abbrev pub keyed_by : Option (List ℕ × List ℕ) → Result (Key × List ℕ) LineFault
keyed_by None = Err Unreadable
keyed_by (Some p) = carry (λ e. e) (key_of p.0) (λ k. Ok (k, p.1))

-- the key of a line, and its value
abbrev pub read_key : List ℕ → Result (Key × List ℕ) LineFault
read_key line = keyed_by (cut_at 61 line)

abbrev pub fact_of : Key × List ℕ → Result (Atom Value) LineFault
fact_of (Arity, s) = Err Unreadable
fact_of (Body, s) = Err Unreadable
fact_of (Head, s) = Err Unreadable
fact_of (Query, s) = Err Unreadable
fact_of (Strike, s) = Err Unreadable
fact_of (By, s) = Err Unreadable
fact_of (Fact, s) = whole_atom value_of s

-- the fact of a line, which is written without its end
abbrev pub read_fact_line : List ℕ → Result (Atom Value) LineFault
read_fact_line line = carry (λ e. e) (read_key line) fact_of
