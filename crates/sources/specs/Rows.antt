-- The facts that rows tell.
use Rattle.std.specs.Prelude.{ℕ, ◌-◌, Bool, true, false, cond, ◌&&◌, List, [], ◌∷◌, take, Some, None, Option, ◌==◌, nat_le, slice_index}
use Rattle.std.specs.Option.{option_map, option_and_then}
use Rattle.notation.specs.declared.terms.Atom.{Atom}
use Rattle.notation.specs.declared.terms.Terms.{Terms}
use Rattle.notation.specs.declared.terms.Terms.TheVariants.{One, Two, Three, Four}
use Rattle.notation.specs.declared.terms.Value.{Value}
use Rattle.notation.specs.declared.terms.Value.TheVariants.{Constant, Unknown}
use Rattle.sources.specs.declared.rows.Row.{Row}
use Rattle.sources.specs.Facts.{onto}

-- a used place has the code of a constant or of an unknown, and then a term; an unused one has 0, and no term
abbrev pub placed : Bool → ℕ → Option (Option Value)
placed true code = cond (nat_le code 999) (Some (Some (Constant code))) (cond (nat_le code 1999) (Some (Some (Unknown (code - 1000)))) None)
placed false code = cond (code == 0) (Some None) None

abbrev pub then_place : {X : Type 0} → Option (Option Value) → (Option Value → Option X) → Option X
then_place o k = option_and_then k o

abbrev pub if_unused : Option Value → Option Value → Terms Value → Option (Terms Value)
if_unused None None ts = Some ts
if_unused None (Some e) ts = None
if_unused (Some d) e ts = None

-- the terms at four places, of which the used ones come first
abbrev pub terms_at : Option Value → Option Value → Option Value → Option Value → Option (Terms Value)
terms_at None b d e = None
terms_at (Some a) None d e = if_unused d e (One a)
terms_at (Some a) (Some b) None e = if_unused None e (Two a b)
terms_at (Some a) (Some b) (Some d) None = Some (Three a b d)
terms_at (Some a) (Some b) (Some d) (Some e) = Some (Four a b d e)

-- the terms at the places of four codes, of which the first n are used
abbrev pub decoded_terms : ℕ → List ℕ → Option (Terms Value)
decoded_terms n codes =
    then_place (placed (nat_le 1 n) (slice_index codes 0)) (λ a. then_place (placed (nat_le 2 n) (slice_index codes 1)) (λ b.
    then_place (placed (nat_le 3 n) (slice_index codes 2)) (λ d. then_place (placed (nat_le 4 n) (slice_index codes 3)) (λ e. terms_at a b d e))))

-- the fact of a row: a predicate up to 31, one to four terms, and their codes
abbrev pub decoded : Row → Option (Atom Value)
decoded r = cond (nat_le r.predicate 31 && (nat_le 1 r.count && nat_le r.count 4)) (option_map (λ ts. record { predicate = r.predicate; terms = ts }) (decoded_terms r.count r.codes)) None

-- the facts of the rows before the first that is no fact
abbrev pub told : List Row → List (Atom Value)
told [] = []
told (r ∷ rs) = onto (decoded r) (told rs)

-- the facts that rows tell, 65,535 at most
unfoldable pub row_facts : List Row → List (Atom Value)
row_facts rs = take 65535 (told rs)
