use Rattle.std.proofs.Common.{◌≡◌, length, sym, ap, ◌∙◌, arith}
use Rattle.std.proofs.lemmas.List.{length-take-le, take_more_set}
use Rattle.notation.specs.declared.terms.Term.TheVariants.{Variable}
use Rattle.rewriting.specs.Drafts.{entries}
use Rattle.rewriting.proofs.Drafting.{found, new_shown, new_noted, too_many}
use Rattle.rewriting.proofs.draft.Variables.number.Goals as goal

pub returns-in-Some : goal.returns-in-Some
returns-in-Some c = found c.args.e (entries c.args.self.now) c.requires c.in-Some.k (sym c.position_of.ensures ∙ c.in-Some.is)

pub returns-then-k-eq32 : goal.returns-then-k-eq32
returns-then-k-eq32 c =
    let v = c.args.self.now in
    let few : length (entries v) ≡ v.count = length-take-le v.count v.entries (omega arith) in
    too_many c.args.e (entries v) c.requires (sym c.position_of.ensures ∙ c.in_default.is) (omega arith)

pub returns : goal.returns
returns c =
    let v = c.args.self.now in
    let few : length (entries v) ≡ v.count = length-take-le v.count v.entries (omega arith) in
    let new = sym c.position_of.ensures ∙ c.in_default.is in (
      ap Variable (sym few) ∙ new_shown c.args.e (entries v) c.requires new,
      take_more_set v.entries v.count c.args.e (omega arith) ∙ new_noted c.args.e (entries v) c.requires new,
    )
