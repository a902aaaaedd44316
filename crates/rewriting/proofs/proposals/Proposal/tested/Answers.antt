use Rattle.std.proofs.Common.{◌≡◌, true, false, ◌&&◌, leb, List, [], ◌∷◌, length, sym, refl, ap, ◌∙◌, arith}
use lib.ListN.{length-map}
use Rattle.std.proofs.lemmas.Bool.{and_parts, leb-true}
use Rattle.notation.specs.declared.terms.Term.{Term as WrittenTerm}
use Rattle.notation.specs.declared.terms.Atom.{Atom as WrittenAtom}
use Rattle.queries.specs.Checks.{atoms_all_fit, distinct}
use Rattle.queries.specs.Heads.{body_atoms}
use Rattle.rewriting.specs.declared.proposals.Proposal.{Proposal}
use Rattle.rewriting.specs.Classes.{name_in, classes}
use Rattle.rewriting.specs.Judging.{enters, new_query}
use Rattle.rewriting.specs.Proposals.{rule_of, parts_of, ties_of, all_left}
use Rattle.rewriting.specs.Steps.{Ref}
use Rattle.rewriting.specs.Written.{logic_atoms, part_of}
use Rattle.rewriting.proofs.Judged.{constants_in}
use Rattle.rewriting.proofs.Ranged.{fine_fits}
use Rattle.rewriting.proofs.Search.{true_T}
use Rattle.rewriting.proofs.Settled.{draft_valid, left_in_range, left_some}
use Rattle.rewriting.proofs.Verdicts.{judged_is, too_large, is_full, fits_in_it}
use Rattle.rewriting.proofs.proposals.Proposal.tested.Goals as goal

-- as many heads as parts
paired : (s : Proposal) → length (rule_of s).heads ≡ length (parts_of s)
paired s = s.paired ∙ sym (length-map s.parts.now part_of)

pub returns-then-not-constants_apart : goal.returns-then-not-constants_apart
returns-then-not-constants_apart c l e =
    let s = c.args.self.now in
    judged_is l (rule_of s).body s.rows.now (rule_of s).heads (parts_of s) (paired s) false _ _
    (sym c.if-not-constants_apart.true ∙ c.constants_apart.ensures (ties_of s) c.requires c.of-classes.ensures.names) refl refl

pub returns-in-Some : goal.returns-in-Some
returns-in-Some c l e =
    let s = c.args.self.now in
    judged_is l (rule_of s).body s.rows.now (rule_of s).heads (parts_of s) (paired s) true (c.in-Some.head ∷ []) _
    (sym c.if-not-constants_apart.false ∙ c.constants_apart.ensures (ties_of s) c.requires c.of-classes.ensures.names)
    (c.in-Some.ensures (name_in (classes (ties_of s))) (rule_of s).body c.of-classes.ensures.names) refl

pub returns-in-Some-first_joined : goal.returns-in-Some-first_joined
returns-in-Some-first_joined c l e =
    let s = c.args.self.now in
    judged_is l (rule_of s).body s.rows.now (rule_of s).heads (parts_of s) (paired s) true [] (c.in-Some-first_joined.head ∷ [])
    (sym c.if-not-constants_apart.false ∙ c.constants_apart.ensures (ties_of s) c.requires c.of-classes.ensures.names)
    (c.in_default.ensures (name_in (classes (ties_of s))) (rule_of s).body c.of-classes.ensures.names)
    (c.in-Some-first_joined.ensures (ties_of s) c.requires c.of-classes.ensures.names)

pub returns-in_default-draft : goal.returns-in_default-draft
returns-in_default-draft c l e =
    let s = c.args.self.now in
    let f : Ref → Ref = name_in (classes (ties_of s)) in
    too_large l (new_query f (all_left s)) (c.in_default-draft.ensures f c.of-classes.ensures.names)
    ∙ judged_is l (rule_of s).body s.rows.now (rule_of s).heads (parts_of s) (paired s) true [] []
    (sym c.if-not-constants_apart.false ∙ c.constants_apart.ensures (ties_of s) c.requires c.of-classes.ensures.names)
    (c.in_default.ensures f (rule_of s).body c.of-classes.ensures.names)
    (c.in_default-first_joined.ensures (ties_of s) c.requires c.of-classes.ensures.names)

pub returns-then-self-ge-MOST_QUERIES : goal.returns-then-self-ge-MOST_QUERIES
returns-then-self-ge-MOST_QUERIES c l e =
    let s = c.args.self.now in
    let f : Ref → Ref = name_in (classes (ties_of s)) in
    is_full l (new_query f (all_left s)) (c.in-Some-draft.ensures f c.of-classes.ensures.names).1 (omega arith)
    ∙ judged_is l (rule_of s).body s.rows.now (rule_of s).heads (parts_of s) (paired s) true [] []
    (sym c.if-not-constants_apart.false ∙ c.constants_apart.ensures (ties_of s) c.requires c.of-classes.ensures.names)
    (c.in_default.ensures f (rule_of s).body c.of-classes.ensures.names)
    (c.in_default-first_joined.ensures (ties_of s) c.requires c.of-classes.ensures.names)

pub finish-requires : goal.finish-requires
finish-requires c =
    let s = c.args.self.now in
    let u = s.rule.now in
    let f : Ref → Ref = name_in (classes (ties_of s)) in
    let b : List (WrittenAtom WrittenTerm) = body_atoms u.body in
    let is = c.in-Some-draft.ensures f c.of-classes.ensures.names in
    let few = s.few in
    let some = (and_parts (leb 1 (length b)) (leb (length b) 8) (and_parts (leb 1 (length b) && leb (length b) 8) (atoms_all_fit b && distinct b) u.body.proper).0).0 in
    let n = length-map s.parts.now part_of in
    draft_valid c.in-Some-draft.new (ties_of s) (all_left s)
    (left_some b s.rows.now (parts_of s) (leb-true 1 (length b) some))
    (constants_in (ties_of s) (true_T (sym (c.constants_apart.ensures (ties_of s) c.requires c.of-classes.ensures.names) ∙ c.if-not-constants_apart.false)))
    (left_in_range b s.rows.now (parts_of s) (fine_fits 8 b u.body.proper) s.valid (omega arith))
    c.of-classes.ensures.names.inside is.0 is.1

pub returns : goal.returns
returns c l e =
    let s = c.args.self.now in
    let f : Ref → Ref = name_in (classes (ties_of s)) in
    let is = c.in-Some-draft.ensures f c.of-classes.ensures.names in
    ap enters (ap logic_atoms c.finish.ensures ∙ is.0)
    ∙ fits_in_it l (new_query f (all_left s)) is.1 (omega arith)
    ∙ judged_is l (rule_of s).body s.rows.now (rule_of s).heads (parts_of s) (paired s) true [] []
    (sym c.if-not-constants_apart.false ∙ c.constants_apart.ensures (ties_of s) c.requires c.of-classes.ensures.names)
    (c.in_default.ensures f (rule_of s).body c.of-classes.ensures.names)
    (c.in_default-first_joined.ensures (ties_of s) c.requires c.of-classes.ensures.names)
