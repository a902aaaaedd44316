-- The lowest of several rules that is not kept.
use Rattle.std.proofs.Common.{◌≡◌, true, List, [], ◌∷◌, map, take, refl, ap}
use Rattle.std.proofs.lemmas.Bool.{and_parts, and_from}
use Rattle.notation.specs.declared.terms.Atom.{Atom}
use Rattle.notation.specs.declared.terms.Term.{Term}
use Rattle.notation.specs.Logic.{query_atom}
use Rattle.queries.specs.declared.rule.Rule.{Rule as WrittenRule}
use Rattle.queries.specs.Heads.{head_atoms, body_atoms}
use Rattle.queries.specs.RuleChecks.{heads_fine}
use Rattle.queries.specs.Rules.{rule_of}
use Rattle.queries.specs.declared.head.Head.{Head}
use Rattle.search.specs.Checking.{heads_fit, read_head, rule_of as checked_rule}
use Rattle.search.specs.Fitting.{variables_fit}
use Rattle.search.specs.Rules.{meant}
use Rattle.search.proofs.Asking.{fine_fits}

pub body_fits : (r : WrittenRule) → variables_fit (body_atoms r.body) ≡ true
body_fits r = fine_fits 8 (body_atoms r.body) r.body.proper

heads_from : (hs : List (List (Atom Term))) → heads_fine hs ≡ true → heads_fit hs ≡ true
heads_from [] h = refl
heads_from (d ∷ ds) h = let p = and_parts _ _ h in and_from _ _ (fine_fits 4 d p.0) (heads_from ds p.1)

pub heads_fit_of : (r : WrittenRule) → heads_fit (map head_atoms (take r.count r.heads)) ≡ true
heads_fit_of r = heads_from (map head_atoms (take r.count r.heads)) r.proper

read_twice : (hs : List Head) → map read_head hs ≡ map (map query_atom) (map head_atoms hs)
read_twice [] = refl
read_twice (h ∷ hs) = ap (λ l. read_head h ∷ l) (read_twice hs)

-- a rule value and its parts mean the same
pub meant_is : (r : WrittenRule) → checked_rule (body_atoms r.body) (take r.count r.heads) ≡ meant (rule_of r)
meant_is r = ap (λ hs. record { body = map query_atom (body_atoms r.body); heads = hs }) (read_twice (take r.count r.heads))
