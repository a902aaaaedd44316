use Rattle.std.proofs.Common.{map, take, Decides, ap, ◌∙◌, subst}
use Rattle.queries.specs.Heads.{head_atoms}
use Rattle.search.specs.Checking.{heads_fit, rule_of}
use Rattle.search.specs.Fitting.{variables_fit}
use Rattle.search.specs.Keeping.{Keeps}
use Rattle.search.proofs.Ruling.{body_fits, heads_fit_of, meant_is}
use Rattle.search.proofs.rules.keeps.Goals as goal

pub keeps_atoms-requires : goal.keeps_atoms-requires
keeps_atoms-requires g c = record {
  body = ap variables_fit c.body.ensures ∙ body_fits c.args.r.now;
  heads = ap (λ hs. heads_fit (map head_atoms hs)) c.heads.ensures ∙ heads_fit_of c.args.r.now;
}

pub returns : goal.returns
returns g c =
    let facts = g.G.Source.facts c.args.s.now in
    let answer = c.keeps_atoms.result in
    let r = c.args.r.now in
    subst (λ x. Decides answer (Keeps x facts)) (meant_is r)
    (subst (λ b. Decides answer (Keeps (rule_of b (take r.count r.heads)) facts)) c.body.ensures
    (subst (λ hs. Decides answer (Keeps (rule_of c.body.result.now hs) facts)) c.heads.ensures c.keeps_atoms.ensures))
