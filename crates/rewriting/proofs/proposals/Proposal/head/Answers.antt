use Rattle.std.proofs.Common.{◌≡◌, ◌<◌, [], length, get_or, take, sym, ap, ◌∙◌, arith}
use Rattle.std.proofs.lemmas.List.{get_or-map}
use Rattle.queries.specs.Checks.{atoms_all_fit}
use Rattle.queries.specs.Heads.{head_atoms}
use Rattle.queries.specs.Rules.{heads_of}
use Rattle.rewriting.proofs.Ranged.{head_fits}
use Rattle.rewriting.proofs.Verdicts.{heads_count}
use Rattle.rewriting.proofs.proposals.Proposal.head.Goals as goal

pub bounds-heads-i : goal.bounds-heads-i
bounds-heads-i c =
    let s = c.args.self.now in
    let n = ap length c.heads.ensures in
    let m = heads_count s.rule.now in
    let p = s.paired in
    omega arith

is : (c : goal.After-atoms) → c.atoms.result.now ≡ get_or (heads_of c.args.self.now.rule.now) c.args.i []
is c =
    let s = c.args.self.now in
    let u = s.rule.now in
    let m = heads_count u in
    let p = s.paired in
    let l : c.args.i < length (take u.count u.heads) = omega arith in
    c.atoms.ensures
    ∙ ap head_atoms (c.index-heads-i.is ∙ ap (λ hs. get_or hs c.args.i c.index-heads-i.result) c.heads.ensures)
    ∙ sym (get_or-map head_atoms (take u.count u.heads) c.args.i c.index-heads-i.result [] l)

pub returns : goal.returns
returns c = record { value = is c; fits = ap atoms_all_fit (is c) ∙ head_fits (heads_of c.args.self.now.rule.now) c.args.i c.args.self.now.rule.now.proper }
