use Rattle.std.proofs.Common.{◌<◌, length, get_or, sym, ap, ◌∙◌, rules}
use Rattle.index.specs.Seek.{place_of}
use Rattle.index.proofs.Leading.{leads_first}
use Rattle.index.proofs.index.guide.IndexGuide.first.Goals as goal

pub returns : goal.returns
returns c =
    let within : c.args.c.at < length c.args.self.now.chains = search rules in
    let fits : c.args.c.key < 65536 = search rules in
    leads_first c.args.self.now c.args.c c.index-self-c.result within c.index-self-c.is c.first.result fits (c.first.ensures ∙ ap (λ ch. place_of (get_or ch.first.items c.args.c.key 0)) (sym c.index-self-c.is))
