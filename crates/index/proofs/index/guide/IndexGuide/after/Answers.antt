use Rattle.std.proofs.Common.{◌<◌, length, get_or, sym, ap, ◌∙◌, rules}
use Rattle.index.specs.Seek.{place_of}
use Rattle.index.proofs.Leading.{leads_after}
use Rattle.index.proofs.index.guide.IndexGuide.after.Goals as goal

pub returns : goal.returns
returns c =
    let within : c.args.c.at < length c.args.self.now.chains = search rules in
    leads_after c.args.self.now c.args.c c.index-self-c.result within c.index-self-c.is c.args.k c.after.result c.requires.inside c.requires.along (c.after.ensures ∙ ap (λ ch. place_of (get_or ch.next.items c.args.k 0)) (sym c.index-self-c.is))
