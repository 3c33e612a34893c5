use Rattle.std.proofs.Common.{◌≡◌, suc, ◌∙◌, ap, sym, Some, arith}
use Rattle.serde_json.specs.Written.{compact_text}
use Rattle.tm_printing.proofs.Members.{namespace-there}
use Rattle.tm_printing.proofs.Weights.{namespace_lighter}
use Rattle.tm_printing.proofs.compact.open_namespace.Goals as goal

pub returns-in-Some-find_namespace : goal.returns-in-Some-find_namespace
returns-in-Some-find_namespace g c =
    let r = g.R.Records.records c.args.records.now in
    let below = c.in-Some.inside in
    let more : c.args.levels ≡ suc below = omega (arith, c.in-Some.ensures) in
    let is = c.in-Some-find_namespace.ensures ∙ ap Some (sym c.pairs.ensures.pairs) in
    let text = namespace-there r c.args.levels below c.args.state c.args.index c.pairs.result.now more is in
    (ap compact_text text, rw more (namespace_lighter r c.args.state c.args.index below c.pairs.result.now is))
