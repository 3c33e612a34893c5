use Rattle.std.proofs.Common.{◌≡◌, ℕ, List, Option, ap, length, unwrap_or, rules}
use Rattle.tm_definitions.specs.Printed.{printed, inner, namespace_text}
use Rattle.tm_printing.proofs.printing.write_value.Goals as goal

pub returns-in-None : goal.returns-in-None
returns-in-None g c =
    let r = g.R.Records.records c.args.records.now in
    let v = c.args.value.now in
    let same : printed r v ≡ inner r (namespace_text r (length r.namespaces)) v =
    ap (λ (o : Option (List ℕ)). unwrap_or o (inner r (namespace_text r (length r.namespaces)) v)) c.in-None.ensures in
    rw same (search rules fits 100)
