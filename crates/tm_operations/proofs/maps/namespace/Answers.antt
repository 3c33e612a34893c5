use Rattle.std.proofs.Common.{◌≡◌, Ok, rules}
use Rattle.tm_operations.proofs.Puts.{named}
use Rattle.tm_definitions.specs.Maps.{dict_of, text_pairs}
use Rattle.tm_operations.proofs.maps.namespace.Goals as goal

pub returns : goal.returns
returns g c =
    let r = g.R.Records.records c.args.records.now in
    let made : dict_of r c.args.arguments.now ≡ Ok c.in_ok-map.map = search rules fits 100 in
    let kept : c.in_ok-pairs.pairs.items ≡ text_pairs c.in_ok-map.map = search rules fits 100 in
    named r c.args.arguments.now c.in_ok-map.map c.in_ok-pairs.pairs.items c.from_pairs.result made kept c.from_pairs.ensures
