use Rattle.std.proofs.Common.{◌≡◌, ◌∙◌, Some, ap, sym}
use Rattle.tm_templates.proofs.Globals.{named_value}
use Rattle.tm_templates.proofs.global_map.GlobalMap.at.Goals as goal

pub unreachable-requires : goal.unreachable-requires
unreachable-requires c =
    let held = named_value c.self.inside.names.items c.self.inside.values c.args.self.now c.args.place c.index.result.now
    c.as_str-name.result.now c.self.invariant c.self.view_is c.requires c.index.ensures c.as_str-name.ensures in
    absurd (cc (sym held.2 ∙ c.in-None.ensures))

pub returns : goal.returns
returns c =
    let held = named_value c.self.inside.names.items c.self.inside.values c.args.self.now c.args.place c.index.result.now
    c.as_str-name.result.now c.self.invariant c.self.view_is c.requires c.index.ensures c.as_str-name.ensures in
    let same : held.0 ≡ c.in-Some.value.now = cc (sym held.2 ∙ c.in-Some.ensures) in
    held.1 ∙ ap (λ v. Some (c.as_str-name.result.now, v)) same
