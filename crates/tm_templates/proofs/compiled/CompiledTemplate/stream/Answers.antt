use Rattle.std.proofs.Common.{None, Some, ◌∙◌}
use Rattle.tm_templates.proofs.Streams.{part_found}
use Rattle.tm_templates.proofs.compiled.CompiledTemplate.stream.Goals as goal

pub returns-in-Some-block : goal.returns-in-Some-block
returns-in-Some-block c =
    part_found c.args.self.now c.args.block.now c.in-Some.name c.as_str.result.now (Some c.in-Some-block.found.now) c.in-Some.is
    c.as_str.ensures c.in-Some-block.ensures

pub returns-in-None-block : goal.returns-in-None-block
returns-in-None-block c =
    c.self.invariant.nothing_is
    ∙ part_found c.args.self.now c.args.block.now c.in-Some.name c.as_str.result.now None c.in-Some.is c.as_str.ensures c.in-None-block.ensures
