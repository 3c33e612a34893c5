use Rattle.tm_templates.proofs.Globals.{names_none}
use Rattle.tm_templates.proofs.global_map.GlobalMap.new.Goals as goal

pub invariant_of-result : goal.invariant_of-result
invariant_of-result c = names_none c.new-2.result.items c.new.result c.new-2.ensures.items c.new.ensures
