use Rattle.tm_scopes.proofs.Places.{find-gap, without-gap}
use Rattle.tm_templates.proofs.Globals.{taken_out}
use Rattle.tm_templates.proofs.global_map.GlobalMap.remove.Goals as goal

pub invariant_of-self : goal.invariant_of-self
invariant_of-self c =
    taken_out c.self.inside.names.items c.remove-name.new.self.items c.args.name.now c.self.inside.values c.args.self.now
    c.remove-value.new.self c.in-Ok.place c.self.invariant c.self.view_is c.in-Ok.ensures c.remove-name.ensures.items c.remove-value.ensures.rest

pub returns-in_default-clause-rest : goal.returns-in_default-clause-rest
returns-in_default-clause-rest c = without-gap c.args.name.now c.args.self.now c.in_default.field-0 c.in_default.ensures

pub returns-in_default-clause-gone : goal.returns-in_default-clause-gone
returns-in_default-clause-gone c = find-gap c.args.name.now c.args.self.now c.in_default.field-0 c.in_default.ensures
