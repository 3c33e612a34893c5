use Rattle.tm_templates.proofs.Globals.{put_new, put_over}
use Rattle.tm_templates.proofs.global_map.GlobalMap.insert.Goals as goal

pub invariant_of-self-in-Ok : goal.invariant_of-self-in-Ok
invariant_of-self-in-Ok c =
    put_over c.self.inside.names.items c.args.name c.as_str.result.now c.args.value c.self.inside.values c.args.self.now c.insert.new.self
    c.in-Ok._place c.self.invariant c.self.view_is c.as_str.ensures c.in-Ok.ensures c.in_ok-insert-in-Ok.ensures.ok

pub invariant_of-self-in-Ok-insert : goal.invariant_of-self-in-Ok-insert
invariant_of-self-in-Ok-insert c =
    put_new c.self.inside.names.items c.insert-in-Err.new.self.items c.args.name c.as_str.result.now c.in_ok-share-in-Err.field-0 c.args.value
    c.self.inside.values c.args.self.now c.insert-in-Err-2.new.self c.in-Err.place c.self.invariant c.self.view_is c.as_str.ensures
    c.in_ok-share-in-Err.ensures c.in-Err.ensures c.in_ok-insert-in-Err.ensures.items c.in-Ok-insert.ensures.ok
