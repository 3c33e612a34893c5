use Rattle.std.proofs.Common.{rules, refl}
use Rattle.tm_operations.specs.declared.mapped.BegunMap.{BegunMap}
use Rattle.tm_operations.proofs.Making.{map_made, map_next, map_less, map_ascends}
use Rattle.tm_operations.proofs.mapped.next_pair.Goals as goal

pub returns-in_default-clause-ok : goal.returns-in_default-clause-ok
returns-in_default-clause-ok c = λ r.
    map_made r c.args.begun.now.items c.args.kind c.args.levels c.args.done.items c.args.rest.now c.in_ok-made_of.field-0
    c.in_default.ensures.cases (search rules)

pub returns-clause-ok : goal.returns-clause-ok
returns-clause-ok c = λ r.
    let b : BegunMap = record { kind = c.args.kind; levels = c.args.levels; key = c.in_ok-key.key; rest = c.in-Some.rest; done = c.args.done } in
    map_next r c.args.begun.now.items c.push.new.self.items c.args.levels c.args.kind c.args.done.items c.args.rest.now c.in-Some.rest.now
    c.in-Some.pair.now c.value_of-next.result b refl refl (search rules) (c.value_of-next.ensures.part r) refl refl c.in_ok-push.ensures.items (search rules)

pub returns-clause-ascend : goal.returns-clause-ascend
returns-clause-ascend c =
    let b : BegunMap = record { kind = c.args.kind; levels = c.args.levels; key = c.in_ok-key.key; rest = c.in-Some.rest; done = c.args.done } in
    map_ascends c.args.begun.now.items c.push.new.self.items c.args.done.items c.args.rest.now c.in-Some.rest.now c.in-Some.pair.now b
    (search rules) refl refl c.in_ok-push.ensures.items (search rules) c.requires

pub returns-clause-no_more : goal.returns-clause-no_more
returns-clause-no_more c = λ r.
    let b : BegunMap = record { kind = c.args.kind; levels = c.args.levels; key = c.in_ok-key.key; rest = c.in-Some.rest; done = c.args.done } in
    map_less r c.args.begun.now.items c.push.new.self.items c.args.levels c.args.rest.now c.in-Some.rest.now c.in-Some.pair.now c.value_of-next.result b refl
    (c.value_of-next.ensures.left r) refl c.in_ok-push.ensures.items (search rules)
