use Rattle.std.proofs.Common.{rules, refl}
use Rattle.tm_operations.specs.declared.mapped.BegunList.{BegunList}
use Rattle.tm_operations.proofs.Making.{list_made, list_next, list_less, list_ascends}
use Rattle.tm_operations.proofs.mapped.next_item.Goals as goal

pub returns-in_default-clause-ok : goal.returns-in_default-clause-ok
returns-in_default-clause-ok c = λ r.
    list_made r c.args.begun.now.items c.args.levels c.args.done.items c.args.rest.now c.in_ok-list.field-0 c.in_default.ensures.cases c.in_ok-list.ensures

pub returns-clause-ok : goal.returns-clause-ok
returns-clause-ok c = λ r.
    let b : BegunList = record { levels = c.args.levels; rest = c.in-Some.rest; done = c.args.done } in
    list_next r c.args.begun.now.items c.push.new.self.items c.args.levels c.args.done.items c.args.rest.now c.in-Some.rest.now
    c.in-Some.item b refl refl refl c.in_ok-push.ensures.items (search rules)

pub returns-clause-ascend : goal.returns-clause-ascend
returns-clause-ascend c = λ all.
    let b : BegunList = record { levels = c.args.levels; rest = c.in-Some.rest; done = c.args.done } in
    list_ascends c.args.begun.now.items c.push.new.self.items b c.in_ok-push.ensures.items all

pub returns-clause-no_more : goal.returns-clause-no_more
returns-clause-no_more c = λ r.
    let b : BegunList = record { levels = c.args.levels; rest = c.in-Some.rest; done = c.args.done } in
    list_less r c.args.begun.now.items c.push.new.self.items c.args.levels c.args.rest.now c.in-Some.rest.now
    c.in-Some.item b refl refl c.in_ok-push.ensures.items (search rules)
