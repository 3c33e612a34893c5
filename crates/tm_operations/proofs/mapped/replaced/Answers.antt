use Rattle.std.proofs.Common.{rules, [], subst}
use Rattle.tm_definitions.specs.Mapped.{with_maps}
use Rattle.tm_operations.specs.Begun.{AllAscend}
use Rattle.tm_operations.proofs.Making.{starts, part_fails, part_comes, part_shrinks, made_last, made_comes, made_shrinks, ascend_but_last}
use Rattle.tm_operations.proofs.mapped.replaced.Goals as goal

pub loop-next-init : goal.loop-next-init
loop-next-init g c =
    starts (g.R.Records.records c.args.records.now) c.new-begun.result.items c.args.value c.namespace_count.result c.new-begun.ensures.items
    c.namespace_count.ensures

pub returns-in_err-next-in-Part : goal.returns-in_err-next-in-Part
returns-in_err-next-in-Part g c =
    let r = g.R.Records.records c.args.records.now in
    part_fails r c.loop-next.begun.items [] c.loop-next.next c.loop-next.next (with_maps r c.args.value.now) c.loop-next.invariant.0
    c.in-Part.part c.in-Part.levels c.from_residual.result c.in_err-next-in-Part.field-0.0 c.in-Part.is c.from_residual.ensures.1
    c.in_err-next-in-Part.ensures.err

pub resume-requires : goal.resume-requires
resume-requires g c =
    (ascend_but_last c.pop.new.self.items c.in-Some.outer (subst AllAscend c.in-Some.ensures.items c.loop-next.invariant.1)).1

pub returns-in-None : goal.returns-in-None
returns-in-None g c =
    let r = g.R.Records.records c.args.records.now in
    made_last r c.loop-next.begun.items [] c.loop-next.next c.loop-next.next (with_maps r c.args.value.now) c.loop-next.invariant.0
    c.in-Made.made c.in-Made.is (search rules)

pub loop-next-smaller-in_ok-next-in-Part : goal.loop-next-smaller-in_ok-next-in-Part
loop-next-smaller-in_ok-next-in-Part g c =
    let r = g.R.Records.records c.args.records.now in
    part_shrinks r c.loop-next.begun.items c.enter.new.begun.items c.loop-next.next c.in_ok-next-in-Part.next (with_maps r c.args.value.now)
    c.loop-next.invariant.0 c.in-Part.part c.in-Part.levels c.in-Part.is c.in_ok-next-in-Part.ensures.less

pub loop-next-preserved-in_ok-next-in-Part : goal.loop-next-preserved-in_ok-next-in-Part
loop-next-preserved-in_ok-next-in-Part g c =
    let r = g.R.Records.records c.args.records.now in (
      part_comes r c.loop-next.begun.items c.enter.new.begun.items c.loop-next.next c.in_ok-next-in-Part.next (with_maps r c.args.value.now)
          c.loop-next.invariant.0 c.in-Part.part c.in-Part.levels c.in-Part.is c.in_ok-next-in-Part.ensures.ok,
      c.in_ok-next-in-Part.ensures.ascend c.loop-next.invariant.1,
    )

pub loop-next-smaller : goal.loop-next-smaller
loop-next-smaller g c =
    let r = g.R.Records.records c.args.records.now in
    made_shrinks r c.loop-next.begun.items c.resume.new.begun.items c.loop-next.next c.in_ok-next-in-Some.next (with_maps r c.args.value.now)
    c.loop-next.invariant.0 c.in-Made.made c.in-Some.outer c.pop.new.self.items c.in-Made.is c.in-Some.ensures.items
    (c.in_ok-next-in-Some.ensures.no_more r)

pub loop-next-preserved : goal.loop-next-preserved
loop-next-preserved g c =
    let r = g.R.Records.records c.args.records.now in
    let rest = ascend_but_last c.pop.new.self.items c.in-Some.outer (subst AllAscend c.in-Some.ensures.items c.loop-next.invariant.1) in (
      made_comes r c.loop-next.begun.items c.resume.new.begun.items c.loop-next.next c.in_ok-next-in-Some.next (with_maps r c.args.value.now)
          c.loop-next.invariant.0 c.in-Made.made c.in-Some.outer c.pop.new.self.items c.in-Made.is c.in-Some.ensures.items
          (c.in_ok-next-in-Some.ensures.ok r),
      c.in_ok-next-in-Some.ensures.ascend rest.0,
    )
