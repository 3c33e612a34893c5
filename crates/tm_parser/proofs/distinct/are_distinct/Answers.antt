use Rattle.std.proofs.Common.{sym, ◌∙◌}
use Rattle.tm_parser.proofs.Seen.{all_seen, none_seen, turn, seen_before}
use Rattle.tm_parser.proofs.distinct.are_distinct.Goals as goal

pub loop-name-init : goal.loop-name-init
loop-name-init c = none_seen c.new-seen.result c.new-seen.ensures.empty c.args.names.now

pub loop-name-preserved : goal.loop-name-preserved
loop-name-preserved c =
    turn _ c.loop-name.seen c.insert.new.self c.args.names.now c.loop-name.name-index c.name-item.result c.loop-name-test.true c.name-item.is
    (sym c.in_ok-insert.ensures.added ∙ c.if-not-branch.false) c.in_ok-insert.ensures.updates c.loop-name.invariant

pub returns-then-not-branch : goal.returns-then-not-branch
returns-then-not-branch c =
    seen_before _ c.loop-name.seen c.args.names.now c.loop-name.name-index c.name-item.result c.loop-name-test.true c.name-item.is
    (sym c.in_ok-insert.ensures.added ∙ c.if-not-branch.true) c.loop-name.invariant

pub returns : goal.returns
returns c = sym (all_seen c.loop-name.seen c.args.names.now c.loop-name.name-index c.loop-name-test.false) ∙ c.loop-name.invariant
