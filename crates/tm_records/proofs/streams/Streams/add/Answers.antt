use Rattle.std.proofs.Common.{◌≤◌, ◌∙◌, ◌++◌, ◌∷◌, [], sym, ap, subst, arith, length}
use Rattle.tm_meaning.specs.World.{stream_from, with_stream}
use Rattle.tm_records.specs.Streams.{AreDistinct}
use Rattle.tm_records.proofs.Declared.{added, distinct_more, is_new, stays}
use Rattle.tm_records.proofs.streams.Streams.add.Goals as goal

pub returns-then-number-len-clause-ok : goal.returns-then-number-len-clause-ok
returns-then-number-len-clause-ok c =
    stays c.args.stream.now c.args.self.now (omega (arith, c.requires, c.if-number-len.true, c.len.ensures, ap length c.self.view_is))

pub invariant_of-self-2 : goal.invariant_of-self-2
invariant_of-self-2 c =
    let s = c.args.stream.now in
    let all = c.self.inside.all.items in
    let number = ap (stream_from 0 s) c.self.view_is in
    let after : length all ≤ stream_from 0 s all = omega (arith, c.requires, c.if-number-len.false, c.len.ensures, number) in
    subst AreDistinct (sym (c.in_ok-push.ensures.items ∙ ap (λ t. all ++ t ∷ []) c.in_ok-share.ensures))
    (distinct_more s all c.self.invariant (is_new s all after))

pub returns-clause-ok : goal.returns-clause-ok
returns-clause-ok c =
    let s = c.args.stream.now in
    let all = c.self.inside.all.items in
    let number = ap (stream_from 0 s) c.self.view_is in
    let after : length all ≤ stream_from 0 s all = omega (arith, c.requires, c.if-number-len.false, c.len.ensures, number) in
    c.in_ok-push.ensures.items ∙ ap (λ t. all ++ t ∷ []) c.in_ok-share.ensures ∙ added s all after ∙ ap (with_stream s) c.self.view_is
