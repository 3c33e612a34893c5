use Rattle.std.proofs.Common.{◌≡◌, suc, ◌∙◌, sym, ap, arith, length}
use Rattle.tm_meaning.specs.World.{stream_from}
use Rattle.tm_records.proofs.Declared.{last_number}
use Rattle.tm_records.proofs.streams.Streams.number_of.Goals as goal

pub returns-then-is : goal.returns-then-is
returns-then-is c =
    let all = c.self.inside.all.items in
    let s = c.args.stream.now in
    let last = c.in-Some.last in
    let long : length all ≡ suc last = omega (arith, c.in-Some.ensures, c.len.ensures) in
    let number = last_number 0 s c.index.result.now all last c.self.invariant long c.index.ensures (sym c.is.ensures ∙ c.if-is.true) in
    let same : last ≡ stream_from 0 s all = omega (arith, number) in
    same ∙ ap (stream_from 0 s) c.self.view_is
