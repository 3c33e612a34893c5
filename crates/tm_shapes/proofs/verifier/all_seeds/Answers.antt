use Rattle.std.proofs.Common.{◌≡◌, ◌∙◌, ◌++◌, ◌+◌, drop, ap, sym, append_assoc}
use Rattle.std.proofs.lemmas.List.{append-nil}
use Rattle.tm_shapes.specs.Accepts.{entry_seeds_from}
use Rattle.tm_shapes.specs.Searched.{count_after, entry_of, seeds_of}
use Rattle.tm_shapes.proofs.Rests.{next, none_left}
use Rattle.tm_shapes.proofs.Seeding.{entry_first}
use Rattle.tm_shapes.proofs.verifier.all_seeds.Goals as goal

pub loop-instruction-preserved : goal.loop-instruction-preserved
loop-instruction-preserved c =
    let code = c.args.code.now in
    let x = c.instruction-item.result in
    let old = seeds_of c.loop-instruction.seeds.items in
    let before = c.loop-instruction.before in
    let left = drop (c.loop-instruction.instruction-index + 1) code in
    let rest = next code c.loop-instruction.instruction-index x c.loop-instruction-test.true c.instruction-item.is in
    let made : seeds_of c.add_seed.new.seeds.items ≡ old ++ entry_of before x = c.in_ok-add_seed.ensures ∙ ap (λ es. old ++ es) c.entry_of.ensures in
    ap (λ es. es ++ entry_seeds_from c.count_after-before.result left) made
    ∙ ap (λ n. (old ++ entry_of before x) ++ entry_seeds_from n left) c.count_after-before.ensures
    ∙ append_assoc old (entry_of before x) (entry_seeds_from (count_after x) left)
    ∙ ap (λ es. old ++ es) (sym (entry_first before x left)) ∙ sym (ap (λ is. old ++ entry_seeds_from before is) rest)
    ∙ c.loop-instruction.invariant

pub returns : goal.returns
returns c =
    let none = none_left c.args.code.now c.loop-instruction.instruction-index c.loop-instruction-test.false in
    let read = seeds_of c.loop-instruction.seeds.items in
    sym (append-nil read) ∙ ap (λ is. read ++ entry_seeds_from c.loop-instruction.before is) (sym none) ∙ c.loop-instruction.invariant
