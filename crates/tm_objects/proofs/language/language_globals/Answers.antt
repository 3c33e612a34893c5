use Rattle.std.proofs.Common.{◌≡◌, drop, length, arith, ap, ◌∙◌}
use Rattle.tm_syntax.specs.Named.{put}
use Rattle.tm_objects.specs.Language.{language, named_from}
use Rattle.tm_objects.proofs.Naming.{named_next}
use Rattle.tm_objects.proofs.language.language_globals.Goals as goal

pub loop-number-init : goal.loop-number-init
loop-number-init c = record { rest = ap (named_from 0 language) c.new-globals.ensures }

pub loop-number-preserved : goal.loop-number-preserved
loop-number-preserved c =
    let names = c.loop-number.globals in
    let x = c.language_name.result.now in
    let named = c.in_ok-insert.ensures.ok ∙ ap (λ y. put y c.function.result names) c.in_ok-name.ensures
    ∙ ap (λ v. put x v names) c.function.ensures in
    record { rest = named_next c.loop-number.number x names c.insert.new.self c.language_name.ensures named ∙ c.loop-number.invariant.rest }

pub returns : goal.returns
returns c =
    let all : length language ≡ c.loop-number.number = omega (arith, c.loop-number-test.false, c.loop-number.auto.number-end) in
    ap (λ n. named_from n (drop n language) c.loop-number.globals) all ∙ c.loop-number.invariant.rest
