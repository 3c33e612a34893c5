use Rattle.std.proofs.Common.{◌≡◌, ◌∙◌, ◌++◌, ◌∷◌, [], ap, sym, subst, reverse, arith}
use Rattle.std.proofs.lemmas.List.{take_all}
use Rattle.tm_values.specs.Map.{put_all}
use Rattle.tm_values.specs.Answer.{OkOrOutOfMemory}
use Rattle.tm_meaning.specs.World.{exported}
use Rattle.tm_scopes.proofs.Exported.{exported-more, exported_map}
use Rattle.tm_scopes.proofs.pairs.exported.Goals as goal

pub loop-pair-preserved : goal.loop-pair-preserved
loop-pair-preserved c =
    c.in_ok-add_exported.ensures.ok ∙ ap (λ ps. ps ++ exported (c.pair-item.result ∷ [])) c.loop-pair.invariant
    ∙ sym (exported-more c.args.own.now c.loop-pair.pair-index c.pair-item.result
    (omega (arith, c.loop-pair-test.true)) c.pair-item.is)

pub returns : goal.returns
returns c =
    let own = c.args.own.now in
    let whole : c.loop-pair.pairs.items ≡ exported own =
    c.loop-pair.invariant ∙ ap exported (take_all c.loop-pair.pair-index own (omega (arith, c.loop-pair-test.false))) in
    subst (λ ps. OkOrOutOfMemory c.from_pairs.result (λ pairs. pairs ≡ ps))
    (ap put_all (c.reverse.ensures.items ∙ ap reverse whole) ∙ exported_map own) c.from_pairs.ensures
