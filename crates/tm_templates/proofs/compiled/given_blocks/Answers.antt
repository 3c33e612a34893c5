use Rattle.std.proofs.Common.{◌≡◌, ◌∙◌, ap, false, subst, sym}
use Rattle.tm_syntax.specs.Named.{put, put_each}
use Rattle.tm_shapes.specs.Verified.{IsAccepted}
use Rattle.tm_shapes.specs.declared.code.BlockCode.{BlockCode}
use Rattle.tm_templates.specs.Templates.{AllAccepted, given_blocks}
use Rattle.tm_templates.proofs.Accepted.{put_all}
use Rattle.tm_templates.proofs.compiled.given_blocks.Goals as goal

pub loop-name-preserved : goal.loop-name-preserved
loop-name-preserved c =
    let rest = c.pop_first.new.self.entries in
    let old = c.loop-name.blocks in
    let x = c.in-Some.name.now in
    let b : BlockCode = record { required = false; code = c.in-Some.code } in
    let made : c.insert.new.self ≡ put x b old = c.in_ok-insert.ensures.ok ∙ ap (λ y. put y b old) c.in_ok-new.ensures in (
      ap (put_each (given_blocks rest)) made
          ∙ ap (λ es. put_each (given_blocks es) old) (sym c.in-Some.ensures.removal)
          ∙ c.loop-name.invariant.0,
      subst AllAccepted (sym made)
          (put_all (λ (b : BlockCode). IsAccepted b.code) x b old c.accepted.ensures c.loop-name.invariant.1),
    )
