use Rattle.std.proofs.Common.{◌∙◌, [], ap, sym, arith, reverse}
use Rattle.std.proofs.lemmas.List.{take_all}
use Rattle.tm_meaning.specs.World.{innermost}
use Rattle.tm_scopes.specs.Marks.{framed}
use Rattle.tm_scopes.proofs.Framed.{innermost-framed}
use Rattle.tm_scopes.proofs.context.Context.innermost_loop.Goals as goal

pub loop-i-init : goal.loop-i-init
loop-i-init c =
    let marks = c.self.inside.marks.items in (
      omega (arith, c.len-i.ensures),
      innermost-framed (reverse marks) c.self.inside.pairs.items []
          ∙ ap (λ ms. innermost (framed (reverse ms) [])) (sym (take_all c.len-i.result marks (omega (arith, c.len-i.ensures)))),
    )
