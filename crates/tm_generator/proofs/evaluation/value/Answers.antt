use Rattle.std.proofs.Common.{◌≡◌, ◌∙◌, ap, subst, sym, true}
use Rattle.tm_syntax.specs.Blocks.{expression}
use Rattle.tm_syntax.specs.CacheNumbers.{numbered}
use Rattle.tm_syntax.specs.Code.{expr_code}
use Rattle.tm_shapes.specs.Accepts.{accepts}
use Rattle.tm_shapes.specs.declared.kind.Form.TheVariants.{Expression}
use Rattle.tm_generator.specs.Building.{finished}
use Rattle.tm_generator.proofs.Assembled.{made_whole}
use Rattle.tm_generator.proofs.Spreading.{if_ok_weaker}
use Rattle.tm_generator.proofs.evaluation.value.Goals as goal

pub new-requires : goal.new-requires
new-requires c =
    let same = c.in_ok-number_caches.ensures ∙ ap numbered (c.finish-instructions.ensures
    ∙ ap finished c.in_ok-push_expr.ensures ∙ made_whole (expr_code c.args.expr.now) c.new-code.result (ap (λ b. b.code) c.new-code.ensures)
    (ap (λ b. b.outs) c.new-code.ensures) (ap (λ b. b.exits) c.new-code.ensures)) in
    subst (λ code. accepts Expression code ≡ true) (sym same) (c.the_code_of_trees_is_accepted.ensures (expression c.args.expr.now))

pub returns : goal.returns
returns c =
    if_ok_weaker c.new.result (λ code made. made ∙ c.in_ok-number_caches.ensures ∙ ap numbered (c.finish-instructions.ensures
    ∙ ap finished c.in_ok-push_expr.ensures ∙ made_whole (expr_code c.args.expr.now) c.new-code.result (ap (λ b. b.code) c.new-code.ensures)
    (ap (λ b. b.outs) c.new-code.ensures) (ap (λ b. b.exits) c.new-code.ensures))) c.new.ensures
