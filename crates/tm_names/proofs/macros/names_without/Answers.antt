use Rattle.std.proofs.Common.{◌∙◌, ◌++◌, ◌∷◌, [], ap, map}
use Rattle.std.specs.Prelude.{not}
use Rattle.std.specs.String.{string_bytes}
use Rattle.tm_syntax.specs.Named.{same_name}
use Rattle.tm_names.proofs.Among.{one-kept}
use Rattle.tm_names.proofs.macros.names_without.Goals as goal

pub loop-text-preserved-in_ok-push : goal.loop-text-preserved-in_ok-push
loop-text-preserved-in_ok-push c =
    one-kept c.args.left_out.now (string_bytes c.in-Some.text.now) c.ne.result c.loop-text.names c.push.new.self _ _ _
    (c.ne.ensures ∙ ap (λ y. not (same_name y c.args.left_out.now)) c.as_str-text.ensures.value) c.if-ne.true
    (ap (map string_bytes) c.in-Some.ensures.steps)
    (c.in_ok-push.ensures.ok ∙ ap (λ x. c.loop-text.names ++ x ∷ []) (c.in_ok-new.ensures ∙ c.as_str-text.ensures.value))
    c.loop-text.invariant
