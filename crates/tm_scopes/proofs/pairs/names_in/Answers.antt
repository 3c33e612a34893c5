use Rattle.std.proofs.Common.{◌≡◌, ◌∙◌, ap, arith}
use Rattle.std.proofs.lemmas.List.{take_all}
use Rattle.std.specs.Map.{keys_of}
use Rattle.tm_syntax.specs.Named.{texts_of}
use Rattle.tm_scopes.specs.Known.{is_among}
use Rattle.tm_scopes.proofs.Ordered.{names_in_order}
use Rattle.tm_scopes.proofs.pairs.names_in.Goals as goal

pub returns : goal.returns
returns c =
    let whole : texts_of c.loop-pair.names.items ≡ keys_of c.args.pairs.now =
    c.loop-pair.invariant ∙ ap keys_of (take_all c.loop-pair.pair-index c.args.pairs.now (omega (arith, c.loop-pair-test.false))) in
    names_in_order (texts_of c.in_order.result.items) c.args.pairs.now c.in_order.ensures.order
    (λ z. c.in_order.ensures.same z ∙ ap (is_among z) whole)
