use Rattle.std.proofs.Common.{◌∙◌, ap, sym}
use Rattle.tm_scopes.specs.Closures.{others_than}
use Rattle.tm_scopes.proofs.Ordered.{either_way, find-hashed, forgotten_of, is_at-hashed}
use Rattle.tm_scopes.proofs.closures.Closure.remove.Goals as goal

pub returns : goal.returns
returns c =
    let x = c.args.name.now in
    let before = c.self.inside.names.entries in
    let after = c.remove-value.new.self.entries in
    forgotten_of x before after (sym (find-hashed x after) ∙ c.remove-value.ensures.updates.1)
    (λ z e. sym (find-hashed z after) ∙ c.remove-value.ensures.updates.2 z (is_at-hashed x z ∙ either_way z x _ e) ∙ find-hashed z before)
    ∙ ap (others_than x) c.self.view_is
