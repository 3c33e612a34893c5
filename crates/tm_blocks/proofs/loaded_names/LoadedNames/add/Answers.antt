use Rattle.std.proofs.Common.{◌++◌, ◌∷◌, [], subst, sym, ◌∙◌}
use Rattle.tm_syntax.specs.Named.{put}
use Rattle.tm_blocks.specs.Lists.{HasNames}
use Rattle.tm_blocks.proofs.Listed.{one_known, went_well}
use Rattle.tm_blocks.proofs.loaded_names.LoadedNames.add.Goals as goal

pub invariant_of-self-else-is_err : goal.invariant_of-self-else-is_err
invariant_of-self-else-is_err c =
    let put_in = went_well c.insert.result (sym c.is_err.ensures.value ∙ c.if-is_err.false) c.insert.ensures.ok in
    let has : HasNames c.insert.new.self (c.self.inside.names.items ++ c.args.name ∷ []) =
    subst (λ t. HasNames t (c.self.inside.names.items ++ c.args.name ∷ [])) (sym put_in)
    (subst (λ x. HasNames (put x tt c.self.inside.known) (c.self.inside.names.items ++ c.args.name ∷ [])) (sym c.in_ok-key.ensures)
    (one_known c.self.inside.known c.self.inside.names.items c.args.name c.self.invariant)) in
    subst (λ ns. HasNames c.insert.new.self ns) (sym c.in_ok-push.ensures.items) has
