use Rattle.std.proofs.Common.{◌∙◌, ◌++◌, [], ◌∷◌, ap, sym}
use Rattle.tm_shapes.specs.Searched.{seed_of, seeds_of}
use Rattle.tm_shapes.proofs.Seeding.{seeds_after}
use Rattle.tm_shapes.proofs.verifier.add_seed.Goals as goal

pub returns-in_ok-push : goal.returns-in_ok-push
returns-in_ok-push c = ap seeds_of c.in_ok-push.ensures.items ∙ seeds_after c.args.seeds.now.items (c.in-Some.seed ∷ [])
    ∙ ap (λ e. seeds_of c.args.seeds.now.items ++ seed_of e) (sym c.in-Some.is)
