-- What a builder does in one step.
use Rattle.tm_generator.specs.Building.{with_one, jumped, left, continued, begun, bound, joined, place_of, outs_of, outer_of}
use Rattle.tm_generator.specs.Building.{loop_begun, rounds_ended, body_begun, body_ended, around_of}

-- `unfolding steps` unfolds each of them
unfoldable pub steps : Unit {0}
unfolding with_one jumped left continued begun bound joined place_of outs_of outer_of loop_begun rounds_ended
    body_begun body_ended around_of
steps = tt
