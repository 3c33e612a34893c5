use Rattle.std.proofs.Common.{◌≡◌, drop}
use Rattle.tm_meaning.specs.Calls.{first_found}
use Rattle.tm_state.proofs.state.StateData.first_found.Given as goal

-- those before are not there
abbrev pub invariant-loop-choice : goal.invariant-loop-choice
invariant-loop-choice g l =
    first_found (g.H.Host.program l.fn.host).host (drop l.choice-index l.fn.choices) l.fn.self
    ≡ first_found (g.H.Host.program l.fn.host).host l.fn.choices l.fn.self
