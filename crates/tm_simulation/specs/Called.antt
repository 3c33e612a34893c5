-- The results of calls that a state is asked for while no template runs.
use Rattle.std.specs.Prelude.{ℕ, ◌+◌, List, [], ◌∷◌, true}
use Rattle.tm_values.specs.Val.{Val}
use Rattle.tm_values.specs.declared.error.ErrorKind.{ErrorKind}
use Rattle.tm_values.specs.declared.error.ErrorKind.TheVariants.{InvalidOperation}
use Rattle.tm_definitions.specs.Emitted.{text_answer}
use Rattle.tm_definitions.specs.Mapped.{with_maps}
use Rattle.tm_meaning.specs.World.{World, HostValue, Res, Good, Bad, answered, bind, records_of}
use Rattle.tm_meaning.specs.Calls.{Asked, has, refused, runs, recurs, by_depths, named_call}
use Rattle.tm_meaning.specs.Tree.{Trees}
use Rattle.tm_meaning.specs.Meaning.{value_after}
use Rattle.tm_meaning.specs.Runs.{nests_of}

-- A call as a value. The run that it needs is captured, and what the run replaced is restored after
-- it, even if it failed.
abbrev pub called : HostValue → Trees → Asked → Res Val
called host trees (has v w) = Good v w
called host trees (refused chain w) = Bad chain w
called host trees (runs c w) = let o = nests_of host trees (host.limit + 1) c.callee true [] w in value_after o.ending c o
called host trees (recurs n items w) = Bad (InvalidOperation ∷ []) w

-- calls the value of a name as a function, with these arguments
abbrev pub call_by_name : HostValue → List ℕ → List Val → World → Asked
call_by_name host x args w = named_call (by_depths host w) 0 host x args w

-- The value of a call as its text, or the reason why it has none.
abbrev pub as_text : Res Val → Res (List ℕ)
as_text called = bind called (λ v w. answered (text_answer (records_of w) v) w)

-- a value with its namespaces replaced by maps
abbrev pub maps_in : Res Val → Res Val
maps_in m = bind m (λ v w. answered (with_maps (records_of w) v) w)

-- the chain of kinds; empty if there is no fault
abbrev pub fault_of : {A : Type 0} → Res A → List ErrorKind
fault_of (Good a w) = []
fault_of (Bad chain w) = chain

-- the world that a result leaves
abbrev pub world_of : {A : Type 0} → Res A → World
world_of (Good a w) = w
world_of (Bad chain w) = w
