-- Runs of code, and the ends that the meaning of trees predicts.
use Rattle.std.specs.Prelude.{ℕ, ◌+◌, ◌≤◌, List, [], ◌∷◌, Bool, true}
use Rattle.tm_meaning.specs.World.{World, HostValue, depth}
use Rattle.tm_meaning.specs.Calls.{Callee, whole}
use Rattle.tm_meaning.specs.Meaning.{Ending, fault, left_by, Outcome}
use Rattle.tm_meaning.specs.Machine.{Program, Capture, End, Finished, Failed, base_of}
use Rattle.tm_meaning.specs.Steps.{Final, final, Leads, begins}

-- ---------------------------------------------------------------- runs
-- The run of a callee, heard or not, over these open captures, and with the text that the writer
-- has received, leads from its start in this world to this end.
abbrev pub RunsTo : Program → Callee → Bool → List Capture → List ℕ → World → Final → Type 0
RunsTo p k heard captures told w end =
    let f = base_of heard captures w in Leads p f told (begins p f k captures w) end

-- A render is a run of the stream that the world names, heard, with nothing open and nothing
-- written yet.
abbrev pub Renders : Program → World → Final → Type 0
Renders p w end = RunsTo p (whole w.stream) true [] [] w end

-- ---------------------------------------------------------------- the output of a run
-- The text so far in the output of a run: that of the innermost capture, or else the writer's.
abbrev pub text_in : List Capture → List ℕ → List ℕ
text_in [] told = told
text_in (k ∷ ks) told = k.text

-- The captures with this text; those below the innermost are unchanged.
abbrev pub captures_with : List Capture → List ℕ → List Capture
captures_with [] text = []
captures_with (k ∷ ks) text = record k { text = text } ∷ ks

-- The text that the writer has received then.
abbrev pub told_with : List Capture → List ℕ → List ℕ → List ℕ
told_with [] told text = text
told_with (k ∷ ks) told text = told

-- ---------------------------------------------------------------- the end of a meaning
-- failed with the chain of a fault; or finished, with the values and captures that are left
abbrev pub end_by : Ending → List Capture → World → End
end_by (fault chain) captures w = Failed chain w
end_by e captures w = Finished (left_by e) captures w

-- The end of a run with this outcome, over these captures and with the text that the writer had
-- before.
abbrev pub final_in : List Capture → List ℕ → Outcome → Final
final_in captures told o = final (told_with captures told o.text) (end_by o.ending (captures_with captures o.text) o.world)

-- The end of a render with this outcome.
abbrev pub final_of : Outcome → Final
final_of o = final_in [] [] o

-- n levels of nested runs are enough from this world, since each run is at least one scope deeper,
-- and none exceeds the limit. One level more than the limit is enough from any world.
abbrev pub HasLevels : HostValue → ℕ → World → Type 0
HasLevels host n w = host.limit + 1 ≤ n + depth w.scopes
