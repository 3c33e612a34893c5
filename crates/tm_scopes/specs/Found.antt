-- What lookups find.
use Rattle.std.specs.Borrow.{Bor}
use Rattle.std.specs.Prelude.{◌≡◌, ℕ, List, Option, Some, None, Result, Ok, Err}
use Rattle.tm_values.specs.Answer.{Answer}
use Rattle.tm_values.specs.Records.{RecordData}
use Rattle.tm_values.specs.Val.{Val, loop}
use Rattle.tm_values.specs.declared.error.ErrorKind.{ErrorKind}
use Rattle.tm_meaning.specs.World.{Bindings, Scope, View, in_frames}
use Rattle.tm_scopes.specs.declared.frame.Found.{Found}
use Rattle.tm_scopes.specs.declared.frame.Found.TheVariants.{Value, Loop}

-- The borrowed result is the stated one: a value, none, or an error's chain.
abbrev pub IsHeld : Result (Option (Bor Val)) (List ErrorKind) → Answer (Option Val) → Type 0
IsHeld (Ok None) stated = stated ≡ Ok None
IsHeld (Ok (Some v)) stated = stated ≡ Ok (Some v.now)
IsHeld (Err chain) stated = stated ≡ Err chain

-- what was found, as a value of the state of this id
abbrev pub meant_by : ℕ → Found → Val
meant_by id (Value v) = v.now
meant_by id (Loop n) = loop id n

-- The same for a result that may be a loop, whose value isn't stored.
abbrev pub IsFound : ℕ → Result (Option Found) (List ErrorKind) → Answer (Option Val) → Type 0
IsFound id (Ok None) stated = stated ≡ Ok None
IsFound id (Ok (Some found)) stated = stated ≡ Ok (Some (meant_by id found))
IsFound id (Err chain) stated = stated ≡ Err chain

-- The result is what the scopes bind the name to, in each view with these records and closures.
abbrev pub IsFoundIn : RecordData → List Bindings → List ℕ → List Scope → Result (Option Found) (List ErrorKind) → Type 0
IsFoundIn records closures x scopes result =
    (view : View) → view.records ≡ records → view.closures ≡ closures → IsFound records.state result (in_frames view x scopes)
