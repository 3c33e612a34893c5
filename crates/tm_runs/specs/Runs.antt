-- What the parts of a run answer, beyond the definitions.
use Rattle.std.specs.Prelude.{◌≡◌, ◌+◌, ◌<◌, ◌^◌, ◌-◌, ℕ, List, [], ◌∷◌, Option, None, Some, Result, Ok, Err, Bool, Vec, map as each}
use Rattle.std.specs.Rc.{rc_str_bytes}
use Rattle.std.specs.declared.rc.RcStr.{RcStr}
use Rattle.std.specs.declared.alloc.Global.{Global}
use Rattle.tm_values.specs.Val.{Val}
use Rattle.tm_values.specs.declared.error.ErrorKind.TheVariants.{OutOfMemory}
use Rattle.tm_meaning.specs.World.{World}
use Rattle.tm_meaning.specs.Machine.{Activation, Caches, Config, End, Finished, Next, Return, stuck, take_n}
use Rattle.tm_meaning.specs.Instructions.{take_counted}
use Rattle.tm_parts.specs.declared.halt.Halt.{Halt}
use Rattle.tm_parts.specs.declared.halt.Halt.TheVariants as halt

-- a run that has a next place
abbrev pub CanGoOn : Activation → Type 0
CanGoOn run = run.place < 2 ^ 64 - 1

-- a run that ends here
abbrev pub finished_at : Config → End
finished_at c = Finished c.run.operands c.captures c.world

-- a run that has called its loop at a place, over `floor` captures
abbrev pub called : ℕ → ℕ → Bool → Activation → Activation
called place floor value r =
    record r {
      place = place + 1;
      operands = [];
      escapes = [];
      floor = floor;
      loops = Some (record {
        place = r.place + 1;
        operands = r.operands;
        escapes = r.escapes;
        floor = r.floor;
        parent = r.parent;
        value = value;
      }) ∷ r.loops;
    }

-- a run that continues where a loop was called
abbrev pub resumed : Return → Activation → Activation
resumed back r = record r { place = back.place; operands = back.operands; escapes = back.escapes; floor = back.floor }

-- These are the caches after a name was used by its number, unless memory ran out; or it can't be
-- used by that number.
abbrev pub IsUsed : Option Caches → Caches → Result ℕ Halt → Type 0
IsUsed used new (Ok _) = used ≡ Some new
IsUsed used new (Err halt.Writer) = ⊥
IsUsed used new (Err halt.Stuck) = used ≡ None
IsUsed used new (Err (halt.Fault chain)) = chain ≡ OutOfMemory ∷ []

-- An instruction that takes `count` values, or as many as the number on top says, takes n of these;
-- or it is stuck.
abbrev pub TakesCounted : Option ℕ → List Val → ℕ → List Val → Type 0
TakesCounted count old n new = (w : World) (f : List Val → List Val → Next) → take_counted count old w f ≡ take_n n new w f

abbrev pub IsUncounted : Option ℕ → List Val → Type 0
IsUncounted count old = (w : World) (f : List Val → List Val → Next) → take_counted count old w f ≡ stuck w

-- These are the texts that were found, or none were found.
abbrev pub AreTexts : Option (Vec (RcStr Global) Global) → Option (List (List ℕ)) → Type 0
AreTexts (Some texts) found = found ≡ Some (each rc_str_bytes texts.items)
AreTexts None found = found ≡ None
