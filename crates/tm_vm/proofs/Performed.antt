-- What instructions of each kind did, as what every step says.
use Rattle.std.specs.Prelude.{get_or}
use Rattle.std.proofs.Common.{◌≡◌, ◌<◌, ℕ, zero, suc, List, [], ◌∷◌, ◌+◌, ◌&&◌, Bool, true, false, None, Option, Some, Result, Ok, Err}
use Rattle.std.proofs.Common.{refl, sym, ◌∙◌, ap, subst, arith, length, slice_get}
use Rattle.std.specs.Global.{Box}
use Rattle.std.specs.Io.KnownBytes.{Appends}
use Rattle.tm_meaning.specs.Calls.{NestedCall, enter_block, block_call, whole}
use Rattle.tm_meaning.specs.declared.run_text.RunText.TheVariants as texts
use Rattle.tm_meaning.specs.Instructions.{call_block_of}
use Rattle.tm_meaning.specs.Machine.{Config, Next, More, Program, after, asked_in_place, audible, first_run, nested, with_world}
use Rattle.tm_meaning.specs.Meaning.{none_waits}
use Rattle.tm_meaning.specs.declared.stream.StreamId.{StreamId}
use Rattle.std.proofs.Common.{◌-◌}
use Rattle.tm_meaning.specs.Steps.{act, charge_of, effect, pay, step}
use Rattle.tm_trees.specs.Instructions.{Instruction}
use Rattle.tm_state.specs.Answers.{KeepsFixed, KeepsFixedAndNames, OneDeeper, fixed_of}
use Rattle.tm_vm.proofs.Ground.{same_as_no_fewer, standing_same, stays, stays_over}
use Rattle.tm_vm.proofs.Loop.{fixed_same, fixed_then, kept_same}
use Rattle.std.proofs.Common.{◌≤◌}
use Rattle.tm_meaning.specs.Inheritance.{names_left}
use Rattle.tm_meaning.specs.World.{HostValue}
use Rattle.tm_meaning.specs.declared.base.Base.{Base}
use Rattle.tm_output.specs.Counts.{Told}
use Rattle.tm_output.specs.Pieces.{appends_nothing, beginning_nothing}
use Rattle.tm_parts.specs.declared.halt.Halt.{Halt}
use Rattle.tm_parts.specs.declared.halt.Halt.TheVariants as halt
use Rattle.tm_meaning.specs.World.{CanPay, World, Good}
use Rattle.tm_state.specs.State.{IsSaved, runs_block, saved_of}
use Rattle.tm_records.specs.declared.saved.Saved.{Saved}
use Rattle.tm_records.specs.declared.saved.Saved.TheVariants as saved
use Rattle.tm_records.specs.declared.nested.RunOf.TheVariants as run_of
use Rattle.tm_vm.specs.Answers.{Depths, Did, Enters, entered, Performs, WritesNext, Silently, Opens, Shifts, Needs, Loads, Finishes}
use Rattle.tm_vm.specs.Answers.{KeepsBaseScopes, Names, Quietly, QuietlyAhead, SilentlyAhead, StaysIn, output}
use Rattle.tm_runs.proofs.Paid.{chosen, pays_nothing, pays_one}
use Rattle.tm_runs.specs.Attempts.{attempt_of, captured_of, free_attempt_of, written_of}
use Rattle.tm_vm.specs.AtOnce.{Attempted, IsAtOnce, IsCharged, IsFree, IsPaid, paid}
use Rattle.tm_output.specs.declared.target.TargetFailed.{TargetFailed}
use Rattle.tm_runs.specs.declared.attempt.Attempt.{Attempt}
use Rattle.tm_runs.specs.declared.attempt.Attempt.TheVariants.{Done, DoneFree, Left, WriterFailed, NoMemory}
use Rattle.tm_records.specs.declared.nested.NestedRun.{NestedRun}
use Rattle.tm_vm.specs.declared.flow.Flow.{Flow}
use Rattle.tm_vm.specs.declared.flow.Flow.TheVariants as flow

pub nothing_written : {n : Next} {c : Config} (told : Option (List ℕ)) → n ≡ More [] c → (n ≡ More (output n) c) × Appends told told (output n)
nothing_written {c = c} told at =
    (at ∙ ap (λ t. More t c) (sym (ap output at)), subst (λ t. Appends told told t) (sym (ap output at)) (appends_nothing told))

-- the same names are loaded, so as many are left
pub same_names : (host : HostValue) {old new : World} → KeepsFixedAndNames old new → names_left host new ≤ names_left host old
same_names host {old = old} {new = new} kept =
    let same : names_left host new ≡ names_left host old = ap (λ ns. names_left host (record old { loaded = ns })) kept.same_loaded in
    omega (arith, same)

pub silent : {p : Program} {f : Base} {n : Next} {old new : Config} {told : Told} (result : Result Flow Halt) →
    Silently n old new result
    → Performs p f n old new told told result
silent {p = p} {f = f} {n = n} {old = old} {new = new} {told = told} (Ok flow.GoOn) s =
    record {
      did = nothing_written told.bytes s.did;
      counted = refl;
      kept = fixed_of s.kept;
      names = same_names p.host s.kept;
      depths = stays f old.world new.world s.same_standing;
      same_stream = s.same_stream;
    }
silent {p = p} (Ok flow.Done) s = absurd s.did
silent {p = p} (Ok flow.Ahead) s = absurd s.did
silent {p = p} (Ok flow.Called) s = absurd s.did
silent {p = p} (Ok flow.Restart) s = absurd s.did
silent {p = p} (Ok (flow.Enter e)) s = absurd s.did
silent {p = p} (Err halt.Writer) s = absurd s.did
silent {p = p} {f = f} {n = n} {old = old} {new = new} {told = told} (Err halt.Stuck) s = record {
  did = (s.did, beginning_nothing told.bytes (output n));
  counted = refl;
  kept = fixed_of s.kept;
  names = same_names p.host s.kept;
  depths = stays f old.world new.world s.same_standing;
  same_stream = s.same_stream;
}
silent {p = p} {f = f} {n = n} {old = old} {new = new} {told = told} (Err (halt.Fault chain)) s = record {
  did = (s.did, beginning_nothing told.bytes (output n));
  counted = refl;
  kept = fixed_of s.kept;
  names = same_names p.host s.kept;
  depths = stays f old.world new.world s.same_standing;
  same_stream = s.same_stream;
}

-- one that may open a scope, and doesn't
pub still : {n : Next} {old new : Config} (result : Result Flow Halt) → Silently n old new result → Opens n old new result
still {old = old} {new = new} result s =
    record { did = s.did; kept = s.kept; no_fewer = same_as_no_fewer old.world new.world s.same_standing; same_stream = s.same_stream }

pub opened : {p : Program} {f : Base} {n : Next} {old new : Config} {told : Told} (result : Result Flow Halt) →
    Opens n old new result
    → Performs p f n old new told told result
opened {p = p} {f = f} {n = n} {old = old} {new = new} {told = told} (Ok flow.GoOn) s =
    record {
      did = nothing_written told.bytes s.did;
      counted = refl;
      kept = fixed_of s.kept;
      names = same_names p.host s.kept;
      depths = stays_over f old.world new.world s.no_fewer;
      same_stream = s.same_stream;
    }
opened {p = p} (Ok flow.Done) s = absurd s.did
opened {p = p} (Ok flow.Ahead) s = absurd s.did
opened {p = p} (Ok flow.Called) s = absurd s.did
opened {p = p} (Ok flow.Restart) s = absurd s.did
opened {p = p} (Ok (flow.Enter e)) s = absurd s.did
opened {p = p} (Err halt.Writer) s = absurd s.did
opened {p = p} {f = f} {n = n} {old = old} {new = new} {told = told} (Err halt.Stuck) s = record {
  did = (s.did, beginning_nothing told.bytes (output n));
  counted = refl;
  kept = fixed_of s.kept;
  names = same_names p.host s.kept;
  depths = stays_over f old.world new.world s.no_fewer;
  same_stream = s.same_stream;
}
opened {p = p} {f = f} {n = n} {old = old} {new = new} {told = told} (Err (halt.Fault chain)) s = record {
  did = (s.did, beginning_nothing told.bytes (output n));
  counted = refl;
  kept = fixed_of s.kept;
  names = same_names p.host s.kept;
  depths = stays_over f old.world new.world s.no_fewer;
  same_stream = s.same_stream;
}

pub shifted : {p : Program} {f : Base} {n : Next} {old new : Config} {told : Told} (result : Result Flow Halt) →
    Shifts f n old new result
    → Performs p f n old new told told result
shifted {p = p} {n = n} {told = told} (Ok flow.GoOn) s =
    record {
      did = nothing_written told.bytes s.did;
      counted = refl;
      kept = fixed_of s.kept;
      names = same_names p.host s.kept;
      depths = s.stays;
      same_stream = s.same_stream;
    }
shifted {p = p} (Ok flow.Done) s = absurd s.did
shifted {p = p} (Ok flow.Ahead) s = absurd s.did
shifted {p = p} (Ok flow.Called) s = absurd s.did
shifted {p = p} (Ok flow.Restart) s = absurd s.did
shifted {p = p} (Ok (flow.Enter e)) s = absurd s.did
shifted {p = p} (Err halt.Writer) s = absurd s.did
shifted {p = p} {n = n} {told = told} (Err halt.Stuck) s =
    record {
      did = (s.did, beginning_nothing told.bytes (output n));
      counted = refl;
      kept = fixed_of s.kept;
      names = same_names p.host s.kept;
      depths = s.stays;
      same_stream = s.same_stream;
    }
shifted {p = p} {n = n} {told = told} (Err (halt.Fault chain)) s =
    record {
      did = (s.did, beginning_nothing told.bytes (output n));
      counted = refl;
      kept = fixed_of s.kept;
      names = same_names p.host s.kept;
      depths = s.stays;
      same_stream = s.same_stream;
    }

pub wrote : {p : Program} {f : Base} {n : Next} {old new : Config} {told now : Told} (result : Result Flow Halt)
    → WritesNext n old new told now result → Performs p f n old new told now result
wrote {p = p} {f = f} {old = old} {new = new}
    (Ok flow.GoOn) s = record {
      did = s.did;
      counted = s.counted;
      kept = fixed_of s.kept;
      names = same_names p.host s.kept;
      depths = stays f old.world new.world s.same_standing;
      same_stream = s.same_stream;
    }
wrote {p = p} (Ok flow.Done) s = absurd s.did
wrote {p = p} (Ok flow.Ahead) s = absurd s.did
wrote {p = p} (Ok flow.Called) s = absurd s.did
wrote {p = p} (Ok flow.Restart) s = absurd s.did
wrote {p = p} (Ok (flow.Enter e)) s = absurd s.did
wrote {p = p} {f = f} {old = old} {new = new}
    (Err why) s = record {
      did = s.did;
      counted = s.counted;
      kept = fixed_of s.kept;
      names = same_names p.host s.kept;
      depths = stays f old.world new.world s.same_standing;
      same_stream = s.same_stream;
    }

pub needed : {p : Program} {f : Base} {n : Next} {old new : Config} {told : Told} (result : Result Flow Halt) →
    Needs p n old new result
    → Performs p f n old new told told result
needed {p = p} {f = f} {old = old} {new = new} {told = told} (Ok flow.GoOn) s =
    record {
      did = nothing_written told.bytes s.did;
      counted = refl;
      kept = fixed_of s.kept;
      names = same_names p.host s.kept;
      depths = stays_over f old.world new.world s.deepens;
      same_stream = s.same_stream;
    }
needed {p = p} (Ok flow.Ahead) s = absurd s.did
needed {p = p} (Ok flow.Done) s = absurd s.did
needed {p = p} {f = f} {old = old} {new = new} (Ok flow.Called) s = record {
  did = (s.did, refl);
  counted = refl;
  kept = fixed_of s.kept;
  names = same_names p.host s.kept;
  depths = stays_over f old.world new.world s.deepens;
  same_stream = s.same_stream;
}
needed {p = p} (Ok flow.Restart) s = absurd s.did
needed {p = p} {f = f} {old = old} {new = new}
    (Ok (flow.Enter e)) s = record { did = (s.did, refl); counted = refl; kept = fixed_of s.kept; names = s.kept.same_loaded; depths = s.deepens; same_stream = s.same_stream }
needed {p = p} (Err halt.Writer) s = absurd s.did
needed {p = p} {f = f} {n = n} {old = old} {new = new} {told = told} (Err halt.Stuck) s =
    record {
      did = (s.did, beginning_nothing told.bytes (output n));
      counted = refl;
      kept = fixed_of s.kept;
      names = same_names p.host s.kept;
      depths = stays_over f old.world new.world s.deepens;
      same_stream = s.same_stream;
    }
needed {p = p} {f = f} {n = n} {old = old} {new = new} {told = told} (Err (halt.Fault chain)) s =
    record {
      did = (s.did, beginning_nothing told.bytes (output n));
      counted = refl;
      kept = fixed_of s.kept;
      names = same_names p.host s.kept;
      depths = stays_over f old.world new.world s.deepens;
      same_stream = s.same_stream;
    }

-- one that may be done with the next one
as_silent : {p : Program} {n : Next} {old new : Config} (result : Result Flow Halt) → (QuietlyAhead p result new n → Quietly result new n) →
    (StaysIn result old.run new.run → new.run.stream ≡ old.run.stream) → SilentlyAhead p n old new result → Silently n old new result
as_silent result quiet stream s =
    record { did = quiet s.did; kept = s.kept; same_standing = s.same_standing; same_stream = stream s.same_run }

pub gone_ahead : {p : Program} {f : Base} {n : Next} {old new : Config} {told : Told} (result : Result Flow Halt) →
    SilentlyAhead p n old new result
    → Performs p f n old new told told result
gone_ahead {p = p} {f = f} {old = old} {new = new} (Ok flow.Ahead) s = record {
  did = (s.did, refl);
  counted = refl;
  kept = fixed_of s.kept;
  names = (same_names p.host s.kept, s.pays);
  depths = stays f old.world new.world s.same_standing;
  same_stream = s.same_run;
}
gone_ahead (Ok flow.GoOn) s = silent (Ok flow.GoOn) (as_silent (Ok flow.GoOn) (λ d. d) (λ e. e) s)
gone_ahead (Ok flow.Done) s = absurd s.did
gone_ahead (Ok flow.Called) s = absurd s.did
gone_ahead (Ok flow.Restart) s = absurd s.did
gone_ahead (Ok (flow.Enter e)) s = absurd s.did
gone_ahead (Err halt.Writer) s = absurd s.did
gone_ahead (Err halt.Stuck) s = silent (Err halt.Stuck) (as_silent (Err halt.Stuck) (λ d. d) (λ e. e) s)
gone_ahead (Err (halt.Fault chain)) s = silent (Err (halt.Fault chain)) (as_silent (Err (halt.Fault chain)) (λ d. d) (λ e. e) s)

-- one that may load a template
pub loads : {p : Program} {f : Base} {n : Next} {old new : Config} {told : Told} (result : Result Flow Halt) →
    Loads p.host n old new result
    → Performs p f n old new told told result
loads {f = f} {n = n} {old = old} {new = new} {told = told} (Ok flow.GoOn) s = record {
  did = nothing_written told.bytes s.did;
  counted = refl;
  kept = s.kept;
  names = s.names;
  depths = stays f old.world new.world s.same_standing;
  same_stream = s.same_stream;
}
loads (Ok flow.Done) s = absurd s.did
loads (Ok flow.Ahead) s = absurd s.did
loads (Ok flow.Called) s = absurd s.did
loads (Ok flow.Restart) s = absurd s.did
loads (Ok (flow.Enter e)) s = absurd s.did
loads (Err halt.Writer) s = absurd s.did
loads {f = f} {n = n} {old = old} {new = new} {told = told} (Err halt.Stuck) s = record {
  did = (s.did, beginning_nothing told.bytes (output n));
  counted = refl;
  kept = s.kept;
  names = s.names;
  depths = stays f old.world new.world s.same_standing;
  same_stream = s.same_stream;
}
loads {f = f} {n = n} {old = old} {new = new} {told = told} (Err (halt.Fault chain)) s = record {
  did = (s.did, beginning_nothing told.bytes (output n));
  counted = refl;
  kept = s.kept;
  names = s.names;
  depths = stays f old.world new.world s.same_standing;
  same_stream = s.same_stream;
}

-- one that needs a run, which is boxed
pub boxed : {p : Program} {n : Next} {old new : Config} (e : NestedRun) (b : Box NestedRun) → b.value ≡ e → Enters p e new n →
    KeepsFixedAndNames old.world new.world → OneDeeper p.host.limit e.saved old.world new.world
    → new.run.stream ≡ old.run.stream → Needs p n old new (Ok (flow.Enter b))
boxed {p = p} {n = n} {old = old} {new = new} e b same enters kept deeper stream = record {
  did = subst (λ x. Enters p x new n) (sym same) enters;
  kept = kept;
  deepens = subst (λ (x : NestedRun). OneDeeper p.host.limit x.saved old.world new.world) (sym same) deeper;
  same_stream = stream;
}

-- a block that is run in place
same_entry : (p : Program) (e d : NestedRun) (b : World) (c : Config) → e ≡ d → IsSaved d.saved b → (n : Next) → n ≡ entered p d b c →
    Enters p e c n
same_entry p e d b c same is n at = subst (λ x. Enters p x c n) (sym same) (b, is, at)

both : (a b : Bool) → a ≡ true → b ≡ true → a && b ≡ true
both true b d e = e
both false b d e = absurd cc

-- the run of a block in place, where the world before it was b
abbrev block_run : StreamId → World → NestedRun
block_run s b = record {
  run = run_of.Stream s;
  heard = true;
  value = false;
  text = texts.Captured;
  wrap = None;
  saved = saved.Block (saved_of b);
}

pub block_entered : (p : Program) (f : Base) (old : Config) (x : List ℕ) (s : StreamId) (e : NestedRun) (new : Config) (w : World) →
    none_waits old.run.parent ≡ true → audible f old ≡ true
    → enter_block p.host x old.world ≡ runs_block s old.world w →
    new ≡ record { run = record old.run { place = old.run.place + 1 }; captures = old.captures; world = w }
    → e ≡ block_run s old.world → Enters p e new (call_block_of p f x old)
block_entered p f old x s e new w waits heard enters moved is =
    let d : NestedRun = block_run s old.world in
    let call : NestedCall = block_call s old.world in
    let mid : Config = record { run = record old.run { place = old.run.place + 1 }; captures = old.captures; world = w } in
    let goes : call_block_of p f x old ≡ entered p d old.world mid =
    chosen (none_waits old.run.parent && audible f old) _ _ (both _ _ waits heard)
    ∙ ap (asked_in_place p f old old.run.operands) enters
    ∙ ap (λ h. nested (first_run p (whole s) (length old.captures)) h old.captures w (record { run = mid.run; call = call; value = false }))
    heard in
    same_entry p e d old.world new is refl (call_block_of p f x old) (goes ∙ ap (entered p d old.world) (sym moved))

-- one that was done at once or left, and writes nothing
pub at_once : (n : Config → Next) (old new : Config) (told : Told) (done : Bool) → IsAtOnce done n old new →
    Attempted (attempt_of done) n old new told told
at_once n old new told true s = record {
  did = nothing_written told.bytes s.did;
  counted = refl;
  kept = s.kept;
  same_standing = s.same_standing;
  same_stream = s.same_stream;
}
at_once n old new told false same = (same, refl)

-- one that is free was done at once or left
pub free_at_once : (n : Config → Next) (old new : Config) (told : Told) (done : Bool) → IsFree done n old new →
    Attempted (free_attempt_of done) n old new told told
free_at_once n old new told true s = record {
  did = nothing_written told.bytes s.did;
  counted = refl;
  kept = s.kept;
  same_standing = s.same_standing;
  same_stream = s.same_stream;
}
free_at_once n old new told false same = (same, refl)

pub of_charged : (done : Bool) → IsCharged (attempt_of done)
of_charged true = tt
of_charged false = tt

pub written_charged : (answer : Result (Unit {0}) TargetFailed) → IsCharged (written_of answer)
written_charged (Ok u) = tt
written_charged (Err e) = tt

pub captured_charged : (answer : Result (Unit {0}) TargetFailed) → IsCharged (captured_of answer)
captured_charged (Ok u) = tt
captured_charged (Err e) = tt

pub is_paid : (x : Instruction) (fuel : ℕ) (attempt : Attempt) → charge_of x ≡ 1 → CanPay 1 fuel → IsCharged attempt → IsPaid attempt x fuel
is_paid x fuel Done one more charged = (one, more)
is_paid x fuel DoneFree one more charged = absurd charged
is_paid x fuel WriterFailed one more charged = (one, more)
is_paid x fuel NoMemory one more charged = (one, more)
is_paid x fuel Left one more charged = tt

pub ruleset charged = (of_charged, written_charged, captured_charged)

pub ruleset attempts = (at_once, free_at_once, is_paid, of_charged)

-- one that ends the run, or restarts it
pub finished : {p : Program} {f : Base} {n : Next} {old new : Config} {told : Told} (result : Result Flow Halt) →
    Finishes result f old new n → Performs p f n old new told told result
finished {p = p} {f = f} {n = n} {old = old} {new = new} {told = told} (Ok flow.Done) s =
    subst (λ (c : Config). Performs p f n c new told told (Ok flow.Done)) s.2 (record {
      did = (s.0, refl);
      counted = refl;
      kept = fixed_same new.world;
      names = omega arith;
      depths = (stays f new.world new.world (standing_same new.world), s.1);
      same_stream = refl;
    })
finished {p = p} {f = f} {old = old} {new = new} (Ok flow.Restart) s =
    let world = ap (λ (c : Config). c.world) s.1.3 in
    record {
      did = (s.0, refl);
      counted = refl;
      kept = subst (λ w. KeepsFixed old.world w) (sym world) (record { same_id = refl; same_fuel_set = refl; no_more_fuel = omega arith });
      names = subst (λ w. names_left p.host w ≤ names_left p.host old.world) (sym world) (omega arith);
      depths = subst (λ w. KeepsBaseScopes f old.world w) (sym world) (λ h. (h, (refl, refl, refl)));
      same_stream = tt;
    }
finished (Ok flow.GoOn) s = absurd s
finished (Ok flow.Ahead) s = absurd s
finished (Ok flow.Called) s = absurd s
finished (Ok (flow.Enter e)) s = absurd s
finished (Err halt.Writer) s = absurd s
finished {p = p} {f = f} {n = n} {old = old} {new = new} {told = told} (Err halt.Stuck) s =
    subst (λ (c : Config). Performs p f n c new told told (Err halt.Stuck)) s.1 (record {
      did = (s.0, beginning_nothing told.bytes (output n));
      counted = refl;
      kept = fixed_same new.world;
      names = omega arith;
      depths = stays f new.world new.world (standing_same new.world);
      same_stream = refl;
    })
finished {p = p} {f = f} {n = n} {old = old} {new = new} {told = told} (Err (halt.Fault chain)) s =
    subst (λ (c : Config). Performs p f n c new told told (Err (halt.Fault chain))) s.1 (record {
      did = ((λ own. absurd (let w : true ≡ false = sym s.0 ∙ own in cc w)), beginning_nothing told.bytes (output n));
      counted = refl;
      kept = fixed_same new.world;
      names = omega arith;
      depths = stays f new.world new.world (standing_same new.world);
      same_stream = refl;
    })

pub ruleset kinds = (silent, opened, shifted, wrote, needed, gone_ahead, loads, finished)

-- ---------------------------------------------------------------- after a charge
deep_paid : (limit : ℕ) (s : Saved) (left : ℕ) (old new : World) → OneDeeper limit s (record old { fuel = left }) new →
    OneDeeper limit s old new
deep_paid limit (saved.Block s) left old new h = h
deep_paid limit (saved.Super s) left old new h = h
deep_paid limit (saved.Macro s) left old new h = h
deep_paid limit (saved.Include s) left old new h = h

depths_paid : (limit : ℕ) (f : Base) (result : Result Flow Halt) (left : ℕ) (old new : World) →
    Depths limit f result (record old { fuel = left }) new → Depths limit f result old new
depths_paid limit f (Ok flow.GoOn) left old new h = h
depths_paid limit f (Ok flow.Ahead) left old new h = h
depths_paid limit f (Ok flow.Called) left old new h = h
depths_paid limit f (Ok flow.Done) left old new h = h
depths_paid limit f (Ok flow.Restart) left old new h = h
depths_paid limit f (Ok (flow.Enter e)) left old new h = deep_paid limit e.value.saved left old new h
depths_paid limit f (Err why) left old new h = h

names_paid : (host : HostValue) (result : Result Flow Halt) (left : ℕ) (old new : World) → left ≤ old.fuel →
    Names host result (record old { fuel = left }) new → Names host result old new
names_paid host (Ok flow.GoOn) left old new no_more h = h
names_paid host (Ok flow.Ahead) left old new no_more h = let less = h.1 in (h.0, omega (arith, less, no_more))
names_paid host (Ok flow.Called) left old new no_more h = h
names_paid host (Ok flow.Done) left old new no_more h = h
names_paid host (Ok flow.Restart) left old new no_more h = h
names_paid host (Ok (flow.Enter e)) left old new no_more h = h
names_paid host (Err why) left old new no_more h = h

abbrev paid_for : Config → ℕ → Config
paid_for c left = record c { world = record c.world { fuel = left } }

step_paid : {told now : Told} (p : Program) (f : Base) (x : Instruction) (old new : Config)
    (result : Result Flow Halt) (left : ℕ)
    → slice_get (p.code old.run.stream) old.run.place ≡ Some x → pay x old.world ≡ Good tt (paid_for old left).world →
    KeepsFixedAndNames old.world (paid_for old left).world
    → Performs p f (effect p f x (paid_for old left)) (paid_for old left) new told now result →
    Performs p f (step p f old) old new told now result
step_paid {told = told} {now = now} p f x old new result left found paid kept h =
    let same : step p f old ≡ effect p f x (paid_for old left) =
    ap (λ i. act p f i old) found ∙ ap (λ r. after r (λ _ w. effect p f x (with_world w old))) paid in
    record {
      did = subst (λ n. Did p result told.bytes now.bytes new n) (sym same) h.did;
      counted = h.counted;
      kept = fixed_then (fixed_of kept) h.kept;
      names = names_paid p.host result left old.world new.world kept.no_more_fuel h.names;
      depths = depths_paid p.host.limit f result left old.world new.world h.depths;
      same_stream = h.same_stream;
    }

-- an instruction did its part, after its charge
pub step_done : {told now : Told} (p : Program) (f : Base) (x : Instruction)
    (old mid new : Config) (result : Result Flow Halt)
    → slice_get (p.code old.run.stream) old.run.place ≡ Some x → pay x old.world ≡ Good tt mid.world → KeepsFixedAndNames old.world mid.world →
    mid ≡ record old { world = record old.world { fuel = mid.world.fuel } }
    → Performs p f (effect p f x mid) mid new told now result →
    Performs p f (step p f old) old new told now result
step_done {told = told} {now = now} p f x old mid new result found paid kept rest h =
    step_paid p f x old new result mid.world.fuel found (paid
    ∙ ap (λ (c : Config). Good tt c.world) rest) (subst (λ (c : Config). KeepsFixedAndNames old.world c.world) rest kept)
    (subst (λ (c : Config). Performs p f (effect p f x c) c new told now result) rest h)

-- what stands at a place of a list
pub read_at : {A : Type 0} (xs : List A) (n : ℕ) (x : A) → n < length xs → ((d : A) → x ≡ get_or xs n d) → slice_get xs n ≡ Some x
read_at [] n x within read = absurd (omega (arith, within))
read_at (y ∷ ys) zero x within read = ap (λ z. Some z) (sym (read y))
read_at (y ∷ ys) (suc n) x within read = read_at ys n x (omega (arith, within)) read

-- ---------------------------------------------------------------- at once
paid_keeps : (w : World) → KeepsFixedAndNames w (record w { fuel = w.fuel - 1 })
paid_keeps w = record { same_id = refl; same_fuel_set = refl; no_more_fuel = omega arith; same_loaded = refl }

-- the instruction at the place was paid for and did its part at once
pub done_at_once : {told now : Told} (p : Program) (f : Base) (x : Instruction)
    (old new : Config) (result : Result Flow Halt)
    → slice_get (p.code old.run.stream) old.run.place ≡ Some x → charge_of x ≡ 1 → CanPay 1 old.world.fuel →
    Performs p f (effect p f x (paid old)) (paid old) new told now result →
    Performs p f (step p f old) old new told now result
done_at_once p f x old new result found one more h =
    step_done p f x old (paid old) new result found (pays_one x old.world one more) (paid_keeps old.world) refl h

-- the instruction at the place is free and did its part at once
pub done_free : {told now : Told} (p : Program) (f : Base) (x : Instruction)
    (old new : Config) (result : Result Flow Halt)
    → slice_get (p.code old.run.stream) old.run.place ≡ Some x → charge_of x ≡ 0 →
    Performs p f (effect p f x old) old new told now result →
    Performs p f (step p f old) old new told now result
done_free p f x old new result found free h =
    step_done p f x old old new result found (pays_nothing x old.world free) (kept_same old.world) refl h

-- a step that is done after an attempt that left all as it was
pub left : {p : Program} {f : Base} {now : Told} {result : Result Flow Halt} (n : Config → Next) (old mid new : Config)
    (told between : Told) → (mid ≡ old) × (between ≡ told) →
    Performs p f (n mid) mid new between now result → Performs p f (n old) old new told now result
left {p = p} {f = f} {now = now} {result = result} n old mid new told between same h =
    subst (λ (t : Told). Performs p f (n old) old new t now result) same.1
    (subst (λ (c : Config). Performs p f (n c) c new between now result) same.0 h)
