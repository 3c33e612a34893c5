-- What `ExportLocals` comes to, by what the module is.
use Rattle.std.proofs.Common.{◌≡◌, ◌∷◌, ℕ, false, Result, Ok, Err, IsErrAnd, refl, sym, subst, arith, List}
use Rattle.tm_values.specs.Val.{Val}
use Rattle.tm_values.specs.declared.error.ErrorKind.{ErrorKind}
use Rattle.tm_meaning.specs.Memory.{is_want_of_memory}
use Rattle.tm_meaning.specs.World.{Res, Good, Bad, module_with}
use Rattle.tm_meaning.specs.Instructions.{export_locals_of}
use Rattle.tm_meaning.specs.Machine.{Config, Failed, Over, after, goes}
use Rattle.tm_parts.specs.declared.halt.Halt.{Halt}
use Rattle.tm_parts.specs.declared.halt.Halt.TheVariants as halt
use Rattle.tm_vm.specs.declared.flow.Flow.{Flow}
use Rattle.tm_meaning.specs.World.{HostValue, emitted}
use Rattle.tm_meaning.specs.Instructions.{emit_of}
use Rattle.tm_meaning.specs.Machine.{on, with_world, writes}
use Rattle.tm_meaning.specs.declared.base.Base.{Base}
use Rattle.tm_output.specs.Counts.{Told}
use Rattle.tm_output.specs.Pieces.{beginning_nothing}
use Rattle.tm_vm.specs.Answers.{output, WritesNext, Quietly, Silently}

-- a configuration before its topmost operand was popped
abbrev pub before : Val → Config → Config
before v c = record c { run = record c.run { operands = v ∷ c.run.operands } }

pub exported : (c new : Config) (v m : Val) (result : Result Flow Halt) → module_with v c.world ≡ Good m c.world →
    Silently (goes (m ∷ c.run.operands) c.world c) c new result → Silently (export_locals_of (before v c)) (before v c) new result
exported c new v m result is done = record {
  did = subst (λ (r : Res Val). Quietly result new (after r (λ x w. goes (x ∷ c.run.operands) w c))) (sym is) done.did;
  kept = done.kept;
  same_standing = done.same_standing;
  same_stream = done.same_stream;
}

pub not_exported : (c : Config) (v : Val) (result : Result Flow Halt) (chain : List ErrorKind) → IsErrAnd result (λ h. h ≡ halt.Fault chain) →
    (is_want_of_memory chain ≡ false → module_with v c.world ≡ Bad chain c.world) →
    Silently (export_locals_of (before v c)) (before v c) c result
not_exported c v (Ok f) chain fault is = absurd fault
not_exported c v (Err h) chain fault is =
    subst (λ h. Silently (export_locals_of (before v c)) (before v c) c (Err h)) (sym fault) (record {
      did = λ known. subst (λ (r : Res Val). after r (λ x w. goes (x ∷ c.run.operands) w c) ≡ Over (Failed chain c.world)) (sym (is known)) refl;
      kept = record { same_id = refl; same_fuel_set = refl; no_more_fuel = omega arith; same_loaded = refl };
      same_standing = (refl, (refl, refl, refl));
      same_stream = refl;
    })

-- a value on top that can't be emitted
pub not_emitted : (host : HostValue) (f : Base) (c : Config) (v : Val) (told : Told) (result : Result Flow Halt) (chain : List ErrorKind) →
    IsErrAnd result (λ h. h ≡ halt.Fault chain) →
    (is_want_of_memory chain ≡ false → emitted host v c.world ≡ Bad chain c.world) →
    WritesNext (emit_of host f (before v c)) (before v c) c told told result
not_emitted host f c v told (Ok x) chain fault is = absurd fault
not_emitted host f c v told (Err h) chain fault is =
    subst (λ h. WritesNext (emit_of host f (before v c)) (before v c) c told told (Err h)) (sym fault) (record {
      did = (
        λ known.
            subst (λ (r : Res (List ℕ)). after r (λ t w. writes f t (on c.run.operands (with_world w (before v c)))) ≡ Over (Failed chain c.world))
            (sym (is known)) refl,
        beginning_nothing told.bytes (output (emit_of host f (before v c))),
      );
      counted = refl;
      kept = record { same_id = refl; same_fuel_set = refl; no_more_fuel = omega arith; same_loaded = refl };
      same_standing = (refl, (refl, refl, refl));
      same_stream = refl;
    })
