-- What an instruction is charged, and what follows a choice.
use Rattle.std.proofs.Common.{◌≡◌, Bool, true, false, None, Ok}
use Rattle.std.proofs.Common.{refl, arith}
use Rattle.tm_meaning.specs.Machine.{Next}
use Rattle.std.proofs.Common.{◌-◌, nat_le}
use Rattle.std.proofs.lemmas.Bool.Decides.{nat_tests}
use Rattle.tm_meaning.specs.Steps.{charge_of, pay}
use Rattle.tm_trees.specs.Instructions.{Instruction}
use Rattle.tm_meaning.specs.World.{HostValue}
use Rattle.tm_meaning.specs.World.{CanPay, World, Good, choose}
use Rattle.tm_values.specs.Val.{Val}
use Rattle.tm_values.specs.Defined.{refusal_of}
use Rattle.tm_values.specs.declared.undefined.UndefinedUse.TheVariants.{Emission}
use Rattle.tm_definitions.specs.Emitted.{emission_verdict, emitted_text}
use Rattle.tm_meaning.specs.World.{emitted, records_of}

pub chosen : (b : Bool) (x y : Unit {0} → Next) → b ≡ true → choose b x y ≡ x tt
chosen true x y e = refl
chosen false x y e = absurd cc

pub not_chosen : (b : Bool) (x y : Unit {0} → Next) → b ≡ false → choose b x y ≡ y tt
not_chosen true x y e = absurd cc
not_chosen false x y e = refl

pub pays_one : (x : Instruction) (w : World) → charge_of x ≡ 1 → CanPay 1 w.fuel → pay x w ≡ Good tt (record w { fuel = w.fuel - 1 })
pays_one x w one more = let enough : nat_le 1 w.fuel ≡ true = grind (arith, nat_tests) in rw (one, enough) refl

pub pays_nothing : (x : Instruction) (w : World) → charge_of x ≡ 0 → pay x w ≡ Good tt w
pays_nothing x w free = rw free refl

-- no formatter is asked, and nothing refuses
pub emitted_known : (host : HostValue) (v : Val) (w : World) → host.formatter ≡ None → refusal_of host.undefined Emission v ≡ None →
    emission_verdict w.escape (records_of w) v ≡ Ok tt → emitted host v w ≡ Good (emitted_text w.escape (records_of w) v) w
emitted_known host v w none defined fine = rw (defined, none, fine) refl
