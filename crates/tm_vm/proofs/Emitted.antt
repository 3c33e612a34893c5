-- What is emitted at once.
use Rattle.std.proofs.Common.{◌≡◌, ◌≢◌, ℕ, List, [], ◌∷◌, ◌+◌, Option, None, Some, is_some, Result}
use Rattle.std.proofs.Common.{Ok, Err, true, false, drop, refl, sym, ◌∙◌, ap, subst, arith}
use Rattle.std.specs.Prelude.{MatchResult}
use Rattle.std.specs.Io.KnownBytes.{Appends}
use Rattle.tm_values.specs.Val.{Val}
use Rattle.tm_values.specs.Defined.{refusal_of}
use Rattle.tm_values.specs.declared.undefined.UndefinedUse.TheVariants.{Emission}
use Rattle.tm_definitions.specs.Emitted.{emission_verdict, emitted_text}
use Rattle.tm_meaning.specs.World.{World, HostValue, Format, Good, emitted, records_of}
use Rattle.tm_meaning.specs.Instructions.{emit_of, emit_raw_of}
use Rattle.tm_meaning.specs.Machine.{Capture, Config, Next, More, after, audible, on, on_top, put_in, put_out, with_world, writes}
use Rattle.tm_meaning.specs.declared.base.Base.{Base}
use Rattle.tm_output.specs.Targets.{IsToldInPart, IsToldWhole}
use Rattle.tm_output.specs.declared.target.TargetFailed.{TargetFailed}
use Rattle.tm_output.specs.Counts.{AppendsBeginning, Told}
use Rattle.tm_state.specs.Answers.{KeepsFixedAndNames}
use Rattle.tm_vm.specs.Answers.{SameStanding, output}
use Rattle.tm_vm.proofs.Ground.{standing_same}
use Rattle.tm_runs.specs.Attempts.{captured_of, written_of}
use Rattle.tm_vm.specs.AtOnce.{Attempted, AttemptedUntold, IsAtOnce, paid}
use Rattle.tm_parts.specs.Outgoing.{IsPut, IsPutInPart}
use Rattle.tm_output.specs.Pieces.{beginning_nothing}
use Rattle.tm_vm.proofs.Loop.{kept_same}
use Rattle.tm_runs.proofs.Paid.{chosen, emitted_known, not_chosen}
use Rattle.tm_vm.proofs.Performed.{nothing_written}

-- where there is no formatter
pub no_formatter : (found : Option Format) → is_some found ≡ false → found ≡ None
no_formatter None e = refl
no_formatter (Some f) e = absurd (cc e)

-- a value on top is emitted where no capture is open
goes_on : (host : HostValue) (f : Base) (old new : Config) (v : Val) (rest : List Val) (text : List ℕ) → old.captures ≡ [] →
    audible f old ≡ true → old.run.operands ≡ v ∷ rest → emitted host v old.world ≡ Good text old.world →
    new ≡ record old { run = record old.run { operands = drop 1 old.run.operands; place = old.run.place + 1 } } →
    emit_of host f old ≡ More text new
goes_on host f old new v rest text none heard top known moved =
    ap (λ (vs : List Val). on_top vs old.world
    (λ u us. after (emitted host u old.world) (λ t w. writes f t (on us (with_world w old))))) top
    ∙ (ap (λ r. after r (λ t w. writes f t (on rest (with_world w old)))) known
    ∙ (chosen (audible f old) _ _ heard
    ∙ (ap (λ (ks : List Capture). More (put_out ks text) (record (on rest old) { captures = put_in ks text })) none
    ∙ ap (λ (c : Config). More text c) (ap (λ (ks : List Capture). record (on rest old) { captures = ks }) (sym none)
    ∙ (ap (λ (vs : List Val). on (drop 1 vs) old) (sym top) ∙ sym moved)))))

kept_in : (old new : Config) → new ≡ record old { run = record old.run { operands = drop 1 old.run.operands; place = old.run.place + 1 } } →
    KeepsFixedAndNames old.world new.world
kept_in old new moved = subst (λ (w : World). KeepsFixedAndNames old.world w) (sym (ap (λ (c : Config). c.world) moved))
    (record { same_id = refl; same_fuel_set = refl; no_more_fuel = omega arith; same_loaded = refl })

pub emitted_at_once : (told now : Told) (host : HostValue) (f : Base) (old new : Config) (v : Val)
    (rest : List Val) (answer : Result (Unit {0}) TargetFailed) → old.captures ≡ [] → audible f old ≡ true →
    old.run.operands ≡ v ∷ rest → host.formatter ≡ None → refusal_of host.undefined Emission v ≡ None →
    emission_verdict old.world.escape (records_of old.world) v ≡ Ok tt →
    new ≡ record (paid old) { run = record old.run { operands = drop 1 old.run.operands; place = old.run.place + 1 } } →
    MatchResult answer
    (λ _. IsToldWhole told (emitted_text old.world.escape (records_of old.world) v) now)
    (λ _. IsToldInPart told (emitted_text old.world.escape (records_of old.world) v) now) →
    Attempted (written_of answer) (emit_of host f) old new told now
emitted_at_once told now host f old new v rest (Ok u) none heard top unformatted defined fine moved taken =
    let c = paid old in
    let text = emitted_text old.world.escape (records_of old.world) v in
    let at = goes_on host f c new v rest text none heard top (emitted_known host v c.world unformatted defined fine) moved in
    record {
      did = (at ∙ ap (λ t. More t new) (sym (ap output at)), subst (λ t. Appends told.bytes now.bytes t) (sym (ap output at)) taken.0);
      counted = taken.1;
      kept = kept_in c new moved;
      same_standing = subst (λ (w : World). SameStanding c.world w) (sym (ap (λ (c : Config). c.world) moved)) (standing_same c.world);
      same_stream = ap (λ (c : Config). c.run.stream) moved;
    }
emitted_at_once told now host f old new v rest (Err e) none heard top unformatted defined fine moved taken =
    let c = paid old in
    let text = emitted_text old.world.escape (records_of old.world) v in
    let at = goes_on host f c new v rest text none heard top (emitted_known host v c.world unformatted defined fine) moved in
    record {
      did = (tt, subst (λ t. AppendsBeginning told.bytes now.bytes t) (sym (ap output at)) taken.0);
      counted = taken.1;
      kept = kept_in c new moved;
      same_standing = subst (λ (w : World). SameStanding c.world w) (sym (ap (λ (c : Config). c.world) moved)) (standing_same c.world);
      same_stream = ap (λ (c : Config). c.run.stream) moved;
    }

-- ---------------------------------------------------------------- in a capture
nothing_out : (ks : List Capture) (t : List ℕ) → ks ≢ [] → put_out ks t ≡ []
nothing_out [] t some = absurd (some refl)
nothing_out (k ∷ ks) t some = refl

-- a run went on after a value, and its captures are these
abbrev following : List Capture → Config → Config
following ks c = record c { run = record c.run { operands = drop 1 c.run.operands; place = c.run.place + 1 }; captures = ks }

-- a value on top is put into the innermost capture
goes_in : (host : HostValue) (f : Base) (old : Config) (v : Val) (rest : List Val) (text : List ℕ) → old.captures ≢ [] →
    audible f old ≡ true → old.run.operands ≡ v ∷ rest → emitted host v old.world ≡ Good text old.world →
    emit_of host f old ≡ More [] (following (put_in old.captures text) old)
goes_in host f old v rest text some heard top known =
    ap (λ (vs : List Val). on_top vs old.world
    (λ u us. after (emitted host u old.world) (λ t w. writes f t (on us (with_world w old))))) top
    ∙ (ap (λ r. after r (λ t w. writes f t (on rest (with_world w old)))) known
    ∙ (chosen (audible f old) _ _ heard
    ∙ (ap (λ t. More t (record (on rest old) { captures = put_in old.captures text })) (nothing_out old.captures text some)
    ∙ ap (λ (vs : List Val). More [] (record (on (drop 1 vs) old) { captures = put_in old.captures text })) (sym top))))

kept_after : (ks : List Capture) (old new : Config) → new ≡ following ks old → KeepsFixedAndNames old.world new.world
kept_after ks old new moved = subst (λ (w : World). KeepsFixedAndNames old.world w) (sym (ap (λ (c : Config). c.world) moved))
    (record { same_id = refl; same_fuel_set = refl; no_more_fuel = omega arith; same_loaded = refl })

pub captured_at_once : (host : HostValue) (f : Base) (old new : Config) (v : Val) (rest : List Val)
    (answer : Result (Unit {0}) TargetFailed) → old.captures ≢ [] → audible f old ≡ true →
    old.run.operands ≡ v ∷ rest → host.formatter ≡ None → refusal_of host.undefined Emission v ≡ None →
    emission_verdict old.world.escape (records_of old.world) v ≡ Ok tt → (ks : List Capture) → new ≡ following ks (paid old) →
    MatchResult answer (λ _. IsPut old.captures (emitted_text old.world.escape (records_of old.world) v) ks)
    (λ _. IsPutInPart old.captures (emitted_text old.world.escape (records_of old.world) v) ks) →
    AttemptedUntold (captured_of answer) (emit_of host f) old new
captured_at_once host f old new v rest (Ok u) some heard top unformatted defined fine ks moved put told =
    let c = paid old in
    let text = emitted_text old.world.escape (records_of old.world) v in
    let at : emit_of host f c ≡ More [] new =
    goes_in host f c v rest text some heard top (emitted_known host v c.world unformatted defined fine)
    ∙ ap (λ (ls : List Capture). More [] (following ls c)) (sym put) ∙ ap (λ (d : Config). More [] d) (sym moved) in
    record {
      did = nothing_written told.bytes at;
      counted = refl;
      kept = kept_after ks c new moved;
      same_standing = subst (λ (w : World). SameStanding c.world w) (sym (ap (λ (d : Config). d.world) moved)) (standing_same c.world);
      same_stream = ap (λ (d : Config). d.run.stream) moved;
    }
captured_at_once host f old new v rest (Err e) some heard top unformatted defined fine ks moved put told =
    let c = paid old in
    record {
      did = (λ other. absurd (cc other), beginning_nothing told.bytes (output (emit_of host f c)));
      counted = refl;
      kept = kept_after ks c new moved;
      same_standing = subst (λ (w : World). SameStanding c.world w) (sym (ap (λ (d : Config). d.world) moved)) (standing_same c.world);
      same_stream = ap (λ (d : Config). d.run.stream) moved;
    }

-- ---------------------------------------------------------------- texts as they stand
-- one that is paid for, writes nothing and leaves the state
quiet : (n : Config → Next) (old new : Config) → n (paid old) ≡ More [] new → new.world ≡ (paid old).world →
    new.run.stream ≡ old.run.stream → IsAtOnce true n old new
quiet n old new did same stream = record {
  did = did;
  kept = subst (λ (w : World). KeepsFixedAndNames (paid old).world w) (sym same) (kept_same (paid old).world);
  same_standing = subst (λ (w : World). SameStanding (paid old).world w) (sym same) (standing_same (paid old).world);
  same_stream = stream;
}

-- the innermost capture takes it
pub put_raw : (f : Base) (t : List ℕ) (old new : Config) → audible f old ≡ true → old.captures ≢ [] →
    new ≡ record (paid old) { run = record old.run { place = old.run.place + 1 }; captures = put_in old.captures t } →
    IsAtOnce true (emit_raw_of f t) old new
put_raw f t old new heard some moved =
    let c = paid old in
    quiet (emit_raw_of f t) old new (chosen (audible f c) _ _ heard
    ∙ (ap (λ o. More o (record (on c.run.operands c) { captures = put_in c.captures t })) (nothing_out c.captures t some)
    ∙ ap (λ (d : Config). More [] d) (sym moved)))
    (ap (λ (d : Config). d.world) moved) (ap (λ (d : Config). d.run.stream) moved)

-- it is dropped
pub drop_raw : (f : Base) (t : List ℕ) (old new : Config) → audible f old ≡ false →
    new ≡ record (paid old) { run = record old.run { place = old.run.place + 1 } } → IsAtOnce true (emit_raw_of f t) old new
drop_raw f t old new unheard moved =
    quiet (emit_raw_of f t) old new (not_chosen (audible f (paid old)) _ _ unheard ∙ ap (λ (d : Config). More [] d) (sym moved))
    (ap (λ (d : Config). d.world) moved) (ap (λ (d : Config). d.run.stream) moved)
