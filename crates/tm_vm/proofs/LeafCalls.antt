-- The call of a macro that is a leaf does what the machine would do.
use Rattle.std.proofs.Common.{◌≡◌, ◌≤◌, ◌+◌, ℕ, List, [], ◌∷◌, None, Some, Ok, true, false}
use Rattle.std.proofs.Common.{codes, refl, sym, ◌∙◌, ap, subst, arith, length, drop, nat_eq, slice_get}
use Rattle.std.proofs.lemmas.Bool.Decides.{nat_tests}
use Rattle.tm_values.specs.Val.{MacroData, Val, macro, text}
use Rattle.tm_values.specs.declared.escape.AutoEscape.{AutoEscape}
use Rattle.tm_syntax.specs.Entries.{entries}
use Rattle.tm_syntax.specs.Named.{same_name}
use Rattle.tm_meaning.specs.World.{World, find_name, is_escaping, view_of}
use Rattle.tm_meaning.specs.Calls.{call_named, enter_macro, macro_call, root_context}
use Rattle.tm_meaning.specs.Instructions.{call_function_of}
use Rattle.tm_meaning.specs.Machine.{Back, Capture, Config, More, Program, asked}
use Rattle.tm_meaning.specs.Machine.{first_run, nested, new_capture, on_taken, onto, pushed, run_from, taken, waiting}
use Rattle.tm_meaning.specs.declared.stream.StreamId.{StreamId}
use Rattle.tm_state.specs.Answers.{KeepsFixedAndNames}
use Rattle.tm_state.specs.State.{in_macro, runs_macro}
use Rattle.tm_vm.specs.Answers.{Needs, NoFewer}
use Rattle.tm_runs.specs.Leaves.{LeafGround, LeafRun, RunsOut}
use Rattle.tm_runs.specs.Leaves.{base_on, begun, stands_at}
use Rattle.tm_vm.specs.declared.flow.Flow.TheVariants as flow
use Rattle.tm_vm.proofs.Ground.{no_fewer_same}
use Rattle.tm_runs.specs.Runs.{finished_at}
use Rattle.tm_vm.specs.declared.flow.Flow.TheVariants as flow

-- a macro that a name stands for is entered
entered : (p : Program) (x : List ℕ) (m : MacroData) (args : List Val) (w : World) → same_name x (codes "super") ≡ false →
    find_name (view_of p.host w) x ≡ Ok (Some (macro m)) → call_named p.host x args w ≡ enter_macro 0 p.host m args w
entered p x m args w other found = rw (other, found) refl

pub called : (p : Program) (x : List ℕ) (count : ℕ) (old new : Config) (args : List Val) (m : MacroData) (s : StreamId) (given : List Val)
    (place taken_count : ℕ) (escape : AutoEscape) (l : LeafRun) (v : Val)
    → taken count [] old.run.operands ≡ Some (args, drop count old.run.operands)
    → same_name x (codes "super") ≡ false → find_name (view_of p.host old.world) x ≡ Ok (Some (macro m))
    → enter_macro 0 p.host m args old.world ≡ runs_macro s m given old.world (in_macro s m old.world)
    → slice_get (entries (p.code s)) m.entry ≡ Some (place, taken_count) → taken_count ≡ length given
    → p.host.formatter ≡ None → old.world.escape ≡ escape
    → RunsOut (p.code s) escape (begun place given old.world.fuel) l → l.fuel ≤ old.world.fuel
    → v ≡ text l.text (is_escaping escape)
    → new ≡ record old {
      run = record old.run { place = old.run.place + 1; operands = v ∷ drop count old.run.operands };
      world = record old.world { fuel = l.fuel };
    }
    → Needs p (call_function_of p x (Some count) old) old new (Ok flow.Called)
called p x count old new args m s given place taken_count escape l v takes other found enters at fits unformatted same runs less is moved =
    let rest = drop count old.run.operands in
    let w = in_macro s m old.world in
    let g : LeafGround = record { stream = s; captures = old.captures; world = w; reads = m.closure; root = root_context old.world.scopes.frames } in
    let ks : List Capture = new_capture true ∷ old.captures in
    let back : Back = record { run = waiting rest old; call = macro_call s m given old.world; value = true } in
    let enough : nat_eq taken_count (length given) ≡ true = grind (arith, fits, nat_tests) in
    let first : first_run p (macro_call s m given old.world).callee (length ks)
    ≡ Some (record (run_from s (length ks)) { place = place; operands = onto given [] }) = rw (at, enough) refl in
    let text_is : text l.text (is_escaping escape) ≡ v = sym is in
    record {
      did = record {
        base = base_on g;
        first = stands_at g (begun place given old.world.fuel);
        back = back;
        end = finished_at (stands_at g l);
        needs = ap (λ o. on_taken o old.world (λ vs us. asked p old us (call_named p.host x vs old.world))) takes
            ∙ ap (asked p old rest) (entered p x m args old.world other found ∙ enters)
            ∙ ap (λ a. nested a true ks w back) first;
        leads = runs p g (refl, unformatted, same);
        goes = ap (λ (a : AutoEscape). More [] (record {
          run = pushed (text l.text (is_escaping a)) (waiting rest old);
          captures = old.captures;
          world = record old.world { fuel = l.fuel };
        })) same ∙ ap (λ (u : Val). More [] (record {
          run = pushed u (waiting rest old);
          captures = old.captures;
          world = record old.world { fuel = l.fuel };
        })) text_is ∙ ap (λ (c : Config). More [] c) (sym moved);
      };
      kept = subst (λ (c : Config). KeepsFixedAndNames old.world c.world) (sym moved)
          (record { same_id = refl; same_fuel_set = refl; no_more_fuel = less; same_loaded = refl });
      deepens = subst (λ (c : Config). NoFewer old.world c.world) (sym moved) (no_fewer_same old.world);
      same_stream = ap (λ (c : Config). c.run.stream) moved;
    }
