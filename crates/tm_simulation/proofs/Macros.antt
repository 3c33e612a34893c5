-- The code of a macro pushes it as a value, and the code of its parameters takes the values of its arguments.
use Rattle.std.proofs.Common.{◌≡◌, ℕ, ◌+◌, List, [], ◌∷◌, Option, Some, None, false, refl, sym, ap, ◌∙◌, subst, arith, length}
use Rattle.std.specs.Prelude.{map as each}
use Rattle.tm_values.specs.Val.{Val, text, boolean}
use Rattle.tm_values.proofs.Lists.{list_of-vals_of}
use Rattle.tm_trees.specs.Trees.{Expr, Parameter, To}
use Rattle.tm_trees.specs.Instructions.instructions as i
use Rattle.tm_syntax.specs.Code.{expr_code, default_code, parameter_code, parameters_code}
use Rattle.tm_syntax.specs.Entries.{entry_number}
use Rattle.tm_syntax.specs.Fragments.{Fragment, Labels, MacroHead, name_list, building, declares, beyond, beyond_all}
use Rattle.tm_meaning.specs.World.{World, Res, bind, tick, ticked, enclose, own_closure, make_macro}
use Rattle.tm_meaning.specs.Meaning.{Run, Under, enclose_each, declared, or_default, take_parameter, take_parameters}
use Rattle.tm_values.specs.Truth.{is_undefined}
use Rattle.tm_meaning.specs.Machine.{after, goes, onto}
use Rattle.tm_meaning.specs.Instructions.{closure_value, closure_in, texts_in, names_in, and_text, build_macro_of}
use Rattle.tm_syntax.proofs.Standing.{HasAt}
use Rattle.tm_simulation.proofs.Gives.{tick_gives}
use Rattle.tm_simulation.proofs.Declares.{enclose_gives, or_default_gives, take_parameters_give}
use Rattle.tm_simulation.proofs.Follow.{LeadsToEnd, Spot, told, cfg, Follows, bind_then, bound_twice, Go, silent, at, after_then, choose_then}
use Rattle.tm_simulation.proofs.Levels.{Setting, Here, here_kept, meaning, nest_ends}
use Rattle.tm_simulation.proofs.Arguments.{In}
use Rattle.tm_simulation.proofs.Expressions.{expr_runs}
use Rattle.tm_simulation.proofs.Targets.{target_runs}

-- ---------------------------------------------------------------- the operands of a macro
closure_back : (o : Option ℕ) → closure_in (closure_value o) ≡ Some o
closure_back None = refl
closure_back (Some n) = refl

texts_back : (xs : List (List ℕ)) → texts_in (each (λ (x : List ℕ). text x false) xs) ≡ Some xs
texts_back [] = refl
texts_back (x ∷ xs) = ap (and_text (Some x)) (texts_back xs)

names_back : (xs : List (List ℕ)) → names_in (name_list xs) ≡ Some xs
names_back xs = ap texts_in (list_of-vals_of (each (λ (x : List ℕ). text x false) xs)) ∙ texts_back xs

module _ (setting : Setting) where
  open setting use {context, trees, n, entered, id, level, again, again_kept, called_in_place, called_as_value}

  abbrev u : Under
  u = meaning setting

  -- ---------------------------------------------------------------- declarations
  built_is : (m : MacroHead) (place nth : ℕ) (o : Option ℕ) (s : Spot) (pc : ℕ) (stack : List Val) (w : World) →
      entry_number place (context.program.code s.run.stream) ≡ nth →
      build_macro_of context.program m.name place m.caller (cfg s pc (name_list m.parameters ∷ closure_value o ∷ stack) w)
      ≡ after (make_macro nth o m.name m.parameters m.caller w)
      (λ v world1. goes (v ∷ stack) world1 (cfg s pc (name_list m.parameters ∷ closure_value o ∷ stack) w))
  built_is m place nth o s pc stack w is = rw (closure_back o, names_back m.parameters, is) refl

  -- the value of a macro after its closure
  abbrev built : ℕ → MacroHead → World → Res Val
  built nth m w =
      ticked w (λ world1. ticked world1 (λ world2.
      make_macro nth (own_closure world1.scopes.frames) m.name m.parameters m.caller world2))

  building_runs : (xs : List (List ℕ)) (m : MacroHead) (nth : ℕ) (s : Spot) (pc place : ℕ) (stack : List Val) (w : World) →
      HasAt (context.program.code s.run.stream) pc (building xs m place) →
      entry_number place (context.program.code s.run.stream) ≡ nth →
      Follows context (told s) (bind (enclose_each context.program.host xs w) (λ _ world1. built nth m world1))
      (λ v world1. Go context s (beyond_all pc (building xs m place)) (v ∷ stack) world1) → Go context s pc stack w
  building_runs [] m nth s pc place stack w is entry h =
      at context i.GetClosure s pc stack w is.0 (after_then context (told s) (tick w) _
      (bind_then context (told s) w (tick w) _ _ _ (tick_gives _ _ w) h (λ _ world1 k1 h1.
      let o = own_closure world1.scopes.frames in
      silent context (told s) _
      (at context (i.LoadConst (name_list m.parameters)) s (pc + 1) (closure_value o ∷ stack) world1 is.1.0
      (after_then context (told s) (tick world1) _
      (bind_then context (told s) world1 (tick world1) _ _ _ (tick_gives _ _ world1) h1 (λ _ world2 k2 h2.
      silent context (told s) _
      (at context (i.BuildMacro m.name place m.caller) s (pc + 1 + 1) (name_list m.parameters ∷ closure_value o ∷ stack) world2 is.1.1.0
      (subst (λ next. LeadsToEnd context (told s) next)
      (sym (built_is m place nth o s (pc + 1 + 1) stack world2 entry)) (silent context (told s) _ h2))))))))))
  building_runs (x ∷ xs) m nth s pc place stack w is entry h =
      at context (i.Enclose x) s pc stack w is.0 (after_then context (told s) (tick w) _
      (bind_then context (told s) w (tick w) _ _ _ (tick_gives _ _ w) (bound_twice context (told s) (tick w) _ _ _ h) (λ _ world1 k1 h1.
      after_then context (told s) (enclose context.program.host x world1) _
      (bind_then context (told s) world1 (enclose context.program.host x world1) _ _ _ (enclose_gives context.program.host x world1)
      (bound_twice context (told s) (enclose context.program.host x world1) _ _ _ h1) (λ _ world2 k2 h2.
      silent context (told s) _ (building_runs xs m nth s (pc + 1) place stack world2 is.1 entry h2))))))

  -- A macro's code pushes it, past its body.
  pub declared_then : (m : MacroHead) (c : Fragment) (nth : ℕ) (s : Spot) (l : Labels) (pc : ℕ) (stack : List Val) (w : World) →
      In setting s l pc (declares m c) → entry_number (pc + 1) (context.program.code s.run.stream) ≡ nth →
      Follows context (told s) (declared context.program.host nth m w)
      (λ v world1. Go context s (beyond pc (declares m c)) (v ∷ stack) world1) → Go context s pc stack w
  declared_then m c nth s l pc stack w is entry h =
      let end = beyond (pc + 1) c in
      at context (i.Jump (end + 1)) s pc stack w is.0 (after_then context (told s) (tick w) _
      (bind_then context (told s) w (tick w) _ _ _ (tick_gives _ _ w) h (λ _ world1 k1 h1.
      silent context (told s) _ (building_runs m.free m nth s (end + 1) (pc + 1) stack world1 is.2.1 entry h1))))

  -- ---------------------------------------------------------------- parameters
  -- the default stands for a value that is undefined
  default_runs : (default : Option Expr) (run : Run) (s : Spot) (l : Labels) (pc : ℕ) (v : Val) (stack : List Val) (w : World) →
      Here setting run s w → In setting s l pc (default_code default) →
      Follows context (told s) (or_default u run default v w)
      (λ x world1. Go context s (beyond pc (default_code default)) (x ∷ stack) world1) → Go context s pc (v ∷ stack) w
  default_runs None run s l pc v stack w d is h = h
  default_runs (Some e) run s l pc v stack w d is h =
      let to = beyond (pc + 1 + 1 + 1 + 1) (expr_code e) in
      at context i.DupTop s pc (v ∷ stack) w is.0.0 (silent context (told s) _
      (at context i.IsUndefined s (pc + 1) (v ∷ v ∷ stack) w is.0.1.0 (after_then context (told s) (tick w) _
      (bind_then context (told s) w (tick w) _ _ _ (tick_gives _ _ w) h (λ _ world1 k1 h1.
      silent context (told s) _
      (at context (i.JumpIfFalse to) s (pc + 1 + 1) (boolean (is_undefined v) ∷ v ∷ stack) world1 is.1.0
      (after_then context (told s) (tick world1) _
      (bind_then context (told s) world1 (tick world1) _ _ _ (tick_gives _ _ world1) h1 (λ _ world2 k2 h2.
      choose_then context (is_undefined v) _ _ _ _ (told s) _ h2
      (λ h3. silent context (told s) _
      (at context i.DiscardTop s (pc + 1 + 1 + 1) (v ∷ stack) world2 is.1.1.0.0 (silent context (told s) _
      (expr_runs setting e run s _ (pc + 1 + 1 + 1 + 1) stack world2 (here_kept setting run s k2 (here_kept setting run s k1 d))
      is.1.1.1 h3))))
      (λ h3. silent context (told s) _ h3))))))))))

  -- a parameter takes its value
  pub parameter_runs : (p : Parameter) (run : Run) (s : Spot) (l : Labels) (pc : ℕ) (v : Val) (stack : List Val) (w : World) →
      Here setting run s w → In setting s l pc (parameter_code p) →
      Follows context (told s) (take_parameter u run p v w)
      (λ _ world1. Go context s (beyond pc (parameter_code p)) stack world1) → Go context s pc (v ∷ stack) w
  parameter_runs p run s l pc v stack w d is h =
      default_runs p.default run s l pc v stack w d is.0
      (bind_then context (told s) w (or_default u run p.default v w) _ _ _
      (or_default_gives u (nest_ends setting) again_kept run p.default v w) h (λ x world1 k1 h1.
      target_runs setting (To p.name) run s l (beyond pc (default_code p.default)) x stack world1 (here_kept setting run s k1 d) is.1 h1))

  -- and all of them, the last one first
  pub parameters_run : (ps : List Parameter) (vs : List Val) (run : Run) (s : Spot) (l : Labels) (pc : ℕ) (stack : List Val) (w : World) →
      length ps ≡ length vs → Here setting run s w → In setting s l pc (parameters_code ps) →
      Follows context (told s) (take_parameters u run ps vs w)
      (λ _ world1. Go context s (beyond pc (parameters_code ps)) stack world1) → Go context s pc (onto vs stack) w
  parameters_run [] [] run s l pc stack w many d is h = h
  parameters_run [] (v ∷ vs) run s l pc stack w many d is h = absurd (omega (arith, many))
  parameters_run (p ∷ ps) [] run s l pc stack w many d is h = absurd (omega (arith, many))
  parameters_run (p ∷ ps) (v ∷ vs) run s l pc stack w many d is h =
      parameters_run ps vs run s l pc (v ∷ stack) w (omega (arith, many)) d is.0
      (bind_then context (told s) w (take_parameters u run ps vs w) _ _ _
      (take_parameters_give u (nest_ends setting) again_kept run ps vs w) h (λ _ world1 k1 h1.
      parameter_runs p run s l (beyond pc (parameters_code ps)) v stack world1 (here_kept setting run s k1 d) is.1 h1))
