-- A sum that is stored where its left operand is bound: two steps at once.
use Rattle.std.proofs.Common.{◌≡◌, ◌+◌, ◌-◌, ◌<◌, ℕ, List, [], ◌∷◌, Option, Some, None, Ok, refl, sym, ap, ◌∙◌, subst, slice_get, arith}
use Rattle.tm_definitions.specs.Arithmetic.{added}
use Rattle.tm_meaning.specs.Instructions.{binary_of, store_local_of}
use Rattle.tm_meaning.specs.Machine.{Activation, Config, Next, More, Program, after, goes, on_top, with_world}
use Rattle.tm_meaning.specs.Operators.{result_of}
use Rattle.tm_meaning.specs.Steps.{act, charge_of, effect, pay, step}
use Rattle.tm_definitions.specs.Members.{or_undefined}
use Rattle.tm_meaning.specs.World.{CanPay, World, Good, answered, bind, records_of, set_member, store}
use Rattle.tm_meaning.specs.declared.base.Base.{Base}
use Rattle.tm_runs.proofs.Paid.{pays_one}
use Rattle.tm_syntax.specs.declared.tree.BinaryOperator.{BinaryOperator}
use Rattle.tm_trees.specs.Instructions.instructions
use Rattle.tm_values.specs.Val.{Val}
use Rattle.tm_state.specs.Answers.{KeepsFixedAndNames}
use Rattle.tm_state.specs.Growth.{SetsSum}
use Rattle.tm_vm.proofs.Ground.{standing}
use Rattle.tm_vm.specs.Answers.{IsAhead, SilentlyAhead}
use Rattle.tm_vm.specs.declared.flow.Flow.TheVariants as flow
use Rattle.tm_runs.specs.Sums.{AddsUp, IsSumOf, summand_of}
use Rattle.tm_vm.specs.Sums.{IsFoundNext}

-- after the sum
abbrev summed_at : Val → List Val → Config → Config
summed_at sum rest c = record c { run = record c.run { operands = sum ∷ rest; place = c.run.place + 1 } }

sums : (p : Program) (op : BinaryOperator) (b a sum : Val) (rest : List Val) (old : Config) → old.run.operands ≡ b ∷ a ∷ rest → IsSumOf op a b →
    added a (summand_of b) ≡ Ok sum → binary_of p.host op old ≡ More [] (summed_at sum rest old)
sums p op b a sum rest old there adds_up is =
    ap (λ vs. on_top vs old.world (λ v us. on_top us old.world (λ w ts.
    after (answered (result_of op p.host.undefined (records_of old.world) w v) old.world) (λ y z. goes (y ∷ ts) z old)))) there
    ∙ ap (λ r. after (answered r old.world) (λ y z. goes (y ∷ rest) z old)) (adds_up p.host.undefined (records_of old.world) ∙ is)

module _ (p : Program) (op : BinaryOperator) (x : List ℕ) (b a sum : Val) (rest : List Val) (old : Config)
    (there : old.run.operands ≡ b ∷ a ∷ rest) (adds_up : IsSumOf op a b) (is : added a (summand_of b) ≡ Ok sum)
    (stored : slice_get (p.code old.run.stream) (old.run.place + 1) ≡ Some (instructions.StoreLocal x)) (pays : CanPay 1 old.world.fuel) where
  -- after the store
  abbrev pub stored_at : Config
  stored_at = record old {
    run = record old.run { operands = rest; place = old.run.place + 2 };
    world = store x sum (record old.world { fuel = old.world.fuel - 1 });
  }

  stores : (f : Base) → step p f (summed_at sum rest old) ≡ More [] stored_at
  stores f =
      let place : old.run.place + 1 + 1 ≡ old.run.place + 2 = omega arith in
      ap (λ i. act p f i (summed_at sum rest old)) stored
      ∙ ap (λ r. after r (λ _ w. effect p f (instructions.StoreLocal x) (with_world w (summed_at sum rest old))))
      (pays_one (instructions.StoreLocal x) old.world refl pays)
      ∙ ap (λ n. More [] (record stored_at { run = record stored_at.run { place = n } })) place

  pub one_store : (new : Config) → new ≡ stored_at → IsAhead p (binary_of p.host op old) new
  one_store new same = record {
    between = summed_at sum rest old;
    first = sums p op b a sum rest old there adds_up is;
    count = 1;
    then = (stored_at, stores, same);
  }

module _ (p : Program) (op : BinaryOperator) (x : List ℕ) (b a sum object : Val) (rest : List Val) (old : Config) (w : World)
    (there : old.run.operands ≡ b ∷ a ∷ rest) (adds_up : IsSumOf op a b) (is : added a (summand_of b) ≡ Ok sum) (found : IsFoundNext p old object)
    (set : slice_get (p.code old.run.stream) (old.run.place + 2) ≡ Some (instructions.SetAttr x)) (pays : CanPay 2 old.world.fuel)
    (member : set_member x sum object (record old.world { fuel = old.world.fuel - 2 }) ≡ Good tt w) where
  -- after the look-up
  abbrev with_object : Config
  with_object = record old {
    run = record old.run { operands = object ∷ sum ∷ rest; place = old.run.place + 2 };
    world = record old.world { fuel = old.world.fuel - 1 };
  }

  -- after the attribute is set
  abbrev pub set_at : Config
  set_at = record old { run = record old.run { operands = rest; place = old.run.place + 3 }; world = w }

  looks_up : (f : Base) → step p f (summed_at sum rest old) ≡ More [] with_object
  looks_up f =
      let one : CanPay 1 old.world.fuel = omega (arith, pays) in
      let place : old.run.place + 1 + 1 ≡ old.run.place + 2 = omega arith in
      let less = record old.world { fuel = old.world.fuel - 1 } in
      ap (λ i. act p f i (summed_at sum rest old)) found.next
      ∙ ap (λ r. after r (λ _ w1. effect p f (instructions.Lookup found.name) (with_world w1 (summed_at sum rest old))))
      (pays_one (instructions.Lookup found.name) old.world refl one)
      ∙ ap (λ r. after (bind (answered r less) (λ o w1. Good (or_undefined o) w1)) (λ v w1. goes (v ∷ sum ∷ rest) w1
      (with_world less (summed_at sum rest old)))) found.found
      ∙ ap (λ n. More [] (record with_object { run = record with_object.run { place = n } })) place

  sets : (f : Base) → step p f with_object ≡ More [] set_at
  sets f =
      let one : CanPay 1 (old.world.fuel - 1) = omega (arith, pays) in
      let place : old.run.place + 2 + 1 ≡ old.run.place + 3 = omega arith in
      let fuel : old.world.fuel - 1 - 1 ≡ old.world.fuel - 2 = omega arith in
      ap (λ i. act p f i with_object) set
      ∙ ap (λ r. after r (λ _ w1. effect p f (instructions.SetAttr x) (with_world w1 with_object)))
      (pays_one (instructions.SetAttr x) (record old.world { fuel = old.world.fuel - 1 }) refl one)
      ∙ ap (λ n. after (set_member x sum object (record old.world { fuel = n })) (λ _ w1. goes rest w1 with_object)) fuel
      ∙ ap (λ r. after r (λ _ w1. goes rest w1 with_object)) member
      ∙ ap (λ n. More [] (record set_at { run = record set_at.run { place = n } })) place

  pub one_set : (new : Config) → new ≡ set_at → IsAhead p (binary_of p.host op old) new
  one_set new same = record {
    between = summed_at sum rest old;
    first = sums p op b a sum rest old there adds_up is;
    count = 2;
    then = (with_object, looks_up, (set_at, sets, same));
  }

-- what that is for the machine: two operands are popped, two charges are paid, the attribute is set
module _ (p : Program) (op : BinaryOperator) (x : List ℕ) (object right left : Val) (most : ℕ) (old : Config)
    (first second last : Activation) (paid new : World) (popped : old.run ≡ record first { operands = right ∷ first.operands })
    (popped_again : first ≡ record second { operands = left ∷ second.operands })
    (is_paid : paid ≡ record old.world { fuel = old.world.fuel - 2 }) (set_to : SetsSum x object left (summand_of right) most paid new)
    (rest : new ≡ record paid { namespaces = new.namespaces }) (moved : last ≡ record second { place = old.run.place + 3 })
    (found : IsFoundNext p old object)
    (set : slice_get (p.code old.run.stream) (old.run.place + 2) ≡ Some (instructions.SetAttr x)) (pays : CanPay 2 old.world.fuel)
    (adds_up : AddsUp op old.run.operands) where
  run_is : old.run ≡ record second { operands = right ∷ left ∷ second.operands }
  run_is = popped ∙ ap (λ (r : Activation). record r { operands = right ∷ r.operands }) popped_again

  operands : old.run.operands ≡ right ∷ left ∷ second.operands
  operands = ap (λ (r : Activation). r.operands) run_is

  last_is : last ≡ record old.run { operands = second.operands; place = old.run.place + 3 }
  last_is = moved ∙ ap (λ (r : Activation). record r { operands = second.operands; place = old.run.place + 3 }) (sym run_is)

  world_is : new ≡ record old.world { fuel = old.world.fuel - 2; namespaces = new.namespaces }
  world_is = rest ∙ ap (λ (w : World). record w { namespaces = new.namespaces }) is_paid

  abbrev after_it : Config
  after_it = record { run = last; captures = old.captures; world = new }

  pub set_ahead : SilentlyAhead p (binary_of p.host op old) old after_it (Ok flow.Ahead)
  set_ahead = record {
    did = one_set p op x right left set_to.sum object second.operands old new operands (subst (AddsUp op) operands adds_up) set_to.added found set pays
        (subst (λ w. set_member x set_to.sum object w ≡ Good tt new) is_paid set_to.set) after_it
        (ap (λ r. record { run = r; captures = old.captures; world = new }) last_is);
    kept = subst (λ w. KeepsFixedAndNames old.world w) (sym world_is) (record {
      same_id = refl;
      same_fuel_set = refl;
      no_more_fuel = omega arith;
      same_loaded = refl;
    });
    pays = let left_ : new.fuel ≡ old.world.fuel - 2 = ap (λ (w : World). w.fuel) world_is in omega (arith, left_, pays);
    same_standing = standing old.world new (ap (λ (w : World). w.scopes) world_is) (ap (λ (w : World). w.places) world_is);
    same_run = (
      ap (λ (r : Activation). r.stream) last_is,
      ap (λ (r : Activation). r.loops) last_is,
      ap (λ (r : Activation). r.parent) last_is,
    );
  }
