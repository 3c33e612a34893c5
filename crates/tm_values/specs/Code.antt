-- A value as the steps that build it on stacks, so that values can be told apart.
use Rattle.std.specs.Prelude.{◌≡◌, ◌==◌, cond, ℕ, ℤ, pos, Bool, false, List, [], ◌∷◌, Option, refl}
use Rattle.std.proofs.Common.{◌∙◌}
use Rattle.std.specs.Coded.{Coded, code_by, coded×, coded_ℕ, coded_ℤ, coded_bool, coded_list, coded_option}
use Rattle.tm_values.specs.Val.{MacroData, Val, undefined, none, boolean, number, text, list, map, keywords, exports, function, macro, loop}
use Rattle.tm_values.specs.Val.{namespace, Vals, no_vals, val, Pairs, no_pairs, pair}

-- the parts of a macro, and the macro of its parts
abbrev Parts : Type 0
Parts = ℕ × (ℕ × (ℕ × (Option ℕ × (List ℕ × (List (List ℕ) × Bool)))))

abbrev parts_of : MacroData → Parts
parts_of m = (m.state, (m.stream, (m.entry, (m.closure, (m.name, (m.arguments, m.caller))))))

abbrev macro_of : Parts → MacroData
macro_of (state, (stream, (entry, (closure, (name, (arguments, caller)))))) =
    record { state = state; stream = stream; entry = entry; closure = closure; name = name; arguments = arguments; caller = caller }

-- A step: its tag, which selects what is built from a flag, a whole number, bytes, two numbers, the
-- parts of a macro, and the tops of the stacks.
abbrev Built : Type 0
Built = ℕ × (Bool × (ℤ × (List ℕ × (ℕ × (ℕ × List Parts)))))

abbrev step : ℕ → Bool → ℤ → List ℕ → ℕ → ℕ → List Parts → Built
step tag flag whole bytes first second declared = (tag, (flag, (whole, (bytes, (first, (second, declared))))))

abbrev plain : ℕ → Built
plain tag = step tag false (pos 0) [] 0 0 []

-- the values that aren't yet part of another one, the last one first
pub record Stacks : Type 0 where
  pub values : List Val
  pub items : List Vals
  pub pairs : List Pairs

abbrev macro_or_none : List Parts → Val
macro_or_none [] = none
macro_or_none (m ∷ ms) = macro (macro_of m)

-- what a step builds without using the stacks
abbrev leaf_of : Built → Val
leaf_of (tag, (flag, (whole, (bytes, (first, (second, declared)))))) =
    cond (tag == 0) (undefined flag)
    (cond (tag == 1) none
    (cond (tag == 2) (boolean flag)
    (cond (tag == 3) (number whole)
    (cond (tag == 4) (text bytes flag)
    (cond (tag == 5) (function first)
    (cond (tag == 6) (macro_or_none declared) (cond (tag == 7) (loop first second) (namespace first second))))))))

abbrev push : Val → Stacks → Stacks
push v k = record k { values = v ∷ k.values }

abbrev items_closed : List Vals → Stacks → Stacks
items_closed [] k = k
items_closed (l ∷ ls) k = record { values = list l ∷ k.values; items = ls; pairs = k.pairs }

abbrev item_put : List Val → List Vals → Stacks → Stacks
item_put [] ls k = k
item_put (v ∷ vs) [] k = k
item_put (v ∷ vs) (l ∷ ls) k = record { values = vs; items = val v l ∷ ls; pairs = k.pairs }

abbrev pairs_closed : (Pairs → Val) → List Pairs → Stacks → Stacks
pairs_closed of [] k = k
pairs_closed of (p ∷ ps) k = record { values = of p ∷ k.values; items = k.items; pairs = ps }

abbrev pair_put : List Val → List Pairs → Stacks → Stacks
pair_put [] ps k = k
pair_put (v ∷ []) ps k = k
pair_put (v ∷ w ∷ vs) [] k = k
pair_put (v ∷ w ∷ vs) (p ∷ ps) k = record { values = vs; items = k.items; pairs = pair w v p ∷ ps }

abbrev stepped : Built → Stacks → Stacks
stepped s k =
    cond (s.0 == 9) (record k { items = no_vals ∷ k.items })
    (cond (s.0 == 10) (item_put k.values k.items k)
    (cond (s.0 == 11) (items_closed k.items k)
    (cond (s.0 == 12) (record k { pairs = no_pairs ∷ k.pairs })
    (cond (s.0 == 13) (pair_put k.values k.pairs k)
    (cond (s.0 == 14) (pairs_closed map k.pairs k)
    (cond (s.0 == 15) (pairs_closed keywords k.pairs k)
    (cond (s.0 == 16) (pairs_closed (λ ps. exports ps s.1.1.1.0) k.pairs k)
    (push (leaf_of s) k))))))))

abbrev pub built : List Built → Stacks → Stacks
built [] k = k
built (s ∷ xs) k = built xs (stepped s k)

abbrev mutual
  pub steps : Val → List Built → List Built
  steps (undefined s) rest = step 0 s (pos 0) [] 0 0 [] ∷ rest
  steps none rest = plain 1 ∷ rest
  steps (boolean b) rest = step 2 b (pos 0) [] 0 0 [] ∷ rest
  steps (number z) rest = step 3 false z [] 0 0 [] ∷ rest
  steps (text s m) rest = step 4 m (pos 0) s 0 0 [] ∷ rest
  steps (list vs) rest = vals_steps vs (plain 11 ∷ rest)
  steps (map ps) rest = pairs_steps ps (plain 14 ∷ rest)
  steps (keywords ps) rest = pairs_steps ps (plain 15 ∷ rest)
  steps (exports ps s) rest = pairs_steps ps (step 16 false (pos 0) s 0 0 [] ∷ rest)
  steps (function n) rest = step 5 false (pos 0) [] n 0 [] ∷ rest
  steps (macro m) rest = step 6 false (pos 0) [] 0 0 (parts_of m ∷ []) ∷ rest
  steps (loop i n) rest = step 7 false (pos 0) [] i n [] ∷ rest
  steps (namespace i n) rest = step 8 false (pos 0) [] i n [] ∷ rest

  pub vals_steps : Vals → List Built → List Built
  vals_steps no_vals rest = plain 9 ∷ rest
  vals_steps (val v vs) rest = vals_steps vs (steps v (plain 10 ∷ rest))

  pub pairs_steps : Pairs → List Built → List Built
  pairs_steps no_pairs rest = plain 12 ∷ rest
  pairs_steps (pair k v ps) rest = pairs_steps ps (steps k (steps v (plain 13 ∷ rest)))

mutual
  built-steps : (x : Val) (rest : List Built) (k : Stacks) → built (steps x rest) k ≡ built rest (push x k)
  built-steps (undefined s) rest k = refl
  built-steps none rest k = refl
  built-steps (boolean b) rest k = refl
  built-steps (number z) rest k = refl
  built-steps (text s m) rest k = refl
  built-steps (list vs) rest k = built-vals_steps vs (plain 11 ∷ rest) k
  built-steps (map ps) rest k = built-pairs_steps ps (plain 14 ∷ rest) k
  built-steps (keywords ps) rest k = built-pairs_steps ps (plain 15 ∷ rest) k
  built-steps (exports ps s) rest k = built-pairs_steps ps (step 16 false (pos 0) s 0 0 [] ∷ rest) k
  built-steps (function n) rest k = refl
  built-steps (macro m) rest k = refl
  built-steps (loop i n) rest k = refl
  built-steps (namespace i n) rest k = refl

  built-vals_steps : (x : Vals) (rest : List Built) (k : Stacks) →
      built (vals_steps x rest) k ≡ built rest (record k { items = x ∷ k.items })
  built-vals_steps no_vals rest k = refl
  built-vals_steps (val v vs) rest k =
      built-vals_steps vs (steps v (plain 10 ∷ rest)) k ∙ built-steps v (plain 10 ∷ rest) (record k { items = vs ∷ k.items })

  built-pairs_steps : (x : Pairs) (rest : List Built) (k : Stacks) →
      built (pairs_steps x rest) k ≡ built rest (record k { pairs = x ∷ k.pairs })
  built-pairs_steps no_pairs rest k = refl
  built-pairs_steps (pair w v ps) rest k =
      let last : List Built = plain 13 ∷ rest in
      let below : Stacks = record k { pairs = ps ∷ k.pairs } in
      built-pairs_steps ps (steps w (steps v last)) k ∙ (built-steps w (steps v last) below ∙ built-steps v last (push w below))

abbrev empty : Stacks
empty = record { values = []; items = []; pairs = [] }

abbrev top : List Val → Val
top [] = none
top (v ∷ vs) = v

pub built-back : (v : Val) → top (built (steps v []) empty).values ≡ v
built-back v = rw (built-steps v [] empty) refl

abbrev coded_Parts : Coded Parts
coded_Parts = coded× coded_ℕ (coded× coded_ℕ
    (coded× coded_ℕ (coded× (coded_option coded_ℕ) (coded× (coded_list coded_ℕ) (coded× (coded_list (coded_list coded_ℕ)) coded_bool)))))

abbrev coded_Step : Coded Built
coded_Step = coded× coded_ℕ (coded× coded_bool
    (coded× coded_ℤ (coded× (coded_list coded_ℕ) (coded× coded_ℕ (coded× coded_ℕ (coded_list coded_Parts))))))

abbrev pub coded_Val : Coded Val
coded_Val = code_by (List Built) (coded_list coded_Step) (λ v. steps v []) (λ s. top (built s empty).values) built-back
