-- Quick operations on the stack. They need no memory and no records, and can't fail.
use Rattle.std.specs.Prelude.{◌≡◌, ℕ, false, not, List, ◌∷◌, Ok}
use Rattle.tm_values.specs.Val.{Val, boolean}
use Rattle.tm_values.specs.Records.{RecordData}
use Rattle.tm_values.specs.declared.undefined.UndefinedBehavior.{UndefinedBehavior}
use Rattle.tm_trees.specs.Trees.{BinaryOperator}
use Rattle.tm_definitions.specs.Members.{attribute_of}
use Rattle.tm_meaning.specs.Operators.{result_of}
use Rattle.tm_values.specs.Truth.{is_true, is_undefined}

-- The operator has this result, whatever the behaviour of undefined values and the records.
abbrev pub Calculates : BinaryOperator → Val → Val → Val → Type 0
Calculates op x y v = (b : UndefinedBehavior) (r : RecordData) → result_of op b r x y ≡ Ok v

-- The two topmost values are replaced by the operator's result.
abbrev pub Operates : BinaryOperator → List Val → List Val → Type 0
Operates op old new = (x : Val) × (y : Val) × (v : Val) × (rest : List Val) × (old ≡ y ∷ x ∷ rest) × (new ≡ v ∷ rest) × Calculates op x y v

-- The value has this attribute, whatever the behaviour of undefined values and the records.
abbrev pub Has : Val → List ℕ → Val → Type 0
Has m x v = (b : UndefinedBehavior) (r : RecordData) → attribute_of b r m x ≡ Ok v

-- The topmost value is replaced by its attribute.
abbrev pub TakesMember : List ℕ → List Val → List Val → Type 0
TakesMember x old new = (m : Val) × (v : Val) × (rest : List Val) × (old ≡ m ∷ rest) × (new ≡ v ∷ rest) × Has m x v

-- The topmost value, which isn't undefined, is replaced by the negation of its truth.
abbrev pub Negates : List Val → List Val → Type 0
Negates old new =
    (v : Val) × (rest : List Val) × (old ≡ v ∷ rest) × (new ≡ boolean (not (is_true v)) ∷ rest) × (is_undefined v ≡ false)

-- The topmost value is replaced by whether it is undefined.
abbrev pub TestsUndefined : List Val → List Val → Type 0
TestsUndefined old new = (v : Val) × (rest : List Val) × (old ≡ v ∷ rest) × (new ≡ boolean (is_undefined v) ∷ rest)

-- The topmost value is duplicated.
abbrev pub Doubles : List Val → List Val → Type 0
Doubles old new = (v : Val) × (rest : List Val) × (old ≡ v ∷ rest) × (new ≡ v ∷ v ∷ rest)
