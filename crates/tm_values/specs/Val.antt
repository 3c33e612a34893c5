-- Values as plain data.
use Rattle.std.specs.Prelude.{ℕ, ◌+◌, ◌/◌, ◌++◌, length, ℤ, pos, Bool, true, false, List, [], ◌∷◌, Option, Some, None}

-- a macro: its name, the names of its arguments, whether it takes `caller`; the state that declared
-- it, the number of its stream there, its entry in the stream, and the number of its closure, if
-- any
pub record MacroData : Type 0 where
  pub state : ℕ
  pub stream : ℕ
  pub entry : ℕ
  pub closure : Option ℕ
  pub name : List ℕ
  pub arguments : List (List ℕ)
  pub caller : Bool

mutual
  pub data Val : Type 0 where
    -- whether it is silent
    undefined : Bool → Val
    none : Val
    boolean : Bool → Val
    number : ℤ → Val
    -- its bytes, and whether it is marked safe
    text : List ℕ → Bool → Val
    list : Vals → Val
    -- its pairs, in the order of their keys
    map : Pairs → Val
    keywords : Pairs → Val
    -- a module: its map, and its captured text
    exports : Pairs → List ℕ → Val
    -- its number
    function : ℕ → Val
    macro : MacroData → Val
    -- the state's id, and the record's number
    loop : ℕ → ℕ → Val
    namespace : ℕ → ℕ → Val

  pub data Vals : Type 0 where
    no_vals : Vals
    val : Val → Vals → Vals

  pub data Pairs : Type 0 where
    no_pairs : Pairs
    pair : Val → Val → Pairs → Pairs

-- items from a list, and back
abbrev pub vals_of : List Val → Vals
vals_of [] = no_vals
vals_of (v ∷ vs) = val v (vals_of vs)

abbrev pub list_of : Vals → List Val
list_of no_vals = []
list_of (val v vs) = v ∷ list_of vs

-- pairs from a list, and back
abbrev pub pairs_of : List (Val × Val) → Pairs
pairs_of [] = no_pairs
pairs_of (p ∷ ps) = pair p.0 p.1 (pairs_of ps)

abbrev pub entries_of : Pairs → List (Val × Val)
entries_of no_pairs = []
entries_of (pair k v ps) = (k, v) ∷ entries_of ps

-- the bytes of a text
abbrev pub text_in : Val → Option (List ℕ)
text_in (text s m) = Some s
text_in _ = None

-- the pairs of a map, a keyword map or a module
abbrev pub pairs_in : Val → Pairs
pairs_in (map ps) = ps
pairs_in (keywords ps) = ps
pairs_in (exports ps s) = ps
pairs_in _ = no_pairs

abbrev pub entries_in : Val → List (Val × Val)
entries_in v = entries_of (pairs_in v)

-- the items, if the value is a list
abbrev pub list_in : Val → Option (List Val)
list_in (list vs) = Some (list_of vs)
list_in _ = None

-- the items of a list; empty for other values
abbrev pub vals_in : Val → Vals
vals_in (list vs) = vs
vals_in _ = no_vals

abbrev pub items_in : Val → List Val
items_in v = list_of (vals_in v)

-- a list goes on with these items; other values stay
abbrev pub extended : Val → List Val → Val
extended (list vs) more = list (vals_of (list_of vs ++ more))
extended v more = v

-- the whole number that a number or a truth value counts as
abbrev pub whole_of : Bool → ℤ
whole_of true = pos 1
whole_of false = pos 0

abbrev pub whole_in : Val → Option ℤ
whole_in (boolean b) = Some (whole_of b)
whole_in (number z) = Some z
whole_in _ = None

-- what the bytes of a text add to the size of its value: 1 for each 16 of them
abbrev pub text_size : List ℕ → ℕ
text_size s = length s / 16

-- the size of a value as an owned tree: 1 for itself, the size of each part and 1, and what a text
-- adds; it bounds the steps of every walk over the value
abbrev mutual
  pub val_size : Val → ℕ
  val_size (undefined s) = 1
  val_size none = 1
  val_size (boolean b) = 1
  val_size (number z) = 1
  val_size (text s m) = text_size s + 1
  val_size (list vs) = vals_size vs + 1
  val_size (map ps) = pairs_size ps + 1
  val_size (keywords ps) = pairs_size ps + 1
  val_size (exports ps s) = text_size s + (pairs_size ps + 1)
  val_size (function n) = 1
  val_size (macro m) = 1
  val_size (loop i n) = 1
  val_size (namespace i n) = 1

  pub vals_size : Vals → ℕ
  vals_size no_vals = 0
  vals_size (val v vs) = val_size v + vals_size vs + 1

  pub pairs_size : Pairs → ℕ
  pairs_size no_pairs = 0
  pairs_size (pair k v ps) = val_size k + val_size v + pairs_size ps + 2
