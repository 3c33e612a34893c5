-- The entries of macros: the places where they are entered, each with the number of its arguments,
-- in the order of the places. The number of an entry is its index.
use Rattle.std.specs.Prelude.{ℕ, List, [], ◌∷◌, length, Option, None, Some, ltb}
use Rattle.std.specs.BTreeMap.{insert_entry}
use Rattle.std.specs.List.{prefix_len}
use Rattle.std.specs.Ordering.{nat_cmp}
use Rattle.tm_values.specs.Val.{Val, list, list_of, text_in}
use Rattle.tm_syntax.specs.declared.instruction.Instruction.{Instruction}
use Rattle.tm_syntax.specs.declared.instruction.Instruction.TheVariants as i

abbrev pub Entries : Type 0
Entries = List (ℕ × ℕ)

-- the length of a literal list of names
abbrev pub name_count : Val → ℕ
name_count (list vs) = length (list_of vs)
name_count v = 0

abbrev pub and_text : Option (List ℕ) → Option (List (List ℕ)) → Option (List (List ℕ))
and_text (Some x) (Some xs) = Some (x ∷ xs)
and_text x xs = None

-- the texts of values, if each value is one
abbrev pub texts_in : List Val → Option (List (List ℕ))
texts_in [] = Some []
texts_in (v ∷ vs) = and_text (text_in v) (texts_in vs)

-- the names in a list of texts
abbrev pub names_in : Val → Option (List (List ℕ))
names_in (list vs) = texts_in (list_of vs)
names_in v = None

-- adds the entry at a place, if a literal with `count` names is before it
abbrev pub with_entry : Option ℕ → ℕ → Entries → Entries
with_entry None place es = es
with_entry (Some count) place es = insert_entry nat_cmp es place count

-- adds the entries of all macros built in code, after the literal `before`
abbrev pub entries_from : Entries → Option ℕ → List Instruction → Entries
entries_from es before [] = es
entries_from es before (i.BuildMacro x place caller ∷ is) = entries_from (with_entry before place es) None is
entries_from es before (i.LoadConst v ∷ is) = entries_from es (Some (name_count v)) is
entries_from es before (x ∷ is) = entries_from es None is

-- the entries of code, in order
abbrev pub entries : List Instruction → Entries
entries is = entries_from [] None is

-- the number of the entry at a place
abbrev pub entry_number : ℕ → List Instruction → ℕ
entry_number place is = prefix_len (λ (e : ℕ × ℕ). ltb e.0 place) (entries is)
