-- Attributes and items of values.
use Rattle.std.specs.Prelude.{ℕ, ◌+◌, ◌-◌, ◌==◌, pos, Bool, true, false, cond, List, [], ◌∷◌, length, Option, None, Some, Ok, nat_eq}
use Rattle.std.specs.Prelude.{slice_index_or, codes}
use Rattle.std.specs.Char.{encode_utf8}
use Rattle.std.specs.Cmp.Lexicographic.{pointwise}
use Rattle.std.specs.Str.{chars}
use Rattle.tm_values.specs.Defined.{refusal_of, unless}
use Rattle.tm_definitions.specs.declared.loop_attribute.LoopAttribute.{LoopAttribute}
use Rattle.tm_definitions.specs.declared.loop_attribute.LoopAttribute.TheVariants as of_loop
use Rattle.tm_primitives.specs.Places.{place_of}
use Rattle.tm_values.specs.Answer.{Answer, invalid}
use Rattle.tm_values.specs.Map.{find}
use Rattle.tm_values.specs.Records.{RecordData, LoopData, loop_at, namespace_at}
use Rattle.tm_values.specs.Val.{MacroData, Val, undefined, none, boolean, number, text, list, map, keywords, exports, function, macro, loop}
use Rattle.tm_values.specs.Val.{namespace, vals_of, list_of, entries_of, text_in}
use Rattle.tm_values.specs.declared.undefined.UndefinedBehavior.{UndefinedBehavior}
use Rattle.tm_values.specs.declared.undefined.UndefinedUse.TheVariants as use_of

-- the value, or undefined if there is none
abbrev pub or_undefined : Option Val → Val
or_undefined None = undefined false
or_undefined (Some v) = v

abbrev pub same_text : List ℕ → List ℕ → Bool
same_text = pointwise nat_eq

-- ---- loops

abbrev pub loop_attribute_named : List ℕ → Option LoopAttribute
loop_attribute_named n =
    cond (same_text n (codes "index0")) (Some of_loop.Index0)
    (cond (same_text n (codes "index")) (Some of_loop.Index)
    (cond (same_text n (codes "length")) (Some of_loop.Length)
    (cond (same_text n (codes "revindex")) (Some of_loop.RevIndex)
    (cond (same_text n (codes "revindex0")) (Some of_loop.RevIndex0)
    (cond (same_text n (codes "first")) (Some of_loop.First)
    (cond (same_text n (codes "last")) (Some of_loop.Last)
    (cond (same_text n (codes "depth")) (Some of_loop.Depth)
    (cond (same_text n (codes "depth0")) (Some of_loop.Depth0)
    (cond (same_text n (codes "previtem")) (Some of_loop.PrevItem)
    (cond (same_text n (codes "nextitem")) (Some of_loop.NextItem) None))))))))))

-- at the item with index i; after the last item, i is their number
abbrev pub at_item : LoopData → ℕ → LoopAttribute → Val
at_item l i of_loop.Index0 = number (pos i)
at_item l i of_loop.Index = number (pos (i + 1))
at_item l i of_loop.Length = number (pos l.count)
at_item l i of_loop.RevIndex = number (pos (l.count - i))
at_item l i of_loop.RevIndex0 = number (pos (l.count - i - 1))
at_item l i of_loop.First = boolean (i == 0)
at_item l i of_loop.Last = boolean (i == l.count - 1)
at_item l i of_loop.Depth = number (pos (l.depth + 1))
at_item l i of_loop.Depth0 = number (pos l.depth)
at_item l i of_loop.PrevItem = or_undefined l.previous
at_item l i of_loop.NextItem = or_undefined l.following

-- before the first item, all attributes are undefined
abbrev pub loop_attribute_at : LoopData → Option ℕ → LoopAttribute → Val
loop_attribute_at l None a = undefined false
loop_attribute_at l (Some i) a = at_item l i a

abbrev pub named_attribute : LoopData → Option LoopAttribute → Val
named_attribute l None = undefined false
named_attribute l (Some a) = loop_attribute_at l l.place a

-- an attribute of a loop that has a record
abbrev pub loop_member : Option LoopData → List ℕ → Answer Val
loop_member None n = invalid
loop_member (Some l) n = Ok (named_attribute l (loop_attribute_named n))

-- ---- macros

abbrev pub text_values : List (List ℕ) → List Val
text_values [] = []
text_values (s ∷ ss) = text s false ∷ text_values ss

abbrev pub macro_member : MacroData → List ℕ → Val
macro_member m n =
    cond (same_text n (codes "name")) (text m.name false)
    (cond (same_text n (codes "arguments")) (list (vals_of (text_values m.arguments)))
    (cond (same_text n (codes "caller")) (boolean m.caller) (undefined false)))

-- ---- attributes

abbrev pub namespace_member : Option (List (Val × Val)) → Val → Answer Val
namespace_member None k = invalid
namespace_member (Some ps) k = Ok (or_undefined (find k ps))

-- an attribute or an item of an undefined value
abbrev pub member_of_undefined : UndefinedBehavior → Val → Answer Val
member_of_undefined b v = unless (refusal_of b use_of.Member v) (Ok (undefined false))

-- the attribute n of a value
abbrev pub attribute_of : UndefinedBehavior → RecordData → Val → List ℕ → Answer Val
attribute_of b r (undefined silent) n = member_of_undefined b (undefined silent)
attribute_of b r (map ps) n = Ok (or_undefined (find (text n false) (entries_of ps)))
attribute_of b r (keywords ps) n = Ok (or_undefined (find (text n false) (entries_of ps)))
attribute_of b r (exports ps s) n = Ok (or_undefined (find (text n false) (entries_of ps)))
attribute_of b r (macro m) n = Ok (macro_member m n)
attribute_of b r (loop state i) n = loop_member (loop_at r state i) n
attribute_of b r (namespace state i) n = namespace_member (namespace_at r state i) (text n false)
attribute_of b r _ n = Ok (undefined false)

-- ---- items

abbrev pub item_at : List Val → Option ℕ → Val
item_at xs None = undefined false
item_at xs (Some p) = slice_index_or xs p none

abbrev pub list_item : List Val → Val → Val
list_item xs (number z) = item_at xs (place_of (length xs) z)
list_item xs _ = undefined false

abbrev pub character_at : List ℕ → Option ℕ → Val
character_at cs None = undefined false
character_at cs (Some p) = text (encode_utf8 (slice_index_or cs p 0)) false

-- a character isn't marked safe, even if the text is
abbrev pub text_item : List ℕ → Val → Val
text_item s (number z) = character_at (chars s) (place_of (length (chars s)) z)
text_item s _ = undefined false

abbrev pub macro_item : MacroData → Option (List ℕ) → Val
macro_item m None = undefined false
macro_item m (Some n) = macro_member m n

abbrev pub loop_item : Option LoopData → Option (List ℕ) → Answer Val
loop_item None n = invalid
loop_item (Some l) None = Ok (undefined false)
loop_item (Some l) (Some n) = loop_member (Some l) n

-- the item at a key: of a map by key, of a list or a text by index from either end
abbrev pub item_of : UndefinedBehavior → RecordData → Val → Val → Answer Val
item_of b r (undefined silent) k = member_of_undefined b (undefined silent)
item_of b r (text s safe) k = Ok (text_item s k)
item_of b r (list vs) k = Ok (list_item (list_of vs) k)
item_of b r (map ps) k = Ok (or_undefined (find k (entries_of ps)))
item_of b r (keywords ps) k = Ok (or_undefined (find k (entries_of ps)))
item_of b r (exports ps s) k = Ok (or_undefined (find k (entries_of ps)))
item_of b r (macro m) k = Ok (macro_item m (text_in k))
item_of b r (loop state i) k = loop_item (loop_at r state i) (text_in k)
item_of b r (namespace state i) k = namespace_member (namespace_at r state i) k
item_of b r _ k = Ok (undefined false)

-- the namespace whose attributes may be set; it must belong to this state
abbrev pub settable_number : ℕ → Option (List (Val × Val)) → Answer ℕ
settable_number i None = invalid
settable_number i (Some ps) = Ok i

abbrev pub settable : RecordData → Val → Answer ℕ
settable r (namespace state i) = settable_number i (namespace_at r state i)
settable r _ = invalid

-- the kinds that can be called
abbrev pub is_callable : Val → Bool
is_callable (function n) = true
is_callable (macro m) = true
is_callable (loop state i) = true
is_callable _ = false
