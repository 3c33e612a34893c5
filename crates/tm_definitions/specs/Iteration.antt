-- Iterating over values, and unpacking them into several targets.
use Rattle.std.specs.Prelude.{◌≡◌, ℕ, ◌==◌, false, cond, List, [], length, map as each, Option, None, Some, Ok, Err}
use Rattle.std.specs.Char.{encode_utf8}
use Rattle.std.specs.Str.{chars}
use Rattle.tm_definitions.specs.Members.{text_values}
use Rattle.tm_definitions.specs.Names.{loop_names, macro_names}
use Rattle.tm_values.specs.Defined.{refusal_of, unless}
use Rattle.tm_values.specs.Answer.{Answer, refused, invalid, is_memory_alone}
use Rattle.tm_values.specs.Records.{RecordData, namespace_at}
use Rattle.tm_values.specs.Val.{Val, undefined, text, list, map, keywords, exports, macro, loop, namespace, list_of, entries_of}
use Rattle.tm_values.specs.declared.error.ErrorKind.{ErrorKind}
use Rattle.tm_values.specs.declared.error.ErrorKind.TheVariants as kind_of
use Rattle.tm_values.specs.declared.undefined.UndefinedBehavior.{UndefinedBehavior}
use Rattle.tm_values.specs.declared.undefined.UndefinedUse.TheVariants as use_of

-- The answer, seen through `read`, is the stated one, unless it is OutOfMemory.
abbrev pub IsAnswerRead : {A B : Type 0} → Answer A → (A → B) → Answer B → Type 0
IsAnswerRead (Ok x) read stated = stated ≡ Ok (read x)
IsAnswerRead (Err chain) read stated = is_memory_alone chain ≡ false → stated ≡ Err chain

abbrev pub keys_of : List (Val × Val) → List Val
keys_of ps = each (λ p. p.0) ps

-- a text for each character, not marked safe
abbrev pub character_texts : List ℕ → List Val
character_texts cs = each (λ c. text (encode_utf8 c) false) cs

abbrev pub namespace_keys : Option (List (Val × Val)) → Answer (List Val)
namespace_keys None = invalid
namespace_keys (Some ps) = Ok (keys_of ps)

-- the items of a list, the keys of maps, keyword maps, modules and namespaces, or the attribute
-- names of loops and macros; other values are refused with `kind`
abbrev pub items_or : ErrorKind → RecordData → Val → Answer (List Val)
items_or kind r (list vs) = Ok (list_of vs)
items_or kind r (map ps) = Ok (keys_of (entries_of ps))
items_or kind r (keywords ps) = Ok (keys_of (entries_of ps))
items_or kind r (exports ps s) = Ok (keys_of (entries_of ps))
items_or kind r (macro m) = Ok (text_values macro_names)
items_or kind r (loop state i) = Ok (text_values loop_names)
items_or kind r (namespace state i) = namespace_keys (namespace_at r state i)
items_or kind r _ = refused kind

-- also the characters of a text; undefined has no items
abbrev pub items_of : RecordData → Val → Answer (List Val)
items_of r (text s safe) = Ok (character_texts (chars s))
items_of r (undefined silent) = Ok []
items_of r v = items_or kind_of.InvalidOperation r v

-- the items that `for` iterates over
abbrev pub iterated : UndefinedBehavior → RecordData → Val → Answer (List Val)
iterated b r v = unless (refusal_of b use_of.Iteration v) (items_of r v)

-- exactly n items
abbrev pub exactly : ℕ → Answer (List Val) → Answer (List Val)
exactly n (Ok vs) = cond (length vs == n) (Ok vs) (refused kind_of.CannotUnpack)
exactly n (Err chain) = Err chain

-- the items unpacked into n targets
abbrev pub unpacked : RecordData → ℕ → Val → Answer (List Val)
unpacked r n v = exactly n (items_or kind_of.CannotUnpack r v)

-- unpacking yields the items that `for` iterates over
abbrev pub UnpacksAsIterated : Type 0
UnpacksAsIterated =
    (b : UndefinedBehavior) (r : RecordData) (n : ℕ) (v : Val) (vs ws : List Val)
    → iterated b r v ≡ Ok vs → unpacked r n v ≡ Ok ws → vs ≡ ws
