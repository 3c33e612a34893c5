-- Tests of what values are, and their truth.
use Rattle.std.specs.Prelude.{pos, Bool, true, false, not, ◌==◌, List, length}
use Rattle.std.specs.Ordering.{int_eq}
use Rattle.tm_values.specs.Val.{Val, undefined, none, boolean, number, text, list, map, keywords, exports, list_of, entries_of}

abbrev holds_any : {A : Type 0} → List A → Bool
holds_any xs = not (length xs == 0)

-- Undefined, none, false, 0, and empty texts, lists, maps, keyword maps and modules are false.
abbrev pub is_true : Val → Bool
is_true (undefined silent) = false
is_true none = false
is_true (boolean b) = b
is_true (number z) = not (int_eq z (pos 0))
is_true (text s safe) = holds_any s
is_true (list vs) = holds_any (list_of vs)
is_true (map ps) = holds_any (entries_of ps)
is_true (keywords ps) = holds_any (entries_of ps)
is_true (exports ps s) = holds_any (entries_of ps)
is_true _ = true

abbrev pub is_undefined : Val → Bool
is_undefined (undefined silent) = true
is_undefined _ = false

abbrev pub is_none : Val → Bool
is_none none = true
is_none _ = false

-- a text that is never escaped
abbrev pub is_safe : Val → Bool
is_safe (text s safe) = safe
is_safe _ = false
