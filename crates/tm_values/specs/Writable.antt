-- The forms in which values are never refused, whatever the records are. No form has values that
-- contain a loop or a namespace. JSON also lacks functions, macros and modules. A module is printed
-- as its text.
use Rattle.std.specs.Prelude.{Bool, true, false, cond, ℤ, pos, negsuc, nat_lt, ◌^◌}
use Rattle.tm_values.specs.Val.{Val, undefined, none, boolean, number, text, list, map, keywords, exports, function, macro, loop, namespace}
use Rattle.tm_values.specs.Val.{Vals, no_vals, val, Pairs, no_pairs, pair}
use Rattle.tm_values.specs.declared.writable.Writable.{Writable}

-- JSON has the numbers from -2^63 to 2^64 - 1
abbrev pub fits_json : ℤ → Bool
fits_json (pos n) = nat_lt n (2 ^ 64)
fits_json (negsuc n) = nat_lt n (2 ^ 63)

abbrev pub in_all_forms : Writable
in_all_forms = record { in_print = true; in_json = true }

abbrev pub in_print_alone : Writable
in_print_alone = record { in_print = true; in_json = false }

abbrev pub in_no_form : Writable
in_no_form = record { in_print = false; in_json = false }

abbrev pub both : Writable → Writable → Writable
both a b = record {
  in_print = cond a.in_print b.in_print false;
  in_json = cond a.in_json b.in_json false;
}

-- in JSON a key is a text
abbrev pub as_key : Val → Writable
as_key (text s safe) = in_all_forms
as_key k = in_print_alone

abbrev mutual
  pub writable_of : Val → Writable
  writable_of (undefined silent) = in_all_forms
  writable_of none = in_all_forms
  writable_of (boolean truth) = in_all_forms
  writable_of (number z) = record { in_print = true; in_json = fits_json z }
  writable_of (text s safe) = in_all_forms
  writable_of (list vs) = vals_writable vs
  writable_of (map ps) = pairs_writable ps
  writable_of (keywords ps) = pairs_writable ps
  writable_of (exports ps s) = in_print_alone
  writable_of (function n) = in_print_alone
  writable_of (macro m) = in_print_alone
  writable_of (loop s n) = in_no_form
  writable_of (namespace s n) = in_no_form

  pub vals_writable : Vals → Writable
  vals_writable no_vals = in_all_forms
  vals_writable (val v vs) = both (writable_of v) (vals_writable vs)

  pub pairs_writable : Pairs → Writable
  pairs_writable no_pairs = in_all_forms
  pairs_writable (pair k v ps) =
      both (both (as_key k) (both (writable_of k) (writable_of v))) (pairs_writable ps)
