-- Values that are plain in a form are fine in it.
use Rattle.std.proofs.Common.{◌≡◌, Bool, true, false, cond, ℤ, refl, ap, ◌∙◌}
use Rattle.tm_values.specs.Writable.{writable_of, vals_writable, pairs_writable, both, as_key, fits_json, in_print_alone, in_no_form}
use Rattle.tm_values.specs.Records.{RecordData}
use Rattle.tm_values.specs.Val.{Val, undefined, none, boolean, number, text, list, map, keywords, exports, function, macro, loop, namespace}
use Rattle.tm_values.specs.Val.{Vals, no_vals, val, Pairs, no_pairs, pair}
use Rattle.tm_values.specs.declared.writable.Writable.{Writable}
use Rattle.tm_definitions.specs.Verdicts.{NamespaceVerdicts, Verdict, fine, and_then, verdict, items_verdict, pairs_verdict, member_verdict}
use Rattle.tm_definitions.specs.Verdicts.{in_json, key_verdict, if_holds, no_json}
use Rattle.tm_definitions.specs.declared.output_format.OutputFormat.{OutputFormat}
use Rattle.tm_definitions.specs.declared.output_format.OutputFormat.TheVariants.{Printed, Json}
use Rattle.tm_printing.specs.Writable.{holds_in, is_plain}

both_true : (a b : Bool) → cond a b false ≡ true → (a ≡ true) × (b ≡ true)
both_true true b h = (refl, h)
both_true false b h = absurd (cc h)

both_hold : (form : OutputFormat) (a b : Writable) → holds_in form (both a b) ≡ true → (holds_in form a ≡ true) × (holds_in form b ≡ true)
both_hold Printed a b h = both_true a.in_print b.in_print h
both_hold Json a b h = both_true a.in_json b.in_json h

joined : (a b : Verdict) → a ≡ fine → b ≡ fine → and_then a b ≡ fine
joined a b h k = ap (λ (o : Verdict). and_then o b) h ∙ k

key_fine : (form : OutputFormat) (k : Val) → holds_in form (as_key k) ≡ true → in_json form (key_verdict k) ≡ fine
key_fine Printed k h = refl
key_fine Json (text s safe) h = refl
key_fine Json _ h = absurd (cc h)

number_fine : (fits : Bool) → fits ≡ true → if_holds fits no_json ≡ fine
number_fine true h = refl
number_fine false h = absurd (cc h)

fine_number : (form : OutputFormat) (z : ℤ) → is_plain form (number z) ≡ true → in_json form (if_holds (fits_json z) no_json) ≡ fine
fine_number Printed z h = refl
fine_number Json z h = number_fine (fits_json z) h

print_alone : (form : OutputFormat) (o : Verdict) → holds_in form in_print_alone ≡ true → in_json form o ≡ fine
print_alone Printed o h = refl
print_alone Json o h = absurd (cc h)

no_form : (form : OutputFormat) → holds_in form in_no_form ≡ true → ⊥
no_form Printed h = absurd (cc h)
no_form Json h = absurd (cc h)

module _ (form : OutputFormat) (r : RecordData) (inside : NamespaceVerdicts) where
  mutual
    pub plain_fine : (v : Val) → is_plain form v ≡ true → verdict form r inside v ≡ fine
    plain_fine (undefined s) h = refl
    plain_fine none h = refl
    plain_fine (boolean b) h = refl
    plain_fine (number z) h = fine_number form z h
    plain_fine (text s m) h = refl
    plain_fine (list vs) h = vals_fine vs h
    plain_fine (map ps) h = pairs_fine ps h
    plain_fine (keywords ps) h = pairs_fine ps h
    plain_fine (exports ps s) h = print_alone form (pairs_verdict form r inside ps) h
    plain_fine (function n) h = print_alone form no_json h
    plain_fine (macro m) h = print_alone form no_json h
    plain_fine (loop i n) h = absurd (no_form form h)
    plain_fine (namespace i n) h = absurd (no_form form h)

    vals_fine : (vs : Vals) → holds_in form (vals_writable vs) ≡ true → items_verdict form r inside vs ≡ fine
    vals_fine no_vals h = refl
    vals_fine (val v vs) h =
        let parts = both_hold form (writable_of v) (vals_writable vs) h in
        joined (verdict form r inside v) (items_verdict form r inside vs) (plain_fine v parts.0) (vals_fine vs parts.1)

    pairs_fine : (ps : Pairs) → holds_in form (pairs_writable ps) ≡ true → pairs_verdict form r inside ps ≡ fine
    pairs_fine no_pairs h = refl
    pairs_fine (pair k v ps) h =
        let parts = both_hold form (both (as_key k) (both (writable_of k) (writable_of v))) (pairs_writable ps) h in
        let key = both_hold form (as_key k) (both (writable_of k) (writable_of v)) parts.0 in
        let values = both_hold form (writable_of k) (writable_of v) key.1 in
        let of_value = joined (verdict form r inside k) (verdict form r inside v) (plain_fine k values.0) (plain_fine v values.1) in
        joined (member_verdict form k (verdict form r inside k) (verdict form r inside v)) (pairs_verdict form r inside ps)
        (joined (in_json form (key_verdict k)) _ (key_fine form k key.0) of_value) (pairs_fine ps parts.1)
