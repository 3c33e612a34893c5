-- What operations answer is a value, or one of the kinds that a render raises.
use Rattle.std.proofs.Common.{◌≡◌, ℕ, zero, suc, List, [], ◌∷◌, length, Option, Some, None, Bool, true, false, Ok, Err, refl}
use Rattle.std.specs.Prelude.{ℤ, cond, if◌then◌else◌, slice_get, codes}
use Rattle.tm_values.specs.Answer.{Answer, refused, invalid}
use Rattle.tm_values.specs.Defined.{refusal_of, unless}
use Rattle.tm_values.specs.Undefined.{UndefinedRefusal, by_behavior, ordinary_refusal, silent_refusal}
use Rattle.tm_values.specs.Records.{RecordData, namespace_at, loop_at}
use Rattle.tm_values.specs.Val.{Val, undefined, function, none, boolean, number, text, list, map, keywords, exports, macro, loop, namespace}
use Rattle.tm_values.specs.Val.{Vals, no_vals, val, Pairs, no_pairs, pair, list_of, pairs_of, text_in, list_in, whole_in}
use Rattle.tm_values.specs.declared.error.ErrorKind.{ErrorKind}
use Rattle.tm_values.specs.declared.error.ErrorKind.TheVariants.{InvalidOperation, CannotUnpack, TooManyArguments}
use Rattle.tm_values.specs.declared.escape.AutoEscape.{AutoEscape}
use Rattle.tm_values.specs.declared.escape.AutoEscape.TheVariants as escapes
use Rattle.tm_values.specs.declared.undefined.UndefinedBehavior.{UndefinedBehavior}
use Rattle.tm_values.specs.declared.undefined.UndefinedBehavior.TheVariants.{Lenient, Chainable, SemiStrict, Strict}
use Rattle.tm_values.specs.declared.undefined.UndefinedUse.{UndefinedUse}
use Rattle.tm_values.specs.declared.undefined.UndefinedUse.TheVariants as use_of
use Rattle.tm_trees.specs.Trees.{UnaryOperator, BinaryOperator}
use Rattle.tm_trees.specs.Trees.unaries
use Rattle.tm_trees.specs.Trees.binaries
use Rattle.tm_definitions.specs.Arithmetic as arithmetic
use Rattle.tm_definitions.specs.Truth.{truth_of}
use Rattle.tm_definitions.specs.Comparison.{compared}
use Rattle.tm_definitions.specs.Concatenation.{concatenated, where_fine as joined_where_fine}
use Rattle.tm_definitions.specs.Containment.{contained, found_in, text_contains, namespace_contains}
use Rattle.tm_definitions.specs.Emitted.{emission_verdict, escaped_verdict, map_ok, text_answer}
use Rattle.tm_definitions.specs.Printed.{printed}
use Rattle.tm_definitions.specs.Iteration.{iterated, unpacked, items_of, items_or, namespace_keys, exactly}
use Rattle.tm_definitions.specs.Maps.{dict_of, namespace_of, base_of, namespace_pairs, plain_of}
use Rattle.tm_definitions.specs.Spread.{joined, spread_items, items_of_all, pairs_in, spread_pairs, merged}
use Rattle.tm_definitions.specs.Members.{attribute_of, item_of, settable, settable_number, loop_member, loop_item}
use Rattle.tm_definitions.specs.Members.{namespace_member as member_of_namespace}
use Rattle.tm_definitions.specs.Printed.{entered}
use Rattle.tm_definitions.specs.Ranges.{range_of, given, at_most_arguments, required_in, later_in, or_invalid, some_of, bound_in, served}
use Rattle.tm_definitions.specs.Ranges.{span_of}
use Rattle.tm_definitions.specs.Ranges.{is_served}
use Rattle.tm_values.specs.Writable.{fits_json}
use Rattle.tm_definitions.specs.Verdicts.{Verdict, and_then, if_holds, in_json, no_json, loop_verdict, key_verdict}
use Rattle.tm_definitions.specs.Verdicts.{NamespaceVerdicts}
use Rattle.tm_definitions.specs.Verdicts.{verdict, items_verdict, pairs_verdict, Way, through, namespace_verdict, print_verdict, nowhere}
use Rattle.tm_definitions.specs.Slices.{sliced, cut, cut_by, parts_in, Parts}
use Rattle.tm_definitions.specs.declared.comparison.ComparisonOperator.{ComparisonOperator}
use Rattle.tm_definitions.specs.declared.comparison.ComparisonOperator.TheVariants as comparison
use Rattle.tm_definitions.specs.declared.output_format.OutputFormat.{OutputFormat}
use Rattle.tm_definitions.specs.declared.output_format.OutputFormat.TheVariants.{Printed, Json}
use Rattle.tm_meaning.specs.Calls.{choices_in}
use Rattle.tm_meaning.specs.World.{Scope, HostValue, View, Format, find_name, in_frames, in_scope, or_on, or_on_answer, context_member}
use Rattle.tm_meaning.specs.World.{namespace_member}
use Rattle.tm_meaning.specs.World.{escape_for, escape_named, formatted, where_fine, same_name}
use Rattle.tm_meaning.specs.Calls.{method_in}
use Rattle.tm_meaning.specs.Operators.{as_value, negated, result_of, result_of_unary}
use Rattle.tm_simulation.specs.Chains.{is_raised, Arises, raised, by_formatter, AnswersOnly}

-- ---------------------------------------------------------------- answers
abbrev pub Raised : List ErrorKind → Type 0
Raised [] = ⊥
Raised (k ∷ []) = is_raised k ≡ true
Raised (k ∷ c ∷ cs) = ⊥

-- so far as it is an error
abbrev pub Raises : {A : Type 0} → Answer A → Type 0
Raises answer = AnswersOnly Raised answer

by_option : {A B : Type 0} (f : Option A → Answer B) (found : Option A) → Raises (f None) → ((a : A) → Raises (f (Some a))) →
    Raises (f found)
by_option f None h k = h
by_option f (Some a) h k = k a

by_test : {A : Type 0} (f : Bool → Answer A) (b : Bool) → Raises (f true) → Raises (f false) → Raises (f b)
by_test f true h k = h
by_test f false h k = k

given_raises : {A B : Type 0} (m : Answer A) (f : A → Answer B) → Raises m → ((a : A) → Raises (f a)) → Raises (given m f)
given_raises (Ok a) f h k = k a
given_raises (Err chain) f h k = h

-- ---------------------------------------------------------------- undefined values
abbrev RaisesRefusal : UndefinedRefusal → Type 0
RaisesRefusal None = Unit {0}
RaisesRefusal (Some kind) = is_raised kind ≡ true

by_raises : (lenient chainable semi_strict strict : UndefinedRefusal) → RaisesRefusal lenient → RaisesRefusal chainable →
    RaisesRefusal semi_strict → RaisesRefusal strict →
    (b : UndefinedBehavior) → RaisesRefusal (by_behavior lenient chainable semi_strict strict b)
by_raises lenient chainable semi_strict strict h i j k Lenient = h
by_raises lenient chainable semi_strict strict h i j k Chainable = i
by_raises lenient chainable semi_strict strict h i j k SemiStrict = j
by_raises lenient chainable semi_strict strict h i j k Strict = k

ordinary_raises : (purpose : UndefinedUse) (b : UndefinedBehavior) → RaisesRefusal (ordinary_refusal purpose b)
ordinary_raises use_of.Emission b = by_raises _ _ _ _ tt tt refl refl b
ordinary_raises use_of.Iteration b = by_raises _ _ _ _ tt tt refl refl b
ordinary_raises use_of.Member b = by_raises _ _ _ _ refl tt refl refl b
ordinary_raises use_of.Truth b = by_raises _ _ _ _ tt tt tt refl b
ordinary_raises use_of.Comparison b = by_raises _ _ _ _ tt tt tt refl b
ordinary_raises use_of.Containment b = by_raises _ _ _ _ tt tt refl refl b
ordinary_raises use_of.Slice b = by_raises _ _ _ _ tt tt tt refl b
ordinary_raises use_of.KeywordSpread b = by_raises _ _ _ _ refl refl refl refl b
ordinary_raises use_of.ItemSpread b = by_raises _ _ _ _ tt tt tt tt b
ordinary_raises use_of.Arithmetic b = by_raises _ _ _ _ refl refl refl refl b

silent_raises : (purpose : UndefinedUse) (b : UndefinedBehavior) → RaisesRefusal (silent_refusal purpose b)
silent_raises use_of.Emission b = tt
silent_raises use_of.Truth b = tt
silent_raises purpose b = ordinary_raises purpose b

refusal_raises : (b : UndefinedBehavior) (purpose : UndefinedUse) (v : Val) → RaisesRefusal (refusal_of b purpose v)
refusal_raises b purpose (undefined false) = ordinary_raises purpose b
refusal_raises b purpose (undefined true) = silent_raises purpose b
refusal_raises b purpose _ = tt

unless_by : {A : Type 0} (Has : List ErrorKind → Type 0) → ((kind : ErrorKind) → is_raised kind ≡ true → Has (kind ∷ [])) →
    (refusal : UndefinedRefusal) (answer : Answer A) → RaisesRefusal refusal → AnswersOnly Has answer →
    AnswersOnly Has (unless refusal answer)
unless_by Has one None answer h k = k
unless_by Has one (Some kind) answer h k = one kind h

pub unless_raises : {A : Type 0} (b : UndefinedBehavior) (purpose : UndefinedUse) (v : Val) (answer : Answer A) → Raises answer →
    Raises (unless (refusal_of b purpose v) answer)
unless_raises b purpose v answer k = unless_by Raised (λ kind h. h) (refusal_of b purpose v) answer (refusal_raises b purpose v) k

-- ---------------------------------------------------------------- verdicts
and_raises : (first later : Verdict) → Raises first → Raises later → Raises (and_then first later)
and_raises (Ok _) later h k = k
and_raises (Err chain) later h k = h

json_raises : (form : OutputFormat) (v : Verdict) → Raises v → Raises (in_json form v)
json_raises Printed v h = tt
json_raises Json v h = h

loop_raises : (form : OutputFormat) (r : RecordData) (s n : ℕ) → Raises (loop_verdict form r s n)
loop_raises Printed r s n = by_test (λ b. if_holds b invalid) _ tt refl
loop_raises Json r s n = refl

key_raises : (k : Val) → Raises (key_verdict k)
key_raises (text s safe) = tt
key_raises _ = refl

module _ (form : OutputFormat) (r : RecordData) (inside : NamespaceVerdicts) (given_inside : (s n : ℕ) → Raises (inside s n)) where
  mutual
    verdict_raises : (v : Val) → Raises (verdict form r inside v)
    verdict_raises (undefined silent) = tt
    verdict_raises none = tt
    verdict_raises (boolean truth) = tt
    verdict_raises (number z) = json_raises form _ (by_test (λ b. if_holds b no_json) (fits_json z) tt refl)
    verdict_raises (text s safe) = tt
    verdict_raises (list vs) = items_raises vs
    verdict_raises (map ps) = pairs_raises ps
    verdict_raises (keywords ps) = pairs_raises ps
    verdict_raises (exports ps s) = json_raises form _ (pairs_raises ps)
    verdict_raises (function n) = json_raises form _ refl
    verdict_raises (macro m) = json_raises form _ refl
    verdict_raises (loop s n) = loop_raises form r s n
    verdict_raises (namespace s n) = given_inside s n

    items_raises : (vs : Vals) → Raises (items_verdict form r inside vs)
    items_raises no_vals = tt
    items_raises (val v vs) = and_raises _ _ (verdict_raises v) (items_raises vs)

    pairs_raises : (ps : Pairs) → Raises (pairs_verdict form r inside ps)
    pairs_raises no_pairs = tt
    pairs_raises (pair k v ps) =
        and_raises _ _ (and_raises _ _ (json_raises form _ (key_raises k)) (and_raises _ _ (verdict_raises k) (verdict_raises v)))
        (pairs_raises ps)

inside_raises : (form : OutputFormat) (r : RecordData) (levels : ℕ) (way : Way) (s n : ℕ) → Raises (namespace_verdict form r levels way s n)
inside_raises form r zero way s n = refl
inside_raises form r (suc levels) way s n =
    let held : Pairs → Verdict = λ ps. pairs_verdict form r (namespace_verdict form r levels (through n way)) ps in
    by_option (λ found. entered found invalid (λ ps. cond (way n) invalid (held ps))) (namespace_at r s n) refl
    (λ ps. by_test (λ b. cond b invalid (held (pairs_of ps))) (way n) refl
    (pairs_raises form r _ (inside_raises form r levels (through n way)) (pairs_of ps)))

print_raises : (r : RecordData) (v : Val) → Raises (print_verdict r v)
print_raises r v = verdict_raises Printed r _ (inside_raises Printed r (length r.namespaces) nowhere) v

printed_raises : (r : RecordData) (v : Val) (verdict : Verdict) → Raises verdict → Raises (map_ok (λ _. printed r v) verdict)
printed_raises r v (Ok _) h = tt
printed_raises r v (Err chain) h = h

pub text_raises : (r : RecordData) (v : Val) → Raises (text_answer r v)
text_raises r v = printed_raises r v (print_verdict r v) (print_raises r v)

escaped_raises : (e : AutoEscape) (r : RecordData) (v : Val) → Raises (escaped_verdict e r v)
escaped_raises escapes.None r v = print_raises r v
escaped_raises escapes.Html r v = print_raises r v
escaped_raises escapes.Json r v = verdict_raises Json r _ (inside_raises Json r (length r.namespaces) nowhere) v
escaped_raises (escapes.Custom name) r v = refl

emission_raises : (e : AutoEscape) (r : RecordData) (v : Val) → Raises (emission_verdict e r v)
emission_raises e r (text s true) = tt
emission_raises e r v = escaped_raises e r v

fine_raises : {A : Type 0} (v : Verdict) (a : A) → Raises v → Raises (where_fine v a)
fine_raises (Ok _) a h = tt
fine_raises (Err chain) a h = h

-- ---------------------------------------------------------------- what arises
pub raised_arise : {A : Type 0} (host : HostValue) (answer : Answer A) → Raises answer → AnswersOnly (Arises host) answer
raised_arise host (Ok a) h = tt
raised_arise host (Err []) h = absurd h
raised_arise host (Err (k ∷ [])) h = raised h
raised_arise host (Err (k ∷ c ∷ cs)) h = absurd h

stated_by : (host : HostValue) (f : Format) (v : Val) (view : View) (answer : Answer (List ℕ)) →
    host.formatter ≡ Some f → f v view ≡ answer → AnswersOnly (Arises host) answer
stated_by host f v view (Ok t) e s = tt
stated_by host f v view (Err chain) e s = by_formatter f v view e s

formatted_by : (host : HostValue) (formatter : Option Format) → host.formatter ≡ formatter →
    (v : Val) (view : View) → AnswersOnly (Arises host) (formatted formatter v view)
formatted_by host None e v view = raised_arise host _ (fine_raises _ _ (emission_raises view.escape view.records v))
formatted_by host (Some f) e v view = stated_by host f v view (f v view) e refl

pub emitted_arises : (host : HostValue) (v : Val) (view : View) →
    AnswersOnly (Arises host) (unless (refusal_of host.undefined use_of.Emission v) (formatted host.formatter v view))
emitted_arises host v view =
    unless_by (Arises host) (λ kind h. raised h) (refusal_of host.undefined use_of.Emission v) _
    (refusal_raises host.undefined use_of.Emission v) (formatted_by host host.formatter refl v view)

-- ---------------------------------------------------------------- operators
pub truth_raises : (b : UndefinedBehavior) (v : Val) → Raises (truth_of b v)
truth_raises b v = unless_raises b use_of.Truth v _ tt

as_value_raises : (answer : Answer Bool) → Raises answer → Raises (as_value answer)
as_value_raises (Ok b) h = tt
as_value_raises (Err chain) h = h

negated_raises : (answer : Answer Bool) → Raises answer → Raises (negated answer)
negated_raises (Ok b) h = tt
negated_raises (Err chain) h = h

number_raises : (found : Option ℤ) → Raises (arithmetic.number_answer found)
number_raises found = by_option arithmetic.number_answer found refl (λ z. tt)

wholes_raises : (f : ℤ → ℤ → Option ℤ) (l r : Val) → Raises (arithmetic.by_wholes f l r)
wholes_raises f l r = by_option (arithmetic.applied f) (arithmetic.both (whole_in l) (whole_in r)) refl (λ p. number_raises (f p.0 p.1))

pub added_raises : (l r : Val) → Raises (arithmetic.added l r)
added_raises (text s safe) r = by_option (arithmetic.text_added s) (text_in r) refl (λ t. tt)
added_raises (list vs) r = by_option (arithmetic.list_added (list_of vs)) (list_in r) refl (λ ys. tt)
added_raises (boolean b) r = wholes_raises _ (boolean b) r
added_raises (number z) r = wholes_raises _ (number z) r
added_raises _ r = refl

pub unary_raises : (op : UnaryOperator) (b : UndefinedBehavior) (v : Val) → Raises (result_of_unary op b v)
unary_raises unaries.Not b v = negated_raises _ (truth_raises b v)
unary_raises unaries.Negate b v = by_option arithmetic.whole_negated (whole_in v) refl (λ z. number_raises _)

compared_raises : (c : ComparisonOperator) (b : UndefinedBehavior) (l r : Val) → Raises (compared c b l r)
compared_raises c b l r = unless_raises b use_of.Comparison l _ (unless_raises b use_of.Comparison r _ tt)

found_raises : (r : RecordData) (c v : Val) → Raises (found_in r c v)
found_raises r (undefined silent) v = tt
found_raises r (text s safe) v = by_option (text_contains s) (text_in v) refl (λ n. tt)
found_raises r (list vs) v = tt
found_raises r (map ps) v = tt
found_raises r (keywords ps) v = tt
found_raises r (exports ps s) v = tt
found_raises r (namespace state i) v = by_option (λ ps. namespace_contains ps v) (namespace_at r state i) refl (λ ps. tt)
found_raises r _ v = refl

contained_raises : (b : UndefinedBehavior) (r : RecordData) (c v : Val) → Raises (contained b r c v)
contained_raises b r c v = unless_raises b use_of.Containment c _ (unless_raises b use_of.Comparison v _ (found_raises r c v))

joined_fine : {A : Type 0} (v : Verdict) (answer : Answer A) → Raises v → Raises answer → Raises (joined_where_fine v answer)
joined_fine (Ok _) answer h k = k
joined_fine (Err chain) answer h k = h

concatenated_raises : (b : UndefinedBehavior) (r : RecordData) (x y : Val) → Raises (concatenated b r x y)
concatenated_raises b r x y =
    unless_raises b use_of.Comparison x _ (unless_raises b use_of.Comparison y _
    (joined_fine _ _ (print_raises r x) (joined_fine _ _ (print_raises r y) tt)))

pub binary_raises : (op : BinaryOperator) (b : UndefinedBehavior) (r : RecordData) (x y : Val) → Raises (result_of op b r x y)
binary_raises binaries.Equal b r x y = as_value_raises _ (compared_raises comparison.Equal b x y)
binary_raises binaries.NotEqual b r x y = as_value_raises _ (compared_raises comparison.NotEqual b x y)
binary_raises binaries.Less b r x y = as_value_raises _ (compared_raises comparison.Less b x y)
binary_raises binaries.LessOrEqual b r x y = as_value_raises _ (compared_raises comparison.LessOrEqual b x y)
binary_raises binaries.Greater b r x y = as_value_raises _ (compared_raises comparison.Greater b x y)
binary_raises binaries.GreaterOrEqual b r x y = as_value_raises _ (compared_raises comparison.GreaterOrEqual b x y)
binary_raises binaries.In b r x y = as_value_raises _ (contained_raises b r y x)
binary_raises binaries.NotIn b r x y = negated_raises _ (contained_raises b r y x)
binary_raises binaries.Add b r x y = added_raises x y
binary_raises binaries.Concatenate b r x y = concatenated_raises b r x y
binary_raises binaries.Divide b r x y = refl
binary_raises _ b r x y = wholes_raises _ x y

-- ---------------------------------------------------------------- members
loop_member_raises : (found : _) (n : List ℕ) → Raises (loop_member found n)
loop_member_raises found n = by_option (λ l. loop_member l n) found refl (λ l. tt)

pub attribute_raises : (b : UndefinedBehavior) (r : RecordData) (v : Val) (n : List ℕ) → Raises (attribute_of b r v n)
attribute_raises b r (undefined silent) n = unless_raises b use_of.Member (undefined silent) _ tt
attribute_raises b r (loop state i) n = loop_member_raises (loop_at r state i) n
attribute_raises b r (namespace state i) n = by_option (λ ps. member_of_namespace ps (text n false)) (namespace_at r state i) refl
    (λ ps. tt)
attribute_raises b r _ n = tt

pub item_raises : (b : UndefinedBehavior) (r : RecordData) (v k : Val) → Raises (item_of b r v k)
item_raises b r (undefined silent) k = unless_raises b use_of.Member (undefined silent) _ tt
item_raises b r (loop state i) k = by_option (λ l. loop_item l (text_in k)) (loop_at r state i) refl
    (λ l. by_option (loop_item (Some l)) (text_in k) tt (λ n. tt))
item_raises b r (namespace state i) k = by_option (λ ps. member_of_namespace ps k) (namespace_at r state i) refl (λ ps. tt)
item_raises b r _ k = tt

pub settable_raises : (r : RecordData) (v : Val) → Raises (settable r v)
settable_raises r (namespace state i) = by_option (settable_number i) (namespace_at r state i) refl (λ ps. tt)
settable_raises r _ = refl

cut_raises : (v : Val) (p : Parts) → Raises (cut v p)
cut_raises (list vs) p = tt
cut_raises (text s safe) p = tt
cut_raises (undefined silent) p = tt
cut_raises none p = tt
cut_raises _ p = refl

pub sliced_raises : (b : UndefinedBehavior) (v start stop step : Val) → Raises (sliced b v start stop step)
sliced_raises b v start stop step = unless_raises b use_of.Slice v _
    (by_option (cut_by v) (parts_in start stop step) refl (λ p. cut_raises v p))

-- ---------------------------------------------------------------- items
items_or_raises : (kind : ErrorKind) → is_raised kind ≡ true → (r : RecordData) (v : Val) → Raises (items_or kind r v)
items_or_raises kind h r (list vs) = tt
items_or_raises kind h r (map ps) = tt
items_or_raises kind h r (keywords ps) = tt
items_or_raises kind h r (exports ps s) = tt
items_or_raises kind h r (macro m) = tt
items_or_raises kind h r (loop state i) = tt
items_or_raises kind h r (namespace state i) = by_option namespace_keys (namespace_at r state i) refl (λ ps. tt)
items_or_raises kind h r _ = h

items_of_raises : (r : RecordData) (v : Val) → Raises (items_of r v)
items_of_raises r (text s safe) = tt
items_of_raises r (undefined silent) = tt
items_of_raises r v = items_or_raises InvalidOperation refl r v

pub iterated_raises : (b : UndefinedBehavior) (r : RecordData) (v : Val) → Raises (iterated b r v)
iterated_raises b r v = unless_raises b use_of.Iteration v _ (items_of_raises r v)

pub choices_raise : (r : RecordData) (v : Val) → Raises (choices_in r v)
choices_raise r (text s safe) = tt
choices_raise r v = items_or_raises InvalidOperation refl r v

exactly_raises : (n : ℕ) (answer : Answer (List Val)) → Raises answer → Raises (exactly n answer)
exactly_raises n (Ok vs) h = by_test (λ b. cond b (Ok vs) (refused CannotUnpack)) _ tt refl
exactly_raises n (Err chain) h = h

pub unpacked_raises : (r : RecordData) (n : ℕ) (v : Val) → Raises (unpacked r n v)
unpacked_raises r n v = exactly_raises n _ (items_or_raises CannotUnpack refl r v)

-- ---------------------------------------------------------------- functions of the language
no_more_raises : {A : Type 0} (n : ℕ) (vs : List Val) (answer : Answer A) → Raises answer → Raises (at_most_arguments n vs answer)
no_more_raises n vs answer h = by_test (λ b. cond b (refused TooManyArguments) answer) _ refl h

or_invalid_raises : {A : Type 0} (found : Option A) → Raises (or_invalid found)
or_invalid_raises found = by_option or_invalid found refl (λ a. tt)

later_raises : (found : Option Val) → Raises (later_in found)
later_raises None = tt
later_raises (Some (undefined silent)) = tt
later_raises (Some none) = tt
later_raises (Some v) = or_invalid_raises (some_of (bound_in v))

pub range_raises : (vs : List Val) → Raises (range_of vs)
range_raises vs =
    given_raises (required_in (slice_get vs 0)) _ (by_option required_in (slice_get vs 0) refl (λ v. or_invalid_raises (bound_in v))) (λ a.
    given_raises (later_in (slice_get vs 1)) _ (later_raises (slice_get vs 1)) (λ b.
    given_raises (later_in (slice_get vs 2)) _ (later_raises (slice_get vs 2)) (λ z.
    no_more_raises 3 vs _ (by_test (λ ok. served ok (span_of a b z)) (is_served (span_of a b z)) tt refl))))

base_raises : (r : RecordData) (found : Option Val) → Raises (base_of r found)
base_raises r None = tt
base_raises r (Some (undefined silent)) = tt
base_raises r (Some none) = tt
base_raises r (Some (map ps)) = tt
base_raises r (Some (exports ps s)) = tt
base_raises r (Some (namespace state i)) = by_option namespace_pairs (namespace_at r state i) refl (λ ps. tt)
base_raises r (Some _) = refl

pub dict_raises : (r : RecordData) (vs : List Val) → Raises (dict_of r vs)
dict_raises r vs = given_raises (base_of r (slice_get (plain_of vs) 0)) _ (base_raises r _) (λ ps. no_more_raises 1 (plain_of vs) _ tt)

pub namespace_raises : (r : RecordData) (vs : List Val) → Raises (namespace_of r vs)
namespace_raises r vs = given_raises (dict_of r vs) _ (dict_raises r vs) (λ ps. tt)

-- ---------------------------------------------------------------- what is spread
joined_raises : {A : Type 0} (f : Val → Answer (List A)) → ((v : Val) → Raises (f v)) → (vs : List Val) → Raises (joined f vs)
joined_raises f h [] = tt
joined_raises f h (v ∷ vs) = given_raises (f v) _ (h v) (λ xs. given_raises (joined f vs) _ (joined_raises f h vs) (λ ys. tt))

pub spread_items_raises : (b : UndefinedBehavior) (r : RecordData) (vs : List Val) → Raises (items_of_all b r vs)
spread_items_raises b r vs = joined_raises (spread_items b r) (λ v. unless_raises b use_of.ItemSpread v _ (items_of_raises r v)) vs

pairs_in_raises : (r : RecordData) (v : Val) → Raises (pairs_in r v)
pairs_in_raises r (map ps) = tt
pairs_in_raises r (keywords ps) = tt
pairs_in_raises r (exports ps s) = tt
pairs_in_raises r (namespace state i) = by_option namespace_pairs (namespace_at r state i) refl (λ ps. tt)
pairs_in_raises r _ = refl

pub merged_raises : (b : UndefinedBehavior) (r : RecordData) (vs : List Val) → Raises (merged b r vs)
merged_raises b r vs =
    given_raises (joined (spread_pairs b r) vs) _
    (joined_raises (spread_pairs b r) (λ v. unless_raises b use_of.KeywordSpread v _ (pairs_in_raises r v)) vs) (λ ps. tt)

-- ---------------------------------------------------------------- names and escapes
context_raises : (r : RecordData) (x : List ℕ) (v : Val) → Raises (context_member r x v)
context_raises r x (namespace state n) = by_option (λ ps. namespace_member ps x) (namespace_at r state n) refl (λ ps. tt)
context_raises r x _ = tt

or_on_raises : (found : Option Val) (f : Unit {0} → Answer (Option Val)) → Raises (f tt) → Raises (or_on found f)
or_on_raises None f h = h
or_on_raises (Some v) f h = tt

or_on_answer_raises : (answer : Answer (Option Val)) (f : Unit {0} → Answer (Option Val)) → Raises answer → Raises (f tt) →
    Raises (or_on_answer answer f)
or_on_answer_raises (Ok found) f h k = or_on_raises found f k
or_on_answer_raises (Err chain) f h k = h

frames_raises : (view : View) (x : List ℕ) (frames : List Scope) → Raises (in_frames view x frames)
frames_raises view x [] = tt
frames_raises view x (s ∷ ss) = or_on_raises (in_scope view x s) _
    (or_on_answer_raises (context_member view.records x s.context) _ (context_raises view.records x s.context) (frames_raises view x ss))

pub name_raises : (view : View) (x : List ℕ) → Raises (find_name view x)
name_raises view x = or_on_answer_raises (in_frames view x view.frames) _ (frames_raises view x view.frames) tt

pub method_raises : (r : RecordData) (x : List ℕ) (v : Val) → Raises (method_in r x v)
method_raises r x (macro m) = tt
method_raises r x v = context_raises r x v

named_raises : (name : List ℕ) → Raises (escape_named name)
named_raises name =
    by_test (λ b. if b then Ok escapes.Html else if same_name name (codes "json") then Ok escapes.Json else if same_name name
    (codes "none") then Ok escapes.None else invalid) (same_name name (codes "html")) tt
    (by_test (λ b. if b then Ok escapes.Json else if same_name name (codes "none") then Ok escapes.None else invalid)
    (same_name name (codes "json")) tt
    (by_test (λ b. if b then Ok escapes.None else invalid) (same_name name (codes "none")) tt refl))

pub escape_raises : (first : AutoEscape) (v : Val) → Raises (escape_for first v)
escape_raises first (text name safe) = named_raises name
escape_raises first _ = tt
