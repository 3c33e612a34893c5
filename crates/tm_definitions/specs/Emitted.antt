-- The text that is written for an emitted value, under an escape.
use Rattle.std.specs.Prelude.{ℕ, true, false, List, [], flat_map}
use Rattle.std.specs.Result.{result_map_both}
use Rattle.tm_values.specs.Answer.{Answer, invalid}
use Rattle.tm_values.specs.Records.{RecordData}
use Rattle.tm_values.specs.Val.{Val, text}
use Rattle.tm_values.specs.declared.escape.AutoEscape.{AutoEscape}
use Rattle.tm_values.specs.declared.escape.AutoEscape.TheVariants as escape
use Rattle.tm_definitions.specs.Texts.{in_html}
use Rattle.tm_definitions.specs.Printed.{printed}
use Rattle.tm_definitions.specs.Json.{json_text}
use Rattle.tm_definitions.specs.Verdicts.{Verdict, fine, print_verdict, json_verdict}

abbrev pub escaped_verdict : AutoEscape → RecordData → Val → Verdict
escaped_verdict escape.None r v = print_verdict r v
escaped_verdict escape.Html r v = print_verdict r v
escaped_verdict escape.Json r v = json_verdict r v
escaped_verdict (escape.Custom name) r v = invalid

-- a safe text can always be emitted, unchanged
abbrev pub emission_verdict : AutoEscape → RecordData → Val → Verdict
emission_verdict e r (text s true) = fine
emission_verdict e r v = escaped_verdict e r v

abbrev pub html_text : RecordData → Val → List ℕ
html_text r v = flat_map in_html (printed r v)

abbrev pub escaped_text : AutoEscape → RecordData → Val → List ℕ
escaped_text escape.None r v = printed r v
escaped_text escape.Html r v = html_text r v
escaped_text escape.Json r v = json_text r v
escaped_text (escape.Custom name) r v = []

abbrev pub emitted_text : AutoEscape → RecordData → Val → List ℕ
emitted_text e r (text s true) = s
emitted_text e r v = escaped_text e r v

-- applies a function to the value of an answer
abbrev pub map_ok : {A B : Type 0} → (A → B) → Answer A → Answer B
map_ok f answer = result_map_both f (λ e. e) answer

-- the printed text of a value, or the error
abbrev pub text_answer : RecordData → Val → Answer (List ℕ)
text_answer r v = map_ok (λ _. printed r v) (print_verdict r v)
