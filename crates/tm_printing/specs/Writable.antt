-- Values that are never refused in a form, whatever the records are.
use Rattle.std.specs.Prelude.{Bool}
use Rattle.tm_values.specs.Writable.{writable_of}
use Rattle.tm_values.specs.Val.{Val}
use Rattle.tm_values.specs.declared.writable.Writable.{Writable}
use Rattle.tm_definitions.specs.declared.output_format.OutputFormat.{OutputFormat}
use Rattle.tm_definitions.specs.declared.output_format.OutputFormat.TheVariants.{Printed, Json}

abbrev pub holds_in : OutputFormat → Writable → Bool
holds_in Printed writable = writable.in_print
holds_in Json writable = writable.in_json

abbrev pub is_plain : OutputFormat → Val → Bool
is_plain form v = holds_in form (writable_of v)
