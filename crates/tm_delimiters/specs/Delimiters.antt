-- The bytes of a delimiter.
use Rattle.std.specs.Prelude.{ℕ, List, string_bytes}
use Rattle.tm_delimiters.specs.declared.delimiter.Text.{Text}
use Rattle.tm_delimiters.specs.declared.delimiter.Text.TheVariants as text

abbrev pub bytes_of : Text → List ℕ
bytes_of (text.Literal bytes) = bytes.now
bytes_of (text.Owned bytes) = string_bytes bytes
