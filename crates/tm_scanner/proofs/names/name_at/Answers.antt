use Rattle.std.proofs.Common.{◌≡◌, ℕ, List, [], None, sym, ◌∙◌, ap}
use Rattle.std.specs.Prelude.{option_map, encode_utf8_all}
use Rattle.std.specs.Str.{chars}
use Rattle.std.proofs.lemmas.Str.{chars-nil}
use Rattle.tm_scanner.specs.Names.{name_in, name_at}
use Rattle.tm_delimiters.specs.Views.{cut_of}
use Rattle.tm_scanner.proofs.names.name_at.Goals as goal

no_name : (text : List ℕ) → text ≡ [] → None ≡ name_at text
no_name text e = sym (ap (λ cs. option_map (λ (x : List ℕ × List ℕ). (encode_utf8_all x.0, encode_utf8_all x.1)) (name_in cs)) (ap chars e
    ∙ chars-nil))

pub returns-in_err-c-clause-value : goal.returns-in_err-c-clause-value
returns-in_err-c-clause-value c = ap cut_of c.from_residual.ensures ∙ no_name c.args.text.now c.in_err-c.ensures.value
