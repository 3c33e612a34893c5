-- Delimiters, as bytes, and how newlines and indents next to them are treated.
use Rattle.std.specs.Prelude.{◌≢◌, ℕ, List, [], Bool, false, codes}

pub record Syntax : Type 0 where
  pub block_start : List ℕ
  pub block_end : List ℕ
  pub variable_start : List ℕ
  pub variable_end : List ℕ
  pub comment_start : List ℕ
  pub comment_end : List ℕ
  pub trim_blocks : Bool
  pub lstrip_blocks : Bool
  pub keep_trailing_newline : Bool

-- no delimiter is empty
pub record HasAll (s : Syntax) : Type 0 where
  pub block_start : s.block_start ≢ []
  pub block_end : s.block_end ≢ []
  pub variable_start : s.variable_start ≢ []
  pub variable_end : s.variable_end ≢ []
  pub comment_start : s.comment_start ≢ []
  pub comment_end : s.comment_end ≢ []

pub record StartsDiffer (s : Syntax) : Type 0 where
  pub from_variable : s.block_start ≢ s.variable_start
  pub from_comment : s.block_start ≢ s.comment_start
  pub of_others : s.variable_start ≢ s.comment_start

abbrev pub IsUsable : Syntax → Type 0
IsUsable s = HasAll s × StartsDiffer s

abbrev pub default_syntax : Syntax
default_syntax = record {
  block_start = codes "{%";
  block_end = codes "%}";
  variable_start = codes "{{";
  variable_end = codes "}}";
  comment_start = codes "{#";
  comment_end = codes "#}";
  trim_blocks = false;
  lstrip_blocks = false;
  keep_trailing_newline = false;
}
