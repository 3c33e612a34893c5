use Rattle.std.proofs.Common.{ℕ, List, ◌≡◌, ◌||◌, take}
use Rattle.tm_syntax.specs.Named.{texts_of}
use Rattle.tm_scopes.specs.Known.{has_text, is_among}
use Rattle.tm_scopes.proofs.frame.add_texts.Given as goal

abbrev pub invariant-loop-pair : goal.invariant-loop-pair
invariant-loop-pair l =
    (x : List ℕ) → is_among x (texts_of l.names.items) ≡ (is_among x (texts_of l.fn.names.items) || has_text x (take l.pair-index l.pairs))
