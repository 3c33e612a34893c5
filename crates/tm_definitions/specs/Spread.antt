-- The arguments that `*` and `**` add to a call.
use Rattle.std.specs.Prelude.{List, [], ◌∷◌, ◌++◌, Ok}
use Rattle.tm_definitions.specs.Iteration.{items_of}
use Rattle.tm_definitions.specs.Maps.{namespace_pairs}
use Rattle.tm_definitions.specs.Ranges.{given}
use Rattle.tm_values.specs.Answer.{Answer, invalid}
use Rattle.tm_values.specs.Defined.{refusal_of, unless}
use Rattle.tm_values.specs.Map.{put_all}
use Rattle.tm_values.specs.Records.{RecordData, namespace_at}
use Rattle.tm_values.specs.Val.{Val, map, keywords, exports, namespace, entries_of}
use Rattle.tm_values.specs.declared.undefined.UndefinedBehavior.{UndefinedBehavior}
use Rattle.tm_values.specs.declared.undefined.UndefinedUse.TheVariants.{ItemSpread, KeywordSpread}

-- the results for each value, concatenated; the first error is the result
abbrev pub joined : {A : Type 0} → (Val → Answer (List A)) → List Val → Answer (List A)
joined f [] = Ok []
joined f (v ∷ vs) = given (f v) (λ xs. given (joined f vs) (λ ys. Ok (xs ++ ys)))

-- the items of a value after `*`
abbrev pub spread_items : UndefinedBehavior → RecordData → Val → Answer (List Val)
spread_items b r v = unless (refusal_of b ItemSpread v) (items_of r v)

abbrev pub items_of_all : UndefinedBehavior → RecordData → List Val → Answer (List Val)
items_of_all b r vs = joined (spread_items b r) vs

-- the pairs of a map, a keyword map, a module or a namespace
abbrev pub pairs_in : RecordData → Val → Answer (List (Val × Val))
pairs_in r (map ps) = Ok (entries_of ps)
pairs_in r (keywords ps) = Ok (entries_of ps)
pairs_in r (exports ps s) = Ok (entries_of ps)
pairs_in r (namespace state i) = namespace_pairs (namespace_at r state i)
pairs_in r _ = invalid

-- the pairs of a value after `**`
abbrev pub spread_pairs : UndefinedBehavior → RecordData → Val → Answer (List (Val × Val))
spread_pairs b r v = unless (refusal_of b KeywordSpread v) (pairs_in r v)

-- the map of all pairs: of equal keys, the first spelling and the last value
abbrev pub merged : UndefinedBehavior → RecordData → List Val → Answer (List (Val × Val))
merged b r vs = given (joined (spread_pairs b r) vs) (λ ps. Ok (put_all ps))
