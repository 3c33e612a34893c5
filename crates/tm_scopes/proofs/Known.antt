-- Names that stand among others, and what look-ups find of them.
use Rattle.std.proofs.Common.{◌≡◌, ◌||◌, ◌&&◌, ℕ, List, [], ◌∷◌, ◌++◌, Bool, true, false, cond}
use Rattle.std.proofs.Common.{Bor, Ordering, Option, Some, None, Ok, Err, is_some, option_map, true≢false, Result, refl}
use Rattle.std.proofs.Common.{sym, ap, subst, ◌∙◌}
use Rattle.std.proofs.lemmas.List.Folds.{list_any-append}
use Rattle.std.proofs.lemmas.List.Sorted.{list_any-IsPermutation}
use Rattle.std.proofs.lemmas.Map.Made.{is_some-lookup}
use Rattle.std.proofs.lemmas.Map.Text.{is_eq-slice_cmp}
use Rattle.std.proofs.lemmas.Slice.Eq.{bytes_eq-Decides}
use Rattle.std.specs.BTreeMap.{is_at}
use Rattle.std.specs.List.{AllByRecursion, dedup, dedup_from, list_any}
use Rattle.std.specs.List.Sorted.{IsPermutation, IsStrictlySortedBy}
use Rattle.std.specs.Map.{keys_of}
use Rattle.std.specs.Option.{option_map_or}
use Rattle.std.specs.Ordering.{is_eq, match_ordering}
use Rattle.std.specs.Prelude.{IfErr, IsErrAnd, codes, option_and_then, slice_get}
use Rattle.std.specs.Str.{bytes_eq}
use Rattle.std.specs.declared.cmp.Ordering.TheVariants.{Less, Equal, Greater}
use Rattle.tm_syntax.specs.Named.{name_cmp, same_name, texts_of, find as find_named}
use Rattle.tm_values.proofs.Maps.{above}
use Rattle.tm_values.specs.Answer.{Answer}
use Rattle.tm_values.specs.Map.{IsAbove, IsMap, find}
use Rattle.tm_values.specs.Order.{val_cmp}
use Rattle.tm_values.specs.Val.{Val, undefined, none, boolean, number, text, list, map as maps, keywords, exports, function, macro, loop}
use Rattle.tm_values.specs.Val.{namespace, text_in}
use Rattle.tm_meaning.specs.World.{Bindings, Scope, View, context_member, find_name, in_frames, in_scope, marked_loop, or_else, or_on}
use Rattle.tm_meaning.specs.World.{or_on_answer, read_closure}
use Rattle.tm_meaning.specs.declared.mark.LoopMark.{LoopMark}
use Rattle.tm_scopes.specs.Known.{AreFound, AreKnownIn, has_text, is_among, is_found}
use Rattle.tm_scopes.specs.Known.{or_else_found}
use Rattle.tm_scopes.specs.Closures.{names_of, names_read}

-- ---------------------------------------------------------------- names in order, each once
abbrev pub order : Bor (List ℕ) → Bor (List ℕ) → Ordering
order x y = name_cmp x.now y.now

abbrev pub same : Bor (List ℕ) → Bor (List ℕ) → Bool
same x y = bytes_eq x.now y.now

all-texts : (P : List ℕ → Type 0) (names : List (Bor (List ℕ))) → AllByRecursion (λ name. P name.now) names →
    AllByRecursion P (texts_of names)
all-texts P [] h = tt
all-texts P (name ∷ names) h = (h.0, all-texts P names h.1)

pub sorted-texts : (names : List (Bor (List ℕ))) → IsStrictlySortedBy order names → IsStrictlySortedBy name_cmp (texts_of names)
unfolding IsStrictlySortedBy
sorted-texts [] h = tt
sorted-texts (name ∷ names) h = (all-texts (λ y. name_cmp name.now y ≡ Less) names h.0, sorted-texts names h.1)

any-texts : (test : List ℕ → Bool) (names : List (Bor (List ℕ))) → list_any test (texts_of names) ≡ list_any (λ name. test name.now) names
any-texts test [] = refl
any-texts test (name ∷ names) = ap (λ b. test name.now || b) (any-texts test names)

twice : (a b rest : Bool) → b ≡ a → (a || rest) ≡ (a || (b || rest))
twice true b rest e = refl
twice false b rest e = ap (λ c. c || rest) (sym e)

module _ (test : List ℕ → Bool) where
  abbrev tests : List (Bor (List ℕ)) → Bool
  tests = list_any (λ name. test name.now)

  dropped : (b : Bool) (k x : Bor (List ℕ)) (rest : List (Bor (List ℕ))) → same x k ≡ b →
      (tests (dedup_from same k rest) ≡ (test k.now || tests rest)) → (tests (dedup_from same x rest) ≡ (test x.now || tests rest)) →
      tests (cond b (dedup_from same k rest) (k ∷ dedup_from same x rest)) ≡ (test k.now || (test x.now || tests rest))
  dropped true k x rest e at_k at_x = at_k ∙ twice (test k.now) (test x.now) (tests rest) (ap test ((bytes_eq-Decides x.now k.now).0 e))
  dropped false k x rest e at_k at_x = ap (λ b. test k.now || b) at_x

  any-dedup_from : (k : Bor (List ℕ)) (names : List (Bor (List ℕ))) → tests (dedup_from same k names) ≡ (test k.now || tests names)
  any-dedup_from k [] = refl
  any-dedup_from k (x ∷ names) = dropped (same x k) k x names refl (any-dedup_from k names) (any-dedup_from x names)

  any-dedup : (names : List (Bor (List ℕ))) → tests (dedup same names) ≡ tests names
  any-dedup [] = refl
  any-dedup (k ∷ names) = any-dedup_from k names

-- sorted, and without the second of two that are the same, they are the same names
pub among-sorted : (names moved : List (Bor (List ℕ))) → IsPermutation names moved → (x : List ℕ) →
    is_among x (texts_of (dedup same moved)) ≡ is_among x (texts_of names)
among-sorted names moved p x =
    any-texts (is_at (name_cmp x)) (dedup same moved)
    ∙ any-dedup (is_at (name_cmp x)) moved
    ∙ sym (list_any-IsPermutation (λ name. is_at (name_cmp x) name.now) names moved p)
    ∙ sym (any-texts (is_at (name_cmp x)) names)

-- ---------------------------------------------------------------- texts among the keys of a map
text-key : (x : List ℕ) (k : Val) → option_map_or (is_at (name_cmp x)) (text_in k) false ≡ is_eq (val_cmp (text x false) k)
text-key x (undefined silent) = refl
text-key x none = refl
text-key x (boolean b) = refl
text-key x (number z) = refl
text-key x (text s safe) = refl
text-key x (list vs) = refl
text-key x (maps ps) = refl
text-key x (keywords ps) = refl
text-key x (exports ps s) = refl
text-key x (function n) = refl
text-key x (macro m) = refl
text-key x (loop state n) = refl
text-key x (namespace state n) = refl

none-above : (x : List ℕ) (ps : List (Val × Val)) → IsAbove (text x false) ps → has_text x ps ≡ false
none-above x [] h = refl
none-above x (p ∷ ps) h = rw (text-key x p.0, h.0) (none-above x ps h.1)

text-first : (o : Ordering) (x : List ℕ) (p : Val × Val) (ps : List (Val × Val)) → val_cmp (text x false) p.0 ≡ o → IsAbove p.0 ps →
    has_text x ps ≡ is_some (find (text x false) ps) →
    (is_eq o || has_text x ps) ≡ is_some (match_ordering o None (Some p.1) (find (text x false) ps))
text-first Less x p ps e m more = none-above x ps (above (text x false) p.0 ps e m)
text-first Equal x p ps e m more = refl
text-first Greater x p ps e m more = more

texts-found : (x : List ℕ) (ps : List (Val × Val)) → IsMap ps → has_text x ps ≡ is_some (find (text x false) ps)
texts-found x [] m = refl
texts-found x (p ∷ ps) m =
    ap (λ b. b || has_text x ps) (text-key x p.0) ∙ text-first (val_cmp (text x false) p.0) x p ps refl m.0 (texts-found x ps m.1)

-- ---------------------------------------------------------------- what a scope finds
pub among-both : (x : List ℕ) (names more : List (Bor (List ℕ))) →
    is_among x (texts_of (names ++ more)) ≡ (is_among x (texts_of names) || is_among x (texts_of more))
among-both x names more =
    any-texts (is_at (name_cmp x)) (names ++ more) ∙ list_any-append (λ name. is_at (name_cmp x) name.now) names more
    ∙ ap (λ b. b || list_any (λ name. is_at (name_cmp x) name.now) more) (sym (any-texts (is_at (name_cmp x)) names))
    ∙ ap (λ b. is_among x (texts_of names) || b) (sym (any-texts (is_at (name_cmp x)) more))

pub or-false : (a : Bool) → (a || false) ≡ a
or-false true = refl
or-false false = refl

pub among-one : (x : List ℕ) (names : List (Bor (List ℕ))) (name : Bor (List ℕ)) →
    is_among x (texts_of (names ++ name ∷ [])) ≡ (is_among x (texts_of names) || same_name x name.now)
among-one x names name =
    among-both x names (name ∷ []) ∙ ap (λ b. is_among x (texts_of names) || b) (or-false (is_at (name_cmp x) name.now)
    ∙ is_eq-slice_cmp x name.now)

here : (b : Bool) (v : Val) → is_some (cond b (Some v) None) ≡ b
here true v = refl
here false v = refl

marked : (variable : Bool) (n : ℕ) (r : Option ℕ) (x : List ℕ) →
    option_map (λ n. loop 0 n) r ≡ cond (variable && same_name (codes "loop") (codes "loop")) (Some (loop 0 n)) None →
    (variable && same_name x (codes "loop")) ≡ (is_some r && same_name x (codes "loop"))
marked true n (Some k) x h = refl
marked true n None x h = absurd (true≢false (ap is_some (sym h)))
marked false n (Some k) x h = absurd (true≢false (ap is_some h))
marked false n None x h = refl

-- whether a name is that of a scope's loop, which has one here where the name `loop` has it
pub loop-found : (id : ℕ) (m : Option LoopMark) (r : Option ℕ) (x : List ℕ) →
    ((id : ℕ) → option_map (λ n. loop id n) r ≡ marked_loop id m (codes "loop")) →
    is_some (marked_loop id m x) ≡ (is_some r && same_name x (codes "loop"))
loop-found id None None x h = refl
loop-found id None (Some n) x h = absurd (true≢false (ap is_some (h 0)))
loop-found id (Some m) r x h = here (m.variable && same_name x (codes "loop")) (loop id m.number) ∙ marked m.variable m.number r x (h 0)

or-else : (a b : Option Val) → is_some (or_else a b) ≡ (is_some a || is_some b)
or-else None b = refl
or-else (Some v) b = refl

own-found : (own : Option Val) (member : Option Val) →
    is_found (or_on own (λ _. or_on_answer (Ok member) (λ _. Ok None))) ≡ Ok (is_some own || is_some member)
own-found (Some v) member = refl
own-found None (Some v) = refl
own-found None None = refl

regrouped : (a b c d e : Bool) → (a || ((b || (c || d)) || e)) ≡ ((((a || b) || c) || d) || e)
regrouped true b c d e = refl
regrouped false true c d e = refl
regrouped false false true d e = refl
regrouped false false false d e = refl

-- what a closure has is among the names that are read of it
pub closure-found : (x : List ℕ) (cs : List Bindings) (r : Option ℕ) → is_some (read_closure cs r x) ≡ is_among x (names_read cs r)
closure-found x cs None = refl
closure-found x cs (Some n) = by (slice_get cs n)
  where
    by : (o : Option Bindings) → is_some (option_and_then (find_named x) o) ≡ is_among x (names_of o)
    by None = refl
    by (Some c) = is_some-lookup (is_at (name_cmp x)) c

-- A scope adds its locals, its loop's name, the names of the closure that it reads, and the texts of its context value.
pub scope-adds : (view : View) (s : Scope) (x : List ℕ) (pairs : List (Val × Val)) (before : Bool) →
    context_member view.records x s.context ≡ Ok (find (text x false) pairs) → IsMap pairs →
    or_else_found before (is_found (in_frames view x (s ∷ [])))
    ≡ Ok ((((before || is_among x (keys_of s.locals)) || is_some (marked_loop view.records.state s.mark x))
    || is_among x (names_read view.closures s.reads)) || has_text x pairs)
scope-adds view s x pairs before member m =
    let loop = is_some (marked_loop view.records.state s.mark x) in
    let enclosed = is_among x (names_read view.closures s.reads) in
    let own : is_some (in_scope view x s) ≡ (is_among x (keys_of s.locals) || (loop || enclosed)) =
    or-else (find_named x s.locals) (or_else (marked_loop view.records.state s.mark x) (read_closure view.closures s.reads x))
    ∙ ap (λ b. b || is_some (or_else (marked_loop view.records.state s.mark x) (read_closure view.closures s.reads x)))
    (is_some-lookup (is_at (name_cmp x)) s.locals)
    ∙ ap (λ b. is_among x (keys_of s.locals) || b) (or-else (marked_loop view.records.state s.mark x) (read_closure view.closures s.reads x)
    ∙ ap (λ b. loop || b) (closure-found x view.closures s.reads)) in
    let found : is_found (in_frames view x (s ∷ [])) ≡ Ok (is_some (in_scope view x s) || is_some (find (text x false) pairs)) =
    ap (λ (a : Answer (Option Val)). is_found (or_on (in_scope view x s) (λ _. or_on_answer a (λ _. Ok None)))) member
    ∙ own-found (in_scope view x s) (find (text x false) pairs) in
    ap (or_else_found before) (found ∙ ap (λ b. Ok (b || is_some (find (text x false) pairs))) own
    ∙ ap (λ b. Ok ((is_among x (keys_of s.locals) || (loop || enclosed)) || b)) (sym (texts-found x pairs m)))
    ∙ ap (λ b. Ok b) (regrouped before (is_among x (keys_of s.locals)) loop enclosed (has_text x pairs))

-- ---------------------------------------------------------------- errors
-- an error that is passed on
pub passed : {T E : Type 0} (result : Result T E) (Q : E → Type 0) (e : E) → IsErrAnd result (λ x. x ≡ e) → Q e → IfErr result Q
passed (Ok x) Q e p q = tt
passed (Err y) Q e p q = subst Q (sym p) q

-- ---------------------------------------------------------------- the globals after the scopes
abbrev found_or : Answer Bool → Bool → Answer Bool
found_or (Ok found) other = Ok (found || other)
found_or (Err chain) other = Err chain

globals-after : (o : Answer (Option Val)) (global : Option Val) →
    is_found (or_on_answer o (λ _. Ok global)) ≡ found_or (is_found o) (is_some global)
globals-after (Ok (Some v)) global = refl
globals-after (Ok None) global = refl
globals-after (Err chain) global = refl

-- What a look-up finds in the scopes, or after them, are the names of both in their order.
pub known-after : (o : Answer (Option Val)) (x : List ℕ) (globals : Bindings) (scoped global joined ordered : List (Bor (List ℕ))) →
    is_found o ≡ Ok (is_among x (texts_of scoped)) →
    texts_of global ≡ keys_of globals → joined ≡ scoped ++ global → is_among x (texts_of ordered) ≡ is_among x (texts_of joined) →
    is_found (or_on_answer o (λ _. Ok (find_named x globals))) ≡ Ok (is_among x (texts_of ordered))
known-after o x globals scoped global joined ordered h of_globals both same =
    let all : is_among x (texts_of ordered) ≡ (is_among x (texts_of scoped) || is_among x (keys_of globals)) =
    same ∙ ap (λ names. is_among x (texts_of names)) both ∙ among-both x scoped global
    ∙ ap (λ names. is_among x (texts_of scoped) || is_among x names) of_globals in
    globals-after o (find_named x globals) ∙ ap (λ (a : Answer Bool). found_or a (is_some (find_named x globals))) h
    ∙ ap (λ b. Ok (is_among x (texts_of scoped) || b)) (is_some-lookup (is_at (name_cmp x)) globals) ∙ ap (λ b. Ok b) (sym all)

-- what is known in each view is known in this one
pub known-in : (view : View) (closures : List Bindings) (frames : List Scope) (globals : Bindings) (names : List (List ℕ)) →
    view.closures ≡ closures → view.frames ≡ frames → view.globals ≡ globals → AreKnownIn view.records closures frames globals names →
    AreFound (find_name view) names
known-in view closures frames globals names enclosed here there known x =
    ap (λ (scopes : List Scope). is_found (find_name (record view { frames = scopes }) x)) here
    ∙ ap (λ (bindings : Bindings). is_found (find_name (record view { frames = frames; globals = bindings }) x)) there ∙ known view refl enclosed x
