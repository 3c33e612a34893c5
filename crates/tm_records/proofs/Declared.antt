-- The streams that declared macros.
use Rattle.std.proofs.Common.{◌≡◌, ◌<◌, ◌≤◌, ◌+◌, ◌&&◌, ◌||◌, ℕ, zero, suc, List, [], ◌∷◌, ◌++◌, length, get_or, drop, Option, Some, None, Bool}
use Rattle.std.proofs.Common.{true, false, cond, true≢false, refl, sym, ap, ◌∙◌, arith}
use Rattle.std.proofs.Math.Seq.{drop-cons}
use Rattle.std.specs.Cmp.Lexicographic.{same_text}
use Rattle.tm_meaning.specs.declared.stream.StreamId.{StreamId}
use Rattle.tm_meaning.specs.declared.stream.TemplateId.{TemplateId}
use Rattle.tm_meaning.specs.declared.stream.TemplateId.TheVariants.{Own as own, Entry as entry}
use Rattle.tm_meaning.specs.World.{is_there, same_block, same_stream, same_template, stream_from, with_stream}
use Rattle.tm_records.specs.Streams.{AreDistinct}

both : (a b : Bool) → (a && b) ≡ true → (a ≡ true) × (b ≡ true)
both true b e = (refl, e)
both false b e = absurd (true≢false (sym e))

templates_same : (s t : TemplateId) → same_template s t ≡ true → s ≡ t
templates_same own own e = refl
templates_same own (entry y) e = absurd (true≢false (sym e))
templates_same (entry x) own e = absurd (true≢false (sym e))
templates_same (entry x) (entry y) e = ap entry (same_text x y (sym e))

blocks_same : (b c : Option (List ℕ)) → same_block b c ≡ true → b ≡ c
blocks_same None None e = refl
blocks_same None (Some y) e = absurd (true≢false (sym e))
blocks_same (Some x) None e = absurd (true≢false (sym e))
blocks_same (Some x) (Some y) e = ap Some (same_text x y (sym e))

-- streams that are the same are one
pub streams_same : (s t : StreamId) → same_stream s t ≡ true → s ≡ t
streams_same s t e =
    let parts = both (same_template s.template t.template) (same_block s.block t.block) e in
    ap (λ x. record { template = x; block = s.block }) (templates_same s.template t.template parts.0)
    ∙ ap (λ x. record { template = t.template; block = x }) (blocks_same s.block t.block parts.1)

-- ---------------------------------------------------------------- numbers
pub numbered_after : (n : ℕ) (s : StreamId) (ts : List StreamId) → is_there s ts ≡ false → stream_from n s ts ≡ n + length ts
numbered_after n s [] e = omega arith
numbered_after n s (t ∷ ts) e = by (same_stream s t) e (numbered_after (n + 1) s ts)
  where
    by : (b : Bool) → (b || is_there s ts) ≡ false → (is_there s ts ≡ false → stream_from (n + 1) s ts ≡ n + 1 + length ts) →
        cond b n (stream_from (n + 1) s ts) ≡ n + length (t ∷ ts)
    by true e more = absurd (true≢false e)
    by false e more = let after = more e in omega (arith, after)

pub numbered_within : (n : ℕ) (s : StreamId) (ts : List StreamId) → is_there s ts ≡ true → stream_from n s ts < n + length ts
numbered_within n s [] e = absurd (true≢false (sym e))
numbered_within n s (t ∷ ts) e = by (same_stream s t) e (numbered_within (n + 1) s ts)
  where
    by : (b : Bool) → (b || is_there s ts) ≡ true → (is_there s ts ≡ true → stream_from (n + 1) s ts < n + 1 + length ts) →
        cond b n (stream_from (n + 1) s ts) < n + length (t ∷ ts)
    by true e more = omega arith
    by false e more = let within = more e in omega (arith, within)

there_at : (s t : StreamId) (ts : List StreamId) (k : ℕ) → k < length ts → t ≡ get_or ts k t → same_stream s t ≡ true → is_there s ts ≡ true
there_at s t [] k h e same = absurd (omega (arith, h))
there_at s t (u ∷ ts) zero h e same = ap (λ b. b || is_there s ts) (ap (same_stream s) (sym e) ∙ same)
there_at s t (u ∷ ts) (suc k) h e same = ap (λ b. same_stream s u || b) (there_at s t ts k (omega (arith, h)) e same) ∙ or_true (same_stream s u)
  where
    or_true : (b : Bool) → (b || true) ≡ true
    or_true true = refl
    or_true false = refl

-- of streams that stand there once the last one has the last number
pub last_number : (n : ℕ) (s t : StreamId) (ts : List StreamId) (k : ℕ) → AreDistinct ts → length ts ≡ suc k → t ≡ get_or ts k t →
    same_stream s t ≡ true → stream_from n s ts ≡ n + k
last_number n s t [] k d h e same = absurd (omega (arith, h))
last_number n s t (u ∷ ts) zero d h e same = ap (λ b. cond b n (stream_from (n + 1) s ts)) (ap (same_stream s) (sym e) ∙ same) ∙ omega arith
last_number n s t (u ∷ ts) (suc k) d h e same =
    let more : length ts ≡ suc k = omega (arith, h) in
    let other : same_stream s u ≡ false = apart (same_stream s u) refl in
    let rest = last_number (n + 1) s t ts k d.1 more e same in
    ap (λ b. cond b n (stream_from (n + 1) s ts)) other ∙ omega (arith, rest)
  where
    apart : (b : Bool) → same_stream s u ≡ b → b ≡ false
    apart true at =
        let within : k < length ts = omega (arith, h) in
        absurd (true≢false (sym (there_at s t ts k within e same) ∙ ap (λ v. is_there v ts) (streams_same s u at) ∙ d.0))
    apart false at = refl

-- ---------------------------------------------------------------- one stream more
not_there : (s t : StreamId) → same_stream s t ≡ false → (b : Bool) → same_stream t s ≡ b → b ≡ false
not_there s t apart true at =
    absurd (true≢false (sym at ∙ ap (λ v. same_stream v s) (streams_same t s at) ∙ ap (same_stream s) (sym (streams_same t s at)) ∙ apart))
not_there s t apart false at = refl

neither : (a b : Bool) → (a || b) ≡ false → (a ≡ false) × (b ≡ false)
neither true b e = absurd (true≢false e)
neither false b e = (refl, e)

is_there-more : (t s : StreamId) (ts : List StreamId) → is_there t ts ≡ false → same_stream t s ≡ false → is_there t (ts ++ s ∷ []) ≡ false
is_there-more t s [] e f = ap (λ b. b || false) f
is_there-more t s (u ∷ ts) e f =
    let parts = neither (same_stream t u) (is_there t ts) e in
    ap (λ b. b || is_there t (ts ++ s ∷ [])) parts.0 ∙ is_there-more t s ts parts.1 f

pub distinct_more : (s : StreamId) (ts : List StreamId) → AreDistinct ts → is_there s ts ≡ false → AreDistinct (ts ++ s ∷ [])
distinct_more s [] d e = (refl, tt)
distinct_more s (t ∷ ts) d e =
    let parts = neither (same_stream s t) (is_there s ts) e in
    (is_there-more t s ts d.0 (not_there s t parts.0 _ refl), distinct_more s ts d.1 parts.1)

-- whether a stream stands there, by its number
pub is_new : (s : StreamId) (ts : List StreamId) → length ts ≤ stream_from 0 s ts → is_there s ts ≡ false
is_new s ts h = by (is_there s ts) refl
  where
    by : (b : Bool) → is_there s ts ≡ b → b ≡ false
    by true e = let within = numbered_within 0 s ts e in absurd (omega (arith, within, h))
    by false e = refl

pub is_known : (s : StreamId) (ts : List StreamId) → stream_from 0 s ts < length ts → is_there s ts ≡ true
is_known s ts h = by (is_there s ts) refl
  where
    by : (b : Bool) → is_there s ts ≡ b → b ≡ true
    by true e = refl
    by false e = let after = numbered_after 0 s ts e in absurd (omega (arith, after, h))

pub added : (s : StreamId) (ts : List StreamId) → length ts ≤ stream_from 0 s ts → ts ++ s ∷ [] ≡ with_stream s ts
added s ts h = ap (λ b. cond b ts (ts ++ s ∷ [])) (sym (is_new s ts h))

pub stays : (s : StreamId) (ts : List StreamId) → stream_from 0 s ts < length ts → ts ≡ with_stream s ts
stays s ts h = ap (λ b. cond b ts (ts ++ s ∷ [])) (sym (is_known s ts h))

-- one after the other
pub found_here : (place : ℕ) (s t : StreamId) (ts : List StreamId) → place < length ts → t ≡ get_or ts place t → same_stream s t ≡ true →
    stream_from place s (drop place ts) ≡ place
found_here place s t ts h e same =
    ap (stream_from place s) (drop-cons ts place t h ∙ ap (λ u. u ∷ drop (suc place) ts) (sym e))
    ∙ ap (λ b. cond b place (stream_from (place + 1) s (drop (suc place) ts))) same

pub not_here : (place : ℕ) (s t : StreamId) (ts : List StreamId) → place < length ts → t ≡ get_or ts place t → same_stream s t ≡ false →
    stream_from place s (drop place ts) ≡ stream_from (place + 1) s (drop (place + 1) ts)
not_here place s t ts h e apart =
    let next : suc place ≡ place + 1 = omega arith in
    ap (stream_from place s) (drop-cons ts place t h ∙ ap (λ u. u ∷ drop (suc place) ts) (sym e))
    ∙ ap (λ b. cond b place (stream_from (place + 1) s (drop (suc place) ts))) apart ∙ ap (λ n. stream_from (place + 1) s (drop n ts)) next

pub at_end : (place n : ℕ) (s : StreamId) (ts : List StreamId) → length ts ≤ n → stream_from place s (drop n ts) ≡ place
at_end place zero s [] h = refl
at_end place (suc n) s [] h = refl
at_end place zero s (t ∷ ts) h = absurd (omega (arith, h))
at_end place (suc n) s (t ∷ ts) h = at_end place n s ts (omega (arith, h))
