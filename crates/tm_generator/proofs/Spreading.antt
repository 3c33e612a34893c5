-- Rows of arguments, and what is put for them, in the program's representation.
use Rattle.std.proofs.Common.{◌≡◌, ℕ, zero, suc, ◌+◌, List, [], ◌∷◌, Bool, Some, refl, sym, ap, ◌∙◌, arith}
use Rattle.std.specs.Prelude.{true, false, ◌||◌, Result, Ok, Err, OnOk, IfOk}
use denote.Hole.Carrier.{hidden}
use Rattle.tm_values.specs.Val.{text}
use Rattle.tm_trees.specs.Trees.{Expr, Argument, Keyword}
use Rattle.tm_trees.specs.Trees.{hidden_expr, arguments, keywords, arguments_shape, keywords_shape}
use Rattle.tm_trees.specs.Trees.argument_forms as a
use Rattle.tm_trees.specs.Trees.keyword_forms as k
use Rattle.tm_trees.specs.Instructions.instructions as i
use Rattle.tm_syntax.specs.Fragments.{straight}
use Rattle.tm_syntax.specs.Code.{rows_of, list_of_row, map_of_row, is_spread, has_spread, row_after, lists_at}
use Rattle.tm_syntax.specs.Code.{is_spread_keyword, has_spread_keyword, keywords_after, maps_at}
use Rattle.tm_syntax.specs.Code.{expr_code, listed_code, keyword_code, keywords_code}
use Rattle.tm_generator.specs.Opened.{no_end, listing_code, lists_of, maps_of}
use Rattle.tm_generator.specs.declared.passing.Rows.{Rows}
use Rattle.tm_generator.specs.Building.{Builder, put, with_one}

-- ---------------------------------------------------------------- rows
pub no_row : (n : ℕ) → n ≡ 0 → 0 ≡ rows_of n
no_row zero e = refl
no_row (suc n) e = absurd (omega (arith, e))

pub a_row : (n : ℕ) → ¬ (n ≡ 0) → 1 ≡ rows_of n
a_row zero h = absurd (h refl)
a_row (suc n) h = refl

pub not_listed : (b : Builder) (n : ℕ) → n ≡ 0 → b ≡ put (straight (list_of_row n)) b
not_listed b zero e = refl
not_listed b (suc n) e = absurd (omega (arith, e))

pub listed : (b : Builder) (n : ℕ) → ¬ (n ≡ 0) → put (straight (list_of_row n)) b ≡ with_one (i.BuildList (Some n)) b
listed b zero h = absurd (h refl)
listed b (suc n) h = refl

pub not_mapped : (b : Builder) (n : ℕ) → n ≡ 0 → b ≡ put (straight (map_of_row n)) b
not_mapped b zero e = refl
not_mapped b (suc n) e = absurd (omega (arith, e))

pub mapped : (b : Builder) (n : ℕ) → ¬ (n ≡ 0) → put (straight (map_of_row n)) b ≡ with_one (i.BuildKwargs n) b
mapped b zero h = absurd (h refl)
mapped b (suc n) h = refl

pub ruleset rows = (no_row, a_row, not_listed, listed, not_mapped, mapped)

-- ---------------------------------------------------------------- one argument
pub put-listed-plain : (b : Builder) (n : ℕ) (x : Expr) → put (listed_code n (a.Plain x)) b ≡ put (expr_code x) b
unfolding hidden hidden_expr
put-listed-plain b n x = refl

pub put-listed-spread : (b : Builder) (n : ℕ) (x : Expr) →
    put (listed_code n (a.Spread x)) b ≡ put (expr_code x) (put (straight (list_of_row n)) b)
unfolding hidden hidden_expr
put-listed-spread b n x = refl

pub put-keyword-named : (b : Builder) (n : ℕ) (f : List ℕ) (x : Expr) →
    put (keyword_code n (k.Named f x)) b ≡ put (expr_code x) (with_one (i.LoadConst (text f false)) b)
unfolding hidden hidden_expr
put-keyword-named b n f x = refl

pub put-keyword-spread : (b : Builder) (n : ℕ) (x : Expr) →
    put (keyword_code n (k.Spread x)) b ≡ put (expr_code x) (put (straight (map_of_row n)) b)
unfolding hidden hidden_expr
put-keyword-spread b n x = refl

pub made-listed : (b m1 m2 : Builder) (n : ℕ) (x : Expr) → m1 ≡ put (straight (list_of_row n)) b → m2 ≡ put (expr_code x) m1 →
    m2 ≡ put (listed_code n (a.Spread x)) b
made-listed b m1 m2 n x p q = q ∙ ap {B = Builder} (λ m. put (expr_code x) m) p ∙ sym (put-listed-spread b n x)

pub made-named : (b m1 m2 : Builder) (n : ℕ) (f : List ℕ) (x : Expr) → m1 ≡ with_one (i.LoadConst (text f false)) b →
    m2 ≡ put (expr_code x) m1 → m2 ≡ put (keyword_code n (k.Named f x)) b
made-named b m1 m2 n f x p q = q ∙ ap {B = Builder} (λ m. put (expr_code x) m) p ∙ sym (put-keyword-named b n f x)

pub made-mapped : (b m1 m2 : Builder) (n : ℕ) (x : Expr) → m1 ≡ put (straight (map_of_row n)) b → m2 ≡ put (expr_code x) m1 →
    m2 ≡ put (keyword_code n (k.Spread x)) b
made-mapped b m1 m2 n x p q = q ∙ ap {B = Builder} (λ m. put (expr_code x) m) p ∙ sym (put-keyword-spread b n x)

-- ---------------------------------------------------------------- rows of rows
-- after `n` rows
abbrev pub after : ℕ → Rows → Rows
after n rows = record { ended = n + rows.ended; pending = rows.pending }

after-twice : (n m : ℕ) (rows : Rows) → after n (after m rows) ≡ after (n + m) rows
after-twice n m rows = ap {A = ℕ} {B = Rows} (λ j. record { ended = j; pending = rows.pending }) (omega (arith))

after-none : (n m : ℕ) → after n (record { ended = 0; pending = m }) ≡ record { ended = n; pending = m }
after-none n m = ap {A = ℕ} {B = Rows} (λ j. record { ended = j; pending = m }) (omega (arith))

-- ---------------------------------------------------------------- whether one is spread
spread-nil : has_spread (arguments []) ≡ false
unfolding hidden arguments arguments_shape
spread-nil = refl

spread-cons : (x : Argument) (xs : List Argument) → has_spread (arguments (x ∷ xs)) ≡ (is_spread x || has_spread (arguments xs))
unfolding hidden arguments arguments_shape
spread-cons x xs = refl

module _ (all rest : List Argument) (x : Argument) (goal : Bool) (left : all ≡ x ∷ rest) (so : has_spread (arguments all) ≡ goal) where
  first : goal ≡ (is_spread x || has_spread (arguments rest))
  first = sym so ∙ ap (λ xs. has_spread (arguments xs)) left ∙ spread-cons x rest

  pub spread-found : is_spread x ≡ true → true ≡ goal
  spread-found h = sym (first ∙ ap (λ b. b || has_spread (arguments rest)) h)

  pub spread-next : is_spread x ≡ false → has_spread (arguments rest) ≡ goal
  spread-next h = sym (first ∙ ap (λ b. b || has_spread (arguments rest)) h)

pub spread-none : (rest : List Argument) (goal : Bool) → rest ≡ [] → has_spread (arguments rest) ≡ goal → false ≡ goal
spread-none rest goal none so = sym spread-nil ∙ ap (λ xs. has_spread (arguments xs)) (sym none) ∙ so

spread_keyword-nil : has_spread_keyword (keywords []) ≡ false
unfolding hidden keywords keywords_shape
spread_keyword-nil = refl

spread_keyword-cons : (x : Keyword) (xs : List Keyword) →
    has_spread_keyword (keywords (x ∷ xs)) ≡ (is_spread_keyword x || has_spread_keyword (keywords xs))
unfolding hidden keywords keywords_shape
spread_keyword-cons x xs = refl

module _ (all rest : List Keyword) (x : Keyword) (goal : Bool) (left : all ≡ x ∷ rest) (so : has_spread_keyword (keywords all) ≡ goal) where
  first_keyword : goal ≡ (is_spread_keyword x || has_spread_keyword (keywords rest))
  first_keyword = sym so ∙ ap (λ xs. has_spread_keyword (keywords xs)) left ∙ spread_keyword-cons x rest

  pub spread_keyword-found : is_spread_keyword x ≡ true → true ≡ goal
  spread_keyword-found h = sym (first_keyword ∙ ap (λ b. b || has_spread_keyword (keywords rest)) h)

  pub spread_keyword-next : is_spread_keyword x ≡ false → has_spread_keyword (keywords rest) ≡ goal
  spread_keyword-next h = sym (first_keyword ∙ ap (λ b. b || has_spread_keyword (keywords rest)) h)

pub spread_keyword-none : (rest : List Keyword) (goal : Bool) → rest ≡ [] → has_spread_keyword (keywords rest) ≡ goal → false ≡ goal
spread_keyword-none rest goal none so = sym spread_keyword-nil ∙ ap (λ xs. has_spread_keyword (keywords xs)) (sym none) ∙ so

-- ---------------------------------------------------------------- lists
listing-nil : (b : Builder) (n : ℕ) → put (listing_code n (arguments [])) b ≡ b
unfolding hidden arguments arguments_shape
listing-nil b n = refl

listing-cons : (b : Builder) (n : ℕ) (x : Argument) (xs : List Argument) →
    put (listing_code n (arguments (x ∷ xs))) b ≡ put (listing_code (row_after n x) (arguments xs)) (put (listed_code n x) b)
unfolding hidden arguments arguments_shape
listing-cons b n x xs = refl

lists-nil : (n : ℕ) → lists_of n (arguments []) ≡ record { ended = 0; pending = n }
unfolding hidden arguments arguments_shape
lists-nil n = refl

lists-cons : (n : ℕ) (x : Argument) (xs : List Argument) →
    lists_of n (arguments (x ∷ xs)) ≡ after (lists_at n x) (lists_of (row_after n x) (arguments xs))
unfolding hidden arguments arguments_shape
lists-cons n x xs = refl

pub more-lists : (all rest : List Argument) (x : Argument) (n n1 : ℕ) (b b1 goal : Builder) → all ≡ x ∷ rest →
    b1 ≡ put (listed_code n x) b → n1 ≡ row_after n x → put (listing_code n (arguments all)) b ≡ goal →
    put (listing_code n1 (arguments rest)) b1 ≡ goal
more-lists all rest x n n1 b b1 goal left p e g =
    ap {B = Builder} (λ j. put (listing_code j (arguments rest)) b1) e
    ∙ ap {B = Builder} (λ d. put (listing_code (row_after n x) (arguments rest)) d) p ∙ sym (listing-cons b n x rest)
    ∙ ap {B = Builder} (λ xs. put (listing_code n (arguments xs)) b) (sym left) ∙ g

pub more-list_rows : (all rest : List Argument) (x : Argument) (n n1 l l1 : ℕ) (goal : Rows) → all ≡ x ∷ rest → l1 ≡ l + lists_at n x →
    n1 ≡ row_after n x → after l (lists_of n (arguments all)) ≡ goal → after l1 (lists_of n1 (arguments rest)) ≡ goal
more-list_rows all rest x n n1 l l1 goal left p e g =
    ap {A = ℕ} {B = Rows} (λ j. after j (lists_of n1 (arguments rest))) p
    ∙ ap {A = ℕ} {B = Rows} (λ j. after (l + lists_at n x) (lists_of j (arguments rest))) e
    ∙ sym (after-twice l (lists_at n x) (lists_of (row_after n x) (arguments rest)))
    ∙ ap {A = Rows} {B = Rows} (after l) (sym (ap {B = Rows} (λ xs. lists_of n (arguments xs)) left ∙ lists-cons n x rest)) ∙ g

pub no_more-lists : (rest : List Argument) (n : ℕ) (b goal : Builder) → rest ≡ [] → put (listing_code n (arguments rest)) b ≡ goal →
    b ≡ goal
no_more-lists rest n b goal none g =
    sym (ap {B = Builder} (λ xs. put (listing_code n (arguments xs)) b) none ∙ listing-nil b n) ∙ g

pub no_more-list_rows : (rest : List Argument) (n l : ℕ) (goal : Rows) → rest ≡ [] → after l (lists_of n (arguments rest)) ≡ goal →
    ◌≡◌ {A = Rows} (record { ended = l; pending = n }) goal
no_more-list_rows rest n l goal none g =
    sym (ap {B = Rows} (λ xs. after l (lists_of n (arguments xs))) none ∙ ap {A = Rows} {B = Rows} (after l) (lists-nil n)
    ∙ after-none l n) ∙ g

-- ---------------------------------------------------------------- maps
naming-nil : (b : Builder) (n : ℕ) → put (keywords_code no_end n (keywords [])) b ≡ b
unfolding hidden keywords keywords_shape
naming-nil b n = refl

naming-cons : (b : Builder) (n : ℕ) (x : Keyword) (xs : List Keyword) →
    put (keywords_code no_end n (keywords (x ∷ xs))) b
    ≡ put (keywords_code no_end (keywords_after n x) (keywords xs)) (put (keyword_code n x) b)
unfolding hidden keywords keywords_shape
naming-cons b n x xs = refl

maps-nil : (n : ℕ) → maps_of n (keywords []) ≡ record { ended = 0; pending = n }
unfolding hidden keywords keywords_shape
maps-nil n = refl

maps-cons : (n : ℕ) (x : Keyword) (xs : List Keyword) →
    maps_of n (keywords (x ∷ xs)) ≡ after (maps_at n x) (maps_of (keywords_after n x) (keywords xs))
unfolding hidden keywords keywords_shape
maps-cons n x xs = refl

pub more-maps : (all rest : List Keyword) (x : Keyword) (n n1 : ℕ) (b b1 goal : Builder) → all ≡ x ∷ rest →
    b1 ≡ put (keyword_code n x) b → n1 ≡ keywords_after n x → put (keywords_code no_end n (keywords all)) b ≡ goal →
    put (keywords_code no_end n1 (keywords rest)) b1 ≡ goal
more-maps all rest x n n1 b b1 goal left p e g =
    ap {B = Builder} (λ j. put (keywords_code no_end j (keywords rest)) b1) e
    ∙ ap {B = Builder} (λ d. put (keywords_code no_end (keywords_after n x) (keywords rest)) d) p ∙ sym (naming-cons b n x rest)
    ∙ ap {B = Builder} (λ xs. put (keywords_code no_end n (keywords xs)) b) (sym left) ∙ g

pub more-map_rows : (all rest : List Keyword) (x : Keyword) (n n1 l l1 : ℕ) (goal : Rows) → all ≡ x ∷ rest → l1 ≡ l + maps_at n x →
    n1 ≡ keywords_after n x → after l (maps_of n (keywords all)) ≡ goal → after l1 (maps_of n1 (keywords rest)) ≡ goal
more-map_rows all rest x n n1 l l1 goal left p e g =
    ap {A = ℕ} {B = Rows} (λ j. after j (maps_of n1 (keywords rest))) p
    ∙ ap {A = ℕ} {B = Rows} (λ j. after (l + maps_at n x) (maps_of j (keywords rest))) e
    ∙ sym (after-twice l (maps_at n x) (maps_of (keywords_after n x) (keywords rest)))
    ∙ ap {A = Rows} {B = Rows} (after l) (sym (ap {B = Rows} (λ xs. maps_of n (keywords xs)) left ∙ maps-cons n x rest)) ∙ g

pub no_more-maps : (rest : List Keyword) (n : ℕ) (b goal : Builder) → rest ≡ [] → put (keywords_code no_end n (keywords rest)) b ≡ goal →
    b ≡ goal
no_more-maps rest n b goal none g =
    sym (ap {B = Builder} (λ xs. put (keywords_code no_end n (keywords xs)) b) none ∙ naming-nil b n) ∙ g

pub no_more-map_rows : (rest : List Keyword) (n l : ℕ) (goal : Rows) → rest ≡ [] → after l (maps_of n (keywords rest)) ≡ goal →
    ◌≡◌ {A = Rows} (record { ended = l; pending = n }) goal
no_more-map_rows rest n l goal none g =
    sym (ap {B = Rows} (λ xs. after l (maps_of n (keywords xs))) none ∙ ap {A = Rows} {B = Rows} (after l) (maps-nil n)
    ∙ after-none l n) ∙ g

-- ---------------------------------------------------------------- results
pub on_ok_always : {T E P : Type 0} (r : Result T E) → P → OnOk r P
on_ok_always (Ok x) p = p
on_ok_always (Err e) p = tt

pub if_ok_weaker : {T E : Type 0} (r : Result T E) {P Q : T → Type 0} → ((x : T) → P x → Q x) → IfOk r P → IfOk r Q
if_ok_weaker (Ok x) f h = f x h
if_ok_weaker (Err e) f h = tt
