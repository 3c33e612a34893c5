-- Lists of blocks, and loading parent templates.
use Rattle.std.specs.Prelude.{ℕ, suc, List, [], ◌∷◌, ◌++◌, Option, Some, None, Bool, not, is_none}
use Rattle.std.specs.Prelude.{if◌then◌else◌}
use Rattle.tm_values.specs.Val.{Val, text_in}
use Rattle.tm_values.specs.declared.error.ErrorKind.TheVariants.{InvalidOperation, TemplateNotFound}
use Rattle.tm_syntax.specs.Names.{is_among}
use Rattle.tm_meaning.specs.World.{TemplateId, entry, Named, find, put, Card, Template, World, HostValue, Res, Good, bind, need, check}
use Rattle.tm_meaning.specs.World.{answered, name_of, or_is}

-- ---------------------------------------------------------------- lists of blocks
-- the place in the list of a block; without an entry, the child's, which is 0
abbrev pub place_in : List ℕ → Named ℕ → ℕ
place_in x places = or_is (find x places) 0

-- a template's block comes after those of the same name
abbrev pub after_all : TemplateId → Option (List TemplateId) → List TemplateId
after_all t None = t ∷ []
after_all t (Some l) = l ++ t ∷ []

-- adds the blocks of a parent after those that are there
abbrev pub with_blocks : TemplateId → Named Card → Named (List TemplateId) → Named (List TemplateId)
with_blocks t [] ls = ls
with_blocks t (b ∷ bs) ls = with_blocks t bs (put b.0 (after_all t (find b.0 ls)) ls)

-- ---------------------------------------------------------------- parents
-- joins a name to that of the running template
abbrev pub joined : HostValue → List ℕ → World → Res (List ℕ)
joined host name w = answered (host.join name (name_of host w)) w

-- Loads the template of a name.
abbrev pub loading : List ℕ → Template → World → Res TemplateId
loading x t w = Good (entry x) (record w { loaded = w.loaded ++ x ∷ []; blocks = with_blocks (entry x) t.blocks w.blocks })

-- Loads a template by name. A name that was loaded before is refused, without a look-up.
abbrev pub load_named : HostValue → List ℕ → World → Res TemplateId
load_named host x w =
    bind (check (not (is_among x w.loaded)) InvalidOperation w) (λ _ world1.
    bind (need (find x host.templates) TemplateNotFound world1) (λ t world2. loading x t world2))

-- Loads the parent that a value names; the value must be a text. Refused if a parent waits already
-- in the run, or inside a capture of the run.
abbrev pub load : HostValue → Val → Option TemplateId → Bool → World → Res TemplateId
load host v waiting inside w =
    bind (need (text_in v) InvalidOperation w) (λ name world1.
    bind (check (is_none waiting) InvalidOperation world1) (λ _ world2.
    bind (check (not inside) InvalidOperation world2) (λ _ world3.
    bind (joined host name world3) (λ x world4. load_named host x world4))))

-- the number of templates that aren't loaded yet
abbrev pub count_left : Named Template → List (List ℕ) → ℕ
count_left [] loaded = 0
count_left (t ∷ ts) loaded = if is_among t.0 loaded then count_left ts loaded else suc (count_left ts loaded)

abbrev pub names_left : HostValue → World → ℕ
names_left host w = count_left host.templates w.loaded
