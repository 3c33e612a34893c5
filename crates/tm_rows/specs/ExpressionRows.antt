-- Streams of expressions, and the values that they leave.
use Rattle.std.specs.Prelude.{◌≡◌, ℕ, ◌-◌, List, [], ◌∷◌, Option, Some, None, codes, pos}
use Rattle.tm_values.specs.Val.{Val, number}
use Rattle.tm_values.specs.declared.error.ErrorKind.{ErrorKind}
use Rattle.tm_values.specs.declared.error.ErrorKind.TheVariants as kind
use Rattle.tm_values.specs.declared.escape.AutoEscape.TheVariants as escapes
use Rattle.tm_trees.specs.Trees.binaries
use Rattle.tm_trees.specs.Trees.applications
use Rattle.tm_trees.specs.Trees.{Expr, SelfBlock, no_argument, no_keyword, no_condition, no_step, step, Attribute, Apply', no_statement}
use Rattle.tm_syntax.specs.Forms.{chained, conditional, with_condition, binary, and_then}
use Rattle.tm_meaning.specs.Tree.{body_of, expression}
use Rattle.tm_meaning.specs.Meaning.{Outcome}
use Rattle.tm_meaning.specs.Runs.{rendered, chain_of, left_of}
use Rattle.tm_meaning.specs.Machine.{End, Finished, Failed, Stuck}
use Rattle.tm_meaning.specs.Steps.{Final}
use Rattle.tm_rows.specs.Rows.{Page, host_of, trees, world_of, ended, nothing, with_value, named, raw, two, page}
use Rattle.tm_rows.specs.Rows.{literal_number, and_one, no_value, a, b, x}
use Rattle.tm_rows.specs.CallRows.{call_none, called}
use Rattle.tm_rows.specs.IncludeTrees.{includes_template}

-- What a run leaves: the values, the text that was heard, the fuel, and the chain of kinds.
pub record Left : Type 0 where
  pub values : List Val
  pub text : List ℕ
  pub fuel : ℕ
  pub chain : List ErrorKind

abbrev pub left : List Val → List ℕ → ℕ → List ErrorKind → Left
left vs t n chain = record { values = vs; text = t; fuel = n; chain = chain }

abbrev pub left_when : Outcome → Left
left_when o = left (left_of o) o.text o.world.fuel (chain_of o)

abbrev pub left_at : List ℕ → End → Left
left_at t (Finished vs ks w) = left vs t w.fuel []
left_at t (Failed chain w) = left [] t w.fuel chain
left_at t (Stuck w) = left [] t w.fuel (kind.BadStream ∷ [])

abbrev pub left_after : Option Final → Left
left_after None = left [] [] 0 []
left_after (Some o) = left_at o.text o.end

-- What an expression leaves with this fuel, by its meaning and by its code; it writes nothing.
abbrev pub Ends : Page → ℕ → List Val → ℕ → List ErrorKind → Type 0
Ends p fuel vs n chain =
    (left_when (rendered (host_of p) (trees p) (world_of p (Some fuel))) ≡ left vs [] n chain)
    × (left_after (ended p (Some fuel)) ≡ left vs [] n chain)

-- Its value, after this many charges.
abbrev pub EvaluatesTo : Page → Val → ℕ → Type 0
EvaluatesTo p v charges = Ends p 1000 (v ∷ []) (1000 - charges) []

-- Its fault, after this many charges.
abbrev pub EvaluationFails : Page → List ErrorKind → ℕ → Type 0
EvaluationFails p chain charges = Ends p 1000 [] (1000 - charges) chain

-- ---------------------------------------------------------------- single expressions
abbrev pub evaluating : Expr → Val → Page
evaluating e context = record (page (body_of no_statement) context) { name = codes "<expression>"; root = expression e }

abbrev pub alone : Expr → Page
alone e = evaluating e nothing

-- a + 1, with a = 1
abbrev pub sum : Page
sum = evaluating (and_one a (binary binaries.Add (literal_number 1))) (with_value (codes "a") (number (pos 1)))

-- number > 10 and number < 20, with 15
abbrev pub between : Page
between =
    let n = named (codes "number") in
    evaluating
    (chained n (tt ∷ tt ∷ []) (step (binary binaries.Greater (literal_number 10))
    (step (and_then (and_one n (binary binaries.Less (literal_number 20)))) no_step)))
    (with_value (codes "number") (number (pos 15)))

-- a if b
abbrev pub without_else : Page
without_else = alone (conditional a (tt ∷ []) (with_condition b no_value no_condition))

-- x.y
abbrev pub member_of_none : Page
member_of_none = alone (and_one x (Attribute (codes "y")))

abbrev pub super_alone : Page
super_alone = alone (call_none (codes "super"))

-- self.b()
abbrev pub self_alone : Page
self_alone = alone (SelfBlock (codes "b"))

-- loop(1)
abbrev pub loop_alone : Page
loop_alone = alone (called (codes "loop") (literal_number 1))

-- a|upper, without the filter
abbrev pub without_filter : Page
without_filter = alone (and_one a (Apply' applications.Filter (codes "upper") [] no_argument [] no_keyword))

-- {% include "e" %}!, where e is the expression 1, which no source contains
abbrev pub including_one : Page
including_one = record (page (two (includes_template (codes "e")) (raw (codes "!"))) nothing) {
  templates = (codes "e", record { name = codes "e"; escape = escapes.None; root = expression (literal_number 1) }) ∷ [];
}
