-- The meaning of whole streams and of renders.
use Rattle.std.specs.Prelude.{ℕ, zero, suc, ◌+◌, ◌^◌, ◌-◌, List, [], ◌∷◌, Option, Some, None, Bool, true, false}
use Rattle.std.specs.Prelude.{nat_eq, slice_get, length}
use Rattle.tm_values.specs.Val.{Val}
use Rattle.tm_values.specs.declared.error.ErrorKind.{ErrorKind}
use Rattle.tm_values.specs.declared.error.ErrorKind.TheVariants.{InvalidOperation}
use Rattle.tm_syntax.specs.Loops.{first_numbers, FoundLoop, stream_loops, FoundMacro, stream_macros}
use Rattle.tm_meaning.specs.World.{choose, TemplateId, StreamId, root_of, World, HostValue, Res, Good, Bad, tick, template_at, plain_scope}
use Rattle.tm_meaning.specs.Calls.{whole, macro_of, own_blocks}
use Rattle.tm_meaning.specs.Inheritance.{names_left}
use Rattle.tm_meaning.specs.Tree.{StreamTree, statements, expression, empty, Trees}
use Rattle.tm_meaning.specs.Meaning.{Run, Ending, left_by, Outcome, Nests, Again, Under, ended, use_it, block_tag, eval, assign}
use Rattle.tm_meaning.specs.Meaning.{take_parameters, loop_over, exec_all, done, fault}

-- ---------------------------------------------------------------- runs
abbrev pub failed : ErrorKind → Run → List ℕ → World → Outcome
failed kind run out w = ended (fault (kind ∷ [])) run out w

abbrev pub new_run : Bool → World → Run
new_run heard w = record { first = w.escape; heard = heard; inside = false; parent = None }

-- done, or a fault if the charge wasn't paid
abbrev pub done_by : Res (Unit {0}) → Outcome → Outcome
done_by (Good _ w) o = record o { ending = done []; world = w }
done_by (Bad chain w) o = record o { ending = fault chain; world = w }

-- The end of a run's statements: whatever the ending, the run is over. A `break` or `continue`
-- outside of a loop, which no source contains, is charged.
abbrev pub at_end : Ending → Outcome → Outcome
at_end (done vs) o = record o { ending = done [] }
at_end (fault chain) o = o
at_end e o = done_by (tick o.world) o

-- the value that is left, or the fault before it
abbrev pub leaving : Res Val → Run → List ℕ → Outcome
leaving m run out = use_it m run out (λ v w. ended (done (v ∷ [])) run out w)

-- Runs the statements of a stream, or evaluates its expression, whose value is left.
abbrev pub stream_run : Under → StreamTree → Run → List ℕ → World → Outcome
stream_run u (statements body) run out w = let o = exec_all u first_numbers body.row run out w in at_end o.ending o
stream_run u (expression e) run out w = leaving (eval u run e w) run out

-- Runs the body of a macro, once its parameters are bound to its arguments.
abbrev pub macro_body : Under → FoundMacro → List Val → Run → List ℕ → World → Outcome
macro_body u m given run out w =
    use_it (take_parameters u run m.parameters given w) run out (λ _ world1. exec_all u m.at m.body.row run out world1)

-- the run of a macro, if it exists and takes that many arguments
abbrev pub macro_run : Under → Option FoundMacro → List Val → Run → List ℕ → World → Outcome
macro_run u None given run out w = failed InvalidOperation run out w
macro_run u (Some m) given run out w =
    choose (nat_eq (length m.parameters) (length given))
    (λ _. let o = macro_body u m given run out w in at_end o.ending o) (λ _. failed InvalidOperation run out w)

abbrev pub over : HostValue → Nests → Again → Under
over host nests again = record { host = host; nests = nests; again = again }

-- a round of a loop with its item
abbrev pub turn_of : Under → FoundLoop → Val → Run → List ℕ → World → Outcome
turn_of u l v run out w = use_it (assign u run l.target v w) run out (λ _ world1. exec_all u l.at l.body.row run out world1)

abbrev pub again_in : Under → Option FoundLoop → Again
again_in u None n items run out w = failed InvalidOperation run out w
again_in u (Some l) n items run out w =
    choose l.recursive (λ _. loop_over u.host n true (turn_of u l) items run out w) (λ _. failed InvalidOperation run out w)

-- the loops of a stream, with k levels left; level zero isn't reached, since each call opens a
-- scope within the limit, and there is one more level than the limit
abbrev pub again_of : HostValue → Nests → StreamTree → ℕ → Again
again_of host nests tree zero n items run out w = failed InvalidOperation run out w
again_of host nests tree (suc k) n items run out w =
    again_in (over host nests (again_of host nests tree k)) (slice_get (stream_loops tree) n) n items run out w

abbrev pub under : HostValue → Nests → StreamTree → Under
under host nests tree = over host nests (again_of host nests tree (host.limit + 1))

-- after a stream's end: the run of the parent that waits, if there is one
abbrev pub to_parent : Option TemplateId → Outcome → (TemplateId → Outcome) → Outcome
to_parent None o f = o
to_parent (Some t) o f = f t

abbrev pub restarting : Ending → Outcome → (TemplateId → Outcome) → Outcome
restarting (fault chain) o f = o
restarting e o f = to_parent o.parent o f

-- Runs a stream, and then the root of its parent, in the scopes that are left, and heard as the run
-- was at its start. n counts the names that aren't loaded yet. A parent's name is one of them, so
-- with none left no parent waits.
abbrev pub run_of : HostValue → Nests → Trees → ℕ → StreamId → Run → List ℕ → World → Outcome
run_of host nests trees zero s run out w =
    let o = stream_run (under host nests (trees s)) (trees s) run out w in
    restarting o.ending o (λ t. failed InvalidOperation run o.text o.world)
run_of host nests trees (suc n) s run out w =
    let o = stream_run (under host nests (trees s)) (trees s) run out w in
    restarting o.ending o (λ t. run_of host nests trees n (root_of t) run o.text (record o.world { stream = root_of t }))

-- nested runs, with n levels of depth left; level zero isn't reached, since each nested run is at
-- least one level deeper, and within the limit
abbrev pub nests_of : HostValue → Trees → ℕ → Nests
nests_of host trees zero callee heard out w = failed InvalidOperation (new_run heard w) out w
nests_of host trees (suc n) (macro_of s entry given) heard out w =
    macro_run (under host (nests_of host trees n) (trees s)) (slice_get (stream_macros (trees s)) entry) given (new_run heard w) out w
nests_of host trees (suc n) (whole s) heard out w =
    run_of host (nests_of host trees n) trees (names_left host w) s (new_run heard w) out w

-- ---------------------------------------------------------------- renders
abbrev pub first_fuel : Option ℕ → ℕ
first_fuel None = 2 ^ 64 - 1
first_fuel (Some fuel) = fuel

-- The start of a render: one scope over the context value, no records, the template's blocks each
-- in a list of its own, and the fuel that was set, or else the largest u64.
abbrev pub first_world : HostValue → TemplateId → ℕ → Option ℕ → Val → World
first_world host t id fuel context = record {
  id = id;
  scopes = record { frames = plain_scope context ∷ []; outer = 0 };
  namespaces = [];
  loops = [];
  closures = [];
  streams = [];
  temps = [];
  blocks = own_blocks t (template_at host t).blocks;
  places = [];
  loaded = [];
  block = None;
  escape = (template_at host t).escape;
  stream = root_of t;
  fuel_set = fuel;
  fuel = first_fuel fuel;
}

-- The meaning of a render, from a world: the stream that it names, heard.
abbrev pub rendered : HostValue → Trees → World → Outcome
rendered host trees w = nests_of host trees (host.limit + 1) (whole w.stream) true [] w

-- The one value that a run left, or its fault. A run that left another number of values isn't that
-- of an expression.
abbrev pub value_left : Ending → World → Res Val
value_left (done (v ∷ [])) w = Good v w
value_left (fault chain) w = Bad chain w
value_left e w = Bad (InvalidOperation ∷ []) w

-- The meaning of an expression, from a world: its stream is run in the same way, and leaves the
-- value of the expression.
abbrev pub evaluated : HostValue → Trees → World → Res Val
evaluated host trees w = let o = rendered host trees w in value_left o.ending o.world

-- The meaning of a block that a state is asked to render, from its world: its tag, heard and
-- without a waiting parent.
abbrev pub rendered_block : HostValue → Trees → List ℕ → World → Outcome
rendered_block host trees b w = block_tag (under host (nests_of host trees (host.limit + 1)) (statements empty)) (new_run true w) b [] w

-- the chain of kinds; empty if it is done
abbrev pub chain_in : Ending → List ErrorKind
chain_in (fault chain) = chain
chain_in e = []

abbrev pub chain_of : Outcome → List ErrorKind
chain_of o = chain_in o.ending

-- the values that are left if it is done
abbrev pub left_of : Outcome → List Val
left_of o = left_by o.ending
