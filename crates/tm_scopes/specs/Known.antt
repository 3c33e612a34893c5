-- The names that lookups find.
use Rattle.std.specs.BTreeMap.{is_at}
use Rattle.std.specs.List.{list_any}
use Rattle.std.specs.Borrow.{Bor}
use Rattle.std.specs.Option.{option_map_or}
use Rattle.std.specs.Prelude.{◌≡◌, ◌⊎◌, ◌||◌, ℕ, List, [], ◌∷◌, Bool, true, false, Option, is_some, is_none, Ok, Err}
use Rattle.tm_syntax.specs.Named.{name_cmp}
use Rattle.tm_values.specs.Answer.{Answer}
use Rattle.tm_values.specs.Map.{IsMap, find}
use Rattle.tm_values.specs.Records.{RecordData, namespace_at}
use Rattle.tm_values.specs.Val.{Val, namespace, text, text_in}
use Rattle.tm_values.specs.declared.error.ErrorKind.{ErrorKind}
use Rattle.tm_values.specs.declared.error.ErrorKind.TheVariants.{InvalidOperation, OutOfMemory}
use Rattle.tm_meaning.specs.World.{Bindings, Scope, View, context_member, find_name, in_frames}

-- whether a name is among these
abbrev pub is_among : List ℕ → List (List ℕ) → Bool
is_among x names = list_any (is_at (name_cmp x)) names

-- whether a lookup found a value
abbrev pub is_found : Answer (Option Val) → Answer Bool
is_found (Ok found) = Ok (is_some found)
is_found (Err chain) = Err chain

-- A lookup finds a value if and only if the name is among these.
abbrev pub AreFound : (List ℕ → Answer (Option Val)) → List (List ℕ) → Type 0
AreFound looked_up names = (x : List ℕ) → is_found (looked_up x) ≡ Ok (is_among x names)

-- The same for the scopes, in each view with these records and closures.
abbrev pub AreFoundIn : RecordData → List Bindings → List Scope → List (List ℕ) → Type 0
AreFoundIn records closures scopes names =
    (view : View) → view.records ≡ records → view.closures ≡ closures → AreFound (λ x. in_frames view x scopes) names

-- The same for the scopes, and after them the globals.
abbrev pub AreKnownIn : RecordData → List Bindings → List Scope → Bindings → List (List ℕ) → Type 0
AreKnownIn records closures scopes globals names = (view : View) → view.records ≡ records → view.closures ≡ closures →
    AreFound (find_name (record view { frames = scopes; globals = globals })) names

-- whether a name was there before or a lookup finds it
abbrev pub or_else_found : Bool → Answer Bool → Answer Bool
or_else_found before (Ok found) = Ok (before || found)
or_else_found before (Err chain) = Err chain

-- The names after are those before and those that a lookup in the scopes finds, in each view with
-- these records and closures.
abbrev pub AddsFound : RecordData → List Bindings → List Scope → List (List ℕ) → List (List ℕ) → Type 0
AddsFound records closures scopes before after =
    (view : View) → view.records ≡ records → view.closures ≡ closures → (x : List ℕ) →
    or_else_found (is_among x before) (is_found (in_frames view x scopes)) ≡ Ok (is_among x after)

-- Pairs ordered by key, in which a lookup finds the context value's member of each name.
abbrev pub AreMembers : RecordData → Val → Bor (List (Val × Val)) → Type 0
AreMembers records context pairs = IsMap pairs.now × ((x : List ℕ) → context_member records x context ≡ Ok (find (text x false) pairs.now))

-- whether a text is among the keys
abbrev pub has_text : List ℕ → List (Val × Val) → Bool
has_text x pairs = list_any (λ (p : Val × Val). option_map_or (is_at (name_cmp x)) (text_in p.0) false) pairs

-- whether a value is a namespace without a record
abbrev pub lacks_record : RecordData → Val → Bool
lacks_record records (namespace state n) = is_none (namespace_at records state n)
lacks_record records v = false

-- whether one scope's context value is such a namespace
abbrev pub one_lacks_record : RecordData → List Scope → Bool
one_lacks_record records scopes = list_any (λ (s : Scope). lacks_record records s.context) scopes

-- Why there is no list of names: memory ran out, or a scope's context value has no record.
abbrev pub NamingFails : RecordData → List Scope → List ErrorKind → Type 0
NamingFails records scopes chain =
    (chain ≡ OutOfMemory ∷ []) ⊎ ((chain ≡ InvalidOperation ∷ []) × (one_lacks_record records scopes ≡ true))
