-- A parent that is loaded keeps the world, and leaves a name fewer.
use Rattle.std.proofs.Common.{suc, ◌≡◌, ℕ, ◌≤◌, List, [], ◌∷◌, Option, Some, None, Bool, true, false, Ok, Err, refl, subst, arith}
use Rattle.std.specs.Prelude.{not, is_none}
use Rattle.tm_values.specs.Answer.{Answer}
use Rattle.tm_values.specs.Val.{Val, text_in}
use Rattle.tm_values.specs.declared.error.ErrorKind.{ErrorKind}
use Rattle.tm_values.specs.declared.error.ErrorKind.TheVariants.{InvalidOperation, TemplateNotFound}
use Rattle.tm_syntax.specs.Names.{is_among}
use Rattle.tm_meaning.specs.World.{World, HostValue, Res, Good, Bad, bind, need, check, answered, find, name_of}
use Rattle.tm_meaning.specs.Inheritance.{load, names_left}
use Rattle.tm_meaning.specs.Meaning.{Run, so_far, use_it}
use Rattle.tm_meaning.specs.declared.stream.TemplateId.{TemplateId}
use Rattle.tm_simulation.specs.Chains.{Arises, by_join}
use Rattle.tm_meaning.proofs.Loaded.{count_loaded}
use Rattle.tm_simulation.proofs.Advances.{Advances, Kept, advances_same}
use Rattle.tm_simulation.proofs.RunAdvances.{loading_kept}
use Rattle.tm_simulation.proofs.Gives.{Gives, OutcomeKeeps, parents_left, ends_from, ends_fault, refused_arises}

pub need_does : {A B : Type 0} (Holds : Res B → Type 0) (w : World) (found : Option A) (kind : ErrorKind) (g : A → World → Res B) →
    Holds (Bad (kind ∷ []) w) → ((a : A) → found ≡ Some a → Holds (g a w)) → Holds (bind (need found kind w) g)
need_does Holds w (Some a) kind g h k = k a refl
need_does Holds w None kind g h k = h

check_does : {B : Type 0} (Holds : Res B → Type 0) (w : World) (b : Bool) (kind : ErrorKind) (g : Unit {0} → World → Res B) →
    Holds (Bad (kind ∷ []) w) → (b ≡ true → Holds (g tt w)) → Holds (bind (check b kind w) g)
check_does Holds w true kind g h k = k refl
check_does Holds w false kind g h k = h

pub answer_does : {A B : Type 0} (Holds : Res B → Type 0) (w : World) (answer : Answer A) (g : A → World → Res B) →
    ((chain : List ErrorKind) → answer ≡ Err chain → Holds (Bad chain w)) → ((a : A) → Holds (g a w)) →
    Holds (bind (answered answer w) g)
answer_does Holds w (Ok a) g h k = k a
answer_does Holds w (Err chain) g h k = h chain refl

-- A parent that is given keeps the world, and where it waits no more may be asked for than before; a fault arises.
abbrev pub LoadGives : HostValue → Option TemplateId → World → Res TemplateId → Type 0
LoadGives host q w (Good t world1) = Kept w world1 × (parents_left host (Some t) world1 ≤ parents_left host q w)
LoadGives host q w (Bad chain world1) = Advances host w world1 × Arises host chain

pub not_true : (b : Bool) → not b ≡ true → b ≡ false
not_true true h = absurd (cc h)
not_true false h = refl

pub load_does : (host : HostValue) (v : Val) (q : Option TemplateId) (inside : Bool) (w : World) →
    LoadGives host q w (load host v q inside w)
load_does host v q inside w =
    let Holds : Res TemplateId → Type 0 = LoadGives host q w in
    need_does Holds w (text_in v) InvalidOperation _ (refused_arises host w InvalidOperation refl) (λ name _.
    check_does Holds w (is_none q) InvalidOperation _ (refused_arises host w InvalidOperation refl) (λ _.
    check_does Holds w (not inside) InvalidOperation _ (refused_arises host w InvalidOperation refl) (λ _.
    answer_does Holds w (host.join name (name_of host w)) _ (λ chain e. (advances_same w, by_join name (name_of host w) e)) (λ x.
    check_does Holds w (not (is_among x w.loaded)) InvalidOperation _ (refused_arises host w InvalidOperation refl) (λ fresh.
    need_does Holds w (find x host.templates) TemplateNotFound _ (refused_arises host w TemplateNotFound refl) (λ t there. (
      loading_kept x t w,
      omega (arith, count_loaded host.templates x t w.loaded there (not_true (is_among x w.loaded) fresh)),
    )))))))

pub load_gives : (host : HostValue) (q : Option TemplateId) (w : World) (m : Res TemplateId) → LoadGives host q w m → Gives host w m
load_gives host q w (Good t world1) h = h.0
load_gives host q w (Bad chain world1) h = h

-- what waits after it
pub waits_ends : (host : HostValue) (w : World) (run : Run) (out : List ℕ) (m : Res TemplateId) → LoadGives host run.parent w m →
    OutcomeKeeps host run.parent w (use_it m run out (λ t world1. so_far (record run { parent = Some t }) out world1))
waits_ends host w run out (Good t world1) h = ends_from host w (so_far (record run { parent = Some t }) out world1) h.0 h.1
waits_ends host w run out (Bad chain world1) h = ends_fault host w world1 run out chain h.0 h.1

fewer_by : (host : HostValue) (q : Option TemplateId) (w world1 : World) (t : TemplateId) (m : Res TemplateId) → LoadGives host q w m →
    m ≡ Good t world1 → parents_left host (Some t) world1 ≤ parents_left host q w
fewer_by host q w world1 t (Good t1 world2) h e =
    let one : world2 ≡ world1 = cc in
    subst (λ (v : World). parents_left host (Some t) v ≤ parents_left host q w) one h.1
fewer_by host q w world1 t (Bad chain world2) h e = absurd (cc e)

-- a parent that waits leaves a name fewer
pub load_leaves_fewer : (host : HostValue) (v : Val) (inside : Bool) (w world1 : World) (t : TemplateId) →
    load host v None inside w ≡ Good t world1 → suc (names_left host world1) ≤ names_left host w
load_leaves_fewer host v inside w world1 t e =
    omega (arith, fewer_by host None w world1 t (load host v None inside w) (load_does host v None inside w) e)
