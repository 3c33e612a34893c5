-- What a read after another one gives is what it gave before, and what is reported where files don't serve.
use Rattle.std.proofs.Common.{◌≡◌, ◌⊎◌, inl, inr, ℕ, List, [], ◌∷◌, ◌++◌, Option, None, Some, sym, subst, refl, append_assoc}
use Rattle.std.proofs.lemmas.List.{append-nil}
use Rattle.std.specs.Prelude.{Bool, true, false, if◌then◌else◌}
use Rattle.tm_values.specs.Val.{Val}
use Rattle.tm_output.specs.Counts.{Tally}
use Rattle.mj_words.specs.CommandLine.{Text, are_files, asked, is_input as is_input_file}
use Rattle.mj_words.specs.Told.{IsTold, refusal_message, refusal_status, usage}
use Rattle.mj_words.specs.declared.arguments.Refusal.{Refusal}
use Rattle.mj_words.specs.declared.arguments.Refusal.TheVariants.{Usage, OutOfMemory}
use Rattle.mj.specs.Program.{Input, FilesStay, InputStays, IsRead, IsInput, IsMembers, IsNoObject, IsUnread, AreRead, HaveUnread}
use Rattle.mj.specs.Program.{BeginWith, either, files_asked}
use Rattle.mj.proofs.Lists.{any_first, any_later}

module _ {T : Type 0} (of_file : T → Text → Option Text → Type 0) (old new : T) (stay : FilesStay of_file old new) where
  members_before : (json : Option Text) (members : List (Val × Val)) → IsMembers of_file new json members →
      IsMembers of_file old json members
  members_before None members none = none
  members_before (Some file) members (bytes, read, text, spelled) = (bytes, stay file (Some bytes) read, text, spelled)

  pub no_object_before : (json : Option Text) → IsNoObject of_file new json → IsNoObject of_file old json
  no_object_before None none = none
  no_object_before (Some file) (inl unread) = inl (stay file None unread)
  no_object_before (Some file) (inr (bytes, read, refused)) = inr (bytes, stay file (Some bytes) read, refused)

  -- the sources were read first, and then the members
  pub is_input : (of_input : T → Option Text → Type 0) (words : List Text) (input : Input) →
      asked [] None None None words ≡ Some input.asked → AreRead of_file of_input old (files_asked input.asked) input.sources →
      IsMembers of_file new input.asked.json input.members → IsInput of_file of_input old words input
  is_input of_input words input asks read members = (asks, read, members_before input.asked.json input.members members)

-- what is read where standard input may still be read only as long as it was not named
read_by : {A B C D : Type 0} (is_named named : Bool) (rest : List Text) →
    (if is_named then (if named then false else are_files true rest) else are_files named rest) ≡ true →
    (named ≡ false → A → C) → (B → D) → either is_named A B → either is_named C D
read_by true true rest files f g x = absurd (cc)
read_by true false rest files f g x = f refl x
read_by false named rest files f g x = g x

left_by : {X Y : Type 0} (is_named named : Bool) (rest : List Text) →
    (if is_named then (if named then false else are_files true rest) else are_files named rest) ≡ true →
    (named ≡ false → X) → (is_named ≡ false → X → Y) → (now : Bool) × (are_files now rest ≡ true) × (now ≡ false → Y)
left_by true true rest files left step = absurd (cc)
left_by true false rest files left step = (true, files, λ no. absurd (cc))
left_by false named rest files left step = (named, files, λ no. step refl (left no))

pub begins_with : {T : Type 0} (of_file : T → Text → Option Text → Type 0) (of_input : T → Option Text → Type 0) (texts : T) (file : Text)
    (files : List Text) (sources : List (Text × Text)) →
    AreRead of_file of_input texts (file ∷ files) sources → BeginWith file sources
begins_with of_file of_input texts file files [] read = absurd read
begins_with of_file of_input texts file files (s ∷ more) read = read.0

module _ {T : Type 0} (of_file : T → Text → Option Text → Type 0) (of_input : T → Option Text → Type 0) where
  -- Some files were read, and these are left: what may be read of them was so from the start, standard input only as long as it was not
  -- named.
  pub record Reading (files left : List Text) (old now : T) (done : List (Text × Text)) : Type 0 where
    pub named : Bool
    pub are : are_files named left ≡ true
    pub unread_input : named ≡ false → InputStays of_input old now
    pub stay : FilesStay of_file old now
    pub rest : (sources : List (Text × Text)) → AreRead of_file of_input old left sources →
        AreRead of_file of_input old files (done ++ sources)
    pub unread : HaveUnread of_file of_input old left → HaveUnread of_file of_input old files

  pub begin_reading : (files : List Text) (old : T) → are_files false files ≡ true → Reading files files old old []
  begin_reading files old are = record {
    named = false;
    are = are;
    unread_input = λ _ read is. is;
    stay = λ file read is. is;
    rest = λ sources read. read;
    unread = λ none. none;
  }

  read_before : (files left : List Text) (file : Text) (old now : T) (done : List (Text × Text)) →
      Reading files (file ∷ left) old now done → (read : Option Text) →
      IsRead of_file of_input now file read → IsRead of_file of_input old file read
  read_before files left file old now done r read is =
      read_by (is_input_file file) r.named left r.are (λ no. r.unread_input no read) (r.stay file read) is

  pub read_next : (files left : List Text) (file source : Text) (old now new : T) (done : List (Text × Text)) →
      Reading files (file ∷ left) old now done →
      IsRead of_file of_input now file (Some source) → FilesStay of_file now new →
      (is_input_file file ≡ false → InputStays of_input now new) → Reading files left old new (done ++ (file, source) ∷ [])
  read_next files left file source old now new done r is stay untouched =
      let more : (named : Bool) × (are_files named left ≡ true) × (named ≡ false → InputStays of_input old new) =
      left_by (is_input_file file) r.named left r.are r.unread_input
      (λ no before read is. before read (untouched no read is)) in record {
        named = more.0;
        are = more.1;
        unread_input = more.2;
        stay = λ x read is. r.stay x read (stay x read is);
        rest = λ sources read.
            subst (λ all. AreRead of_file of_input old files all) (sym (append_assoc done ((file, source) ∷ []) sources))
            (r.rest ((file, source) ∷ sources) (refl, read_before files left file old now done r (Some source) is, read));
        unread = λ none. r.unread (any_later (IsUnread of_file of_input old) file left none);
      }

  pub read_all : (files : List Text) (old now : T) (done : List (Text × Text)) → Reading files [] old now done →
      AreRead of_file of_input old files done
  read_all files old now done r =
      subst (λ all. AreRead of_file of_input old files all) (append-nil done) (r.rest [] refl)

  pub read_none : (files left : List Text) (file : Text) (old now : T) (done : List (Text × Text)) →
      Reading files (file ∷ left) old now done → IsUnread of_file of_input now file → HaveUnread of_file of_input old files
  read_none files left file old now done r (inl none) =
      r.unread (any_first (IsUnread of_file of_input old) file left (inl (read_before files left file old now done r None none)))
  read_none files left file old now done r (inr (bytes, is, text)) =
      r.unread (any_first (IsUnread of_file of_input old) file left
      (inr (bytes, read_before files left file old now done r (Some bytes) is, text)))

-- At status 2 the usage line was written, and memory was not wanting.
pub refused_use : {W X : Type 0} (contents : W → Option Text) (refusal : Refusal) (status : ℕ) (old new : Tally W) →
    status ≡ refusal_status refusal →
    IsTold contents old new (refusal_message refusal) → status ≡ 2 → (refusal ≡ OutOfMemory) ⊎ X → IsTold contents old new usage × X
refused_use contents Usage status old new is told two (inl memory) = absurd (cc)
refused_use contents Usage status old new is told two (inr x) = (told, x)
refused_use contents OutOfMemory status old new is told two why = absurd (cc)
