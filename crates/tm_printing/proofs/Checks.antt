-- The list of what is left to check, as it grows and shrinks.
use Rattle.std.proofs.Common.{◌≡◌, ◌⊎◌, inl, inr, ℕ, zero, suc, ◌+◌, ◌<◌, ◌≤◌, Bool, true, false, cond, nat_eq, slice_get, List, [], ◌∷◌, ◌++◌, length}
use Rattle.std.proofs.Common.{Result, Ok, Err, Some, None, OnOk, IfErr, refl, sym, ap, subst, ◌∙◌, append-nil, arith}
use Rattle.std.proofs.lemmas.Bool.{cases_eq, eqb-true}
use Rattle.std.specs.Result.{IsErrAnd}
use Rattle.tm_values.specs.Answer.{IsAnswer, is_memory_alone}
use Rattle.tm_values.specs.Records.{RecordData, namespace_at}
use Rattle.tm_values.specs.Val.{Val, vals_of, pairs_of, pairs_size}
use Rattle.tm_values.specs.View.{node_view}
use Rattle.tm_values.specs.declared.error.ErrorKind.{ErrorKind}
use Rattle.tm_values.specs.declared.error.ErrorKind.TheVariants.{OutOfMemory, InvalidOperation}
use Rattle.tm_values.specs.declared.value.Node.{Node}
use Rattle.tm_values.specs.declared.value.Node.TheVariants as node
use Rattle.tm_definitions.specs.Verdicts.{NamespaceVerdicts, Verdict, fine, and_then, nowhere}
use Rattle.tm_definitions.specs.Verdicts.{in_json, key_verdict, verdict, items_verdict, pairs_verdict, namespace_verdict, verdict_within}
use Rattle.tm_definitions.specs.declared.output_format.OutputFormat.{OutputFormat}
use Rattle.tm_printing.specs.Unchecked.{Part, nothing, part_of, is_end, among, AllFine, HoldsFine, Settled, opens, AllNew}
use Rattle.tm_printing.specs.Unchecked.{mark_at, mark_of, IsMarked, Remains, one_each, Stands, Goes}
use Rattle.tm_printing.specs.Unchecked.{one_weight, unchecked_weight, held_weight, to_check, is_namespace}
use Rattle.tm_printing.specs.declared.check.Mark.{Mark}
use Rattle.tm_printing.specs.declared.check.Mark.TheVariants as mark
use Rattle.tm_printing.specs.declared.check.Unchecked.{Unchecked}
use Rattle.tm_printing.specs.declared.check.Unchecked.TheVariants as unchecked
use Rattle.tm_printing.proofs.Marked.{among_here, among_more, new_apart, new_more, settled_fine, unmet_free, open_among, fine_among}
use Rattle.tm_printing.proofs.Marked.{is_opened, else_opened, is_closed, else_closed, unmet_opened, unmet_closed, unmet_fine, none_met}
use Rattle.tm_printing.proofs.Verdicts.{and_then-fine, and_then-regroups, namespace-there, namespace-on_way, namespace-missing}
use Rattle.tm_printing.proofs.Weights.{is_there}

pub no_items : {A : Type 0} (xs : List A) → length xs ≡ 0 → xs ≡ []
no_items [] h = refl
no_items (x ∷ xs) h = absurd (omega arith)

-- ---- the namespaces that are open

opens-append : (around : List ℕ) (xs ys : List Unchecked) → opens around (xs ++ ys) ≡ opens (opens around xs) ys
opens-append around [] ys = refl
opens-append around (unchecked.Items items ∷ xs) ys = opens-append around xs ys
opens-append around (unchecked.Pairs pairs ∷ xs) ys = opens-append around xs ys
opens-append around (unchecked.Value value ∷ xs) ys = opens-append around xs ys
opens-append around (unchecked.End n ∷ xs) ys = opens-append (n ∷ around) xs ys

opens_plain : (x : Unchecked) → is_end x ≡ false → (around : List ℕ) → opens around (x ∷ []) ≡ around
opens_plain (unchecked.Items items) plain around = refl
opens_plain (unchecked.Pairs pairs) plain around = refl
opens_plain (unchecked.Value value) plain around = refl
opens_plain (unchecked.End n) plain around = absurd (cc plain)

opens_longer : (around : List ℕ) (xs : List Unchecked) → length around ≤ length (opens around xs)
opens_longer around [] = omega arith
opens_longer around (unchecked.Items items ∷ xs) = opens_longer around xs
opens_longer around (unchecked.Pairs pairs ∷ xs) = opens_longer around xs
opens_longer around (unchecked.Value value ∷ xs) = opens_longer around xs
opens_longer around (unchecked.End n ∷ xs) = omega (arith, opens_longer (n ∷ around) xs)

new_below : (fines around : List ℕ) (xs : List Unchecked) → AllNew fines (opens around xs) → AllNew fines around
new_below fines around [] h = h
new_below fines around (unchecked.Items items ∷ xs) h = new_below fines around xs h
new_below fines around (unchecked.Pairs pairs ∷ xs) h = new_below fines around xs h
new_below fines around (unchecked.Value value ∷ xs) h = new_below fines around xs h
new_below fines around (unchecked.End n ∷ xs) h = (new_below fines (n ∷ around) xs h).1.1

state_there : (r : RecordData) (s n : ℕ) (ps : List (Val × Val)) → namespace_at r s n ≡ Some ps → r.state ≡ s
state_there r s n ps is = by_test (nat_eq r.state s) refl is where
  by_test : (b : Bool) → nat_eq r.state s ≡ b → cond b (slice_get r.namespaces n) None ≡ Some ps → r.state ≡ s
  by_test true same is = eqb-true r.state s same
  by_test false same is = absurd (cc is)

opened_mark : (fines around : List ℕ) (n k : ℕ) (old new : List Mark) → among fines n ≡ false → IsMarked mark.Open n old new
    → mark_at old k ≡ mark_of fines around k → (n ≡ k) ⊎ (n ≡ k → ⊥) → mark_at new k ≡ mark_of fines (n ∷ around) k
opened_mark fines around n k old new free now before (inl same) =
    subst (λ (m : ℕ). mark_at new m ≡ mark_of fines (n ∷ around) m) same (now.here ∙ sym (is_opened fines around n free))
opened_mark fines around n k old new free now before (inr other) =
    now.elsewhere k other ∙ (before ∙ sym (else_opened fines around n k other))

closed_mark : (fines around : List ℕ) (n k : ℕ) (old new : List Mark) → IsMarked mark.Fine n old new
    → mark_at old k ≡ mark_of fines (n ∷ around) k → (n ≡ k) ⊎ (n ≡ k → ⊥) → mark_at new k ≡ mark_of (n ∷ fines) around k
closed_mark fines around n k old new now before (inl same) =
    subst (λ (m : ℕ). mark_at new m ≡ mark_of (n ∷ fines) around m) same (now.here ∙ sym (is_closed fines around n))
closed_mark fines around n k old new now before (inr other) =
    now.elsewhere k other ∙ (before ∙ sym (else_closed fines around n k other))

module _ (form : OutputFormat) (r : RecordData) where
  -- ---- what remains

  -- what is refused innermost is refused of the whole, after the namespaces that are open
  refused : (fines : List ℕ) → Settled form r fines → (xs : List Unchecked) (around : List ℕ) (levels : ℕ) (top whole later : Part)
      (chain : List ErrorKind)
      → Remains form r fines top whole later xs → AllNew fines (opens around xs) → length fines + length (opens around xs) ≤ levels + length around
      → ((l : ℕ) → top (namespace_verdict form r l (among (opens around xs))) ≡ Err chain)
      → whole (namespace_verdict form r levels (among around)) ≡ Err chain
  refused fines settled [] around levels top whole later chain rest new enough h =
      let inside = namespace_verdict form r levels (among around) in
      sym (rest inside (settled_fine form r fines levels (among around) settled (omega arith) (new_apart fines around new)))
      ∙ ap (λ (o : Verdict). and_then o (later inside)) (h levels)
  refused fines settled (unchecked.Items items ∷ xs) around levels top whole later chain rest new enough h =
      refused fines settled xs around levels top whole (λ inside. and_then (items_verdict form r inside (vals_of items.now)) (later inside)) chain
      rest new enough h
  refused fines settled (unchecked.Pairs pairs ∷ xs) around levels top whole later chain rest new enough h =
      refused fines settled xs around levels top whole (λ inside. and_then (pairs_verdict form r inside (pairs_of pairs.now)) (later inside)) chain
      rest new enough h
  refused fines settled (unchecked.Value value ∷ xs) around levels top whole later chain rest new enough h =
      refused fines settled xs around levels top whole (λ inside. and_then (verdict form r inside value.now) (later inside)) chain
      rest new enough h
  refused fines settled (unchecked.End n ∷ xs) around zero top whole later chain rest new enough h =
      absurd (omega (arith, opens_longer (n ∷ around) xs))
  refused fines settled (unchecked.End n ∷ xs) around (suc below) top whole later chain rest new enough h =
      let inside = namespace_verdict form r (suc below) (among around) in
      let ps = rest.1.0 in
      let fresh = new_below fines (n ∷ around) xs new in
      let longer = opens_longer (n ∷ around) xs in
      let deeper : pairs_verdict form r (namespace_verdict form r below (among (n ∷ around))) (pairs_of ps) ≡ Err chain =
      refused fines settled xs (n ∷ around) below top (λ (i : NamespaceVerdicts). pairs_verdict form r i (pairs_of ps)) nothing chain
      rest.1.1.1 new (omega (arith, enough)) h in
      let here : inside r.state n ≡ Err chain =
      namespace-there form r (suc below) below (among around) r.state n ps refl rest.1.1.0 fresh.1.0 ∙ deeper in
      let enough_here : length fines ≤ suc below = omega (arith, enough, longer) in
      sym (rest.0 inside (settled_fine form r fines (suc below) (among around) settled enough_here (new_apart fines around fresh.1.1)))
      ∙ ap (λ (o : Verdict). and_then o (later inside)) here

  -- what stands last is replaced
  along : (fines more : List ℕ) (top top' : Part) (ys zs : List Unchecked)
      → ((inside : NamespaceVerdicts) → AllFine r more inside → AllFine r fines inside)
      → ((whole later : Part) → Remains form r fines top whole later ys → Remains form r more top' whole later zs)
      → (xs : List Unchecked) (whole later : Part)
      → Remains form r fines top whole later (xs ++ ys) → Remains form r more top' whole later (xs ++ zs)
  along fines more top top' ys zs fewer step [] whole later rest = step whole later rest
  along fines more top top' ys zs fewer step (unchecked.Items items ∷ xs) whole later rest =
      along fines more top top' ys zs fewer step xs whole (λ inside. and_then (items_verdict form r inside (vals_of items.now)) (later inside)) rest
  along fines more top top' ys zs fewer step (unchecked.Pairs pairs ∷ xs) whole later rest =
      along fines more top top' ys zs fewer step xs whole (λ inside. and_then (pairs_verdict form r inside (pairs_of pairs.now)) (later inside)) rest
  along fines more top top' ys zs fewer step (unchecked.Value value ∷ xs) whole later rest =
      along fines more top top' ys zs fewer step xs whole (λ inside. and_then (verdict form r inside value.now) (later inside)) rest
  along fines more top top' ys zs fewer step (unchecked.End n ∷ xs) whole later rest = (
    λ inside all. rest.0 inside (fewer inside all),
    (
      rest.1.0,
      (
        rest.1.1.0,
        along fines more top top' ys zs fewer step xs
            (λ (i : NamespaceVerdicts). pairs_verdict form r i (pairs_of rest.1.0)) nothing rest.1.1.1,
      ),
    ),
  )

  -- a namespace of which nothing is left holds what is fine
  held_fine : (fines : List ℕ) (n : ℕ) (xs : List Unchecked) (whole later : Part)
      → Remains form r fines nothing whole later (xs ++ unchecked.End n ∷ []) → HoldsFine form r fines n
  held_fine fines n [] whole later rest = (rest.1.0, (rest.1.1.0, λ inside all. sym (rest.1.1.1 inside all)))
  held_fine fines n (unchecked.Items items ∷ xs) whole later rest = held_fine fines n xs whole _ rest
  held_fine fines n (unchecked.Pairs pairs ∷ xs) whole later rest = held_fine fines n xs whole _ rest
  held_fine fines n (unchecked.Value value ∷ xs) whole later rest = held_fine fines n xs whole _ rest
  held_fine fines n (unchecked.End m ∷ xs) whole later rest = held_fine fines n xs _ nothing rest.1.1.1

  shifted : (a b c d e : Verdict) → d ≡ and_then a b → and_then d c ≡ e → and_then a (and_then b c) ≡ e
  shifted a b c d e parts h = sym (and_then-regroups a b c) ∙ (ap (λ (o : Verdict). and_then o c) (sym parts) ∙ h)

  pushed_one : (fines : List ℕ) (top top' whole later : Part) (x : Unchecked) → is_end x ≡ false
      → ((inside : NamespaceVerdicts) → top inside ≡ and_then (top' inside) (part_of form r x inside))
      → Remains form r fines top whole later [] → Remains form r fines top' whole later (x ∷ [])
  pushed_one fines top top' whole later (unchecked.Items items) plain parts rest = λ inside all.
      shifted (top' inside) (part_of form r (unchecked.Items items) inside) (later inside) (top inside) (whole inside) (parts inside)
      (rest inside all)
  pushed_one fines top top' whole later (unchecked.Pairs pairs) plain parts rest = λ inside all.
      shifted (top' inside) (part_of form r (unchecked.Pairs pairs) inside) (later inside) (top inside) (whole inside) (parts inside)
      (rest inside all)
  pushed_one fines top top' whole later (unchecked.Value value) plain parts rest = λ inside all.
      shifted (top' inside) (part_of form r (unchecked.Value value) inside) (later inside) (top inside) (whole inside) (parts inside)
      (rest inside all)
  pushed_one fines top top' whole later (unchecked.End n) plain parts rest = absurd (cc plain)

  popped_one : (fines : List ℕ) (whole later : Part) (x : Unchecked) → is_end x ≡ false
      → Remains form r fines nothing whole later (x ∷ []) → Remains form r fines (part_of form r x) whole later []
  popped_one fines whole later (unchecked.Items items) plain rest = rest
  popped_one fines whole later (unchecked.Pairs pairs) plain rest = rest
  popped_one fines whole later (unchecked.Value value) plain rest = rest
  popped_one fines whole later (unchecked.End n) plain rest = absurd (cc plain)

  module _ (v : Val) where
    -- ---- what stands

    pub start : Stands form r v (λ inside. verdict form r inside v) [] []
    start = record {
      fines = [];
      settled = tt;
      new = tt;
      marked = λ n. refl;
      counted = omega (arith, none_met r.namespaces);
      rest = λ inside all. and_then-fine (verdict form r inside v);
    }

    pub started : (left : List Unchecked) (marks : List Mark) → left ≡ [] → marks ≡ []
        → Stands form r v (λ inside. verdict form r inside v) left marks
    started left marks none unmarked =
        subst (λ (l : List Unchecked). Stands form r v (λ inside. verdict form r inside v) l marks) (sym none)
        (subst (λ (ms : List Mark). Stands form r v (λ inside. verdict form r inside v) [] ms) (sym unmarked) start)

    -- all was looked at
    pub ended : (marks : List Mark) → Stands form r v nothing [] marks
        → verdict_within form r (length r.namespaces) nowhere v ≡ fine
    ended marks h =
        sym (h.rest (namespace_verdict form r (length r.namespaces) nowhere)
        (settled_fine form r h.fines (length r.namespaces) nowhere h.settled (omega (arith, h.counted)) (λ k there. refl)))

    -- nothing is left in the list
    pub ended_empty : (left : List Unchecked) (marks : List Mark) → left ≡ [] → Stands form r v nothing left marks
        → verdict_within form r (length r.namespaces) nowhere v ≡ fine
    ended_empty left marks none h = ended marks (subst (λ (l : List Unchecked). Stands form r v nothing l marks) none h)

    -- what is looked at is replaced, where no namespace is opened or closed
    turned : (top top' : Part) (xs ys zs left left' : List Unchecked) (marks : List Mark) → left ≡ xs ++ ys → left' ≡ xs ++ zs
        → (h : Stands form r v top left marks) → ((around : List ℕ) → opens around ys ≡ opens around zs)
        → ((whole later : Part) → Remains form r h.fines top whole later ys → Remains form r h.fines top' whole later zs)
        → Stands form r v top' left' marks
    turned top top' xs ys zs left left' marks was is h same step =
        let whole : Part = λ inside. verdict form r inside v in
        let still : opens [] left ≡ opens [] left' =
        ap (opens []) was ∙ (opens-append [] xs ys ∙ (same (opens [] xs) ∙ (sym (opens-append [] xs zs) ∙ ap (opens []) (sym is)))) in
        let before : Remains form r h.fines top whole nothing (xs ++ ys) = subst (Remains form r h.fines top whole nothing) was h.rest in
        record {
          fines = h.fines;
          settled = h.settled;
          new = subst (AllNew h.fines) still h.new;
          marked = λ n. h.marked n ∙ ap (λ (around : List ℕ). mark_of h.fines around n) still;
          counted = omega (arith, h.counted, ap (λ (around : List ℕ). length around) still);
          rest = subst (Remains form r h.fines top' whole nothing) (sym is)
              (along h.fines h.fines top top' ys zs (λ inside all. all) step xs whole nothing before);
        }

    -- a part has the verdict of another
    pub instead : (top top' : Part) (left : List Unchecked) (marks : List Mark) → (h : Stands form r v top left marks)
        → ((inside : NamespaceVerdicts) → AllFine r h.fines inside → top inside ≡ top' inside) → Stands form r v top' left marks
    instead top top' left marks h same =
        turned top top' left [] [] left left marks (sym (append-nil left)) (sym (append-nil left)) h (λ around. refl)
        (λ whole later rest. λ inside all. ap (λ (o : Verdict). and_then o (later inside)) (sym (same inside all)) ∙ rest inside all)

    -- the later half of it joins the list
    pub pushed : (top top' : Part) (left new : List Unchecked) (marks : List Mark) (x : Unchecked) → new ≡ left ++ x ∷ []
        → is_end x ≡ false → ((inside : NamespaceVerdicts) → top inside ≡ and_then (top' inside) (part_of form r x inside))
        → Stands form r v top left marks → Stands form r v top' new marks
    pushed top top' left new marks x is plain parts h =
        turned top top' left [] (x ∷ []) left new marks (sym (append-nil left)) is h (λ around. sym (opens_plain x plain around))
        (λ whole later rest. pushed_one h.fines top top' whole later x plain parts rest)

    -- what leaves the list is looked at
    pub popped : (left below : List Unchecked) (marks : List Mark) (x : Unchecked) → left ≡ below ++ x ∷ [] → is_end x ≡ false
        → Stands form r v nothing left marks → Stands form r v (part_of form r x) below marks
    popped left below marks x is plain h =
        turned nothing (part_of form r x) below (x ∷ []) [] left below marks is (sym (append-nil below)) h (opens_plain x plain)
        (λ whole later rest. popped_one h.fines whole later x plain rest)

    -- it refuses
    pub refuses : (top : Part) (left : List Unchecked) (marks : List Mark) (chain : List ErrorKind) → Stands form r v top left marks
        → ((around : List ℕ) (levels : ℕ) → ((n : ℕ) → mark_at marks n ≡ mark.Open → among around n ≡ true)
        → top (namespace_verdict form r levels (among around)) ≡ Err chain)
        → verdict_within form r (length r.namespaces) nowhere v ≡ Err chain
    refuses top left marks chain h bad =
        refused h.fines h.settled left [] (length r.namespaces) top (λ inside. verdict form r inside v) nothing chain h.rest h.new
        (omega (arith, h.counted))
        (λ levels. bad (opens [] left) levels (λ n is. open_among h.fines (opens [] left) n (sym (h.marked n) ∙ is)))

    -- a namespace that wasn't met is opened
    pub opened : (s n : ℕ) (ps : List (Val × Val)) (left new : List Unchecked) (marks new_marks : List Mark)
        → namespace_at r s n ≡ Some ps → mark_at marks n ≡ mark.Unmet → IsMarked mark.Open n marks new_marks
        → new ≡ left ++ unchecked.End n ∷ [] → Stands form r v (λ inside. inside s n) left marks
        → Stands form r v (λ inside. pairs_verdict form r inside (pairs_of ps)) new new_marks
    opened s n ps left new marks new_marks there before now is h =
        let top : Part = λ inside. inside s n in
        let held : Part = λ inside. pairs_verdict form r inside (pairs_of ps) in
        let whole : Part = λ inside. verdict form r inside v in
        let around = opens [] left in
        let same : r.state ≡ s = state_there r s n ps there in
        let here : namespace_at r r.state n ≡ Some ps = subst (λ (t : ℕ). namespace_at r t n ≡ Some ps) (sym same) there in
        let free = unmet_free h.fines around n (sym (h.marked n) ∙ before) in
        let deeper : n ∷ around ≡ opens [] new =
        sym (ap (opens []) is ∙ opens-append [] left (unchecked.End n ∷ [])) in
        let one_less = unmet_opened one_each r.namespaces n ps (mark_at marks) (mark_at new_marks) (is_there r s n ps there) before
        now.here now.elsewhere in
        let step : (whole later : Part) → Remains form r h.fines top whole later []
        → Remains form r h.fines held whole later (unchecked.End n ∷ []) =
        λ whole later rest. (
          λ inside all. ap (λ (t : ℕ). and_then (inside t n) (later inside)) same ∙ rest inside all,
          (ps, (here, λ inside all. and_then-fine (pairs_verdict form r inside (pairs_of ps)))),
        ) in
        let before_it : Remains form r h.fines top whole nothing (left ++ []) =
        subst (Remains form r h.fines top whole nothing) (sym (append-nil left)) h.rest in
        record {
          fines = h.fines;
          settled = h.settled;
          new = subst (AllNew h.fines) deeper (free.0, (free.1, h.new));
          marked = λ k. opened_mark h.fines around n k marks new_marks free.0 now (h.marked k) (cases_eq n k)
              ∙ ap (λ (ns : List ℕ). mark_of h.fines ns k) deeper;
          counted = omega (arith, h.counted, one_less, ap (λ (ns : List ℕ). length ns) deeper);
          rest = subst (Remains form r h.fines held whole nothing) (sym is)
              (along h.fines h.fines top held [] (unchecked.End n ∷ []) (λ inside all. all) step left whole nothing before_it);
        }

    -- the end of a namespace leaves the list
    pub closed : (n : ℕ) (left below : List Unchecked) (marks new_marks : List Mark) → left ≡ below ++ unchecked.End n ∷ []
        → IsMarked mark.Fine n marks new_marks → Stands form r v nothing left marks → Stands form r v nothing below new_marks
    closed n left below marks new_marks is now h =
        let whole : Part = λ inside. verdict form r inside v in
        let around = opens [] below in
        let deeper : opens [] left ≡ n ∷ around = ap (opens []) is ∙ opens-append [] below (unchecked.End n ∷ []) in
        let fresh : AllNew h.fines (n ∷ around) = subst (AllNew h.fines) deeper h.new in
        let there : Remains form r h.fines nothing whole nothing (below ++ unchecked.End n ∷ []) =
        subst (Remains form r h.fines nothing whole nothing) is h.rest in
        let before : mark_at marks n ≡ mark.Open =
        h.marked n ∙ (ap (λ (ns : List ℕ). mark_of h.fines ns n) deeper ∙ is_opened h.fines around n fresh.0) in
        let as_many = unmet_closed one_each r.namespaces n (mark_at marks) (mark_at new_marks) before now.here now.elsewhere in
        let fewer : (inside : NamespaceVerdicts) → AllFine r (n ∷ h.fines) inside → AllFine r h.fines inside =
        λ inside all k among_fines. all k (among_more n k h.fines among_fines) in
        let step : (whole later : Part) → Remains form r h.fines nothing whole later (unchecked.End n ∷ [])
        → Remains form r (n ∷ h.fines) nothing whole later [] =
        λ whole later rest. λ inside all.
        ap (λ (o : Verdict). and_then o (later inside)) (sym (all n (among_here n n h.fines refl)))
        ∙ rest.0 inside (fewer inside all) in
        let after : Remains form r (n ∷ h.fines) nothing whole nothing (below ++ []) =
        along h.fines (n ∷ h.fines) nothing nothing (unchecked.End n ∷ []) [] fewer step below whole nothing there in
        record {
          fines = n ∷ h.fines;
          settled = (fresh.0, (held_fine h.fines n below whole nothing there, h.settled));
          new = new_more n h.fines around fresh.1.0 fresh.1.1;
          marked = λ k. closed_mark h.fines around n k marks new_marks now
              (h.marked k ∙ ap (λ (ns : List ℕ). mark_of h.fines ns k) deeper) (cases_eq n k);
          counted = omega (arith, h.counted, as_many, ap (λ (ns : List ℕ). length ns) deeper);
          rest = subst (Remains form r (n ∷ h.fines) nothing whole nothing) (append-nil below) after;
        }

    -- a namespace that was found fine is fine here
    pub skipped : (s n : ℕ) (ps : List (Val × Val)) (left : List Unchecked) (marks : List Mark) → namespace_at r s n ≡ Some ps
        → mark_at marks n ≡ mark.Fine → Stands form r v (λ inside. inside s n) left marks → Stands form r v nothing left marks
    skipped s n ps left marks there is h =
        let among_fines = fine_among h.fines (opens [] left) n (sym (h.marked n) ∙ is) in
        instead (λ inside. inside s n) nothing left marks h
        (λ inside all. ap (λ (t : ℕ). inside t n) (sym (state_there r s n ps there)) ∙ all n among_fines)

  -- ---- what functions answer

  -- another part is looked at
  pub goes_from : {U : Type 0} (result : Result U (List ErrorKind)) (top top' : Part) (left between new : List Unchecked)
      (marks marks' new_marks : List Mark)
      → ((v : Val) → Stands form r v top left marks → Stands form r v top' between marks')
      → Goes form r result top' between marks' new new_marks → Goes form r result top left marks new new_marks
  goes_from (Ok u) top top' left between new marks marks' new_marks step goes = λ v h. goes v (step v h)
  goes_from (Err chain) top top' left between new marks marks' new_marks step goes = λ m v h. goes m v (step v h)

  -- the error of a call is that of the whole
  pub goes_passed : {U : Type 0} (result : Result U (List ErrorKind)) (chain : List ErrorKind) (top : Part) (left new : List Unchecked)
      (marks new_marks : List Mark) → IsErrAnd result (λ x. x ≡ chain)
      → (is_memory_alone chain ≡ false → (v : Val) → Stands form r v top left marks
      → verdict_within form r (length r.namespaces) nowhere v ≡ Err chain)
      → Goes form r result top left marks new new_marks
  goes_passed (Ok u) chain top left new marks new_marks is h = absurd is
  goes_passed (Err x) chain top left new marks new_marks is h = subst (λ (y : List ErrorKind). is_memory_alone y ≡ false
      → (v : Val) → Stands form r v top left marks → verdict_within form r (length r.namespaces) nowhere v ≡ Err y) (sym is) h

  -- a part joins the list, where there is memory
  pub goes_put : (result : Result (Unit {0}) (List ErrorKind)) (top : Part) (x : Unchecked) (left new : List Unchecked) (marks : List Mark)
      → OnOk result (new ≡ left ++ x ∷ []) → IfErr result (λ e. e ≡ OutOfMemory ∷ []) → is_end x ≡ false
      → ((inside : NamespaceVerdicts) → top inside ≡ part_of form r x inside) → Goes form r result top left marks new marks
  goes_put (Ok u) top x left new marks is memory plain same = λ v h. pushed v top nothing left new marks x is plain same h
  goes_put (Err chain) top x left new marks is memory plain same = λ m. absurd (cc (m, memory))

  -- a part has this verdict whatever is known of namespaces
  pub goes_leaf : (result : Result (Unit {0}) (List ErrorKind)) (top : Part) (stated : Verdict) (left : List Unchecked)
      (marks : List Mark) → IsAnswer result stated
      → ((inside : NamespaceVerdicts) → top inside ≡ stated) → Goes form r result top left marks left marks
  goes_leaf (Ok u) top stated left marks answers same = λ v h. instead v top nothing left marks h (λ inside all. same inside ∙ answers)
  goes_leaf (Err chain) top stated left marks answers same = λ m v h.
      refuses v top left marks chain h (λ around levels on_way. same (namespace_verdict form r levels (among around)) ∙ answers m)

  -- the first key is refused
  pub goes_key : (pair : Val × Val) (pairs following : List (Val × Val)) (left : List Unchecked) (marks : List Mark) (chain : List ErrorKind)
      (v : Val) → pairs ≡ pair ∷ following → in_json form (key_verdict pair.0) ≡ Err chain
      → Stands form r v (λ inside. pairs_verdict form r inside (pairs_of pairs)) left marks
      → verdict_within form r (length r.namespaces) nowhere v ≡ Err chain
  goes_key pair pairs following left marks chain v is bad h = refuses v (λ inside. pairs_verdict form r inside (pairs_of pairs)) left marks chain h
      (λ around levels on_way.
      let inside = namespace_verdict form r levels (among around) in
      ap (λ (l : List (Val × Val)). pairs_verdict form r inside (pairs_of l)) is
      ∙ ap (λ (o : Verdict). and_then (and_then o (and_then (verdict form r inside pair.0) (verdict form r inside pair.1)))
      (pairs_verdict form r inside (pairs_of following))) bad)

  -- the end of a namespace leaves the list, where its mark finds memory
  pub goes_closed : (result : Result (Unit {0}) (List ErrorKind)) (n : ℕ) (left below : List Unchecked) (marks new_marks : List Mark)
      → left ≡ below ++ unchecked.End n ∷ [] → OnOk result (IsMarked mark.Fine n marks new_marks)
      → IfErr result (λ e. e ≡ OutOfMemory ∷ []) → Goes form r result nothing left marks below new_marks
  goes_closed (Ok u) n left below marks new_marks is now memory = λ v h. closed v n left below marks new_marks is now h
  goes_closed (Err chain) n left below marks new_marks is now memory = λ m. absurd (cc (m, memory))

  -- a namespace is open, or isn't there
  pub goes_open : (s n : ℕ) (left : List Unchecked) (marks : List Mark) (v : Val) → mark_at marks n ≡ mark.Open
      → Stands form r v (λ inside. inside s n) left marks
      → verdict_within form r (length r.namespaces) nowhere v ≡ Err (InvalidOperation ∷ [])
  goes_open s n left marks v is h = refuses v (λ inside. inside s n) left marks (InvalidOperation ∷ []) h
      (λ around levels on_way. namespace-on_way form r levels (among around) s n (on_way n is))

  pub goes_missing : (s n : ℕ) (left : List Unchecked) (marks : List Mark) (v : Val) → namespace_at r s n ≡ None
      → Stands form r v (λ inside. inside s n) left marks
      → verdict_within form r (length r.namespaces) nowhere v ≡ Err (InvalidOperation ∷ [])
  goes_missing s n left marks v is h = refuses v (λ inside. inside s n) left marks (InvalidOperation ∷ []) h
      (λ around levels on_way. namespace-missing form r levels (among around) s n is)

-- ---- how much is left

pub weight-push : (xs : List Unchecked) (x : Unchecked) → unchecked_weight (xs ++ x ∷ []) ≡ unchecked_weight xs + one_weight x
weight-push [] x = omega arith
weight-push (y ∷ ys) x = omega (arith, weight-push ys x)

pub weight-joined : (left new : List Unchecked) (x : Unchecked) → new ≡ left ++ x ∷ []
    → unchecked_weight new ≡ unchecked_weight left + one_weight x
weight-joined left new x is = ap unchecked_weight is ∙ weight-push left x

pub weight_put : (r : RecordData) (result : Result (Unit {0}) (List ErrorKind)) (left new : List Unchecked) (marks : List Mark)
    (x : Unchecked) (bound : ℕ) → OnOk result (new ≡ left ++ x ∷ []) → to_check r left marks + one_weight x ≤ bound
    → OnOk result (to_check r new marks ≤ bound)
weight_put r (Ok u) left new marks x bound is h = omega (arith, weight-joined left new x is, h)
weight_put r (Err chain) left new marks x bound is h = tt

pub less_after : (result : Result (Unit {0}) (List ErrorKind)) (a b d : ℕ) → OnOk result (a ≤ b) → b < d → OnOk result (a < d)
less_after (Ok u) a b d h less = omega arith
less_after (Err chain) a b d h less = tt

pub unweighed : (result : Result (Unit {0}) (List ErrorKind)) (a n : ℕ) → OnOk result (a ≤ a + n)
unweighed (Ok u) a n = omega arith
unweighed (Err chain) a n = tt

-- a mark as fine adds nothing
pub less_marked : (r : RecordData) (result : Result (Unit {0}) (List ErrorKind)) (n : ℕ) (left : List Unchecked) (marks new_marks : List Mark)
    → OnOk result (IsMarked mark.Fine n marks new_marks) → OnOk result (to_check r left new_marks < to_check r left marks + 1)
less_marked r (Ok u) n left marks new_marks now =
    omega (arith, unmet_fine held_weight r.namespaces n (mark_at marks) (mark_at new_marks) now.here now.elsewhere)
less_marked r (Err chain) n left marks new_marks now = tt

-- a namespace that is opened counts no longer
pub weight_opened : (r : RecordData) (s n : ℕ) (ps : List (Val × Val)) (left : List Unchecked) (marks new_marks : List Mark)
    → namespace_at r s n ≡ Some ps → mark_at marks n ≡ mark.Unmet → IsMarked mark.Open n marks new_marks
    → to_check r left marks ≡ to_check r left new_marks + (pairs_size (pairs_of ps) + 2)
weight_opened r s n ps left marks new_marks there before now =
    omega (
      arith,
      unmet_opened held_weight r.namespaces n ps (mark_at marks) (mark_at new_marks) (is_there r s n ps there) before now.here
          now.elsewhere,
    )

-- a value that is no namespace
pub no_namespace : (n : Node) (v : Val) → node_view n ≡ v → ((s i : ℕ) → n ≡ node.Namespace s i → ⊥) → is_namespace v ≡ false
no_namespace n v is h = ap is_namespace (sym is) ∙ stays n h
  where
    stays : (n : Node) → ((s i : ℕ) → n ≡ node.Namespace s i → ⊥) → is_namespace (node_view n) ≡ false
    stays (node.Namespace s i) h = absurd (h s i refl)
    stays _ h = refl
