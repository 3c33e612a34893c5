-- A stream that has shapes is never stuck.
use Rattle.std.proofs.Common.{◌≡◌, ◌⊎◌, inl, inr, ℕ, ◌+◌, pos, List, [], ◌∷◌, ◌++◌, length, Option, Some, None, Bool, true, false, Ok, Err}
use Rattle.std.proofs.Common.{refl, sym, ap, ◌∙◌, subst, arith}
use Rattle.std.specs.Prelude.{slice_get, nat_eq, nat_lt, ◌&&◌, cond, ℤ, not, is_none, negsuc, ◌+ℤ◌}
use Rattle.std.proofs.lemmas.Bool.Decides.{nat_tests}
use Rattle.tm_values.specs.Answer.{Answer, invalid}
use Rattle.tm_values.specs.Val.{Val, number, boolean, text_in}
use Rattle.tm_values.specs.Truth.{is_undefined}
use Rattle.tm_values.specs.declared.error.ErrorKind.{ErrorKind}
use Rattle.tm_values.specs.declared.error.ErrorKind.TheVariants.{InvalidOperation, TemplateNotFound}
use Rattle.tm_primitives.specs.Whole.{in_range}
use Rattle.tm_definitions.specs.Arithmetic.{number_answer}
use Rattle.tm_syntax.specs.Names.{is_among}
use Rattle.tm_trees.specs.Trees.{Application}
use Rattle.tm_trees.specs.Trees.applications
use Rattle.tm_trees.specs.Trees.unaries
use Rattle.tm_trees.specs.Trees.binaries
use Rattle.tm_trees.specs.Instructions.{Instruction}
use Rattle.tm_trees.specs.Instructions.instructions as i
use Rattle.tm_meaning.specs.World.{choose, World, Res, Good, bind, need, check, answered, find_name, view_of, module_of}
use Rattle.tm_definitions.specs.Emitted.{text_answer}
use Rattle.tm_meaning.specs.World.{escape_for, has_enclosed, put_enclosed, closing_over, own_closure, make_macro, with_fuel, charged}
use Rattle.tm_meaning.specs.World.{name_of, find, records_of, store}
use Rattle.tm_definitions.specs.Iteration.{items_or}
use Rattle.tm_definitions.specs.Members.{or_undefined}
use Rattle.tm_meaning.specs.Operators.{result_of, result_of_unary, keyword_map, map_of_pairs, operated, list_of_values}
use Rattle.tm_meaning.specs.Inheritance.{load}
use Rattle.tm_meaning.specs.Calls.{call_named, call_callee, applied, call_innermost, enter_block, enter_super, enter_include, Asked, Callee}
use Rattle.tm_meaning.specs.Meaning.{none_waits}
use Rattle.tm_meaning.specs.declared.base.Base.{Base}
use Rattle.tm_meaning.specs.declared.stream.StreamId.{StreamId}
use Rattle.tm_meaning.specs.declared.stream.TemplateId.{TemplateId}
use Rattle.tm_meaning.specs.Machine.{Activation, Capture, Config, Program, End, Finished, Failed, Stuck, Next, with_world}
use Rattle.tm_meaning.specs.Machine.{after, on_top, on_taken, taken, on, goes, jumps, writes, audible, new_capture, first_run, running, base_of, asked, asked_in_place}
use Rattle.tm_meaning.specs.Instructions.{apply_of, take_counted, on_truth, closure_in, names_in, on_parts, closure_value, group_on, on_used}
use Rattle.tm_meaning.specs.Instructions.{with_filters, with_tests, is_heard, awaiting, replacing}
use Rattle.tm_meaning.specs.Steps.{effect, act, step, Final, final, Leads, over, more, restart, nest, begun as run_begun, begins}
use Rattle.tm_shapes.specs.declared.kind.Kind.{Kind}
use Rattle.tm_shapes.specs.declared.kind.Kind.TheVariants.{Value as value, Zero as nothing, Group as group, Closure as closure, Names as names}
use Rattle.tm_shapes.specs.declared.kind.Kind.TheVariants.{Opened as opened, One as one}
use Rattle.tm_shapes.specs.declared.kind.Frame.{Frame}
use Rattle.tm_shapes.specs.declared.kind.Frame.TheVariants.{Scope as scope, Loop as loop}
use Rattle.tm_shapes.specs.declared.kind.Reading.{Reading}
use Rattle.tm_shapes.specs.declared.kind.Reading.TheVariants as readings
use Rattle.tm_shapes.specs.Shapes.{Part, Shape, Shapes, entry_shape}
use Rattle.tm_shapes.specs.Flows.{Flow, refused, ends, leads, both, takes, Site, flow_of, pop, pops, replaces, replaces_counted, with_operands, next}
use Rattle.tm_shapes.specs.Flows.{add, build_macro, builds, builds_after, in_row, is_one, is_zero as is_nought, load_names, load_on, load_zero}
use Rattle.tm_shapes.specs.Flows.{on_loop, pop_loop, swap_over, zero_of}
use Rattle.tm_shapes.specs.Shaped.{ReadsTo, Meets, IsShaped, HasCache, UsesCache}
use Rattle.tm_safety.specs.Fits.{Match, ids_of, Ground, AllEnter, Stand}
use Rattle.tm_safety.proofs.Comes.{Calm, calm_same, callee_stream, Comes, named_comes, callee_comes, applied_comes, innermost_comes, block_comes, super_comes}
use Rattle.tm_safety.proofs.Comes.{include_comes, owning_marks}
use Rattle.tm_safety.proofs.Fine.{Grounded, Enter, At, EndFine, Fine, back_fine, after_fine, choose_fine, pop_fine, pops_fine, counted_fine}
use Rattle.tm_safety.proofs.Fine.{moves, goes_fine, writes_fine, ground_of, First, first_is}
use Rattle.tm_safety.proofs.Effects.{store_calm, use_cache, asked_fine, placed_fine, loop_fine, iterate_fine, push_loop_fine, push_with_fine, pop_frame_fine}
use Rattle.tm_safety.proofs.Effects.{pop_loop_frame_fine, begin_fine, end_fine, push_escape_fine, pop_escape_fine, closed_by, parent_fine, return_fine}
use Rattle.tm_safety.proofs.Effects.{unpack_fine, group_match}

-- ---------------------------------------------------------------- worlds
enclosed_calm : (x : List ℕ) (v : Val) (o : Option ℕ) (w : World) → Calm w (put_enclosed x v (closing_over o w))
enclosed_calm x v (Some n) w = record { stream = refl; marks = refl; ids = refl }
enclosed_calm x v None w = record { stream = refl; marks = owning_marks (Some (length w.closures)) w.scopes.frames; ids = refl }

-- ---------------------------------------------------------------- counts
counted_on : (n : ℕ) (b : Bool) (z : ℤ) → z ≡ pos n → in_range z ≡ b →
    (number_answer (cond b (Some z) None) ≡ Ok (number (pos n))) ⊎ (number_answer (cond b (Some z) None) ≡ invalid)
counted_on n true z e h = inl (ap (λ z. Ok (number z)) e)
counted_on n false z e h = inr refl

-- ---------------------------------------------------------------- what literals are
one_is : (v : Val) → is_one v ≡ true → v ≡ number (pos 1)
one_is (number (pos n)) e = ap (λ n. number (pos n)) (grind (arith, nat_tests, e))
one_is (number (negsuc n)) e = absurd (cc e)
one_is v e = absurd (cc e)

zero_is : (v : Val) → is_nought v ≡ true → v ≡ number (pos 0)
zero_is (number (pos n)) e = ap (λ n. number (pos n)) (grind (arith, nat_tests, e))
zero_is (number (negsuc n)) e = absurd (cc e)
zero_is v e = absurd (cc e)

and_second : (a b : Bool) → (a && b) ≡ true → b ≡ true
and_second true b e = e
and_second false b e = absurd (cc e)

own_is : (o : Option ℕ) → closure_in (closure_value o) ≡ Some o
own_is None = refl
own_is (Some n) = refl

module _ (p : Program) (shapes : StreamId → Shapes) (shaped : (s : StreamId) → IsShaped (p.code s) (shapes s)) where
  module _ (g : Ground) (f : Base) (base : Grounded f g) (c : Config) (s : Shape) (st : Stand p.code shapes shaped g s c) (at : Site)
      (here : at.place ≡ c.run.place) where
    abbrev sh : Shapes
    sh = shapes c.run.stream

    abbrev us : List Val
    us = st.below.operands

    abbrev Good_next : Next → Type 0
    Good_next n = Fine p shapes shaped g n

    abbrev vs0 : List Val
    vs0 = c.run.operands

    -- on, with other operands, in a world that is as it was but for names and items
    ok : (ks : List Kind) (vs : List Val) (w : World) → Calm c.world w → Meets sh (next at ks s) → Match ks vs us → Good_next (goes vs w c)
    ok = goes_fine p shapes shaped g c s st at here

    same : Calm c.world c.world
    same = calm_same c.world

    answers : {A : Type 0} (a : Answer A) (h : A → World → Next) → ((x : A) → Good_next (h x c.world)) → Good_next (after (answered a c.world) h)
    answers a h k = after_fine p shapes shaped g a c.world h st.records k

    exports_fine : (a : Answer (List ℕ)) (h : Val → World → Next) → ((v : Val) → Good_next (h v c.world)) →
        Good_next (after (bind (answered a c.world) (λ t w. Good (module_of w t) w)) h)
    exports_fine (Ok t) h k = k (module_of c.world t)
    exports_fine (Err chain) h k = st.records

    pops_one : (ks : List Kind) (vs : List Val) (F : List Kind → Flow) (G : Val → List Val → Next) → Meets sh (pop ks F) → Match ks vs us →
        ((v : Val) (more : List Kind) (rest : List Val) → Meets sh (F more) → Match more rest us → Good_next (G v rest)) →
        Good_next (on_top vs c.world G)
    pops_one = pop_fine p shapes shaped g sh us c.world

    -- a value is replaced
    one_fine : (a : Val → Answer Val) → Meets sh (replaces at 1 1 s) →
        Good_next (on_top vs0 c.world (λ v vs. after (answered (a v) c.world) (λ x w. goes (x ∷ vs) w c)))
    one_fine a h =
        pops_one s.part.operands vs0 _ _ h st.holds.operands (λ v ks vs h m.
        answers (a v) _ (λ x. ok (value ∷ ks) (x ∷ vs) c.world same h (x, vs, refl, m)))

    two_fine : (a : Val → Val → Answer Val) → Meets sh (replaces at 2 1 s) →
        Good_next (on_top vs0 c.world (λ y vs. on_top vs c.world (λ x rest. after (answered (a x y) c.world) (λ z w. goes (z ∷ rest) w c))))
    two_fine a h =
        pops_one s.part.operands vs0 _ _ h st.holds.operands (λ y ks vs h m.
        pops_one ks vs _ _ h m (λ x ks1 rest h1 m1.
        answers (a x y) _ (λ z. ok (value ∷ ks1) (z ∷ rest) c.world same h1 (z, rest, refl, m1))))

    -- so many values are replaced by one
    taken_fine : (n : ℕ) (a : List Val → Answer Val) → Meets sh (replaces at n 1 s) →
        Good_next (on_taken (taken n [] vs0) c.world (λ vs rest. after (answered (a vs) c.world) (λ v w. goes (v ∷ rest) w c)))
    taken_fine n a h =
        pops_fine p shapes shaped g sh us c.world n s.part.operands vs0 [] _ _ h st.holds.operands (λ xs ks rest h m.
        answers (a xs) _ (λ v. ok (value ∷ ks) (v ∷ rest) c.world same h (v, rest, refl, m)))

    made_fine : (n : ℕ) (a : List Val → Val) → Meets sh (replaces at n 1 s) →
        Good_next (on_taken (taken n [] vs0) c.world (λ vs rest. goes (a vs ∷ rest) c.world c))
    made_fine n a h =
        pops_fine p shapes shaped g sh us c.world n s.part.operands vs0 [] _ _ h st.holds.operands (λ xs ks rest h m.
        ok (value ∷ ks) (a xs ∷ rest) c.world same h (a xs, rest, refl, m))

    listed_fine : (n : Option ℕ) (a : List Val → Val) → Meets sh (replaces_counted at n s) →
        Good_next (take_counted n vs0 c.world (λ vs rest. goes (a vs ∷ rest) c.world c))
    listed_fine n a h =
        counted_fine p shapes shaped g sh us c.world n s.part.operands vs0 _ _ h st.holds.operands (λ xs ks rest h m.
        ok (value ∷ ks) (a xs ∷ rest) c.world same h (a xs, rest, refl, m))

    call_fine : (n : Option ℕ) (a : List Val → Asked) → ((vs : List Val) → Comes c.world (a vs)) → Meets sh (replaces_counted at n s) →
        Good_next (take_counted n vs0 c.world (λ vs rest. asked p c rest (a vs)))
    call_fine n a comes h =
        counted_fine p shapes shaped g sh us c.world n s.part.operands vs0 _ _ h st.holds.operands (λ xs ks rest h m.
        asked_fine p shapes shaped g c s st at here ks rest (a xs) (comes xs) h m)

    in_place_fine : (a : Val → Asked) → ((v : Val) → Comes c.world (a v)) → Meets sh (replaces at 1 0 s) →
        Good_next (on_top vs0 c.world (λ v vs. asked_in_place p f c vs (a v)))
    in_place_fine a comes h =
        pops_one s.part.operands vs0 _ _ h st.holds.operands (λ v ks vs h m.
        placed_fine p shapes shaped g c s st at here f ks vs (a v) (comes v) h m)

    jump_fine : (n : ℕ) (ks : List Kind) (vs : List Val) → ReadsTo sh n (with_operands ks s) → Match ks vs us → Good_next (jumps n vs c.world c)
    jump_fine n ks vs r m = moves p shapes shaped g c s st n ks vs c.world same m r

    truth_fine : (F : List Kind → Flow) (G H : Val → List Val → World → Next) → Meets sh (pop s.part.operands F) →
        ((v : Val) (ks : List Kind) (vs : List Val) → Meets sh (F ks) → Match ks vs us → Good_next (G v vs c.world)) →
        ((v : Val) (ks : List Kind) (vs : List Val) → Meets sh (F ks) → Match ks vs us → Good_next (H v vs c.world)) →
        Good_next (on_truth p.host c (λ b v vs w. choose b (λ _. G v vs w) (λ _. H v vs w)))
    truth_fine F G H h k l =
        pops_one s.part.operands vs0 F _ h st.holds.operands (λ v ks vs h m.
        answers (Rattle.tm_definitions.specs.Truth.truth_of p.host.undefined v) _ (λ b.
        choose_fine p shapes shaped g b _ _ (λ _. k v ks vs h m) (λ _. l v ks vs h m)))

    -- ---------------------------------------------------------------- what stands together
    abbrev Swapped : List Val → Type 0
    Swapped vs = Good_next (on_top vs c.world (λ y us. on_top us c.world (λ x rest. goes (x ∷ y ∷ rest) c.world c)))

    abbrev Over : Val → List Val → Type 0
    Over y vs = Good_next (on_top vs c.world (λ x rest. goes (x ∷ y ∷ rest) c.world c))

    group_swapped : (y : Val) (xs rest : List Val) (o : Option ℕ) (ks : List Kind) (b : Bool) →
        Meets sh (choose b (λ _. next at (opened o ∷ ks) s) (λ _. refused)) → Match ks rest us →
        Good_next (goes (number (pos (length xs)) ∷ y ∷ (xs ++ rest)) c.world c)
    group_swapped y xs rest o ks false h m = absurd h
    group_swapped y xs rest o ks true h m =
        ok (opened o ∷ ks) (number (pos (length xs)) ∷ y ∷ (xs ++ rest)) c.world same h (y, xs, rest, refl, m)

    zero_swapped : (y : Val) (rest : List Val) (z : ℕ) (ks : List Kind) (b : Bool) →
        Meets sh (choose b (λ _. takes z (next at (opened (Some z) ∷ ks) s)) (λ _. next at (value ∷ value ∷ ks) s)) → Match ks rest us →
        Good_next (goes (number (pos 0) ∷ y ∷ rest) c.world c)
    zero_swapped y rest z ks true h m =
        ok (opened (Some z) ∷ ks) (number (pos 0) ∷ y ∷ rest) c.world same h (y, [], rest, refl, m)
    zero_swapped y rest z ks false h m =
        ok (value ∷ value ∷ ks) (number (pos 0) ∷ y ∷ rest) c.world same h (number (pos 0), y ∷ rest, refl, (y, rest, refl, m))

    -- a value over others
    over_fine : (y : Val) (ks : List Kind) (vs : List Val) → Meets sh (swap_over at s ks) → Match ks vs us → Over y vs
    over_fine y (group o ∷ ks) vs h (xs, rest, e, m) = subst (Over y) (sym e) (group_swapped y xs rest o ks (in_row at) h m)
    over_fine y (nothing z ∷ ks) vs h (rest, e, m) = subst (Over y) (sym e) (zero_swapped y rest z ks (in_row at) h m)
    over_fine y ks vs h m =
        pops_one ks vs (λ ks1. next at (value ∷ value ∷ ks1) s) _ h m (λ x ks1 rest h1 m1.
        ok (value ∷ value ∷ ks1) (x ∷ y ∷ rest) c.world same h1 (x, y ∷ rest, refl, (y, rest, refl, m1)))

    swap_fine : (ks : List Kind) (vs : List Val) → Meets sh (pop ks (swap_over at s)) → Match ks vs us → Swapped vs
    swap_fine ks vs h m = pops_one ks vs (swap_over at s) _ h m (λ y ks1 vs1 h1 m1. over_fine y ks1 vs1 h1 m1)

    abbrev Added : List Val → Type 0
    Added vs = Good_next (on_top vs c.world (λ y us. on_top us c.world (λ x rest. after (operated p.host binaries.Add x y c.world) (λ z w. goes (z ∷ rest) w c))))

    counted_by : (x : Val) (xs rest : List Val) (o : Option ℕ) (ks : List Kind) (a : Answer Val) →
        (a ≡ Ok (number (pos (length (x ∷ xs))))) ⊎ (a ≡ invalid) → Meets sh (next at (group o ∷ ks) s) →
        Match ks rest us → Good_next (after (answered a c.world) (λ z w. goes (z ∷ x ∷ (xs ++ rest)) w c))
    counted_by x xs rest o ks a (inl e) h m =
        subst (λ a. Good_next (after (answered a c.world) (λ z w. goes (z ∷ x ∷ (xs ++ rest)) w c))) (sym e)
        (ok (group o ∷ ks) (number (pos (length (x ∷ xs))) ∷ x ∷ (xs ++ rest)) c.world same h (x ∷ xs, rest, refl, m))
    counted_by x xs rest o ks a (inr e) h m =
        subst (λ a. Good_next (after (answered a c.world) (λ z w. goes (z ∷ x ∷ (xs ++ rest)) w c))) (sym e) st.records

    two_added : (ks : List Kind) (vs : List Val) → Meets sh (pops 2 ks (λ ks1. next at (value ∷ ks1) s)) → Match ks vs us → Added vs
    two_added ks vs h m =
        pops_one ks vs _ _ h m (λ y ks1 vs1 h1 m1. pops_one ks1 vs1 _ _ h1 m1 (λ x ks2 rest h2 m2.
        answers (result_of binaries.Add p.host.undefined (records_of c.world) x y) (λ z w. goes (z ∷ rest) w c)
        (λ z. ok (value ∷ ks2) (z ∷ rest) c.world same h2 (z, rest, refl, m2))))

    add_fine : (ks : List Kind) (vs : List Val) → Meets sh (add at s ks) → Match ks vs us → Added vs
    add_fine (one ∷ opened o ∷ ks) vs h (vs1, e, (x, xs, rest, e1, m)) =
        let z : ℤ = pos (length xs) +ℤ pos 1 in
        let is : z ≡ pos (length (x ∷ xs)) = ap (λ n. pos n) (omega arith) in
        subst Added (sym (e ∙ ap (λ y. number (pos 1) ∷ y) e1))
        (counted_by x xs rest o ks _ (counted_on (length (x ∷ xs)) (in_range z) z is refl) h m)
    add_fine ks vs h m = two_added ks vs h m

    -- 0 is a value, and a group of none
    zero_read : (v : Val) (r : Reading) (place : ℕ) (ks : List Kind) → v ≡ number (pos 0) → Meets sh (next at (zero_of r place ks ∷ ks) s) →
        Match ks vs0 us → Good_next (goes (v ∷ vs0) c.world c)
    zero_read v readings.Value place ks e h m = ok (value ∷ ks) (v ∷ vs0) c.world same h (v, vs0, refl, m)
    zero_read v readings.Group place ks e h m =
        ok (group (Some place) ∷ ks) (v ∷ vs0) c.world same h ([], vs0, ap (λ x. x ∷ vs0) e, m)
    zero_read v readings.Open place [] e h m = ok (nothing place ∷ []) (v ∷ vs0) c.world same h (vs0, ap (λ x. x ∷ vs0) e, m)
    zero_read v readings.Open place (k ∷ ks) e h m = ok (value ∷ k ∷ ks) (v ∷ vs0) c.world same h (v, vs0, refl, m)

    load_by : (v : Val) (a : Bool) → is_nought v ≡ a →
        Meets sh (choose a (λ _. load_zero at s) (λ _. next at (value ∷ s.part.operands) s)) → Good_next (goes (v ∷ vs0) c.world c)
    load_by v true e h = zero_read v at.reading at.place s.part.operands (zero_is v e) h st.holds.operands
    load_by v false e h = ok (value ∷ s.part.operands) (v ∷ vs0) c.world same h (v, vs0, refl, st.holds.operands)

    load_one : (v : Val) (a : Bool) → a ≡ (at.between && is_one v) →
        Meets sh (choose a (λ _. next at (one ∷ s.part.operands) s) (λ _. Rattle.tm_shapes.specs.Flows.load_value at v s)) →
        Good_next (goes (v ∷ vs0) c.world c)
    load_one v true e h =
        ok (one ∷ s.part.operands) (v ∷ vs0) c.world same h
        (vs0, ap (λ x. x ∷ vs0) (one_is v (and_second at.between (is_one v) (sym e))), st.holds.operands)
    load_one v false e h = load_by v (is_nought v) refl h

    names_fine : (v : Val) (o : Option (List (List ℕ))) → names_in v ≡ o → Meets sh (load_names o at s) → Good_next (goes (v ∷ vs0) c.world c)
    names_fine v (Some xs) e h = ok (names (length xs) ∷ s.part.operands) (v ∷ vs0) c.world same h (v, vs0, xs, refl, e, st.holds.operands)
    names_fine v None e h = absurd h

    load_fine : (v : Val) (b : Bool) → Meets sh (choose b (λ _. load_names (names_in v) at s) (λ _. load_on at v s)) →
        Good_next (goes (v ∷ vs0) c.world c)
    load_fine v true h = names_fine v (names_in v) refl h
    load_fine v false h = load_one v (at.between && is_one v) refl h

    closure_fine : (o : Option ℕ) (b : Bool) →
        Meets sh (choose b (λ _. next at (closure ∷ s.part.operands) s) (λ _. next at (value ∷ s.part.operands) s)) →
        Good_next (goes (closure_value o ∷ vs0) c.world c)
    closure_fine o true h =
        ok (closure ∷ s.part.operands) (closure_value o ∷ vs0) c.world same h (closure_value o, vs0, o, refl, own_is o, st.holds.operands)
    closure_fine o false h =
        ok (value ∷ s.part.operands) (closure_value o ∷ vs0) c.world same h (closure_value o, vs0, refl, st.holds.operands)

    abbrev Builds : (List ℕ) → ℕ → Bool → List Val → Type 0
    Builds x place caller vs = Good_next (on_top vs c.world (λ names us. on_top us c.world (λ closure rest.
        on_parts (closure_in closure) (names_in names) c.world (λ own arguments.
        after (make_macro (Rattle.tm_syntax.specs.Entries.entry_number place (p.code c.run.stream)) own x arguments caller c.world)
        (λ v w. goes (v ∷ rest) w c)))))

    -- what is built leads on, whether or not it is entered there as well
    entering_next : (b : Bool) (a e : Flow) → Meets sh (choose b (λ _. both a e) (λ _. a)) → Meets sh a
    entering_next true a e h = h.0
    entering_next false a e h = h

    macro_fine : (x : List ℕ) (place : ℕ) (caller : Bool) (ks : List Kind) (vs : List Val) → Meets sh (build_macro at place s ks) → Match ks vs us →
        Builds x place caller vs
    macro_fine x place caller (names n ∷ closure ∷ ks) vs h (v, vs1, xs, e, is, (u, rest, own, e1, is1, m)) =
        subst (Builds x place caller) (sym (e ∙ ap (λ z. v ∷ z) e1))
        (subst (λ o. Good_next (on_parts o (names_in v) c.world (λ own arguments.
        after (make_macro (Rattle.tm_syntax.specs.Entries.entry_number place (p.code c.run.stream)) own x arguments caller c.world)
        (λ v w. goes (v ∷ rest) w c)))) (sym is1)
        (subst (λ o. Good_next (on_parts (Some own) o c.world (λ own arguments.
        after (make_macro (Rattle.tm_syntax.specs.Entries.entry_number place (p.code c.run.stream)) own x arguments caller c.world)
        (λ v w. goes (v ∷ rest) w c)))) (sym is)
        (ok (value ∷ ks) _ _ (record { stream = refl; marks = refl; ids = refl })
        (entering_next at.enters (next at (value ∷ ks) s) (leads place (entry_shape n)) h) (_, rest, refl, m))))
    macro_fine x place caller ks vs h m = absurd h

    -- ---------------------------------------------------------------- results
    need_fine : {A B : Type 0} (o : Option A) (kind : ErrorKind) (h : A → World → Res B) (k : B → World → Next) →
        ((a : A) → Good_next (after (h a c.world) k)) → Good_next (after (bind (need o kind c.world) h) k)
    need_fine (Some a) kind h k l = l a
    need_fine None kind h k l = st.records

    check_fine : {B : Type 0} (b : Bool) (kind : ErrorKind) (h : Unit {0} → World → Res B) (k : B → World → Next) →
        ((u : Unit {0}) → Good_next (after (h u c.world) k)) → Good_next (after (bind (check b kind c.world) h) k)
    check_fine true kind h k l = l tt
    check_fine false kind h k l = st.records

    bound_fine : {A B : Type 0} (a : Answer A) (h : A → World → Res B) (k : B → World → Next) →
        ((x : A) → Good_next (after (h x c.world) k)) → Good_next (after (bind (answered a c.world) h) k)
    bound_fine (Ok x) h k l = l x
    bound_fine (Err chain) h k l = st.records

    lookup_fine : (a : Answer (Option Val)) (k : Val → World → Next) → ((v : Val) → Good_next (k v c.world)) →
        Good_next (after (bind (answered a c.world) (λ found w. Good (or_undefined found) w)) k)
    lookup_fine (Ok found) k l = l (or_undefined found)
    lookup_fine (Err chain) k l = st.records

    enclose_fine : (x : List ℕ) (b : Bool) (a : Answer (Option Val)) → Meets sh (next at s.part.operands s) →
        Good_next (after (choose b (λ _. Good (Rattle.tm_safety.proofs.Fine.unit p shapes shaped) c.world) (λ _.
        bind (bind (answered a c.world) (λ found w. Good (or_undefined found) w)) (λ v w.
        Good (Rattle.tm_safety.proofs.Fine.unit p shapes shaped) (put_enclosed x v (closing_over (own_closure w.scopes.frames) w)))))
        (λ _ w. goes vs0 w c))
    enclose_fine x true a h = ok s.part.operands vs0 c.world same h st.holds.operands
    enclose_fine x false (Ok found) h =
        ok s.part.operands vs0 _ (enclosed_calm x (or_undefined found) (own_closure c.world.scopes.frames) c.world) h st.holds.operands
    enclose_fine x false (Err chain) h = st.records

    -- the same where a parent waits from here on
    abbrev awaits : (t : TemplateId) → Stand p.code shapes shaped g s (awaiting t c)
    awaits t = record {
      stream = st.stream;
      below = st.below;
      holds = st.holds;
      under = st.under;
      records = st.records;
      grown = st.grown;
      filters = st.filters;
      tests = st.tests;
    }

    load_blocks_fine : (v : Val) (ks : List Kind) (vs : List Val) → Meets sh (next at ks s) → Match ks vs us →
        Good_next (after (load p.host v c.run.parent (nat_lt f.captures (length c.captures)) c.world) (λ t w. goes vs w (awaiting t c)))
    load_blocks_fine v ks vs h m =
        need_fine (text_in v) InvalidOperation _ _ (λ name.
        check_fine (is_none c.run.parent) InvalidOperation _ _ (λ _.
        check_fine (not (nat_lt f.captures (length c.captures))) InvalidOperation _ _ (λ _.
        bound_fine (p.host.join name (name_of p.host c.world)) _ _ (λ x.
        check_fine (not (is_among x c.world.loaded)) InvalidOperation _ _ (λ _.
        need_fine (find x p.host.templates) TemplateNotFound _ _ (λ t.
        goes_fine p shapes shaped g (awaiting (Rattle.tm_meaning.specs.declared.stream.TemplateId.TheVariants.Entry x) c) s
        (awaits (Rattle.tm_meaning.specs.declared.stream.TemplateId.TheVariants.Entry x)) at here ks vs _
        (record { stream = refl; marks = refl; ids = refl }) h m))))))

    member_fine : (a : Answer ℕ) (x : List ℕ) (v : Val) (ks : List Kind) (vs : List Val) → Meets sh (next at ks s) → Match ks vs us →
        Good_next (after (bind (answered a c.world) (λ n w. Good (Rattle.tm_safety.proofs.Fine.unit p shapes shaped) (record w {
          namespaces = Rattle.tm_meaning.specs.World.with_member n x v w.namespaces;
        }))) (λ _ w. goes vs w c))
    member_fine (Ok n) x v ks vs h m = ok ks vs _ (record { stream = refl; marks = refl; ids = refl }) h m
    member_fine (Err chain) x v ks vs h m = st.records

    loops_there : (fs : List Frame) (qs : List Part) → s.below ≡ qs → Meets sh (pop_loop at s fs) → Meets sh (on_loop fs qs ends)
    loops_there [] [] e h = absurd (subst (λ x. Meets sh (Rattle.tm_shapes.specs.Flows.pop_part at s x)) e h)
    loops_there [] (q ∷ qs) e h = tt
    loops_there (scope ∷ fs) qs e h = h
    loops_there (loop m x y ∷ fs) qs e h = tt

    -- ---------------------------------------------------------------- instructions
    -- Caches aren't for this instruction.
    abbrev NoCache : Instruction → Type 0
    NoCache (i.ApplyFilter x n cache) = ⊥
    NoCache (i.PerformTest x n cache) = ⊥
    NoCache x = Unit {0}

    pub effect_fine : (x : Instruction) → slice_get (p.code c.run.stream) c.run.place ≡ Some x → NoCache x → Meets sh (flow_of at x s) →
        Good_next (effect p f x c)
    effect_fine (i.ApplyFilter x n cache) code none h = absurd none
    effect_fine (i.PerformTest x n cache) code none h = absurd none
    effect_fine (i.EmitRaw t) code none h = writes_fine p shapes shaped g c s st at here f t s.part.operands vs0 c.world same h st.holds.operands
    effect_fine i.Emit code none h =
        pops_one s.part.operands vs0 _ _ h st.holds.operands (λ v ks vs h m.
        answers (Rattle.tm_values.specs.Defined.unless
        (Rattle.tm_values.specs.Defined.refusal_of p.host.undefined Rattle.tm_values.specs.declared.undefined.UndefinedUse.TheVariants.Emission v)
        (Rattle.tm_meaning.specs.World.formatted p.host.formatter v (view_of p.host c.world))) (λ t w. writes f t (on vs (with_world w c)))
        (λ t. writes_fine p shapes shaped g c s st at here f t ks vs c.world same h m))
    effect_fine (i.Lookup x) code none h =
        lookup_fine (find_name (view_of p.host c.world) x) _ (λ v. ok (value ∷ s.part.operands) (v ∷ vs0) c.world same h (v, vs0, refl, st.holds.operands))
    effect_fine (i.LoadConst v) code none h = load_fine v (builds at.rest) h
    effect_fine (i.GetAttr x) code none h =
        one_fine (λ v. Rattle.tm_definitions.specs.Members.attribute_of p.host.undefined (records_of c.world) v x) h
    effect_fine i.GetItem code none h = two_fine (λ v k. Rattle.tm_definitions.specs.Members.item_of p.host.undefined (records_of c.world) v k) h
    effect_fine i.Slice code none h =
        pops_one s.part.operands vs0 _ _ h st.holds.operands (λ by ks vs h m. pops_one ks vs _ _ h m (λ stop ks vs h m.
        pops_one ks vs _ _ h m (λ start ks vs h m. pops_one ks vs _ _ h m (λ v ks rest h m.
        answers (Rattle.tm_definitions.specs.Slices.sliced p.host.undefined v start stop by) (λ x w. goes (x ∷ rest) w c)
        (λ x. ok (value ∷ ks) (x ∷ rest) c.world same h (x, rest, refl, m))))))
    effect_fine (i.BuildList n) code none h = listed_fine n list_of_values h
    effect_fine (i.BuildTuple n) code none h = made_fine n list_of_values h
    effect_fine (i.BuildMap n) code none h = made_fine (n + n) (λ vs. map_of_pairs (Rattle.tm_meaning.specs.Instructions.paired vs)) h
    effect_fine (i.BuildKwargs n) code none h = made_fine (n + n) (λ vs. keyword_map (Rattle.tm_meaning.specs.Instructions.paired vs)) h
    effect_fine (i.MergeKwargs n) code none h =
        pops_fine p shapes shaped g sh us c.world n s.part.operands vs0 [] _ _ h st.holds.operands (λ xs ks rest h m.
        bound_fine (Rattle.tm_definitions.specs.Spread.merged p.host.undefined (records_of c.world) xs) _ (λ v w. goes (v ∷ rest) w c) (λ ps.
        ok (value ∷ ks) _ c.world same h (_, rest, refl, m)))
    effect_fine (i.UnpackLists n) code none h =
        pops_fine p shapes shaped g sh us c.world n s.part.operands vs0 [] _ _ h st.holds.operands (λ xs ks rest h m.
        answers (Rattle.tm_definitions.specs.Spread.items_of_all p.host.undefined (records_of c.world) xs) (λ us w. goes (group_on us rest) w c)
        (λ ys. ok (group None ∷ ks) (group_on ys rest) c.world same h (group_match p shapes shaped g c s st at here ys ks rest us m)))
    effect_fine (i.CompareAndPreserve op) code none h =
        pops_one s.part.operands vs0 _ _ h st.holds.operands (λ y ks vs h m. pops_one ks vs _ _ h m (λ x ks rest h m.
        answers (result_of op p.host.undefined (records_of c.world) x y) (λ z w. goes (z ∷ y ∷ rest) w c)
        (λ z. ok (value ∷ value ∷ ks) (z ∷ y ∷ rest) c.world same h (z, y ∷ rest, refl, (y, rest, refl, m)))))
    effect_fine i.Add code none h = add_fine s.part.operands vs0 h st.holds.operands
    effect_fine i.Neg code none h = one_fine (result_of_unary unaries.Negate p.host.undefined) h
    effect_fine i.Not code none h = one_fine (result_of_unary unaries.Not p.host.undefined) h
    effect_fine i.IsUndefined code none h =
        pops_one s.part.operands vs0 _ _ h st.holds.operands (λ v ks vs h m.
        ok (value ∷ ks) (boolean (is_undefined v) ∷ vs) c.world same h (boolean (is_undefined v), vs, refl, m))
    effect_fine i.Swap code none h = swap_fine s.part.operands vs0 h st.holds.operands
    effect_fine i.DupTop code none h =
        pops_one s.part.operands vs0 _ _ h st.holds.operands (λ v ks vs h m.
        ok (value ∷ value ∷ ks) (v ∷ v ∷ vs) c.world same h (v, v ∷ vs, refl, (v, vs, refl, m)))
    effect_fine i.DiscardTop code none h =
        pops_one s.part.operands vs0 _ _ h st.holds.operands (λ v ks vs h m. ok ks vs c.world same h m)
    effect_fine (i.Jump n) code none h = jump_fine n s.part.operands vs0 h st.holds.operands
    effect_fine (i.JumpIfFalse n) code none h =
        truth_fine _ (λ v vs w. goes vs w c) (λ v vs w. jumps n vs w c) h (λ v ks vs h m. ok ks vs c.world same h.0 m)
        (λ v ks vs h m. jump_fine n ks vs h.1 m)
    effect_fine (i.JumpIfFalseOrPop n) code none h =
        truth_fine _ (λ v vs w. goes vs w c) (λ v vs w. jumps n (v ∷ vs) w c) h (λ v ks vs h m. ok ks vs c.world same h.0 m)
        (λ v ks vs h m. jump_fine n (value ∷ ks) (v ∷ vs) h.1 (v, vs, refl, m))
    effect_fine (i.JumpIfTrueOrPop n) code none h =
        truth_fine _ (λ v vs w. jumps n (v ∷ vs) w c) (λ v vs w. goes vs w c) h
        (λ v ks vs h m. jump_fine n (value ∷ ks) (v ∷ vs) h.1 (v, vs, refl, m)) (λ v ks vs h m. ok ks vs c.world same h.0 m)
    effect_fine (i.CallFunction x n) code none h = call_fine n (λ vs. call_named p.host x vs c.world) (λ vs. named_comes p.host x vs c.world) h
    effect_fine (i.CallObject n) code none h = call_fine n (λ vs. call_callee p.host vs c.world) (λ vs. callee_comes p.host vs c.world) h
    effect_fine (i.CallMethod x n) code none h =
        call_fine n (λ vs. applied p.host applications.Method x vs c.world) (λ vs. applied_comes p.host applications.Method x vs c.world) h
    effect_fine i.FastRecurse code none h = in_place_fine (λ v. call_innermost p.host v c.world) (λ v. innermost_comes p.host v c.world) h
    effect_fine (i.CallBlock b) code none h =
        choose_fine p shapes shaped g (none_waits c.run.parent && audible f c) _ _
        (λ _. placed_fine p shapes shaped g c s st at here f s.part.operands vs0 (enter_block p.host b c.world) (block_comes p.host b c.world) h
        st.holds.operands)
        (λ _. ok s.part.operands vs0 c.world same h st.holds.operands)
    effect_fine i.FastSuper code none h =
        placed_fine p shapes shaped g c s st at here f s.part.operands vs0 (enter_super p.host c.world) (super_comes p.host c.world) h
        st.holds.operands
    effect_fine (i.Include missing) code none h =
        in_place_fine (λ v. enter_include p.host true v missing c.world) (λ v. include_comes p.host c.world true v missing) h
    effect_fine i.IncludeModule code none h =
        in_place_fine (λ v. enter_include p.host false v false c.world) (λ v. include_comes p.host c.world false v false) h
    effect_fine i.ExportLocals code none h =
        pops_one s.part.operands vs0 _ _ h st.holds.operands (λ v ks vs h m.
        exports_fine (text_answer (records_of c.world) v) (λ x w. goes (x ∷ vs) w c) (λ x. ok (value ∷ ks) _ c.world same h (x, vs, refl, m)))
    effect_fine i.LoadBlocks code none h =
        pops_one s.part.operands vs0 _ _ h st.holds.operands (λ v ks vs h m. load_blocks_fine v ks vs h m)
    effect_fine (i.StoreLocal x) code none h =
        pops_one s.part.operands vs0 _ _ h st.holds.operands (λ v ks vs h m. ok ks vs (store x v c.world) (store_calm x v c.world) h m)
    effect_fine (i.Enclose x) code none h =
        enclose_fine x (has_enclosed x c.world) (find_name (view_of p.host c.world) x) h
    effect_fine i.GetClosure code none h = closure_fine (own_closure c.world.scopes.frames) (builds_after at.rest) h
    effect_fine (i.BuildMacro x place caller) code none h = macro_fine x place caller s.part.operands vs0 h st.holds.operands
    effect_fine i.Return code none h = return_fine p shapes shaped g c s st at here f base h
    effect_fine (i.UnpackList n) code none h =
        pops_one s.part.operands vs0 _ _ h st.holds.operands (λ v ks vs h m.
        unpack_fine p shapes shaped g c s st at here n ks vs
        (items_or Rattle.tm_values.specs.declared.error.ErrorKind.TheVariants.CannotUnpack (records_of c.world) v) h m)
    effect_fine (i.SetAttr x) code none h =
        pops_one s.part.operands vs0 _ _ h st.holds.operands (λ o ks vs h m. pops_one ks vs _ _ h m (λ v ks rest h m.
        member_fine (Rattle.tm_definitions.specs.Members.settable (records_of c.world) o) x v ks rest h m))
    effect_fine i.PushWith code none h = push_with_fine p shapes shaped g c s st at here h
    effect_fine i.PopFrame code none h = pop_frame_fine p shapes shaped g c s st at here f base h
    effect_fine (i.PushLoop flags) code none h =
        pops_one s.part.operands vs0 _ _ h st.holds.operands (λ v ks vs h m.
        answers (Rattle.tm_definitions.specs.Iteration.iterated p.host.undefined (records_of c.world) v) _ (λ items.
        push_loop_fine p shapes shaped g c s st at here flags items c.world ks vs same m code h))
    effect_fine (i.Iterate n) code none h =
        loop_fine p shapes shaped g c s st at here _ _ h (λ l o.
        iterate_fine p shapes shaped g c s st at here n (slice_get l.items l.turns) o.flow.0 o.flow.1)
    effect_fine i.PushDidNotIterate code none h =
        loop_fine p shapes shaped g c s st at here _ _ h (λ l o.
        ok (value ∷ s.part.operands) (boolean (nat_eq (length l.items) 0) ∷ vs0) c.world same o.flow
        (boolean (nat_eq (length l.items) 0), vs0, refl, st.holds.operands))
    effect_fine i.PopLoopFrame code none h =
        pop_loop_frame_fine p shapes shaped g c s st at here f base h (loops_there s.part.frames s.below refl h)
    effect_fine (i.BeginCapture mode) code none h = begin_fine p shapes shaped g c s st at here mode (new_capture (is_heard mode)) h
    effect_fine i.EndCapture code none h = end_fine p shapes shaped g c s st at here s.part.captures refl h
    effect_fine i.PushAutoEscape code none h =
        pops_one s.part.operands vs0 _ _ h st.holds.operands (λ v ks vs h m.
        answers (escape_for f.first v) (λ e w. goes vs (Rattle.tm_meaning.specs.World.with_escape e w) (replacing (w.escape ∷ c.run.escapes) c))
        (λ e. push_escape_fine p shapes shaped g c s st at here e ks vs m h))
    effect_fine i.PopAutoEscape code none h = pop_escape_fine p shapes shaped g c s st at here s.part.escapes st.holds.escapes h
    effect_fine i.Eq code none h = two_fine (result_of binaries.Equal p.host.undefined (records_of c.world)) h
    effect_fine i.Ne code none h = two_fine (result_of binaries.NotEqual p.host.undefined (records_of c.world)) h
    effect_fine i.Lt code none h = two_fine (result_of binaries.Less p.host.undefined (records_of c.world)) h
    effect_fine i.Lte code none h = two_fine (result_of binaries.LessOrEqual p.host.undefined (records_of c.world)) h
    effect_fine i.Gt code none h = two_fine (result_of binaries.Greater p.host.undefined (records_of c.world)) h
    effect_fine i.Gte code none h = two_fine (result_of binaries.GreaterOrEqual p.host.undefined (records_of c.world)) h
    effect_fine i.In code none h = two_fine (result_of binaries.In p.host.undefined (records_of c.world)) h
    effect_fine i.Sub code none h = two_fine (result_of binaries.Subtract p.host.undefined (records_of c.world)) h
    effect_fine i.StringConcat code none h = two_fine (result_of binaries.Concatenate p.host.undefined (records_of c.world)) h
    effect_fine i.Mul code none h = two_fine (result_of binaries.Multiply p.host.undefined (records_of c.world)) h
    effect_fine i.Div code none h = two_fine (result_of binaries.Divide p.host.undefined (records_of c.world)) h
    effect_fine i.IntDiv code none h = two_fine (result_of binaries.FloorDivide p.host.undefined (records_of c.world)) h
    effect_fine i.Rem code none h = two_fine (result_of binaries.Remainder p.host.undefined (records_of c.world)) h
    effect_fine i.Pow code none h = two_fine (result_of binaries.Power p.host.undefined (records_of c.world)) h

    -- a filter or a test of a name
    pub apply_fine : (k : Application) (x : List ℕ) (n : Option ℕ) → Meets sh (replaces_counted at n s) → Good_next (apply_of p k x n c)
    apply_fine k x n h = call_fine n (λ vs. applied p.host k x vs c.world) (λ vs. applied_comes p.host k x vs c.world) h

  -- ---------------------------------------------------------------- steps
  module _ (g : Ground) (f : Base) (base : Grounded f g) where
    abbrev Goes_on : Next → Type 0
    Goes_on n = Fine p shapes shaped g n

    module _ (c : Config) (s : Shape) (st : Stand p.code shapes shaped g s c) (at : Site) (here : at.place ≡ c.run.place) where
      -- with a name in its cache
      filter_fine : (x : List ℕ) (n : Option ℕ) (k : ℕ) → HasCache (shaped c.run.stream).filters x k →
          Meets (shapes c.run.stream) (replaces_counted at n s) → Goes_on (effect p f (i.ApplyFilter x n k) c)
      filter_fine x n k has h =
          let u = use_cache (shaped c.run.stream).filters x k c.run.filters st.filters has in
          let st1 : Stand p.code shapes shaped g s (with_filters u.0 c) = record {
            stream = st.stream;
            below = st.below;
            holds = st.holds;
            under = st.under;
            records = st.records;
            grown = st.grown;
            filters = u.2;
            tests = st.tests;
          } in
          subst (λ o. Goes_on (on_used o c.world (λ held. apply_of p applications.Filter x n (with_filters held c)))) (sym u.1)
          (apply_fine g f base (with_filters u.0 c) s st1 at here applications.Filter x n h)

      test_fine : (x : List ℕ) (n : Option ℕ) (k : ℕ) → HasCache (shaped c.run.stream).tests x k →
          Meets (shapes c.run.stream) (replaces_counted at n s) → Goes_on (effect p f (i.PerformTest x n k) c)
      test_fine x n k has h =
          let u = use_cache (shaped c.run.stream).tests x k c.run.tests st.tests has in
          let st1 : Stand p.code shapes shaped g s (with_tests u.0 c) = record {
            stream = st.stream;
            below = st.below;
            holds = st.holds;
            under = st.under;
            records = st.records;
            grown = st.grown;
            filters = st.filters;
            tests = u.2;
          } in
          subst (λ o. Goes_on (on_used o c.world (λ held. apply_of p applications.Test x n (with_tests held c)))) (sym u.1)
          (apply_fine g f base (with_tests u.0 c) s st1 at here applications.Test x n h)

      any_fine : (x : Instruction) → slice_get (p.code c.run.stream) c.run.place ≡ Some x →
          UsesCache (shaped c.run.stream).filters (shaped c.run.stream).tests x → Meets (shapes c.run.stream) (flow_of at x s) →
          Goes_on (effect p f x c)
      any_fine (i.ApplyFilter x n k) code has h = filter_fine x n k has h
      any_fine (i.PerformTest x n k) code has h = test_fine x n k has h
      any_fine x code has h = effect_fine g f base c s st at here x code tt h

    module _ (c : Config) (at : At p shapes shaped g c) where
      paid : (left : ℕ) → Stand p.code shapes shaped g at.shape (with_world (record c.world { fuel = left }) c)
      paid left = let st = at.stand in record {
        stream = st.stream;
        below = st.below;
        holds = st.holds;
        under = st.under;
        records = st.records;
        grown = st.grown;
        filters = st.filters;
        tests = st.tests;
      }

      paid_by : (x : Instruction) → slice_get (p.code c.run.stream) c.run.place ≡ Some x → (o : Option ℕ) →
          Goes_on (after (with_fuel o c.world) (λ _ w. effect p f x (with_world w c)))
      paid_by x code None = at.stand.records
      paid_by x code (Some left) =
          let m = (shaped c.run.stream).steps c.run.place x at.shape code at.at in
          any_fine (with_world (record c.world { fuel = left }) c) at.shape (paid left) m.0 m.1 x code
          ((shaped c.run.stream).caches c.run.place x code) m.2

      abbrev no_site : Site
      no_site = record {
        place = c.run.place;
        rest = [];
        entered = false;
        between = false;
        reading = readings.Value;
        returned = None;
        enters = false;
      }

      acted : (o : Option Instruction) → slice_get (p.code c.run.stream) c.run.place ≡ o → Goes_on (act p f o c)
      acted (Some x) code = paid_by x code (charged (Rattle.tm_meaning.specs.Steps.charge_of x) c.world.fuel)
      acted None code =
          let l = (shaped c.run.stream).last c.run.place at.shape code at.at in
          let x = closed_by p shapes shaped g c at.shape at.stand no_site refl f base l.1 in
          let there : nat_eq c.run.place (length (p.code c.run.stream)) ≡ true = grind (arith, nat_tests, l.0) in
          rw (there, x.closed_is) (parent_fine p shapes shaped g c at.shape at.stand no_site refl f x c.run.parent)

      pub step_fine : Goes_on (step p f c)
      step_fine = acted (slice_get (p.code c.run.stream) c.run.place) refl

  -- ---------------------------------------------------------------- runs
  pub ends_fine : {f : Base} {t : List ℕ} {n : Next} {o : Final} (g : Ground) → Grounded f g → Fine p shapes shaped g n → Leads p f t n o →
      EndFine p shapes shaped g o.end
  ends_fine g base h (over {e = e} is end) =
      subst (λ (x : Final). EndFine p shapes shaped g x.end) (sym end) (subst (λ n. Fine p shapes shaped g n) is h)
  ends_fine {f = f} g base h (more {c = c} is rest) =
      ends_fine g base (step_fine g f base c (subst (λ n. Fine p shapes shaped g n) is h)) rest
  ends_fine {f = f} g base h (restart {c = c} is rest) =
      ends_fine g base (step_fine g f base c (subst (λ n. Fine p shapes shaped g n) is h)) rest
  ends_fine {f = f} g base h (nest {g = b} {c = c} {back = back} {e = e} is inner rest) =
      let n = subst (λ n. Fine p shapes shaped g n) is h in
      let ended = ends_fine n.ground n.base (step_fine n.ground b n.base c n.at) inner in
      ends_fine g base (back_fine p shapes shaped g b c back n e.end ended) rest

  -- A callee's run, in a world whose loops' records are of loops that are reached, is never stuck, and leaves such a world.
  run_fine : {t : List ℕ} {o : Final} (heard : Bool) (ks : List Capture) (w : World) (a : Option Activation) → First p shapes shaped ks w a →
      Enter p shapes shaped w → Leads p (base_of heard ks w) t (run_begun p (base_of heard ks w) a ks w) o →
      EndFine p shapes shaped (ground_of p shapes shaped ks w) o.end
  run_fine heard ks w None first records run =
      ends_fine (ground_of p shapes shaped ks w) (Rattle.tm_safety.proofs.Fine.grounded_at p shapes shaped heard ks w) records run
  run_fine heard ks w (Some a) first records run =
      let g = ground_of p shapes shaped ks w in
      let base = Rattle.tm_safety.proofs.Fine.grounded_at p shapes shaped heard ks w in
      ends_fine g base (step_fine g (base_of heard ks w) base (running a ks w) first) run

  pub callee_fine : (k : Callee) (heard : Bool) (ks : List Capture) (t : List ℕ) (w : World) (o : Final) → w.stream ≡ callee_stream k →
      Enter p shapes shaped w → Leads p (base_of heard ks w) t (begins p (base_of heard ks w) k ks w) o →
      EndFine p shapes shaped (ground_of p shapes shaped ks w) o.end
  callee_fine k heard ks t w o is records run =
      run_fine heard ks w (first_run p k (length ks)) (first_is p shapes shaped k ks w is records) records run

  no_end : (g : Ground) (e : End) (left : World) → EndFine p shapes shaped g e → e ≡ Stuck left → ⊥
  no_end g (Finished vs ks w) left h e = cc
  no_end g (Failed chain w) left h e = cc
  no_end g (Stuck w) left h e = h

  pub never_stuck : (k : Callee) (heard : Bool) (ks : List Capture) (t got : List ℕ) (w left : World) → w.stream ≡ callee_stream k →
      Enter p shapes shaped w → Leads p (base_of heard ks w) t (begins p (base_of heard ks w) k ks w) (final got (Stuck left)) → ⊥
  never_stuck k heard ks t got w left is records run =
      no_end (ground_of p shapes shaped ks w) (Stuck left) left (callee_fine k heard ks t w (final got (Stuck left)) is records run) refl

  left_by : (g : Ground) (e : End) → EndFine p shapes shaped g e →
      Rattle.tm_safety.specs.Runs.EndsIn (λ left. AllEnter p.code shapes (ids_of left.loops)) e
  left_by g (Finished vs ks w) h = h.records
  left_by g (Failed chain w) h = h
  left_by g (Stuck w) h = absurd h

  pub leaves_records : (k : Callee) (heard : Bool) (ks : List Capture) (t : List ℕ) (w : World) (o : Final) → w.stream ≡ callee_stream k →
      Enter p shapes shaped w → Leads p (base_of heard ks w) t (begins p (base_of heard ks w) k ks w) o →
      Rattle.tm_safety.specs.Runs.EndsIn (λ left. AllEnter p.code shapes (ids_of left.loops)) o.end
  leaves_records k heard ks t w o is records run =
      left_by (ground_of p shapes shaped ks w) o.end (callee_fine k heard ks t w o is records run)
