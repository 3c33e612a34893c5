-- The laws of a value that grows.
use Rattle.std.specs.Prelude.{◌≡◌, ℕ, zero, suc, ◌<◌, ◌≤◌, List, length, Some, None, option_and_then, refl}
use Rattle.std.proofs.Common.{arith, sym, ◌∙◌, ap}
use Rattle.tm_grammar.specs.Meanings.{Read, got, Derives, Reads, stops, grows, grow_spells, turn, grow_reads_by, grow_reads}
use Rattle.tm_grammar.specs.Rule.{Sound, Complete, Shorter, Rule, Look}
use Rattle.tm_grammar.specs.Laws.{not_got, same_got, pure_only}

module _ {T A B : Type 0} (p : Look T A) (part : A → B → Rule T B) where
  abbrev pub spelled : B → Derives T B
  spelled = grow_spells p.sees (λ a y. (part a y).spells)

  abbrev pub read : B → Reads T B
  read = grow_reads p.sees (λ a y. (part a y).reads)

  abbrev read_by : ℕ → B → Reads T B
  read_by = grow_reads_by p.sees (λ a y. (part a y).reads)

  abbrev FoundBy : ℕ → Type 0
  FoundBy n = (x : B) (ts : List T) (z : B) (rest : List T) → read_by n x ts ≡ got z rest → spelled x ts z rest

  found_after : (n : ℕ) → FoundBy n → (x : B) (ts : List T) (z : B) (rest : List T) (s : A × List T) → p.sees ts ≡ Some s →
      (y : Read T B) → (part s.0 x).reads s.1 ≡ y → option_and_then (λ w. read_by n w.0 w.1) y ≡ got z rest → spelled x ts z rest
  found_after n ih x ts z rest s e None k h = absurd (not_got z rest h)
  found_after n ih x ts z rest s e (Some y) k h = grows e ((part s.0 x).sound s.1 y.0 y.1 k) (ih y.0 y.1 z rest h)

  found_at : (n : ℕ) → FoundBy n → (x : B) (ts : List T) (z : B) (rest : List T) (seen : Read T A) → p.sees ts ≡ seen →
      turn (λ a y. (part a y).reads) (read_by n) x ts seen ≡ got z rest → spelled x ts z rest
  found_at n ih x ts z rest None e h =
      let same = same_got x z ts rest h in
      stops e same.0 same.1
  found_at n ih x ts z rest (Some s) e h = found_after n ih x ts z rest s e ((part s.0 x).reads s.1) refl h

  found_by : (n : ℕ) → FoundBy n
  unfolding grow_reads_by
  found_by zero x ts z rest h = absurd (not_got z rest h)
  found_by (suc n) x ts z rest h = found_at n (found_by n) x ts z rest (p.sees ts) refl h

  only_by : (n : ℕ) (x : B) (ts : List T) (z : B) (rest : List T) → length ts < n → spelled x ts z rest → read_by n x ts ≡ got z rest
  unfolding grow_reads_by
  only_by zero x ts z rest small h = absurd (omega (arith, small))
  only_by (suc n) x ts z rest small (stops e same left) = ap (turn (λ a y. (part a y).reads) (read_by n) x ts) e ∙ pure_only x ts z rest
      (same, left)
  only_by (suc n) x ts z rest small (grows {after = after} {between = between} {a = a} {y = y} e spells more) =
      let closer : length after < length ts = p.nearer ts a after e in
      let left : length between ≤ length after = (part a x).shorter after y between spells in
      ap (turn (λ a y. (part a y).reads) (read_by n) x ts) e
      ∙ ap (option_and_then (λ w. read_by n w.0 w.1)) ((part a x).complete after y between spells)
      ∙ only_by n y between z rest (omega (arith, closer, left, small)) more

  pub grow_found : (x : B) → Sound (spelled x) (read x)
  unfolding grow_reads
  grow_found x ts z rest h = found_by (suc (length ts)) x ts z rest h

  pub grow_only : (x : B) → Complete (spelled x) (read x)
  unfolding grow_reads
  grow_only x ts z rest h = only_by (suc (length ts)) x ts z rest (omega arith) h

  pub grow_shorter : (x : B) → Shorter (spelled x)
  grow_shorter x ts z rest (stops e same left) = omega (arith, ap length left)
  grow_shorter x ts z rest (grows {after = after} {between = between} {a = a} {y = y} e spells more) =
      omega (arith, p.nearer ts a after e, (part a x).shorter after y between spells, grow_shorter y between z rest more)

  -- any number of turns that is large enough serves
  same_by : (n k : ℕ) (x : B) (ts : List T) → length ts < n → length ts < k → read_by n x ts ≡ read_by k x ts
  same_by n k x ts large enough = both (read_by n x ts) refl (read_by k x ts) refl
    where
      both : (u : Read T B) → read_by n x ts ≡ u → (v : Read T B) → read_by k x ts ≡ v → read_by n x ts ≡ read_by k x ts
      both (Some u) e v g = e ∙ sym (only_by k x ts u.0 u.1 enough (found_by n x ts u.0 u.1 e))
      both None e (Some v) g = only_by n x ts v.0 v.1 large (found_by k x ts v.0 v.1 g) ∙ sym g
      both None e None g = e ∙ sym g

  -- where nothing begins a part
  pub grow_none : (x : B) (ts : List T) → p.sees ts ≡ None → read x ts ≡ got x ts
  unfolding grow_reads grow_reads_by
  grow_none x ts e = ap (turn (λ a y. (part a y).reads) (read_by (length ts)) x ts) e

  -- after one part
  pub grow_some : (x : B) (ts : List T) (a : A) (after : List T) (y : B) (rest : List T) →
      p.sees ts ≡ got a after → (part a x).reads after ≡ got y rest → read x ts ≡ read y rest
  unfolding grow_reads grow_reads_by
  grow_some x ts a after y rest e h =
      let closer : length after < length ts = p.nearer ts a after e in
      let left : length rest ≤ length after = (part a x).shorter after y rest ((part a x).sound after y rest h) in
      ap (turn (λ a y. (part a y).reads) (read_by (length ts)) x ts) e
      ∙ ap (option_and_then (λ w. read_by (length ts) w.0 w.1)) h
      ∙ same_by (length ts) (suc (length rest)) y rest (omega (arith, closer, left)) (omega arith)

  -- where a part is refused
  pub grow_fails : (x : B) (ts : List T) (a : A) (after : List T) → p.sees ts ≡ got a after → (part a x).reads after ≡ None →
      read x ts ≡ None
  unfolding grow_reads grow_reads_by
  grow_fails x ts a after e h =
      ap (turn (λ a y. (part a y).reads) (read_by (length ts)) x ts) e
      ∙ ap (option_and_then (λ w. read_by (length ts) w.0 w.1)) h
