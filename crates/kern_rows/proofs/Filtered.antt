-- A value comes to a filter, and runs follow.
use Rattle.std.proofs.Common.{◌≡◌, ℕ, zero, suc, ℤ, Bool, true, false, Option, Some, None, ◌+◌, ◌-◌, ◌<◌, ◌≤◌, List, [], ◌∷◌, ◌++◌, length, take, drop, refl, sym, ap, ◌∙◌}
use Rattle.std.proofs.Common.{subst, arith, length-append, length-drop, append_assoc}
use Rattle.std.specs.Prelude.{if◌then◌else◌, max}
use Rattle.std.proofs.Math.Nat.{le-mul_of_pos_right, le-max_left, le-max_right}
use Rattle.std.proofs.lemmas.List.{append-nil, drop-drop, drop-append-le, map-append}
use Rattle.std.proofs.Math.Seq.{take-append-add}
use Rattle.river_base.proofs.PlaceLemmas.{if_le, if_gt}
use Rattle.river_base.specs.Grew.{GrewByPrefix}
use Rattle.kern_rows.specs.Forms.{FilterForm, RunForm}
use Rattle.kern_rows.specs.Needs.{CanFilter, CanRunOnce, CanRunFirst}
use Rattle.kern_rows.specs.Runs.{Filtering, buffer_of, filter_one, filter_turns, next_run, after_run, with_pushes, received, run_at, run_or, first_run, usual_run, begins, needs, run_kept}
use Rattle.kern_rows.specs.Stands.{Waiting, KeepsFor, StandsForFiltering, Filters, GaveUp, first_values, is_fresh, run_now, needs_now, ran_now, RunsOnce}

-- s came after some of the runs, which gave this, and n runs at most are left
pub record IsReached (f : FilterForm) (v : ℤ) (start s : Filtering) (n : ℕ) (given : List (ℕ × List ℤ)) : Type 0 where
  pub seen : s.seen ≡ (received v start).seen
  pub all : filter_one f v start ≡ with_pushes given (filter_turns f n s)
  pub enough : length s.seen < n + s.fired

-- a value came, and some of its runs were
pub record IsBetween (f : FilterForm) (v : ℤ) (now : Waiting) (start : Filtering) (out out' : List ℤ) : Type 0 where
  pub s : Filtering
  pub n : ℕ
  pub given : List (ℕ × List ℤ)
  pub reached : IsReached f v start s n given
  pub keeps : KeepsFor f now s
  pub grew : out' ≡ out ++ first_values given

-- the same from any state that the value was put to
pub record Between (f : FilterForm) (v : ℤ) (put now : Waiting) (out out' : List ℤ) : Type 0 where
  pub each : (s : Filtering) → KeepsFor f put (received v s) → IsBetween f v now s out out'

-- at most so many runs are left before another value comes: each but a first one of its own takes a value
abbrev pub runs_left : Waiting → ℕ
runs_left w = length w.buffer + (if w.fresh then 1 else 0)

-- what is at least 1 is the greater of it and 1
pub max-least : (a : ℕ) → 1 ≤ a → max a 1 ≡ a
max-least a h = grind (arith, h)

-- WHICH RUN IS NEXT

module _ (f : FilterForm) where
  pub run_is : (k : ℕ) → run_now f (is_fresh f.first k) ≡ run_at f k
  run_is k = go f.first refl k
    where
      go : (o : Option RunForm) → f.first ≡ o → (k : ℕ) → run_now f (is_fresh f.first k) ≡ run_at f k
      go None e zero = ap (λ o. run_now f (is_fresh o 0)) e ∙ sym (ap (run_or (usual_run f)) e)
      go None e (suc k) = ap (λ o. run_now f (is_fresh o (suc k))) e
      go (Some g) e zero = ap (λ o. run_now f (is_fresh o 0)) e
      go (Some g) e (suc k) = ap (λ o. run_now f (is_fresh o (suc k))) e

  pub not_fresh : (k : ℕ) → is_fresh f.first (suc k) ≡ false
  not_fresh k = go f.first
    where
      go : (o : Option RunForm) → is_fresh o (suc k) ≡ false
      go None = refl
      go (Some g) = refl

  -- the values of a run begin behind those of the run before it
  pub begins_next : (k : ℕ) → begins f (suc k) ≡ begins f k + (run_at f k).pop
  begins_next zero = omega arith
  begins_next (suc k) = omega arith

module _ (f : FilterForm) (can : CanFilter f) where
  usual_can : CanRunOnce (length f.starts) (usual_run f)
  usual_can = record { runs = can.runs; gives = can.gives; peeks = can.peeks }

  pub first_can : CanRunOnce (length f.starts) (first_run f)
  first_can = go f.first can.first
    where
      go : (o : Option RunForm) → CanRunFirst (length f.starts) o → CanRunOnce (length f.starts) (run_or (usual_run f) o)
      go None u = usual_can
      go (Some g) c = c

  -- each firing has code that can run
  pub run_can : (k : ℕ) → CanRunOnce (length f.starts) (run_at f k)
  run_can zero = first_can
  run_can (suc k) = usual_can

  pub run_now_can : (b : Bool) → CanRunOnce (length f.starts) (run_now f b)
  run_now_can true = first_can
  run_now_can false = usual_can

  pub needs_is : (k : ℕ) → needs_now f (is_fresh f.first k) ≡ needs f k
  needs_is k = go f.first refl k
    where
      go : (o : Option RunForm) → f.first ≡ o → (k : ℕ) → needs_now f (is_fresh f.first k) ≡ needs f k
      go None e zero =
          ap (λ o. needs_now f (is_fresh o 0)) e
          ∙ sym (max-least f.peek (let p = can.pops in let q = can.peeks in omega (arith, p, q)))
          ∙ sym (ap (λ o. max (run_or (usual_run f) o).peek 1) e)
      go None e (suc k) = ap (λ o. needs_now f (is_fresh o (suc k))) e
      go (Some g) e zero = ap (λ o. needs_now f (is_fresh o 0)) e
      go (Some g) e (suc k) = ap (λ o. needs_now f (is_fresh o (suc k))) e

  -- each firing needs an item at least
  pub needs_some : (k : ℕ) → 1 ≤ needs f k
  needs_some zero = le-max_right (first_run f).peek 1
  needs_some (suc k) = let p = can.pops in let q = can.peeks in omega (arith, p, q)

  -- it looks at no more than it needs
  pub peek_within : (k : ℕ) → (run_at f k).peek ≤ needs f k
  peek_within zero = le-max_left (first_run f).peek 1
  peek_within (suc k) = omega arith

  -- it takes no more than it needs
  pub pop_within : (k : ℕ) → (run_at f k).pop ≤ needs f k
  pop_within k = let p = peek_within k in let q = (run_can k).peeks in omega (arith, p, q)

  -- a run looks at a value that no run before it took
  pub number_within : (k : ℕ) → k ≤ begins f k + needs f k
  number_within zero = omega arith
  number_within (suc k) = let p = le-mul_of_pos_right k can.pops in let q = needs_some (suc k) in omega (arith, p, q)

  -- TURNS

  -- where too few values wait no firing comes
  pub turns_stop : (n : ℕ) (s : Filtering) → length (buffer_of f s) < needs f s.fired → filter_turns f n s ≡ record { pushes = []; after = s }
  turns_stop zero s lt = refl
  turns_stop (suc n) s lt = if_gt (needs f s.fired) (length (buffer_of f s)) _ _ lt

  -- where enough wait a firing comes, and the others after it
  pub turns_run : (n : ℕ) (s : Filtering) → needs f s.fired ≤ length (buffer_of f s)
      → filter_turns f (suc n) s ≡ with_pushes (next_run f s).pushes (filter_turns f n (after_run s (next_run f s)))
  turns_run n s le = if_le (needs f s.fired) (length (buffer_of f s)) _ _ le

  -- there is a turn left where there are enough values
  pub turn_left : (n : ℕ) (s : Filtering) → length s.seen < n + s.fired → needs f s.fired ≤ length (buffer_of f s) → begins f s.fired ≤ length s.seen → 0 < n
  turn_left zero s fuel le taken =
      let a = number_within s.fired in
      let d = length-drop (begins f s.fired) s.seen in
      absurd (omega (arith, fuel, le, taken, a, d))
  turn_left (suc n) s fuel le taken = omega arith

  next_is : (now : Waiting) (s : Filtering) → KeepsFor f now s → ran_now f now ≡ next_run f s
  next_is now s h =
      let r = ap (run_now f) h.fresh ∙ run_is f s.fired in
      ap (λ r. run_kept r.body now.kept (take r.peek now.buffer)) r
      ∙ ap (λ k. run_kept (run_at f s.fired).body k (take (run_at f s.fired).peek now.buffer)) h.kept
      ∙ ap (λ b. run_kept (run_at f s.fired).body s.kept (take (run_at f s.fired).peek b)) h.buffer

  needed : (now : Waiting) (s : Filtering) → KeepsFor f now s → needs_now f now.fresh ≡ needs f s.fired
  needed now s h = ap (needs_now f) h.fresh ∙ needs_is s.fired

  -- a run leaves less to do
  pub run_less : (now new : Waiting) (out out' : List ℤ) → needs_now f now.fresh ≤ length now.buffer → RunsOnce f now new out out'
      → runs_left new < runs_left now
  run_less now new out out' enough r = go now.fresh refl
    where
      new_is : runs_left new ≡ (length now.buffer - (run_now f now.fresh).pop) + 0
      new_is = ap (λ b. length new.buffer + (if b then 1 else 0)) r.fresh ∙ ap (λ l. length l + 0) r.buffer
          ∙ ap (λ k. k + 0) (length-drop (run_now f now.fresh).pop now.buffer)

      go : (b : Bool) → now.fresh ≡ b → runs_left new < runs_left now
      go true e =
          let o : runs_left now ≡ length now.buffer + 1 = ap (λ b. length now.buffer + (if b then 1 else 0)) e in
          omega (arith, o, new_is)
      go false e =
          let o : runs_left now ≡ length now.buffer + 0 = ap (λ b. length now.buffer + (if b then 1 else 0)) e in
          let p : (run_now f now.fresh).pop ≡ f.pop = ap (λ b. (run_now f b).pop) e in
          let q : needs_now f now.fresh ≡ f.peek = ap (needs_now f) e in
          let a = can.pops in let b = can.peeks in
          omega (arith, o, p, q, a, b, new_is, enough)

  -- ONE VALUE

  module _ (v : ℤ) where
    -- the value is put to those that wait
    pub keeps_received : (old put : Waiting) (s : Filtering) → StandsForFiltering f old s → put.fresh ≡ old.fresh → put.buffer ≡ old.buffer ++ v ∷ []
        → put.kept ≡ old.kept → KeepsFor f put (received v s)
    keeps_received old put s h e b k = record {
      fresh = e ∙ h.keeps.fresh;
      buffer = b ∙ ap (λ l. l ++ v ∷ []) h.keeps.buffer ∙ sym (drop-append-le (begins f s.fired) s.seen (v ∷ []) h.keeps.taken);
      kept = k ∙ h.keeps.kept;
      taken = let a = h.keeps.taken in omega (arith, a, length-append s.seen (v ∷ []));
    }

    -- at the start nothing was given since
    pub between_start : (put : Waiting) (out : List ℤ) → Between f v put put out out
    between_start put out = record {
      each = λ s h. record {
        s = received v s;
        n = suc (length (received v s).seen);
        given = [];
        reached = record { seen = refl; all = refl; enough = omega arith };
        keeps = h;
        grew = sym (append-nil out);
      };
    }

    ran_at : (now new : Waiting) (out out' : List ℤ) (s : Filtering) → RunsOnce f now new out out' → KeepsFor f now s
        → needs_now f now.fresh ≤ length now.buffer
        → KeepsFor f new (after_run s (next_run f s))
    ran_at now new out out' s r h enough =
        let p : (run_now f now.fresh).pop ≡ (run_at f s.fired).pop = ap (λ r. r.pop) (ap (run_now f) h.fresh ∙ run_is f s.fired) in
        let n = needed now s h in
        let l = ap length h.buffer ∙ length-drop (begins f s.fired) s.seen in
        let w = pop_within s.fired in
        let b = begins_next f s.fired in
        let t = h.taken in
        record {
          fresh = r.fresh ∙ sym (not_fresh f s.fired);
          buffer =
              r.buffer ∙ ap (λ k. drop k now.buffer) p ∙ ap (drop (run_at f s.fired).pop) h.buffer
              ∙ drop-drop (run_at f s.fired).pop (begins f s.fired) s.seen
              ∙ ap (λ k. drop k s.seen) (sym b);
          kept = r.kept ∙ ap (λ r. r.slots) (next_is now s h);
          taken = omega (arith, enough, n, l, w, b, t);
        }

    pub between_step : (now new : Waiting) (s : Filtering) (out out' out'' : List ℤ) → IsBetween f v now s out out'
        → needs_now f now.fresh ≤ length now.buffer → RunsOnce f now new out' out'' → IsBetween f v new s out out''
    between_step now new start out out' out'' b enough r = go b.n refl
      where
        le : needs f b.s.fired ≤ length (buffer_of f b.s)
        le = let n = needed now b.s b.keeps in let l = ap length b.keeps.buffer in omega (arith, enough, n, l)

        go : (n : ℕ) → b.n ≡ n → IsBetween f v new start out out''
        go zero e =
            let t = turn_left b.n b.s b.reached.enough le b.keeps.taken in
            absurd (omega (arith, e, t))
        go (suc n) e = record {
          s = after_run b.s (next_run f b.s);
          n = n;
          given = b.given ++ (ran_now f now).pushes;
          reached = record {
            seen = b.reached.seen;
            all =
                b.reached.all ∙ ap (λ m. with_pushes b.given (filter_turns f m b.s)) e ∙ ap (with_pushes b.given) (turns_run n b.s le)
                ∙ ap (λ l. record { pushes = l; after = (filter_turns f n (after_run b.s (next_run f b.s))).after }) (
                sym (append_assoc b.given (next_run f b.s).pushes (filter_turns f n (after_run b.s (next_run f b.s))).pushes)
                ∙ ap (λ l. (b.given ++ l) ++ (filter_turns f n (after_run b.s (next_run f b.s))).pushes) (sym (ap (λ r. r.pushes) (next_is now b.s b.keeps))));
            enough = let q = b.reached.enough in omega (arith, q, e);
          };
          keeps = ran_at now new out' out'' b.s r b.keeps enough;
          grew =
              r.grew ∙ ap (λ o. o ++ first_values (ran_now f now).pushes) b.grew ∙ append_assoc out (first_values b.given) (first_values (ran_now f now).pushes)
              ∙ ap (λ l. out ++ l) (sym (map-append _ b.given (ran_now f now).pushes));
        }

    pub between_end : (now : Waiting) (s : Filtering) (out out' : List ℤ) → IsBetween f v now s out out' → length now.buffer < needs_now f now.fresh
        → (out' ≡ out ++ first_values (filter_one f v s).pushes) × StandsForFiltering f now (filter_one f v s).after
    between_end now start out out' b few =
        let lt : length (buffer_of f b.s) < needs f b.s.fired =
        (let n = needed now b.s b.keeps in let l = ap length b.keeps.buffer in omega (arith, few, n, l)) in
        let all : filter_one f v start ≡ record { pushes = b.given; after = b.s } =
        b.reached.all ∙ ap (with_pushes b.given) (turns_stop b.n b.s lt) ∙ ap (λ l. record { pushes = l; after = b.s }) (append-nil b.given) in (
          b.grew ∙ ap (λ r. out ++ first_values r.pushes) (sym all),
          subst (λ r. StandsForFiltering f now r.after) (sym all) (record { keeps = b.keeps; few = few }),
        )

    prefix_is : (a b : List ℤ) (n : ℕ) → take (length (take n a)) (a ++ b) ≡ take n a
    prefix_is a b zero = refl
    prefix_is [] b (suc n) = refl
    prefix_is (x ∷ xs) b (suc n) = ap (λ t. x ∷ t) (prefix_is xs b n)

    -- there was no memory in a run, or for what it gave
    pub between_refused : (now : Waiting) (s : Filtering) (out out' out'' : List ℤ) → IsBetween f v now s out out' → needs_now f now.fresh ≤ length now.buffer
        → GrewByPrefix out' (first_values (ran_now f now).pushes) out'' → GrewByPrefix out (first_values (filter_one f v s).pushes) out''
    between_refused now start out out' out'' b enough g = go b.n refl
      where
        le : needs f b.s.fired ≤ length (buffer_of f b.s)
        le = let n = needed now b.s b.keeps in let l = ap length b.keeps.buffer in omega (arith, enough, n, l)

        go : (n : ℕ) → b.n ≡ n → GrewByPrefix out (first_values (filter_one f v start).pushes) out''
        go zero e =
            let t = turn_left b.n b.s b.reached.enough le b.keeps.taken in
            absurd (omega (arith, e, t))
        go (suc n) e =
            let rest = (filter_turns f n (after_run b.s (next_run f b.s))).pushes in
            let one = (ran_now f now).pushes in
            let all : (filter_one f v start).pushes ≡ b.given ++ (one ++ rest) =
            ap (λ r. r.pushes) (b.reached.all ∙ ap (λ m. with_pushes b.given (filter_turns f m b.s)) e ∙ ap (with_pushes b.given) (turns_run n b.s le))
            ∙ ap (λ l. b.given ++ (l ++ rest)) (sym (ap (λ r. r.pushes) (next_is now b.s b.keeps))) in
            let firsts : first_values (filter_one f v start).pushes ≡ first_values b.given ++ (first_values one ++ first_values rest) =
            ap first_values all ∙ map-append _ b.given (one ++ rest) ∙ ap (λ l. first_values b.given ++ l) (map-append _ one rest) in
            record {
              n = length (first_values b.given) + length (take g.n (first_values one));
              is =
                  g.is
                  ∙ ap (λ o. o ++ take g.n (first_values one)) b.grew
                  ∙ append_assoc out (first_values b.given) (take g.n (first_values one))
                  ∙ ap (λ t. out ++ t)
                  (sym (take-append-add (first_values b.given) (first_values one ++ first_values rest) (length (take g.n (first_values one)))
                  ∙ ap (λ t. first_values b.given ++ t) (prefix_is (first_values one) (first_values rest) g.n)))
                  ∙ ap (λ t. out ++ take (length (first_values b.given) + length (take g.n (first_values one))) t) (sym firsts);
            }

    -- one firing more
    pub between_next : (put now new : Waiting) (out out' out'' : List ℤ) → Between f v put now out out' → needs_now f now.fresh ≤ length now.buffer
        → RunsOnce f now new out' out'' → Between f v put new out out''
    between_next put now new out out' out'' b enough r = record { each = λ s h. between_step now new s out out' out'' (b.each s h) enough r }

    -- where too few values wait, what was given since is what the item gives
    pub between_gives : (old put now : Waiting) (out out' : List ℤ) → Between f v put now out out' → length now.buffer < needs_now f now.fresh
        → put.fresh ≡ old.fresh → put.buffer ≡ old.buffer ++ v ∷ [] → put.kept ≡ old.kept → Filters f v old now out out'
    between_gives old put now out out' b few e l k = record { each = λ s h. between_end now s out out' (b.each s (keeps_received old put s h e l k)) few }

    -- a firing that gave up has given a part of it
    pub between_gave_up : (old put now : Waiting) (out out' out'' : List ℤ) → Between f v put now out out' → needs_now f now.fresh ≤ length now.buffer
        → GrewByPrefix out' (first_values (ran_now f now).pushes) out'' → put.fresh ≡ old.fresh → put.buffer ≡ old.buffer ++ v ∷ [] → put.kept ≡ old.kept
        → GaveUp f v old out out''
    between_gave_up old put now out out' out'' b enough g e l k =
        record { each = λ s h. between_refused now s out out' out'' (b.each s (keeps_received old put s h e l k)) enough g }
