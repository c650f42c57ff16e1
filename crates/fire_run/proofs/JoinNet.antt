-- The net that the bundles of a frame are, once they are joined.
use Rattle.std.proofs.Common.{◌≡◌, ℕ, ◌+◌, ◌%◌, ◌==◌, ◌<◌, Bool, cond, true, false, List, [], ◌∷◌, ◌++◌, length, map, refl, sym, ap, ◌∙◌, subst, arith, ⊎_elim, get_or, eq-eqb}
use Rattle.std.specs.Prelude.{All}
use Rattle.std.proofs.lemmas.List.{length-map, get_or_default, same_lists}
use Rattle.std.proofs.lemmas.Nat.{mod_below}
use Rattle.std.proofs.lemmas.Option.{get_or_from_slice_get, slice_get-get_or, slice_get_within}
use Rattle.std.proofs.Math.ListN.{get_or-map}
use Rattle.river_base.proofs.Lists.{there_is}
use mathlib.Core.Option.{some-injective}
use lib.ListN.{get_elem?}
use Rattle.river_plan.specs.Forms.{PlanForm}
use Rattle.class_locks.specs.declared.view.Claim.{Claim}
use Rattle.class_locks.specs.declared.view.View.{View}
use Rattle.class_locks.specs.Logs.{Holding, entries_of_part}
use Rattle.class_locks.specs.Seats.{Chair, HasAll, LogsHaveGrown}
use Rattle.class_locks.specs.Views.{StandsIn, own}
use Rattle.class_locks.proofs.Owns.{own_none}
use Rattle.fire_tasks.specs.Adds.{AreClaims, AreEntries, AreOwn, IsEntryOf, added, logs_at, logs_of, table_class}
use Rattle.fire_tasks.specs.Bundles.{AreTasksAt}
use Rattle.fire_tasks.specs.declared.bundle.Bundle.{Bundle}
use Rattle.fire_tasks.specs.declared.task.Task.{Task}
use Rattle.fire_tasks.specs.Tasks.{IsTask, IsTaskAt, TaskEnds, all_ends, all_moves, ends_of}
use Rattle.fire_tasks.proofs.AddLemmas.{table_is}
use Rattle.fire_tasks.proofs.JoinLemmas.{joined_adds, joined_entries}
use Rattle.fire_tasks.proofs.TaskLemmas.{table_there, tables_many, with_adds}
use Rattle.fire_tasks.specs.Layout as layout
use Rattle.fire_open.specs.Homes.{AreClassCells}
use Rattle.fire_open.specs.Links.{ShareNoEnd, AreMet, ArePaired}
use Rattle.fire_open.specs.TaskCores.{TaskCore, task_core}
use Rattle.fire_open.proofs.Laid.{apart_net, laid_same, paired_net, settled_by}
use Rattle.fire_open.proofs.StillLemmas.{still_all_moves, still_ends, still_tasks}
use Rattle.fire_run.specs.declared.net.Net.{Net}
use Rattle.fire_run.specs.Frames.{AreBundlesOf, AreSeatedIn, AreTasksOf, Framed, HaveGrownBy, bundle_moves, ends_of_part, tasks_of_part}
use Rattle.fire_run.specs.NetOf.{Stays}
use Rattle.fire_run.specs.Shares.{AreAtRest, AreWithin, merged_view, put_bundles, seats_of}
use Rattle.fire_run.proofs.GatherLemmas.{AreApart as AreSharesApart, IsRound, OwnAlone, all_here, all_many, belongs, merged_all, merged_own, merged_parts, merged_round}
use Rattle.fire_run.proofs.PartLemmas.{eq_told, filter_finds, filter_stood, map_at, moves_of_parts, part_ends}
use Rattle.fire_run.proofs.RowLemmas.{class_has}
use Rattle.fire_run.proofs.SplitNet.{elem_of}

-- SEATS

seat_is : (bs : List Bundle) (k : ℕ) (d : Chair) (b : Bundle) → k < length bs → get_or (seats_of bs) k d ≡ (get_or bs k b).seat
seat_is bs k d b lt =
    let long = length-map bs (λ (x : Bundle). x.seat) in
    get_or_default (seats_of bs) k d b.seat (omega (arith, lt, long)) ∙ get_or-map (λ (x : Bundle). x.seat) bs k b

-- what holds of each bundle's seat holds of each of the seats
seat_by : (P : ℕ → Chair → Type 0) (bs : List Bundle) → ((k : ℕ) (b : Bundle) → k < length bs → P k (get_or bs k b).seat) → (k : ℕ) (d : Chair)
    → k < length (seats_of bs)
    → P k (get_or (seats_of bs) k d)
seat_by P bs h k d lt =
    let long = length-map bs (λ (x : Bundle). x.seat) in
    let l : k < length bs = omega (arith, lt, long) in
    let b = (there_is bs k l).0 in
    subst (P k) (sym (seat_is bs k d b l)) (h k b l)

module _ (f : Framed) (bs : List Bundle) (h : AreSeatedIn f bs) where
  -- the seats of a frame's bundles are of one round, and none holds a class
  pub at_rest : AreAtRest (seats_of bs)
  at_rest = record {
    some = (let long = length-map bs (λ (x : Bundle). x.seat) in let s = h.some in let m = h.many in omega (arith, long, s, m));
    lot = h.lot;
    lots = λ k d lt. seat_by (λ j c. c.lot ≡ h.lot) bs (λ j b l. (h.each j b l).lot) k d lt;
    rests = λ k d lt. seat_by (λ j c. c.view.held ≡ []) bs (λ j b l. (h.each j b l).rests) k d lt;
  }

  -- what the seat that took over all others knows of the round
  pub one_round : IsRound f.workers f.net.cells (merged_view (seats_of bs))
  one_round = merged_round f.workers f.net.cells (seats_of bs)
      (let long = length-map bs (λ (x : Bundle). x.seat) in let s = h.some in let m = h.many in omega (arith, long, s, m))
      (λ k d lt. seat_by (λ j c. IsRound f.workers f.net.cells c.view) bs
      (λ j b l. let s = h.each j b l in record { seats = s.seats; starts_are = s.starts; rests = s.rests }) k d lt)

  -- it has every part
  pub has_every : (k : ℕ) → k < f.workers → StandsIn k (merged_view (seats_of bs)).parts
  has_every k lt =
      let long = length-map bs (λ (x : Bundle). x.seat) in
      let m = h.many in
      let z : 0 + k ≡ k = omega arith in
      subst (λ j. StandsIn j (merged_view (seats_of bs)).parts) z
      (merged_parts 0 (seats_of bs) (λ i d l. seat_by (λ j c. c.view.parts ≡ (0 + j) ∷ []) bs
      (λ j b lj. let y : j ≡ 0 + j = omega arith in (h.each j b lj).parts ∙ ap (λ x. x ∷ []) y) i d l)
      k (omega (arith, lt, long, m)))

  -- so it can close the round
  pub has_all : HasAll (merged_view (seats_of bs))
  unfolding one_round
  has_all k lt = has_every k (let e = one_round.seats in omega (arith, lt, e))

  -- as many cells as the round began with
  pub as_many : (n : ℕ) → n ≡ length f.net.cells → n ≡ length (merged_view (seats_of bs)).starts
  as_many n e = e ∙ ap length (sym one_round.starts_are)

-- TASKS

-- what a bundle's task is to its net: the operator is there, of the bundle's part, and its ends are those that the net's task has
pub record IsKnown (f : Framed) (k : ℕ) (t : Task) : Type 0 where
  pub within : t.op < length f.net.tasks
  pub part_is : (t.op % f.workers) ≡ k
  pub ends : (d : Task) → ends_of t ≡ ends_of (get_or f.net.tasks t.op d)

-- where the task of an operator stands among the bundles
pub record IsFound (bs : List Bundle) (n o : ℕ) (t : Task) : Type 0 where
  pub bundle : Bundle
  pub below : (o % n) < length bs
  pub bundle_is : get_or bs (o % n) bundle ≡ bundle
  pub place : ℕ
  pub there : place < length bundle.tasks
  pub task_is : get_or bundle.tasks place t ≡ t
  pub op_is : t.op ≡ o

module _ (p : PlanForm) (f : Framed) (bs : List Bundle) (h : AreBundlesOf p f bs) where
  abbrev numbers : (o : ℕ) (d : Task) → o < length f.net.tasks → (get_or f.net.tasks o d).op ≡ o
  numbers o d lt = h.net.is.laid.numbers o (get_or f.net.tasks o d) (slice_get-get_or f.net.tasks o d lt)

  -- each task of a bundle is the net's task of its operator, by its ends
  known : (k : ℕ) (b : Bundle) (i : ℕ) (c : Task) → k < length bs → i < length (get_or bs k b).tasks → IsKnown f k (get_or (get_or bs k b).tasks i c)
  known k b i c lk li =
      let t = get_or (get_or bs k b).tasks i c in
      let es = all_ends f.net.tasks in
      let e = (h.each k b lk).ends in
      let l0 = length-map (get_or bs k b).tasks ends_of in
      let l1 = ap length e in
      let s = filter_stood (λ (x : TaskEnds). (x.op % f.workers) == k) es i (ends_of c) (omega (arith, li, l0, l1)) in
      let l2 = length-map f.net.tasks ends_of in
      let b2 = s.below in
      let there : s.place < length f.net.tasks = omega (arith, b2, l2) in
      let same : get_or (ends_of_part f.workers k es) i (ends_of c) ≡ ends_of t = ap (λ (l : List TaskEnds). get_or l i (ends_of c)) (sym e)
      ∙ get_or-map ends_of (get_or bs k b).tasks i c in
      let at : (d : Task) → ends_of t ≡ ends_of (get_or f.net.tasks s.place d) = λ d. sym same ∙ sym (s.same (ends_of d))
      ∙ get_or-map ends_of f.net.tasks s.place d in
      let op : t.op ≡ s.place = ap (λ (x : TaskEnds). x.op) (at t) ∙ numbers s.place t there in
      record {
        within = omega (arith, op, there);
        part_is = ap (λ (x : TaskEnds). x.op % f.workers) (sym same) ∙ eq_told ((get_or (ends_of_part f.workers k es) i (ends_of c)).op % f.workers) k s.passed;
        ends = λ d. at d ∙ ap (λ o. ends_of (get_or f.net.tasks o d)) (sym op);
      }

  -- the tasks of a bundle keep their facts
  pub keep : (k : ℕ) (b : Bundle) → k < length bs → AreTasksAt p (get_or bs k b).seat.view (get_or bs k b).tasks
  keep k b lk = let x = h.each k b lk in x.bundle.keeps x.calm

  -- and each has a place
  pub all_within : (n : ℕ) → n ≡ length f.net.tasks → All (λ b. AreWithin n b.tasks) bs
  unfolding known
  all_within n e = λ k b lk i c li. let w = (known k b i c lk li).within in omega (arith, w, e)

  module _ (ts0 : List Task) (as_long : length ts0 ≡ length f.net.tasks) where
    abbrev ts : List Task
    ts = put_bundles bs ts0

    apart : AreSharesApart f.workers 0 (length ts0) bs
    unfolding keep known all_within
    apart = record {
      single = λ k b lk. (keep k b lk).apart;
      within = λ k b lk. all_within (length ts0) as_long k b lk;
      parts = λ k b i c lk li. let z : k ≡ 0 + k = omega arith in (known k b i c lk li).part_is ∙ z;
    }

    here : (k : ℕ) (b : Bundle) (i : ℕ) (c d : Task) → k < length bs → i < length (get_or bs k b).tasks
        → get_or (put_bundles bs ts0) (get_or (get_or bs k b).tasks i c).op d ≡ get_or (get_or bs k b).tasks i c
    unfolding apart
    here k b i c d lk li = all_here f.workers 0 bs ts0 k i b c d apart lk li

    -- each operator of the net has its task in the bundle of its part
    pub found : (o : ℕ) (d : Task) → o < length f.net.tasks → IsFound bs f.workers o (get_or (put_bundles bs ts0) o d)
    unfolding here known
    found o d lt =
        let k = o % f.workers in
        let some = h.seated.some in
        let m = h.seated.many in
        let below = mod_below o f.workers some in
        let lk : k < length bs = omega (arith, below, m) in
        let b = there_is bs k lk in
        let b_is : get_or bs k b.0 ≡ b.0 = get_or_from_slice_get bs k b.0 b.0 b.1 in
        let es = all_ends f.net.tasks in
        let l2 = length-map f.net.tasks ends_of in
        let lo : o < length es = omega (arith, lt, l2) in
        let at_o : get_or es o (ends_of d) ≡ ends_of (get_or f.net.tasks o d) = get_or-map ends_of f.net.tasks o d in
        let op0 : (get_or es o (ends_of d)).op ≡ o = ap (λ (x : TaskEnds). x.op) at_o ∙ numbers o d lt in
        let x = filter_finds (λ (y : TaskEnds). (y.op % f.workers) == k) es o (ends_of d) lo
        (eq-eqb ((get_or es o (ends_of d)).op % f.workers) k (ap (λ (q : ℕ). q % f.workers) op0)) in
        let e = (h.each k b.0 lk).ends in
        let l0 = length-map (get_or bs k b.0).tasks ends_of in
        let l1 = ap length e in
        let below_i = x.1 in
        let li : x.0 < length (get_or bs k b.0).tasks = omega (arith, below_i, l0, l1) in
        let t = get_or (get_or bs k b.0).tasks x.0 d in
        let same : ends_of t ≡ get_or es o (ends_of d) =
        sym (get_or-map ends_of (get_or bs k b.0).tasks x.0 d) ∙ ap (λ (l : List TaskEnds). get_or l x.0 (ends_of d)) e ∙ x.2 (ends_of d) in
        let op : t.op ≡ o = ap (λ (y : TaskEnds). y.op) same ∙ op0 in
        let put : get_or ts o d ≡ t = ap (λ (q : ℕ). get_or ts q d) (sym op) ∙ here k b.0 x.0 d d lk li in
        subst (IsFound bs f.workers o) (sym put) (record {
          bundle = b.0;
          below = lk;
          bundle_is = b_is;
          place = x.0;
          there = subst (λ (c : Bundle). x.0 < length c.tasks) b_is li;
          task_is = ap (λ (c : Bundle). get_or c.tasks x.0 t) (sym b_is) ∙ get_or_default (get_or bs k b.0).tasks x.0 t d li;
          op_is = op;
        })

    -- what is known of the task of an operator in its bundle is known of it in the list
    found_known : (o : ℕ) (d : Task) → o < length f.net.tasks → IsKnown f (o % f.workers) (get_or (put_bundles bs ts0) o d)
    unfolding found known
    found_known o d lt =
        let x = found o d lt in
        let t = get_or ts o d in
        subst (IsKnown f (o % f.workers)) x.task_is
        (subst (λ (c : Bundle). x.place < length c.tasks → IsKnown f (o % f.workers) (get_or c.tasks x.place t)) x.bundle_is
        (λ li. known (o % f.workers) x.bundle x.place t x.below li) x.there)

    -- the list has the ends of the net's tasks
    pub joined_ends : all_ends (put_bundles bs ts0) ≡ all_ends f.net.tasks
    unfolding found found_known
    joined_ends = map_at ends_of ts f.net.tasks (all_many bs ts0 ∙ as_long) (λ o d lt.
        let m = all_many bs ts0 in
        let l : o < length f.net.tasks = omega (arith, lt, m, as_long) in
        (found_known o d l).ends d ∙ ap (λ (q : ℕ). ends_of (get_or f.net.tasks q d)) (found o d l).op_is)

    -- dealt again, it gives each bundle's tasks
    pub joined_parts : (k : ℕ) (b : Bundle) → k < length bs → tasks_of_part f.workers k (put_bundles bs ts0) ≡ (get_or bs k b).tasks
    unfolding found here joined_ends
    joined_parts k b lk =
        let own = tasks_of_part f.workers k ts in
        let mine = (get_or bs k b).tasks in
        let same : all_ends own ≡ all_ends mine =
        part_ends f.workers k ts ∙ ap (ends_of_part f.workers k) joined_ends ∙ sym (h.each k b lk).ends in
        let la = length-map own ends_of in
        let lb = length-map mine ends_of in
        let ls = ap length same in
        same_lists own mine (omega (arith, la, lb, ls)) (λ i d li.
        let x = get_or own i d in
        let y = get_or mine i d in
        let ends : ends_of x ≡ ends_of y = sym (get_or-map ends_of own i d) ∙ ap (λ (l : List TaskEnds). get_or l i (ends_of d)) same ∙ get_or-map ends_of mine i d in
        let s = filter_stood (λ (t : Task). (t.op % f.workers) == k) ts i d li in
        let m = all_many bs ts0 in
        let bl = s.below in
        let op : x.op ≡ s.place = ap (λ (t : Task). t.op) (sym (s.same d)) ∙ (found s.place d (omega (arith, bl, m, as_long))).op_is in
        sym (s.same d) ∙ ap (λ (q : ℕ). get_or ts q d) (sym op) ∙ ap (λ (q : ℕ). get_or ts q d) (ap (λ (z : TaskEnds). z.op) ends)
        ∙ here k b i d d lk (omega (arith, li, la, lb, ls)))

    -- it took and sent what the bundles did
    pub joined_moves : all_moves (put_bundles bs ts0) ≡ bundle_moves bs
    unfolding joined_parts
    joined_moves = sym (moves_of_parts f.workers ts bs h.seated.some h.seated.many (λ k b lk. ap all_moves (sym (joined_parts k b lk))))

-- LOGS

-- the seat that took over all others
abbrev pub all_views : List Bundle → View
all_views bs = merged_view (seats_of bs)

module _ (p : PlanForm) (f : Framed) (bs : List Bundle) (h : AreBundlesOf p f bs) where
  alone : OwnAlone f.workers 0 (seats_of bs)
  alone i d j c lt ne = seat_by (λ k s. ((j ≡ 0 + k) → ⊥) → own f.workers j c s.view.claims ≡ []) bs
      (λ k b lk ne0.
      let v = (get_or bs k b).seat.view in
      let s = h.seated.each k b lk in
      let mine : AreOwn v = (keep p f bs h k b lk).own in
      own_none f.workers j c v.parts v.claims
      (belongs f.workers v.parts v.claims (subst (λ n. All (λ (q : Claim). StandsIn (q.entry.op % n) v.parts) v.claims) s.seats mine))
      (λ has. none j k (subst (StandsIn j) s.parts has) ne0))
      i d lt ne
    where
      none : (j k : ℕ) → StandsIn j (k ∷ []) → ((j ≡ 0 + k) → ⊥) → ⊥
      none j k has ne0 = let z : k ≡ 0 + k = omega arith in ⊎_elim (λ e. ne0 (e ∙ z)) (λ n. n) has

  -- of each part it has the own list of the part's bundle
  pub own_is : (k : ℕ) (b : Bundle) (c : ℕ) → k < length bs → own f.workers k c (all_views bs).claims ≡ own f.workers k c (get_or bs k b).seat.view.claims
  unfolding alone
  own_is k b c lk =
      let z : 0 + k ≡ k = omega arith in
      let long = length-map bs (λ (x : Bundle). x.seat) in
      let r = merged_own f.workers 0 c (seats_of bs) alone k b.seat (omega (arith, lk, long)) in
      subst (λ j. own f.workers j c (all_views bs).claims ≡ own f.workers j c (get_or (seats_of bs) k b.seat).view.claims) z r
      ∙ ap (λ (s : Chair). own f.workers k c s.view.claims) (seat_is bs k b.seat b lk)

  module _ (cells : List Holding) (grown : LogsHaveGrown (all_views bs) cells) where
    abbrev round : IsRound f.workers f.net.cells (all_views bs)
    round = one_round f bs h.seated

    -- the logs have grown by what the bundles' seats put
    pub joined_logs : HaveGrownBy bs f.net.cells cells
    unfolding own_is
    joined_logs = record {
      many = grown.as_many ∙ ap length round.starts_are;
      each = λ c x y gx gy.
          let l = grown.each c y (elem_of cells c y gy) in
          let n = f.workers in
          let start : l.start ≡ x = some-injective l.start x
          (sym l.given ∙ ap (λ (s : List Holding). get_elem? s c) round.starts_are ∙ elem_of f.net.cells c x gx) in
          record {
            growth = l.growth;
            kinds = l.kinds ∙ ap (λ (z : Holding). z.kinds) start;
            log = l.log ∙ ap (λ (z : Holding). z.log ++ l.growth) start;
            parts = λ k b lk.
                let m = h.seated.many in
                let o = l.owns 0 (all_views bs) refl k (has_every f bs h.seated k (omega (arith, lk, m))) in
                subst (λ j. entries_of_part j k l.growth ≡ own j k c (get_or bs k b).seat.view.claims) (sym m)
                (subst (λ j. entries_of_part j k l.growth ≡ own j k c (all_views bs).claims) round.seats o ∙ own_is k b c lk);
          };
    }

    -- they are the cells of the lock classes
    pub joined_cells : AreClassCells p cells
    joined_cells =
        let n = h.net.is in
        let long : length cells ≡ length f.net.cells = grown.as_many ∙ ap length round.starts_are in
        record {
          kinds = λ c y gy.
              let l = grown.each c y (elem_of cells c y gy) in
              let lt = slice_get_within cells c y gy in
              let x = there_is f.net.cells c (omega (arith, lt, long)) in
              let start : l.start ≡ x.0 = some-injective l.start x.0
              (sym l.given ∙ ap (λ (s : List Holding). get_elem? s c) round.starts_are ∙ elem_of f.net.cells c x.0 x.1) in
              l.kinds ∙ ap (λ (z : Holding). z.kinds) start ∙ n.cells.kinds c x.0 x.1;
          all = λ m lt. let a = n.cells.all m lt in omega (arith, a, long);
          used = λ c lt. n.cells.used c (omega (arith, lt, long));
        }

    -- each entry in them names an operator and one of its tables
    pub joined_right : AreEntries p (logs_of cells)
    joined_right =
        let n = h.net.is in
        let s = h.seated.some in
        let e = round.seats in
        let long = length-map bs (λ (x : Bundle). x.seat) in
        let m = h.seated.many in
        joined_entries p (all_views bs) cells grown (omega (arith, s, e)) (has_all f bs h.seated)
        (subst (λ (z : List Holding). AreEntries p (logs_of z)) (sym round.starts_are) n.entries)
        (merged_all (λ (q : Claim). IsEntryOf p q.class q.entry) (seats_of bs) (omega (arith, long, s, m))
        (λ k d lt. seat_by (λ j c. AreClaims p c.view.claims) bs (λ j b l. (keep p f bs h j b l).claims) k d lt))

    -- a bundle's task keeps its facts by the logs
    keeps_on : (k : ℕ) (b : Bundle) (t : Task) → k < length bs → (t.op % f.workers) ≡ k → IsTaskAt p (get_or bs k b).seat.view t
        → IsTask p (added p (logs_of cells) t.op) t
    unfolding own_is joined_cells
    keeps_on k b t lk part_is keeps =
        let v = (get_or bs k b).seat.view in
        let w = all_views bs in
        let s = h.seated.each k b lk in
        let m = h.seated.many in
        let at : (t.op % v.seats) ≡ k = ap (λ (n : ℕ). t.op % n) s.seats ∙ part_is in
        let has : StandsIn (t.op % v.seats) w.parts = subst (λ j. StandsIn j w.parts) (sym at) (has_every f bs h.seated k (omega (arith, lk, m))) in
        let claims : (c : ℕ) → own v.seats (t.op % v.seats) c w.claims ≡ own v.seats (t.op % v.seats) c v.claims =
        (λ c. subst (λ j. own v.seats j c w.claims ≡ own v.seats j c v.claims) (sym at)
        (subst (λ n. own n k c w.claims ≡ own n k c v.claims) (sym s.seats) (own_is k b c lk))) in
        with_adds p (added p (logs_at v t.op) t.op) (added p (logs_of cells) t.op) t keeps (λ j lj.
        let many = tables_many p h.valid t (added p (logs_at v t.op) t.op) keeps in
        let port = there_is t.tables j (omega (arith, lj, many)) in
        let is = table_is p h.valid t.op keeps.op keeps.op_is t.tables t.classes keeps.homes j port.0 port.1 in
        let decl = table_there p h.valid t (added p (logs_at v t.op) t.op) keeps j port.0 port.1 in
        let x = class_has p cells port.0.table decl.0 joined_cells decl.1 in
        joined_adds p v w cells t.op j grown (round.seats ∙ sym s.seats) (round.starts_are ∙ sym s.starts) has claims x.0
        (ap (λ (q : ℕ). get_elem? cells (table_class p q)) is ∙ elem_of cells (table_class p port.0.table) x.0 x.1))

    -- so does each task of the list
    pub joined_tasks : (ts0 : List Task) → length ts0 ≡ length f.net.tasks → layout.AreTasks p (added p (logs_of cells)) (put_bundles bs ts0)
    unfolding keeps_on
    joined_tasks ts0 as_long = record {
      each = λ o d lt.
          let m = all_many bs ts0 in
          let l : o < length f.net.tasks = omega (arith, lt, m, as_long) in
          let x = found p f bs h ts0 as_long o d l in
          let t = get_or (put_bundles bs ts0) o d in
          let k = o % f.workers in
          let b = x.bundle in
          let li : x.place < length (get_or bs k b).tasks = subst (λ (c : Bundle). x.place < length c.tasks) (sym x.bundle_is) x.there in
          let is : get_or (get_or bs k b).tasks x.place t ≡ t = ap (λ (c : Bundle). get_or c.tasks x.place t) x.bundle_is ∙ x.task_is in
          keeps_on k b t x.below (ap (λ (q : ℕ). q % f.workers) x.op_is)
          (subst (IsTaskAt p (get_or bs k b).seat.view) is ((keep p f bs h k b x.below).each x.place t li));
    }

-- THE NET

part_still : (n k : ℕ) (ts ts' : List Task) → map task_core ts' ≡ map task_core ts → map task_core (tasks_of_part n k ts') ≡ map task_core (tasks_of_part n k ts)
part_still n k [] [] e = refl
part_still n k [] (y ∷ ys) e = absurd (cc e)
part_still n k (x ∷ xs) [] e = absurd (cc e)
part_still n k (x ∷ xs) (y ∷ ys) e =
    let a : task_core y ≡ task_core x = cc e in
    let r : map task_core ys ≡ map task_core xs = cc e in
    let o : y.op ≡ x.op = ap (λ (s : TaskCore). s.ends.op) a in
    ap (λ (q : ℕ). map task_core (cond ((q % n) == k) (y ∷ tasks_of_part n k ys) (tasks_of_part n k ys))) o ∙ by ((x.op % n) == k) a (part_still n k xs ys r)
  where
    by : (b : Bool) → task_core y ≡ task_core x → map task_core (tasks_of_part n k ys) ≡ map task_core (tasks_of_part n k xs)
        → map task_core (cond b (y ∷ tasks_of_part n k ys) (tasks_of_part n k ys)) ≡ map task_core (cond b (x ∷ tasks_of_part n k xs) (tasks_of_part n k xs))
    by true a r = ap (λ s. s ∷ map task_core (tasks_of_part n k ys)) a ∙ ap (λ ss. task_core x ∷ ss) r
    by false a r = r

module _ (p : PlanForm) (f : Framed) (bs : List Bundle) (h : AreBundlesOf p f bs) (ts0 ts : List Task) (cells : List Holding)
    (as_long : length ts0 ≡ length f.net.tasks)
    (same : map task_core ts ≡ map task_core (put_bundles bs ts0)) where
  -- the net has the ends of the net that was split
  pub net_ends : all_ends ts ≡ all_ends f.net.tasks
  net_ends = still_ends (put_bundles bs ts0) ts same ∙ joined_ends p f bs h ts0 as_long

  -- it took and sent what the bundles did
  pub net_moves : all_moves ts ≡ bundle_moves bs
  net_moves = still_all_moves (put_bundles bs ts0) ts same ∙ joined_moves p f bs h ts0 as_long

  -- its tasks are those of the bundles
  pub net_tasks : AreTasksOf bs ts
  net_tasks = record {
    each = λ k b lk.
        let m = h.seated.many in
        ap (λ (n : ℕ). map task_core (tasks_of_part n k ts)) m ∙ part_still f.workers k (put_bundles bs ts0) ts same
        ∙ ap (map task_core) (joined_parts p f bs h ts0 as_long k b lk);
  }

  -- the ends of its rings are pairs
  pub net_paired : LogsHaveGrown (all_views bs) cells → ArePaired (put_bundles bs ts0) f.net.links
  net_paired grown =
      let n = h.net.is in
      paired_net p h.net.inputs h.net.caps (added p (logs_of cells)) (put_bundles bs ts0) f.net.links h.valid
      (laid_same p h.net.inputs h.net.caps f.net.tasks (put_bundles bs ts0) (joined_ends p f bs h ts0 as_long) n.laid)
      (joined_tasks p f bs h cells grown ts0 as_long) n.links

  -- and no two rings share one
  pub net_apart : ShareNoEnd f.net.links
  net_apart = apart_net p f.net.links h.valid h.net.is.links

  -- whatever inputs and capacities the net that was split had, this one has
  pub net_stays : (net : Net) → net ≡ record { tasks = ts; links = f.net.links; cells = cells; refused = false } → LogsHaveGrown (all_views bs) cells
      → AreMet ts f.net.links (length f.net.links) → Stays p f.net net
  unfolding net_ends
  net_stays net e grown met = subst (Stays p f.net) (sym e) (record {
    fine = refl;
    is = λ inputs caps n. record {
      typed = n.typed;
      room = n.room;
      laid = laid_same p inputs caps f.net.tasks ts net_ends n.laid;
      tasks = still_tasks p (added p (logs_of cells)) (put_bundles bs ts0) ts same (joined_tasks p f bs h cells grown ts0 as_long);
      settled = settled_by p ts f.net.links n.links met;
      links = n.links;
      cells = joined_cells p f bs h cells grown;
      entries = joined_right p f bs h cells grown;
    };
  })
