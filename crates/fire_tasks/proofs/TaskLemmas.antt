-- What a task keeps through a take.
use Rattle.std.proofs.Common.{◌≡◌, ℕ, ℤ, zero, suc, ◌+◌, ◌<◌, Some, None, List, [], ◌∷◌, ◌++◌, length, map, refl, sym, ap, ◌∙◌, subst, arith, ⊎_elim, length-append}
use Rattle.std.specs.Prelude.{Option, All, replicate, min, slice_get}
use Rattle.std.proofs.lemmas.Bool.{cases_eq, cases_lt}
use Rattle.std.proofs.lemmas.List.{append-nil, length-map, length-replicate}
use Rattle.std.proofs.lemmas.List.Elements.{All-append, All-nil}
use Rattle.std.proofs.lemmas.Option.{slice_get_within, same_Some}
use Rattle.river_base.proofs.Lists.{there_is, got_map}
use Rattle.river_base.specs.declared.item.Item as item
use Rattle.river_base.specs.declared.kind.QueueType.{QueueType}
use Rattle.river_base.specs.Held.{IsHeld}
use Rattle.river_base.specs.Places.{list_at, append_at, each_grew}
use Rattle.river_rings.specs.Rows.{row_item}
use Rattle.river_base.proofs.PlaceLemmas.{each_grew-blanks, length-each_grew, if_eq, if_ne, append_here, append_else, blank_at}
use Rattle.kern_tables.specs.Tables.{table_width}
use Rattle.river_plan.specs.declared.plan.TableDecl.{TableDecl}
use Rattle.river_plan.specs.Forms.{PlanForm, OpForm, all_decls, table_names}
use Rattle.river_plan.specs.Kinds.{kind_of, var_kind, IsFit}
use Rattle.river_plan.specs.Places.{place, places}
use Rattle.river_plan.specs.Valid.{IsPlan}
use Rattle.river_plan.proofs.PlaceLemmas.{place_below}
use Rattle.brooklet_model.specs.Fire.{fire, outs, tabs, first_kept}
use Rattle.brooklet_model.specs.Histories.{most_firings, tables_of}
use Rattle.brooklet_model.specs.Traced.{ran}
use Rattle.brooklet_model.specs.Firings.{Fired}
use Rattle.brooklet_model.specs.Typed.{IsStart, IsWordOf, widths_in, IsWide}
use Rattle.brooklet_model.specs.Words.{Word, at_port}
use Rattle.brooklet_model.proofs.Free.{at_port-append, below-append}
use Rattle.brooklet_model.proofs.Ports.{counts, shaped}
use Rattle.brooklet_model.proofs.Swaps.{at_port_here, at_port_past}
use Rattle.brooklet_model.proofs.Traces.{got_count}
use Rattle.brooklet_model.proofs.TypedPlan.{op_fits}
use Rattle.brooklet_step.specs.declared.emit.Emit.{Emit}
use Rattle.brooklet_step.specs.declared.emit.Spare.{Spare}
use Rattle.brooklet_step.specs.declared.state.State.{State}
use Rattle.brooklet_step.specs.Given.{held_at, Does, IsHeldBy, IsHeldOf, StandsAfter, TookHeld}
use Rattle.brooklet_step.specs.Reading.{CameOf, CanFire, IsBlankOf, FiredOp}
use Rattle.brooklet_step.specs.Took.{IsBlank}
use Rattle.brooklet_step.proofs.GivenLemmas.{at-append, ran_more, at_next, first_is_start}
use Rattle.brooklet_step.proofs.NextLemmas.{got_place}
use Rattle.brooklet_step.proofs.OpTables.{width_at, width_there, widths_of, mine_many, among_known}
use Rattle.class_locks.specs.Piles.{Piled}
use Rattle.fire_tasks.specs.Inlet as inlet
use Rattle.fire_tasks.specs.declared.task.TablePort.{TablePort}
use Rattle.fire_tasks.specs.declared.task.Task.{Task}
use Rattle.fire_tasks.specs.Adds.{table_numbers}
use Rattle.fire_tasks.specs.Fired.{bad_at, kinds_in, kinds_out, HasFired, IsHeldAs}
use Rattle.fire_tasks.specs.Ports.{received_of, received_in, sent_in, InEnd, IsIdle, in_ends, out_ends}
use Rattle.river_base.specs.WideRows.{rows_type}
use Rattle.fire_tasks.specs.Tasks.{HasWord, IsTask}
use Rattle.fire_tasks.proofs.Fronts.{goes_took}
use Rattle.fire_tasks.specs.Turns.{AreRowsFor, HasFiredAt, HasTakenAt, Owes, classes_of, pile_grown, logged}
use Rattle.fire_tasks.proofs.PortLemmas.{count_more, ins_many}
use Rattle.fire_tasks.proofs.WordLemmas.{Longer, longer_word}

-- LISTS AT PLACES

-- a count that grew by one firing, up to the most
pub one_count : (m n c l l' : ℕ) → n ≡ min m (c + 1) → c ≡ min m l → l' ≡ l + 1 → n ≡ min m l'
one_count m n c l l' en ec el = omega (arith, en, ec, el)

-- the same rows for each of its tables, told otherwise
pub with_adds : (p : PlanForm) (f g : ℕ → List (List ℤ)) (t : Task) → (k : IsTask p f t) → ((j : ℕ) → j < tabs k.op.kernel → g j ≡ f j) → IsTask p g t
with_adds p f g t k e = record {
  op = k.op;
  op_is = k.op_is;
  ins = k.ins;
  kinds = k.kinds;
  outs = k.outs;
  pending = k.pending;
  rings = k.rings;
  blank = k.blank;
  homes = k.homes;
  word = k.word;
  count = k.count;
  fired = record {
    below = k.fired.below;
    received = k.fired.received;
    bad = k.fired.bad;
    held = k.fired.held;
    given = λ w a h. let y = k.fired.given w a h in record { outs = y.outs; adds_are = λ j lt. e j lt ∙ y.adds_are j lt };
  };
  stands = k.stands;
}

-- and the word stays
pub with_adds_word : (p : PlanForm) (f g : ℕ → List (List ℤ)) (t : Task) (w : Word) → (k : HasWord p f t w)
    → ((j : ℕ) → j < tabs k.task.op.kernel → g j ≡ f j) → HasWord p g t w
unfolding with_adds
with_adds_word p f g t w k e = record { task = with_adds p f g t k.task e; word = k.word }

-- nothing lies beyond the last list
pub beyond_blank : {A : Type 0} (n : ℕ) (f : ℕ → List A) (j : ℕ) → n < suc j → list_at (each_grew (replicate n []) f) j ≡ []
beyond_blank zero f j lt = refl
beyond_blank (suc n) f zero lt = absurd (omega (arith, lt))
beyond_blank (suc n) f (suc j) lt = beyond_blank n (λ m. f (suc m)) j (omega (arith, lt))

module _ (p : PlanForm) (v : IsPlan p) (t : Task) (adds : ℕ → List (List ℤ)) (k : IsTask p adds t) where
  -- the tables of the task are those of its operator
  numbers_are : map (λ (h : TablePort). h.table) t.tables ≡ places (table_names p.tables) (tables_of (table_names p.tables) k.op)
  numbers_are = k.homes.numbers ∙ ap (table_numbers p) k.op_is

  -- a task has as many tables as its operator's kernel adds to
  pub tables_many : length t.tables ≡ tabs k.op.kernel
  tables_many =
      sym (length-map t.tables (λ (h : TablePort). h.table)) ∙ ap length numbers_are
      ∙ length-map (tables_of (table_names p.tables) k.op) (place (table_names p.tables)) ∙ mine_many p v t.op k.op k.op_is

  -- the declaration of the table at a port
  pub table_there : (j : ℕ) (h : TablePort) → slice_get t.tables j ≡ Some h
      → (d : TableDecl) × (slice_get p.tables h.table ≡ Some d) ×
      (slice_get (widths_in (map (var_kind p.tables p.vars) k.op.vars)) j ≡ Some (table_width d.kind))
  table_there j h g =
      let names = table_names p.tables in
      let mine = tables_of names k.op in
      let q = got_place names mine j h.table (ap (λ l. slice_get l j) (sym numbers_are) ∙ got_map (λ (y : TablePort). y.table) t.tables j h g) in
      let below = place_below names q.0 (among_known names k.op.vars q.0 (got_count mine j q.0 q.1)) in
      let long = length-map p.tables (λ (d : TableDecl). d.name) in
      let eq = q.2 in
      let d = there_is p.tables h.table (omega (arith, below, long, eq)) in
      let wide = width_there p.tables q.0 d.0 (ap (slice_get p.tables) q.2 ∙ d.1) in
      (d.0, d.1, ap (λ (l : List ℕ). slice_get l j) (widths_of p v t.op k.op k.op_is) ∙ got_map (width_at p.tables) mine j q.0 q.1 ∙ ap Some wide)

  -- a task whose lists of rows are empty owes nothing
  pub owes_none : Owes p adds t
  owes_none =
      let none : (j : ℕ) → list_at t.out.adds j ≡ [] = λ j. ap (λ l. list_at l j) k.blank.adds ∙ blank_at (tabs k.op.kernel) j in
      let same : replicate (length t.out.adds) [] ≡ t.out.adds = ap (λ n. replicate n []) (ap length k.blank.adds ∙ length-replicate (tabs k.op.kernel) [])
      ∙ sym k.blank.adds in
      record {
        task = subst (λ (a : List (List (List ℤ))). IsTask p (λ j. adds j ++ list_at t.out.adds j) (record t { out = record { outs = t.out.outs; adds = a } }))
            (sym same)
            (with_adds p adds (λ j. adds j ++ list_at t.out.adds j) t k (λ j lt. ap (λ l. adds j ++ l) (none j) ∙ append-nil (adds j)));
        many = ap length k.blank.adds ∙ length-replicate (tabs k.op.kernel) [] ∙ sym tables_many;
        rows = record {
          wide = λ j h g.
              let d = table_there j h g in
              (d.0, d.1, subst (All (λ row. length row ≡ table_width d.0.kind)) (sym (none j)) (All-nil (λ row. length row ≡ table_width d.0.kind)));
        };
      }

  -- the operator can take an item that its port's queue may hold
  pub can_take : (port : ℕ) (x : item.Item) → IsHeldOf t.kinds port x → CanFire p t.op port x t.states
  can_take port x i =
      let op = k.op in
      record {
        op = op;
        op_is = k.op_is;
        applies = λ blank bl. record {
          reads = kinds_in p op;
          fitting = record {
            writes = kinds_out p op;
            vars = map (var_kind p.tables p.vars) op.vars;
            fits = op_fits p v t.op op k.op_is;
            state = k.stands.fit;
          };
          item = subst (λ l. IsHeldOf l port x) k.kinds i;
          room = record { outs = ap length bl.outs ∙ length-replicate (outs op.kernel) []; adds = ap length bl.adds ∙ length-replicate (tabs op.kernel) [] };
        };
      }

  -- what is kept for the next firing is blank for the operator
  pub blank_op : IsBlankOf p t.op t.out
  blank_op = record { blank = λ op g. let e : k.op ≡ op = same_Some k.op op (sym k.op_is ∙ g) in subst (λ (o : OpForm). IsBlank o.kernel t.out) e k.blank }

held_row : (row : List ℤ) → IsHeld (rows_type (length row)) (row_item row)
unfolding IsHeld
held_row row = refl

-- a row is what a queue of rows as wide may hold
pub fits_row : (kinds : List QueueType) (port : ℕ) (row : List ℤ) → slice_get kinds port ≡ Some (rows_type (length row)) → IsHeldOf kinds port (row_item row)
fits_row kinds port row e = subst (λ o. IsHeldBy o (row_item row)) (sym e) (held_row row)

module _ (p : PlanForm) (v : IsPlan p) (t : Task) (adds : ℕ → List (List ℤ)) (k : IsTask p adds t) (fine : t.bad ≡ None) where
  abbrev received : (ins : List inlet.Inlet) (port : ℕ) (x : item.Item) → Type 0
  received ins port x = received_in ins ≡ append_at (received_in t.ins) port (x ∷ [])

  old_received : (i : ℕ) → list_at (received_in t.ins) i ≡ at_port i k.word
  old_received i = k.fired.received i ∙ ap (λ o. at_port i k.word ++ bad_at i o) fine ∙ append-nil (at_port i k.word)

  -- with a word that is longer by a firing
  longer : (ins : List inlet.Inlet) (port : ℕ) (x : item.Item) → received ins port x → port < length t.ins → (i : ℕ)
      → list_at (received_in ins) i ≡ at_port i (k.word ++ (port, x) ∷ [])
  longer ins port x e lt i = ap (λ l. list_at l i) e ∙ ⊎_elim
      (λ h. subst (λ n. list_at (append_at (received_in t.ins) port (x ∷ [])) n ≡ at_port n (k.word ++ (port, x) ∷ [])) h
      (append_here (received_in t.ins) port (x ∷ []) (let l = length-map t.ins received_of in omega (arith, l, lt))
      ∙ ap (λ l. l ++ x ∷ []) (old_received port) ∙ sym (at_next port k.word x)))
      (λ ne. append_else (received_in t.ins) port i (x ∷ []) ne ∙ old_received i
      ∙ sym (at_port-append i k.word ((port, x) ∷ []) ∙ ap (λ l. at_port i k.word ++ l) (at_port_past i (port, x) [] ne) ∙ append-nil (at_port i k.word)))
      (cases_eq port i)

  -- an item that its port's queue may not hold
  pub bad_came : (ins : List inlet.Inlet) (port : ℕ) (x : item.Item) → received ins port x → length ins ≡ length t.ins → port < length t.ins
      → (IsHeldOf t.kinds port x → ⊥) → IsTask p adds (record t { ins = ins; bad = Some (port, x) })
  bad_came ins port x e l lt misfit = record {
    op = k.op;
    op_is = k.op_is;
    ins = l ∙ k.ins;
    kinds = k.kinds;
    outs = k.outs;
    pending = k.pending;
    rings = k.rings;
    blank = k.blank;
    homes = k.homes;
    word = k.word;
    count = k.count;
    fired = record {
      below = k.fired.below;
      received = λ i. longer ins port x e lt i ∙ at_port-append i k.word ((port, x) ∷ []) ∙ ap (λ l. at_port i k.word ++ l) (⊎_elim
          (λ h. at_port_here i (port, x) [] h ∙ sym (if_eq port i (x ∷ []) [] h))
          (λ ne. at_port_past i (port, x) [] ne ∙ sym (if_ne port i (x ∷ []) [] ne))
          (cases_eq port i));
      bad = (
        let i = k.ins in let m =
            length-map k.op.reads (kind_of (all_decls p)) in omega (arith, i, m, lt),
        λ h. misfit (subst (λ l. IsHeldOf l port x) (sym k.kinds) h),
      );
      held = k.fired.held;
      given = λ w a h. let g = k.fired.given w a h in record { outs = g.outs; adds_are = g.adds_are };
    };
    stands = record { fit = k.stands.fit; after = k.stands.after };
  }

  -- A FIRING

  module _ (ins : List inlet.Inlet) (port : ℕ) (x : item.Item) (st : List State) (out blank : Emit) (pending : List (List item.Item)) (n : ℕ)
      (e : received ins port x) (l : length ins ≡ length t.ins) (lt : port < length t.ins) (i : IsHeldOf t.kinds port x) (idle : IsIdle t.pending)
      (f : FiredOp p t.op port x t.states st out) (ep : pending ≡ out.outs) (eb : blank.outs ≡ t.pending) (ebr : blank.adds ≡ replicate (length out.adds) [])
      (en : n ≡ min most_firings (t.count + 1)) where
    abbrev op : OpForm
    op = k.op

    abbrev word_now : Word
    word_now = k.word ++ (port, x) ∷ []

    -- the operator fired, from empty lists
    fired_is : CameOf op.kernel port x t.states st out
    fired_is = f.fired op k.op_is

    fits : IsFit p op
    fits = op_fits p v t.op op k.op_is

    -- what that does
    does : Does op.kernel (kinds_in p op) (kinds_out p op) (map (var_kind p.tables p.vars) op.vars) port x fired_is.blank out t.states st
    does = fired_is.fires.each (kinds_in p op) (kinds_out p op) (map (var_kind p.tables p.vars) op.vars) fits k.stands.fit
        (subst (λ y. IsHeldOf y port x) k.kinds i)

    is_start : IsStart op.kernel (kinds_in p op) (first_kept op.kernel)
    is_start = first_is_start op.kernel (kinds_in p op) (shaped op.kernel _ _ _ fits)

    -- what came at each port, and for each table
    outs_are : out.outs ≡ each_grew (replicate (outs op.kernel) []) does.came.outs
    outs_are = does.came.outs_are ∙ ap (λ ls. each_grew ls does.came.outs) fired_is.is_blank.outs

    adds_are : out.adds ≡ each_grew (replicate (tabs op.kernel) []) does.came.adds
    adds_are = does.came.adds_are ∙ ap (λ ls. each_grew ls does.came.adds) fired_is.is_blank.adds

    outs_many : length out.outs ≡ outs op.kernel
    outs_many =
        ap length outs_are ∙ length-each_grew (replicate (outs op.kernel) []) does.came.outs ∙ length-replicate (outs op.kernel) []

    adds_many : length out.adds ≡ tabs op.kernel
    adds_many =
        ap length adds_are ∙ length-each_grew (replicate (tabs op.kernel) []) does.came.adds ∙ length-replicate (tabs op.kernel) []

    pending_is : (j : ℕ) → list_at pending j ≡ list_at out.outs j
    pending_is j = ap (λ ls. list_at ls j) ep

    all_empty : (ls : List (List item.Item)) → IsIdle ls → ls ≡ replicate (length ls) []
    all_empty [] h = refl
    all_empty (m ∷ ls) h = ap (λ y. y ∷ ls) (h 0) ∙ ap (λ ys. [] ∷ ys) (all_empty ls (λ n. h (suc n)))

    grown_held : (n : ℕ) (f : ℕ → List item.Item) (ls : List (List item.Item)) (j : ℕ) → ls ≡ each_grew (replicate n []) f
        → All (IsHeldOf (kinds_out p op) j) (f j) → All (IsHeldOf (kinds_out p op) j) (list_at ls j)
    grown_held n f ls j e h = ⊎_elim
        (λ lj. subst (All (IsHeldOf (kinds_out p op) j)) (sym (ap (λ l. list_at l j) e ∙ each_grew-blanks n f j [] lj)) h)
        (λ ge. subst (All (IsHeldOf (kinds_out p op) j)) (sym (ap (λ l. list_at l j) e ∙ beyond_blank n f j (omega (arith, ge))))
        (All-nil (IsHeldOf (kinds_out p op) j)))
        (cases_lt j n)

    -- queues may hold what was sent and what is pending
    held_after : (j : ℕ) → All (IsHeldOf (kinds_out p op) j) (list_at (sent_in t.outs) j ++ list_at pending j)
    held_after j =
        let was : All (IsHeldOf (kinds_out p op) j) (list_at (sent_in t.outs) j) =
        subst (All (IsHeldOf (kinds_out p op) j)) (ap (λ y. list_at (sent_in t.outs) j ++ y) (idle j) ∙ append-nil (list_at (sent_in t.outs) j))
        (k.fired.held j) in
        All-append (IsHeldOf (kinds_out p op) j) (list_at (sent_in t.outs) j) (list_at pending j) was
        (subst (All (IsHeldOf (kinds_out p op) j)) (sym (pending_is j)) (grown_held (outs op.kernel) does.came.outs out.outs j outs_are (does.came.held j)))

    -- a word that the items stand for
    module _ (w : Word) (typed : IsWordOf (kinds_in p op) w) (held : IsHeldAs (kinds_in p op) w word_now) where
      -- it is one item longer than a word that those before stand for
      split : Longer (kinds_in p op) w k.word port x
      split = longer_word (kinds_in p op) w k.word port x typed held

      abbrev before : Fired
      before = ran op split.before

      abbrev fires : Fired
      fires = fire op.kernel port split.item before.states

      -- what the firing gives for its last item
      gave : TookHeld (kinds_out p op) before fired_is.blank out fires
          × StandsAfter op.kernel (kinds_in p op) (first_kept op.kernel) st (split.before ++ (port, split.item) ∷ [])
      gave = does.gives.given (first_kept op.kernel) split.before split.item is_start split.typed split.is_of
          (k.stands.after split.before split.typed split.held) split.next

      -- what was sent and what is pending is what queues hold for all that the word gives
      outs_given : (j : ℕ) → j < length op.writes → list_at (sent_in t.outs) j ++ list_at pending j ≡ held_at (kinds_out p op) j [] ((ran op w).outs j)
      outs_given j lj =
          let co = (counts op.kernel _ _ _ fits).outs in
          let nw = length-map op.writes (kind_of (all_decls p)) in
          let lj' : j < outs op.kernel = omega (arith, lj, co, nw) in
          let more = ran_more op.kernel (first_kept op.kernel) split.before port split.item in
          let new_outs : out.outs ≡ each_grew (replicate (outs op.kernel) []) (λ j. held_at (kinds_out p op) j (before.outs j) (fires.outs j)) = gave.0.outs
          ∙ ap (λ ls. each_grew ls (λ j. held_at (kinds_out p op) j (before.outs j) (fires.outs j))) fired_is.is_blank.outs in
          let old : list_at (sent_in t.outs) j ≡ held_at (kinds_out p op) j [] (before.outs j) = sym (append-nil (list_at (sent_in t.outs) j))
          ∙ ap (λ y. list_at (sent_in t.outs) j ++ y) (sym (idle j)) ∙ (k.fired.given split.before split.typed split.held).outs j lj in
          ap (λ y. y ++ list_at pending j) old
          ∙ ap (λ y. held_at (kinds_out p op) j [] (before.outs j) ++ y)
          (pending_is j ∙ ap (λ ls. list_at ls j) new_outs
          ∙ each_grew-blanks (outs op.kernel) (λ m. held_at (kinds_out p op) m (before.outs m) (fires.outs m)) j [] lj')
          ∙ sym (at-append (kinds_out p op) j [] (before.outs j) (fires.outs j))
          ∙ ap (held_at (kinds_out p op) j []) (sym (more.outs j) ∙ ap (λ u. (ran op u).outs j) (sym split.splits))

      -- and the rows that were added, with those that are owed, are what the word adds
      adds_given : (j : ℕ) → j < tabs op.kernel → adds j ++ list_at out.adds j ≡ (ran op w).adds j
      adds_given j lj =
          let more = ran_more op.kernel (first_kept op.kernel) split.before port split.item in
          let new_adds : out.adds ≡ each_grew (replicate (tabs op.kernel) []) fires.adds = gave.0.adds ∙ ap (λ ls. each_grew ls fires.adds) fired_is.is_blank.adds in
          ap (λ y. y ++ list_at out.adds j) ((k.fired.given split.before split.typed split.held).adds_are j lj)
          ∙ ap (λ ls. before.adds j ++ list_at ls j) new_adds
          ∙ ap (λ y. before.adds j ++ y) (each_grew-blanks (tabs op.kernel) fires.adds j [] lj)
          ∙ sym (more.adds j) ∙ ap (λ u. (ran op u).adds j) (sym split.splits)

      -- the states stand for those after the word
      stands_after : StandsAfter op.kernel (kinds_in p op) (first_kept op.kernel) st w
      stands_after = subst (StandsAfter op.kernel (kinds_in p op) (first_kept op.kernel) st) (sym split.splits) gave.1

    -- the operator has fired on the longer word
    fired_after : HasFired p op (λ j. adds j ++ list_at out.adds j)
        (record { received = received_in ins; sent = sent_in t.outs; pending = pending; bad = t.bad }) word_now
    fired_after = record {
      below = below-append (length op.reads) k.word ((port, x) ∷ []) k.fired.below (let n = k.ins in omega (arith, n, lt), tt);
      received = λ n. longer ins port x e lt n ∙ sym (ap (λ o. at_port n word_now ++ bad_at n o) fine ∙ append-nil (at_port n word_now));
      bad = k.fired.bad;
      held = held_after;
      given = λ w a h. record { outs = outs_given w a h; adds_are = adds_given w a h };
    }

    -- the task owes the rows that came
    pub took_task : HasWord p (λ j. adds j ++ list_at out.adds j) (record t { ins = ins; states = st; pending = pending; out = blank; count = n }) word_now
    took_task =
        let c = counts op.kernel _ _ _ fits in
        let nw = length-map op.writes (kind_of (all_decls p)) in
        record {
          task = record {
            op = op;
            op_is = k.op_is;
            ins = l ∙ k.ins;
            kinds = k.kinds;
            outs = k.outs;
            rings = k.rings;
            pending = ap length ep ∙ outs_many ∙ sym c.outs ∙ nw;
            blank = record {
              outs = eb ∙ all_empty t.pending idle ∙ ap (λ n. replicate n []) (k.pending ∙ sym nw ∙ c.outs);
              adds = ebr ∙ ap (λ n. replicate n []) adds_many;
            };
            homes = k.homes;
            word = word_now;
            count = one_count most_firings n t.count (length k.word) (length word_now) en k.count (length-append k.word ((port, x) ∷ []));
            fired = fired_after;
            stands = record { fit = does.came.again; after = stands_after };
          };
          word = refl;
        }

-- the rows of a firing are for the operator's tables
module _ (p : PlanForm) (v : IsPlan p) (t : Task) (adds : ℕ → List (List ℤ)) (k : IsTask p adds t) (port : ℕ) (x : item.Item) (st : List State) (out : Emit)
    (i : IsHeldOf t.kinds port x) (f : FiredOp p t.op port x t.states st out) where
  -- there is a list for each table
  pub came_many : length out.adds ≡ length t.tables
  came_many = (f.fired k.op k.op_is).room.adds ∙ sym (tables_many p v t adds k)

  -- and they have the tables' widths
  pub came_wide : AreRowsFor p t.tables (list_at out.adds)
  came_wide =
      let op = k.op in
      let c = f.fired op k.op_is in
      let vars = map (var_kind p.tables p.vars) op.vars in
      let held_x : IsHeldOf (kinds_in p op) port x = subst (λ y. IsHeldOf y port x) k.kinds i in
      let came = (c.fires.each (kinds_in p op) (kinds_out p op) vars (op_fits p v t.op op k.op_is) k.stands.fit held_x).came in
      record {
        wide = λ j h g.
            let d = table_there p v t adds k j h g in
            let lt = slice_get_within t.tables j h g in
            let m = tables_many p v t adds k in
            let given : list_at out.adds j ≡ came.adds j =
            ap (λ (l : List (List (List ℤ))). list_at l j) (came.adds_are ∙ ap (λ l. each_grew l came.adds) c.is_blank.adds)
            ∙ each_grew-blanks (tabs op.kernel) came.adds j [] (omega (arith, lt, m)) in (
              d.0,
              d.1,
              subst (λ (l : List (List ℤ)). All (λ row. length row ≡ table_width d.0.kind) l) (sym given)
                  (wide_rows (slice_get (widths_in vars) j) (table_width d.0.kind) (came.adds j) d.2 (came.wide j)),
            );
      }
    where
      wide_rows : (o : Option ℕ) (n : ℕ) (rows : List (List ℤ)) → o ≡ Some n → All (IsWide o) rows → All (λ row. length row ≡ n) rows
      wide_rows o n rows e a = subst (λ w. All (IsWide w) rows) e a

-- A TAKE

-- the item failed its test
pub bad_fired : (p : PlanForm) → IsPlan p → (t : Task) → t.bad ≡ None → (ins : List inlet.Inlet) (port : ℕ) (x : item.Item) → in_ends ins ≡ in_ends t.ins
    → received_in ins ≡ append_at (received_in t.ins) port (x ∷ []) → port < length t.ins → (IsHeldOf t.kinds port x → ⊥)
    → HasFiredAt p t (record t { ins = ins; bad = Some (port, x) })
bad_fired p v t fine ins port x e r lt misfit = record {
  did = record {
    port = port;
    item = x;
    there = lt;
    received = r;
    sent = refl;
    out = t.out;
    fired = λ none. absurd (cc none);
    pends = λ none. absurd (cc none);
    rows = λ none. absurd (cc none);
  };
  owes = λ adds k. owes_none p v (record t { ins = ins; bad = Some (port, x) }) adds (bad_came p v t adds k fine ins port x r (ins_many t.ins ins e) lt misfit);
  word = λ none adds k. absurd (cc none);
  ends = ap (λ (i : List InEnd). record { op = t.op; ins = i; outs = out_ends t.outs }) e;
  goes_on = goes_took t (record t { ins = ins; bad = Some (port, x) }) port x r refl;
  one = let m = count_more t.ins ins port x lt r in omega (arith, m);
  homes = (refl, refl);
}

-- a firing, whose outputs are pending and whose rows are owed
pub took_fired : (p : PlanForm) → IsPlan p → (t : Task) → t.bad ≡ None → (ins : List inlet.Inlet) (port : ℕ) (x : item.Item) (st : List State) (out : Emit)
    (pending blanks : List (List item.Item)) (spare : Spare) (n : ℕ) → in_ends ins ≡ in_ends t.ins
    → received_in ins ≡ append_at (received_in t.ins) port (x ∷ []) → port < length t.ins → IsHeldOf t.kinds port x → IsIdle t.pending
    → FiredOp p t.op port x t.states st out
    → pending ≡ out.outs → blanks ≡ t.pending → n ≡ min most_firings (t.count + 1)
    → HasFiredAt p t (record t { ins = ins; states = st; pending = pending; out = record { outs = blanks; adds = out.adds }; spare = spare; count = n })
took_fired p v t fine ins port x st out pending blanks spare n e r lt i idle f ep eb en = record {
  did = record {
    port = port;
    item = x;
    there = lt;
    received = r;
    sent = refl;
    out = out;
    fired = λ none. f;
    pends = λ none. ep;
    rows = λ none. refl;
  };
  owes = λ adds k. record {
    task = (took adds k).task;
    many = came_many p v t adds k port x st out i f;
    rows = came_wide p v t adds k port x st out i f;
  };
  word = λ none adds k. took adds k;
  ends = ap (λ (y : List InEnd). record { op = t.op; ins = y; outs = out_ends t.outs }) e;
  goes_on = goes_took t (record t { ins = ins; states = st; pending = pending; out = record { outs = blanks; adds = out.adds }; spare = spare; count = n }) port x r refl;
  one = let m = count_more t.ins ins port x lt r in omega (arith, m);
  homes = (refl, refl);
}
  where
    -- nothing is said of the spare lists
    spared : (q : PlanForm) (adds : ℕ → List (List ℤ)) (u : Task) (s : Spare) (w : Word) → HasWord q adds u w → HasWord q adds (record u { spare = s }) w
    spared q adds u s w h = record {
      task = record {
        op = h.task.op;
        op_is = h.task.op_is;
        ins = h.task.ins;
        kinds = h.task.kinds;
        outs = h.task.outs;
        pending = h.task.pending;
        rings = h.task.rings;
        blank = h.task.blank;
        homes = h.task.homes;
        word = h.task.word;
        count = h.task.count;
        fired = h.task.fired;
        stands = record { fit = h.task.stands.fit; after = h.task.stands.after };
      };
      word = h.word;
    }

    took : (adds : ℕ → List (List ℤ)) (k : IsTask p adds t) → HasWord p (λ j. adds j ++ list_at out.adds j)
        (record t { ins = ins; states = st; pending = pending; out = record { outs = blanks; adds = replicate (length out.adds) [] }; spare = spare; count = n })
        (k.word ++ (port, x) ∷ [])
    took adds k =
        spared p (λ j. adds j ++ list_at out.adds j)
        (record t { ins = ins; states = st; pending = pending; out = record { outs = blanks; adds = replicate (length out.adds) [] }; count = n }) spare
        (k.word ++ (port, x) ∷ [])
        (took_task p v t adds k fine ins port x st out (record { outs = blanks; adds = replicate (length out.adds) [] }) pending n r
        (ins_many t.ins ins e) lt i idle f ep eb refl en)

-- the rows that a task owed were added
pub taken_at : (p : PlanForm) (t t1 : Task) (pile pile' : List Piled) (adds' : List (List (List ℤ))) → HasFiredAt p t t1
    → pile' ≡ pile_grown (logged t.op (classes_of pile) t1.tables (list_at t1.out.adds)) pile → classes_of pile ≡ t.classes
    → adds' ≡ replicate (length t1.out.adds) []
    → HasTakenAt p t (record t1 { out = record { outs = t1.out.outs; adds = adds' } }) pile pile'
taken_at p t t1 pile pile' adds' f e cs b = record {
  rows = list_at t1.out.adds;
  logs = e ∙ ap (λ c. pile_grown (logged t.op c t1.tables (list_at t1.out.adds)) pile) cs
      ∙ ap (λ hs. pile_grown (logged t.op t.classes hs (list_at t1.out.adds)) pile) f.homes.0;
  task = λ adds k. subst
      (λ (a : List (List (List ℤ))). IsTask p (λ j. adds j ++ list_at t1.out.adds j) (record t1 { out = record { outs = t1.out.outs; adds = a } })) (sym b)
      (f.owes adds k).task;
  ends = f.ends;
  goes_on = record { received = f.goes_on.received; sent = f.goes_on.sent };
  more = let one = f.one in omega (arith, one);
  homes = f.homes;
}
