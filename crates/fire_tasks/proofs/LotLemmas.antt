-- Firings on items that were taken at once.
use Rattle.std.proofs.Common.{◌≡◌, ℕ, ℤ, zero, suc, ◌+◌, ◌*◌, ◌/◌, ◌<◌, ◌≤◌, Some, None, List, [], ◌∷◌, ◌++◌, length, map, refl, sym, ap, ◌∙◌, subst, arith, ⊎_elim}
use Rattle.std.proofs.Common.{length-append, append_assoc}
use Rattle.std.specs.Prelude.{Option, All, replicate, min, slice_get}
use Rattle.std.proofs.lemmas.Bool.{cases_eq, cases_lt}
use Rattle.std.proofs.lemmas.List.{append-nil, length-map, length-replicate}
use Rattle.std.proofs.lemmas.List.Elements.{All-append, All-nil}
use Rattle.std.proofs.lemmas.Option.{slice_get_within, same_Some}
use Rattle.river_base.specs.declared.item.Item as item
use Rattle.river_base.specs.Places.{list_at, append_at, each_grew}
use Rattle.river_base.proofs.PlaceLemmas.{each_grew-blanks, length-each_grew, get_or-each_grew, append_here, append_else, blank_at, list_past}
use Rattle.class_locks.specs.Piles.{Piled}
use Rattle.kern_tables.specs.Tables.{table_width}
use Rattle.river_plan.specs.declared.plan.TableDecl.{TableDecl}
use Rattle.river_plan.specs.Forms.{PlanForm, OpForm, all_decls}
use Rattle.river_plan.specs.Kinds.{kind_of, var_kind, IsFit}
use Rattle.river_plan.specs.Valid.{IsPlan}
use Rattle.brooklet_model.specs.Fire.{fire, outs, tabs, first_kept}
use Rattle.brooklet_model.specs.Histories.{most_firings}
use Rattle.brooklet_model.specs.Traced.{ran}
use Rattle.brooklet_model.specs.Firings.{Fired}
use Rattle.brooklet_model.specs.Typed.{IsStart, IsWordOf, widths_in, IsWide}
use Rattle.brooklet_model.specs.Words.{Word, at_port, word_of}
use Rattle.brooklet_model.proofs.Free.{at_port-append, below-append}
use Rattle.brooklet_model.proofs.Ports.{counts, shaped}
use Rattle.brooklet_model.proofs.Swaps.{at_port_past}
use Rattle.brooklet_model.proofs.TypedPlan.{op_fits}
use Rattle.brooklet_step.specs.declared.emit.Emit.{Emit}
use Rattle.brooklet_step.specs.declared.emit.Spare.{Spare}
use Rattle.brooklet_step.specs.declared.state.State.{State}
use Rattle.brooklet_step.specs.Given.{held_at, Does, IsHeldOf, StandsAfter, TookHeld}
use Rattle.brooklet_step.specs.Reading.{CameOf, CanFire, IsBlankOf, FiredOp}
use Rattle.brooklet_step.specs.Took.{IsBlank}
use Rattle.brooklet_step.proofs.GivenLemmas.{at-append, ran_more, at_next, first_is_start}
use Rattle.river_rings.specs.Rows.{AreWhole, row_item, rows_in}
use Rattle.river_rings.proofs.RowLemmas.{as_many, row-first, rows_few, rows_none}
use Rattle.fire_tasks.specs.Inlet as inlet
use Rattle.fire_tasks.specs.declared.task.TablePort.{TablePort}
use Rattle.fire_tasks.specs.declared.task.Task.{Task}
use Rattle.fire_tasks.specs.Fired.{HasFired, IsBad, IsHeldAs, bad_at, kinds_in, kinds_out}
use Rattle.fire_tasks.specs.Lots.{HasFiredRows, IsFiring}
use Rattle.fire_tasks.specs.Ports.{AreFronts, InEnd, in_ends, out_ends, received_count, received_in, received_of, sent_count, sent_in}
use Rattle.fire_tasks.specs.Tasks.{FitRings, IsTask}
use Rattle.fire_tasks.specs.Adds.{AreHomes}
use Rattle.fire_tasks.specs.Turns.{AreRowsFor, HasTakenAt, classes_of, pile_grown, logged}
use Rattle.fire_tasks.proofs.Fronts.{fronts_is, fronts_more}
use Rattle.fire_tasks.proofs.PortLemmas.{count_same, ins_many}
use Rattle.fire_tasks.proofs.TaskLemmas.{beyond_blank, one_count, table_there, tables_many}
use Rattle.fire_tasks.proofs.WordLemmas.{Longer, longer_word}

-- LISTS

-- more behind each list, of as many lists
pub grew_at : {A : Type 0} (ls ms : List (List A)) → length ms ≡ length ls → (j : ℕ) → list_at (each_grew ls (list_at ms)) j ≡ list_at ls j ++ list_at ms j
grew_at ls ms e j = ⊎_elim
    (λ lt. get_or-each_grew ls (list_at ms) j [] lt)
    (λ ge. list_past (each_grew ls (list_at ms)) j (let n = length-each_grew ls (list_at ms) in omega (arith, n, ge))
    ∙ sym (ap (λ l. l ++ list_at ms j) (list_past ls j ge) ∙ list_past ms j (omega (arith, e, ge))))
    (cases_lt j (length ls))

-- the word of one item more
word_more : (port : ℕ) (xs : List item.Item) (x : item.Item) → word_of port (xs ++ x ∷ []) ≡ word_of port xs ++ (port, x) ∷ []
word_more port [] x = refl
word_more port (y ∷ xs) x = ap (λ w. (port, y) ∷ w) (word_more port xs x)

word_long : (port : ℕ) (xs : List item.Item) → length (word_of port xs) ≡ length xs
word_long port [] = refl
word_long port (x ∷ xs) = ap suc (word_long port xs)

-- nothing more at one of the lists
append_none : {A : Type 0} (ls : List (List A)) (n : ℕ) → append_at ls n [] ≡ ls
append_none [] n = refl
append_none (l ∷ ls) zero = ap (λ m. m ∷ ls) (append-nil l)
append_none (l ∷ ls) (suc n) = ap (λ ms. l ∷ ms) (append_none ls n)

-- more were received
count_lot : (xs ys : List inlet.Inlet) (port : ℕ) (more : List item.Item) → port < length xs → received_in ys ≡ append_at (received_in xs) port more
    → received_count ys ≡ received_count xs + length more
count_lot [] ys port more lt e = absurd (omega (arith, lt))
count_lot (a ∷ xs) [] zero more lt e = absurd (cc e)
count_lot (a ∷ xs) [] (suc port) more lt e = absurd (cc e)
count_lot (a ∷ xs) (y ∷ ys) zero more lt e =
    let h : received_of y ≡ received_of a ++ more = cc e in
    let t : received_in ys ≡ received_in xs = cc e in
    let l = ap length h in
    let m = length-append (received_of a) more in
    let i = count_same ys xs t in
    omega (arith, l, m, i)
count_lot (a ∷ xs) (y ∷ ys) (suc port) more lt e =
    let h : received_of y ≡ received_of a = cc e in
    let t : received_in ys ≡ append_at (received_in xs) port more = cc e in
    let l = ap length h in
    let i = count_lot xs ys port more (omega (arith, lt)) t in
    omega (arith, l, i)

-- ROWS FOR TABLES

-- rows for tables, and more of them
rows_more : (p : PlanForm) (tables : List TablePort) (a b c : ℕ → List (List ℤ)) → AreRowsFor p tables a → AreRowsFor p tables b → ((j : ℕ) → c j ≡ a j ++ b j)
    → AreRowsFor p tables c
rows_more p tables a b c x y e = record {
  wide = λ j h g.
      let d = x.wide j h g in
      let f = y.wide j h g in
      let same : f.0 ≡ d.0 = same_Some f.0 d.0 (sym f.1 ∙ d.1) in (
        d.0,
        d.1,
        subst (All (λ row. length row ≡ table_width d.0.kind)) (sym (e j))
            (All-append (λ row. length row ≡ table_width d.0.kind) (a j) (b j) d.2
            (subst (λ (t : TableDecl). All (λ row. length row ≡ table_width t.kind) (b j)) same f.2)),
      );
}

-- A FIRING ON ONE ITEM MORE

module _ (p : PlanForm) (v : IsPlan p) (t : Task) (adds : ℕ → List (List ℤ)) (k : IsTask p adds t) (port : ℕ) (xs : List item.Item) (u : Task)
    (owed : List (List (List ℤ))) (h : HasFiredRows p t adds k port xs u owed) where
  abbrev op : OpForm
  op = k.op

  abbrev word_was : Word
  word_was = k.word ++ word_of port xs

  fits : IsFit p op
  fits = op_fits p v t.op op k.op_is

  -- the operator can take an item that its port's queue may hold
  pub can_more : (x : item.Item) → IsHeldOf u.kinds port x → CanFire p u.op port x u.states
  can_more x i = record {
    op = op;
    op_is = ap (slice_get p.ops) h.op ∙ k.op_is;
    applies = λ blank bl. record {
      reads = kinds_in p op;
      fitting = record { writes = kinds_out p op; vars = map (var_kind p.tables p.vars) op.vars; fits = fits; state = h.stands.fit };
      item = subst (λ l. IsHeldOf l port x) (h.kinds ∙ k.kinds) i;
      room = record { outs = ap length bl.outs ∙ length-replicate (outs op.kernel) []; adds = ap length bl.adds ∙ length-replicate (tabs op.kernel) [] };
    };
  }

  -- what is kept for the next firing is blank for the operator
  pub blank_more : IsBlankOf p u.op u.out
  blank_more = record {
    blank = λ other g. let e : op ≡ other = same_Some op other (sym k.op_is ∙ sym (ap (slice_get p.ops) h.op) ∙ g) in
        subst (λ (o : OpForm). IsBlank o.kernel u.out) e h.blank;
  }

  module _ (x : item.Item) (i : IsHeldOf u.kinds port x) (st : List State) (out : Emit) (f : FiredOp p u.op port x u.states st out) where
    -- the operator fired, from empty lists
    fired_is : CameOf op.kernel port x u.states st out
    fired_is = f.fired op (ap (slice_get p.ops) h.op ∙ k.op_is)

    -- what that does
    does : Does op.kernel (kinds_in p op) (kinds_out p op) (map (var_kind p.tables p.vars) op.vars) port x fired_is.blank out u.states st
    does = fired_is.fires.each (kinds_in p op) (kinds_out p op) (map (var_kind p.tables p.vars) op.vars) fits h.stands.fit (subst (λ y. IsHeldOf y port x) (h.kinds ∙ k.kinds) i)

    is_start : IsStart op.kernel (kinds_in p op) (first_kept op.kernel)
    is_start = first_is_start op.kernel (kinds_in p op) (shaped op.kernel _ _ _ fits)

    -- what came at each port, and for each table
    outs_are : out.outs ≡ each_grew (replicate (outs op.kernel) []) does.came.outs
    outs_are = does.came.outs_are ∙ ap (λ ls. each_grew ls does.came.outs) fired_is.is_blank.outs

    adds_are : out.adds ≡ each_grew (replicate (tabs op.kernel) []) does.came.adds
    adds_are = does.came.adds_are ∙ ap (λ ls. each_grew ls does.came.adds) fired_is.is_blank.adds

    outs_many : length out.outs ≡ outs op.kernel
    outs_many =
        ap length outs_are ∙ length-each_grew (replicate (outs op.kernel) []) does.came.outs ∙ length-replicate (outs op.kernel) []

    adds_many : length out.adds ≡ tabs op.kernel
    adds_many =
        ap length adds_are ∙ length-each_grew (replicate (tabs op.kernel) []) does.came.adds ∙ length-replicate (tabs op.kernel) []

    -- there is a line for each port at which something is pending
    pub as_many_lines : length out.outs ≡ length u.pending
    as_many_lines =
        let c = counts op.kernel _ _ _ fits in
        let nw = length-map op.writes (kind_of (all_decls p)) in
        outs_many ∙ sym c.outs ∙ nw ∙ sym k.pending ∙ sym h.pending

    -- and a list for each of the tables
    pub as_many_lists : length out.adds ≡ length owed
    as_many_lists = adds_many ∙ sym (tables_many p v t adds k) ∙ sym h.many

    came_held : (j : ℕ) → All (IsHeldOf (kinds_out p op) j) (list_at out.outs j)
    came_held j = ⊎_elim
        (λ lj. subst (All (IsHeldOf (kinds_out p op) j)) (sym (ap (λ l. list_at l j) outs_are ∙ each_grew-blanks (outs op.kernel) does.came.outs j [] lj))
        (does.came.held j))
        (λ ge. subst (All (IsHeldOf (kinds_out p op) j)) (sym (ap (λ l. list_at l j) outs_are ∙ beyond_blank (outs op.kernel) does.came.outs j (omega (arith, ge))))
        (All-nil (IsHeldOf (kinds_out p op) j)))
        (cases_lt j (outs op.kernel))

    -- the rows that came have the tables' widths
    came_wide : AreRowsFor p t.tables (list_at out.adds)
    came_wide = record {
      wide = λ j e g.
          let d = table_there p v t adds k j e g in
          let lt = slice_get_within t.tables j e g in
          let m = tables_many p v t adds k in
          let given : list_at out.adds j ≡ does.came.adds j = ap (λ (l : List (List (List ℤ))). list_at l j) adds_are
          ∙ each_grew-blanks (tabs op.kernel) does.came.adds j [] (omega (arith, lt, m)) in (
            d.0,
            d.1,
            subst (λ (l : List (List ℤ)). All (λ row. length row ≡ table_width d.0.kind) l) (sym given)
                (wide_rows (slice_get (widths_in (map (var_kind p.tables p.vars) op.vars)) j) (table_width d.0.kind) (does.came.adds j) d.2 (does.came.wide j)),
          );
    }
      where
        wide_rows : (o : Option ℕ) (n : ℕ) (rows : List (List ℤ)) → o ≡ Some n → All (IsWide o) rows → All (λ row. length row ≡ n) rows
        wide_rows o n rows e a = subst (λ w. All (IsWide w) rows) e a

    module _ (pending : List (List item.Item)) (ep : (j : ℕ) → list_at pending j ≡ list_at u.pending j ++ list_at out.outs j)
        (owed2 : List (List (List ℤ))) (eo : (j : ℕ) → list_at owed2 j ≡ list_at owed j ++ list_at out.adds j) where
      abbrev word_now : Word
      word_now = word_was ++ (port, x) ∷ []

      -- queues may hold what was sent and what is pending
      held_after : (j : ℕ) → All (IsHeldOf (kinds_out p op) j) (list_at (sent_in t.outs) j ++ list_at pending j)
      held_after j =
          subst (All (IsHeldOf (kinds_out p op) j))
          (append_assoc (list_at (sent_in t.outs) j) (list_at u.pending j) (list_at out.outs j) ∙ ap (λ l. list_at (sent_in t.outs) j ++ l) (sym (ep j)))
          (All-append (IsHeldOf (kinds_out p op) j) (list_at (sent_in t.outs) j ++ list_at u.pending j) (list_at out.outs j) (h.fired.held j) (came_held j))

      -- a word that the items stand for
      module _ (w : Word) (typed : IsWordOf (kinds_in p op) w) (held : IsHeldAs (kinds_in p op) w word_now) where
        -- it is one item longer than a word that those before stand for
        split : Longer (kinds_in p op) w word_was port x
        split = longer_word (kinds_in p op) w word_was port x typed held

        abbrev before : Fired
        before = ran op split.before

        abbrev fires : Fired
        fires = fire op.kernel port split.item before.states

        -- what the firing gives for its last item
        gave : TookHeld (kinds_out p op) before fired_is.blank out fires
            × StandsAfter op.kernel (kinds_in p op) (first_kept op.kernel) st (split.before ++ (port, split.item) ∷ [])
        gave = does.gives.given (first_kept op.kernel) split.before split.item is_start split.typed split.is_of
            (h.stands.after split.before split.typed split.held) split.next

        -- what was sent and what is pending is what queues hold for all that the word gives
        outs_given : (j : ℕ) → j < length op.writes → list_at (sent_in t.outs) j ++ list_at pending j ≡ held_at (kinds_out p op) j [] ((ran op w).outs j)
        outs_given j lj =
            let co = (counts op.kernel _ _ _ fits).outs in
            let nw = length-map op.writes (kind_of (all_decls p)) in
            let lj' : j < outs op.kernel = omega (arith, lj, co, nw) in
            let more = ran_more op.kernel (first_kept op.kernel) split.before port split.item in
            let new_outs : out.outs ≡ each_grew (replicate (outs op.kernel) []) (λ j. held_at (kinds_out p op) j (before.outs j) (fires.outs j)) = gave.0.outs
            ∙ ap (λ ls. each_grew ls (λ j. held_at (kinds_out p op) j (before.outs j) (fires.outs j))) fired_is.is_blank.outs in
            ap (λ l. list_at (sent_in t.outs) j ++ l) (ep j)
            ∙ sym (append_assoc (list_at (sent_in t.outs) j) (list_at u.pending j) (list_at out.outs j))
            ∙ ap (λ y. y ++ list_at out.outs j) ((h.fired.given split.before split.typed split.held).outs j lj)
            ∙ ap (λ y. held_at (kinds_out p op) j [] (before.outs j) ++ y)
            (ap (λ ls. list_at ls j) new_outs
            ∙ each_grew-blanks (outs op.kernel) (λ m. held_at (kinds_out p op) m (before.outs m) (fires.outs m)) j [] lj')
            ∙ sym (at-append (kinds_out p op) j [] (before.outs j) (fires.outs j))
            ∙ ap (held_at (kinds_out p op) j []) (sym (more.outs j) ∙ ap (λ w'. (ran op w').outs j) (sym split.splits))

        -- and the rows that were added, with those that are owed, are what the word adds
        adds_given : (j : ℕ) → j < tabs op.kernel → adds j ++ list_at owed2 j ≡ (ran op w).adds j
        adds_given j lj =
            let more = ran_more op.kernel (first_kept op.kernel) split.before port split.item in
            let new_adds : out.adds ≡ each_grew (replicate (tabs op.kernel) []) fires.adds = gave.0.adds ∙ ap (λ ls. each_grew ls fires.adds) fired_is.is_blank.adds in
            ap (λ y. adds j ++ y) (eo j)
            ∙ sym (append_assoc (adds j) (list_at owed j) (list_at out.adds j))
            ∙ ap (λ y. y ++ list_at out.adds j) ((h.fired.given split.before split.typed split.held).adds_are j lj)
            ∙ ap (λ ls. before.adds j ++ list_at ls j) new_adds
            ∙ ap (λ y. before.adds j ++ y) (each_grew-blanks (tabs op.kernel) fires.adds j [] lj)
            ∙ sym (more.adds j) ∙ ap (λ w'. (ran op w').adds j) (sym split.splits)

        -- the states stand for those after the word
        stands_after : StandsAfter op.kernel (kinds_in p op) (first_kept op.kernel) st w
        stands_after = subst (StandsAfter op.kernel (kinds_in p op) (first_kept op.kernel) st) (sym split.splits) gave.1

      -- what was received, port by port
      received_now : (n : ℕ) → list_at (append_at (received_in t.ins) port (xs ++ x ∷ [])) n ≡ at_port n word_now ++ []
      received_now n = ⊎_elim
          (λ q. subst (λ m. list_at (append_at (received_in t.ins) port (xs ++ x ∷ [])) m ≡ at_port m word_now ++ []) q here)
          (λ ne. append_else (received_in t.ins) port n (xs ++ x ∷ []) ne ∙ sym (append_else (received_in t.ins) port n xs ne)
          ∙ h.fired.received n ∙ append-nil (at_port n word_was)
          ∙ sym (append-nil (at_port n word_now)
          ∙ at_port-append n word_was ((port, x) ∷ []) ∙ ap (λ l. at_port n word_was ++ l) (at_port_past n (port, x) [] ne) ∙ append-nil (at_port n word_was)))
          (cases_eq port n)
        where
          lt : port < length (received_in t.ins)
          lt = let l = length-map t.ins received_of in let b = h.there in omega (arith, l, b)

          here : list_at (append_at (received_in t.ins) port (xs ++ x ∷ [])) port ≡ at_port port word_now ++ []
          here =
              append_here (received_in t.ins) port (xs ++ x ∷ []) lt
              ∙ sym (append_assoc (list_at (received_in t.ins) port) xs (x ∷ []))
              ∙ ap (λ l. l ++ x ∷ []) (sym (append_here (received_in t.ins) port xs lt) ∙ h.fired.received port ∙ append-nil (at_port port word_was))
              ∙ sym (append-nil (at_port port word_now) ∙ at_next port word_was x)

      -- the operator has fired on the longer word
      fired_after : HasFired p op (λ j. adds j ++ list_at owed2 j)
          (record { received = append_at (received_in t.ins) port (xs ++ x ∷ []); sent = sent_in t.outs; pending = pending; bad = None }) word_now
      fired_after = record {
        below = below-append (length op.reads) word_was ((port, x) ∷ []) h.fired.below (let n = k.ins in let lt = h.there in omega (arith, n, lt), tt);
        received = received_now;
        bad = h.fired.bad;
        held = held_after;
        given = λ w a g. record { outs = outs_given w a g; adds_are = adds_given w a g };
      }

      words_are : word_now ≡ k.word ++ word_of port (xs ++ x ∷ [])
      words_are = append_assoc k.word (word_of port xs) ((port, x) ∷ []) ∙ ap (λ w. k.word ++ w) (sym (word_more port xs x))

      -- so it has fired on one item more
      pub fired_more : (blank : Emit) (spare : Spare) (n : ℕ) → length pending ≡ length u.pending → length owed2 ≡ length owed
          → blank.outs ≡ replicate (length out.outs) [] → blank.adds ≡ replicate (length out.adds) [] → n ≡ min most_firings (u.count + 1)
          → HasFiredRows p t adds k port (xs ++ x ∷ [])
          (record u { states = st; pending = pending; out = blank; spare = spare; count = n }) owed2
      fired_more blank spare n lp lo eb ea en = record {
        op = h.op;
        kinds = h.kinds;
        outs = h.outs;
        tables = h.tables;
        classes = h.classes;
        fine = h.fine;
        there = h.there;
        pending = lp ∙ h.pending;
        blank = record { outs = eb ∙ ap (λ m. replicate m []) outs_many; adds = ea ∙ ap (λ m. replicate m []) adds_many };
        count = one_count most_firings n u.count (t.count + length xs) (t.count + length (xs ++ x ∷ [])) en h.count
            (let l = length-append xs (x ∷ []) in omega (arith, l));
        many = lo ∙ h.many;
        rows = rows_more p t.tables (list_at owed) (list_at out.adds) (list_at owed2) h.rows came_wide eo;
        fired = subst (HasFired p op (λ j. adds j ++ list_at owed2 j)
            (record { received = append_at (received_in t.ins) port (xs ++ x ∷ []); sent = sent_in t.outs; pending = pending; bad = None })) words_are fired_after;
        stands = record {
          fit = does.came.again;
          after = λ w a g. stands_after w a (subst (λ is. IsHeldAs (kinds_in p op) w is) (sym words_are) g);
        };
      }

-- BEFORE THE FIRST

-- on nothing yet
pub fired_none : (p : PlanForm) → IsPlan p → (t : Task) (adds : ℕ → List (List ℤ)) (k : IsTask p adds t) (port : ℕ) (ins : List inlet.Inlet)
    (owed : List (List (List ℤ))) → t.bad ≡ None → port < length t.ins → owed ≡ replicate (length t.tables) []
    → HasFiredRows p t adds k port [] (record t { ins = ins }) owed
fired_none p v t adds k port ins owed fine lt eo = record {
  op = refl;
  kinds = refl;
  outs = refl;
  tables = refl;
  classes = refl;
  fine = (fine, fine);
  there = lt;
  pending = refl;
  blank = k.blank;
  count = let c = k.count in omega (arith, c);
  many = ap length eo ∙ length-replicate (length t.tables) [];
  rows = record {
    wide = λ j h g.
        let d = table_there p v t adds k j h g in
        (d.0, d.1, subst (All (λ row. length row ≡ table_width d.0.kind)) (sym (none j)) (All-nil (λ row. length row ≡ table_width d.0.kind)));
  };
  fired = subst (HasFired p k.op (λ j. adds j ++ list_at owed j) _) (sym (append-nil k.word)) (record {
    below = k.fired.below;
    received = λ i. ap (λ ls. list_at ls i) (append_none (received_in t.ins) port) ∙ k.fired.received i ∙ ap (λ o. at_port i k.word ++ bad_at i o) fine;
    bad = tt;
    held = k.fired.held;
    given = λ w a h. let g = k.fired.given w a h in
        record { outs = g.outs; adds_are = λ j lj. ap (λ l. adds j ++ l) (none j) ∙ append-nil (adds j) ∙ g.adds_are j lj };
  });
  stands = record { fit = k.stands.fit; after = λ w a h. k.stands.after w a (subst (λ is. IsHeldAs (kinds_in p k.op) w is) (append-nil k.word) h) };
}
  where
    none : (j : ℕ) → list_at owed j ≡ []
    none j = ap (λ l. list_at l j) eo ∙ blank_at (length t.tables) j

-- BEHIND THE LAST

-- with the rows that are owed it is a task again
pub fired_task : (p : PlanForm) (t : Task) (adds : ℕ → List (List ℤ)) (k : IsTask p adds t) (port : ℕ) (xs : List item.Item) (u : Task)
    (owed : List (List (List ℤ))) → HasFiredRows p t adds k port xs u owed → in_ends u.ins ≡ in_ends t.ins
    → received_in u.ins ≡ append_at (received_in t.ins) port xs → IsTask p (λ j. adds j ++ list_at owed j) u
fired_task p t adds k port xs u owed h e r = record {
  op = k.op;
  op_is = ap (slice_get p.ops) h.op ∙ k.op_is;
  ins = ins_many t.ins u.ins e ∙ k.ins;
  kinds = h.kinds ∙ k.kinds;
  outs = ap length h.outs ∙ k.outs;
  pending = h.pending ∙ k.pending;
  rings = subst (λ os. FitRings (kinds_out p k.op) (out_ends os)) (sym h.outs) k.rings;
  blank = h.blank;
  homes = subst (λ o. AreHomes p o u.tables u.classes) (sym h.op)
      (subst (λ ts. AreHomes p t.op ts u.classes) (sym h.tables) (subst (λ cs. AreHomes p t.op t.tables cs) (sym h.classes) k.homes));
  word = k.word ++ word_of port xs;
  count = let a = h.count in let b = k.count in let c = length-append k.word (word_of port xs) in let d = word_long port xs in omega (arith, a, b, c, d);
  fired = record {
    below = h.fired.below;
    received = λ i. ap (λ ls. list_at ls i) r ∙ h.fired.received i ∙ ap (λ o. at_port i (k.word ++ word_of port xs) ++ bad_at i o) (sym h.fine.1);
    bad = subst (IsBad (kinds_in p k.op)) (sym h.fine.1) h.fired.bad;
    held = λ j. subst (λ os. All (IsHeldOf (kinds_out p k.op) j) (list_at (sent_in os) j ++ list_at u.pending j)) (sym h.outs) (h.fired.held j);
    given = λ w a g. let y = h.fired.given w a g in record {
      outs = λ j lj. ap (λ os. list_at (sent_in os) j ++ list_at u.pending j) h.outs ∙ y.outs j lj;
      adds_are = y.adds_are;
    };
  };
  stands = record { fit = h.stands.fit; after = h.stands.after };
}

-- and where the rows came to the cells, it took the items
pub taken_lot : (p : PlanForm) (t : Task) (port : ℕ) (xs : List item.Item) (u : Task) (owed : List (List (List ℤ))) (pile pile' : List Piled)
    → ((adds : ℕ → List (List ℤ)) (k : IsTask p adds t) → HasFiredRows p t adds k port xs u owed)
    → ((adds : ℕ → List (List ℤ)) × IsTask p adds t)
    → in_ends u.ins ≡ in_ends t.ins → received_in u.ins ≡ append_at (received_in t.ins) port xs → 0 < length xs
    → pile' ≡ pile_grown (logged t.op (classes_of pile) u.tables (list_at owed)) pile → classes_of pile ≡ t.classes
    → HasTakenAt p t u pile pile'
taken_lot p t port xs u owed pile pile' f k e r some l cs =
    let h = f k.0 k.1 in
    record {
      rows = list_at owed;
      logs = l ∙ ap (λ c. pile_grown (logged t.op c u.tables (list_at owed)) pile) cs
          ∙ ap (λ hs. pile_grown (logged t.op t.classes hs (list_at owed)) pile) h.tables;
      task = λ adds k'. fired_task p t adds k' port xs u owed (f adds k') e r;
      ends = ap (λ o. record { op = o; ins = in_ends u.ins; outs = out_ends u.outs }) h.op
          ∙ ap (λ (i : List InEnd). record { op = t.op; ins = i; outs = out_ends u.outs }) e
          ∙ ap (λ os. record { op = t.op; ins = in_ends t.ins; outs = out_ends os }) h.outs;
      goes_on = record {
        received = subst (AreFronts (received_in t.ins)) (sym r) (fronts_more (received_in t.ins) port xs);
        sent = fronts_is (sent_in t.outs) (sent_in u.outs) (ap sent_in h.outs);
      };
      more = let m = count_lot t.ins u.ins port xs h.there r in let s = ap sent_count h.outs in omega (arith, m, s, some);
      homes = (h.tables, h.classes);
    }

-- ROW BY ROW

-- the values behind a row are those of whole rows again
pub whole_rest : (w : ℕ) (row us vs : List ℤ) → vs ≡ row ++ us → AreWhole w vs → length row ≡ w → AreWhole w us
whole_rest w row us vs e h l =
    let some = h.some in
    let most = h.at_most in
    let q : length vs / w ≡ suc (length us / w) =
    sym (as_many w vs) ∙ ap (λ t. length (rows_in w t)) e ∙ ap length (row-first w row us some most l) ∙ ap suc (as_many w us) in
    let b : length vs ≡ suc (length us / w) * w = h.whole ∙ ap (λ n. n * w) q in
    let c = length-append row us in
    let d = ap length e in
    record { some = some; at_most = most; whole = omega (arith, b, c, d, l) }

-- where there are any there are those of a row
pub whole_some : (w : ℕ) (vs : List ℤ) → AreWhole w vs → 0 < length vs → w ≤ length vs
whole_some w vs h lt = ⊎_elim
    (λ few. let none : length vs / w ≡ 0 = sym (as_many w vs) ∙ ap length (rows_few w vs few) in
    let z : length vs ≡ 0 * w = h.whole ∙ ap (λ n. n * w) none in absurd (omega (arith, z, lt)))
    (λ ge. ge)
    (cases_lt (length vs) w)

-- rows were fired on up to these that are left
pub record FiredTo (p : PlanForm) (port w : ℕ) (values rest : List ℤ) (u u' : Task) (owed owed' : List (List (List ℤ))) : Type 0 where
  pub done : List item.Item
  pub all : done ++ rows_in w rest ≡ rows_in w values
  pub ins : u'.ins ≡ u.ins
  pub kinds : u'.kinds ≡ u.kinds
  pub whole : AreWhole w rest
  pub firing : IsFiring p port u' owed'
  pub fired : (t : Task) (adds : ℕ → List (List ℤ)) (k : IsTask p adds t) (xs : List item.Item) → HasFiredRows p t adds k port xs u owed
      → HasFiredRows p t adds k port (xs ++ done) u' owed'

-- on none yet
pub to_none : (p : PlanForm) (port w : ℕ) (values : List ℤ) (u : Task) (owed : List (List (List ℤ))) → AreWhole w values → IsFiring p port u owed
    → FiredTo p port w values values u u owed owed
to_none p port w values u owed h f = record {
  done = [];
  all = refl;
  ins = refl;
  kinds = refl;
  whole = h;
  firing = f;
  fired = λ t adds k xs y. subst (λ l. HasFiredRows p t adds k port l u owed) (sym (append-nil xs)) y;
}

-- on one more
pub to_next : (p : PlanForm) (port w : ℕ) (values rest row more : List ℤ) (u u1 u2 : Task) (owed owed1 owed2 : List (List (List ℤ)))
    → FiredTo p port w values rest u u1 owed owed1
    → rest ≡ row ++ more → length row ≡ w → u2.ins ≡ u1.ins
    → ((t : Task) (adds : ℕ → List (List ℤ)) (k : IsTask p adds t) (xs : List item.Item) → HasFiredRows p t adds k port xs u1 owed1
    → HasFiredRows p t adds k port (xs ++ row_item row ∷ []) u2 owed2)
    → FiredTo p port w values more u u2 owed owed2
to_next p port w values rest row more u u1 u2 owed owed1 owed2 a e l i f =
    let h = a.whole in
    let g = f a.firing.t a.firing.adds a.firing.task a.firing.items a.firing.has in
    record {
      done = a.done ++ row_item row ∷ [];
      all = append_assoc a.done (row_item row ∷ []) (rows_in w more) ∙ ap (λ ys. a.done ++ ys) (sym (ap (rows_in w) e ∙ row-first w row more h.some h.at_most l)) ∙ a.all;
      ins = i ∙ a.ins;
      kinds = g.kinds ∙ sym a.firing.has.kinds ∙ a.kinds;
      whole = whole_rest w row more rest e h l;
      firing = record { t = a.firing.t; adds = a.firing.adds; task = a.firing.task; items = a.firing.items ++ row_item row ∷ []; has = g };
      fired = λ t adds k xs y. subst (λ ys. HasFiredRows p t adds k port ys u2 owed2) (append_assoc xs a.done (row_item row ∷ []))
          (f t adds k (xs ++ a.done) (a.fired t adds k xs y));
    }

-- on all
pub to_end : (p : PlanForm) (port w : ℕ) (values rest : List ℤ) (u u' : Task) (owed owed' : List (List (List ℤ)))
    → FiredTo p port w values rest u u' owed owed' → rest ≡ []
    → (t : Task) (adds : ℕ → List (List ℤ)) (k : IsTask p adds t) (xs : List item.Item) → HasFiredRows p t adds k port xs u owed
    → HasFiredRows p t adds k port (xs ++ rows_in w values) u' owed'
to_end p port w values rest u u' owed owed' a e t adds k xs y =
    let done : a.done ≡ rows_in w values =
    sym (append-nil a.done) ∙ ap (λ l. a.done ++ l) (sym (ap (rows_in w) e ∙ rows_none w a.whole.some)) ∙ a.all in
    subst (λ l. HasFiredRows p t adds k port (xs ++ l) u' owed') done (a.fired t adds k xs y)

-- where there are any values of whole rows there is a row
pub rows_any : (w : ℕ) (vs : List ℤ) → AreWhole w vs → 0 < length vs → 0 < length (rows_in w vs)
rows_any w vs h lt = ⊎_elim
    (λ none. let z : length vs / w ≡ 0 = sym (as_many w vs) ∙ (let e : length (rows_in w vs) ≡ 0 = omega (arith, none) in e) in
    let y : length vs ≡ 0 * w = h.whole ∙ ap (λ n. n * w) z in absurd (omega (arith, y, lt)))
    (λ some. omega (arith, some))
    (cases_lt (length (rows_in w vs)) 1)
