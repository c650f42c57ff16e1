-- Fresh tasks with rings between them, and empty cells, are a net.
use Rattle.std.proofs.Common.{◌≡◌, ℕ, zero, suc, Some, List, [], ◌∷◌, length, refl, sym, ap, ◌∙◌, arith, subst, get_or}
use Rattle.std.specs.Prelude.{slice_get, false, All}
use Rattle.std.proofs.lemmas.Option.{slice_get-get_or, slice_get_within, same_Some}
use Rattle.river_base.specs.declared.item.Item as item
use Rattle.river_plan.specs.Caps.{IsCap, AreCaps, capacity, first_cap}
use Rattle.river_plan.specs.Forms.{Name, OpForm, PlanForm}
use Rattle.river_plan.specs.declared.caps.Cap.{Cap}
use Rattle.river_plan.proofs.CapLemmas.{capacity_fits, first_fits}
use Rattle.fire_tasks.specs.Layout.{IsLink}
use Rattle.river_plan.specs.Uses.{total, reads_it, writes_it}
use Rattle.river_plan.specs.Valid.{IsPlan}
use Rattle.brooklet_model.specs.Typed.{AreInputs}
use Rattle.brooklet_model.proofs.Traces.{got_count, at_most}
use Rattle.fire_open.specs.declared.settling.Link.{Link}
use Rattle.fire_tasks.specs.declared.task.Task.{Task}
use Rattle.fire_open.specs.Fresh.{AreFresh}
use Rattle.fire_open.specs.Links.{AreLinks, room_of}
use Rattle.fire_open.specs.Rings.{TaskBody, body, NoReader, NoWriter, AreRung}
use Rattle.fire_open.proofs.Lists.{same_got, map_long}
use Rattle.std.proofs.lemmas.List.Elements.{All-nil, All-head, All-tail}
use Rattle.class_locks.specs.Logs.{Holding}
use Rattle.fire_tasks.specs.Adds.{IsEntryOf, added, logs_of, rows_by, table_at, table_class}
use Rattle.fire_open.specs.Homes.{AreClassCells}
use Rattle.fire_open.proofs.RoomLemmas.{queue_here}
use Rattle.fire_open.proofs.OpenLemmas.{body_task, fresh_there}
use Rattle.fire_open.proofs.RungFits.{rung_fits}
use Rattle.fire_run.specs.NetOf.{IsNetOf}
use Rattle.fire_run.proofs.MoveLemmas.{with_adds}

-- the logs of cells to which nothing was added are empty
blank_log : (cells : List Holding) → All (λ (x : Holding). x.log ≡ []) cells → (c : ℕ) → logs_of cells c ≡ []
blank_log [] h c = refl
blank_log (x ∷ xs) h zero = All-head (λ (y : Holding). y.log ≡ []) x xs h
blank_log (x ∷ xs) h (suc c) = blank_log xs (All-tail (λ (y : Holding). y.log ≡ []) x xs h) c

none_added_yet : (p : PlanForm) (cells : List Holding) → All (λ (x : Holding). x.log ≡ []) cells → (o j : ℕ) → added p (logs_of cells) o j ≡ []
none_added_yet p cells h o j = ap (rows_by o (table_at p o j)) (blank_log cells h (table_class p (table_at p o j)))

-- fresh tasks with rings and empty cells are a net
pub opened : (p : PlanForm) (inputs : List (List item.Item)) (cap : ℕ) (caps : List Cap) (ts0 ts : List Task) (ls : List Link) (cells : List Holding) → IsPlan p
    → AreInputs p.inputs inputs → IsCap cap → AreCaps caps
    → AreFresh p inputs ts0 → AreLinks p ls → AreRung (room_of p cap (first_cap caps)) ts0 ts ls (length ls) → AreClassCells p cells
    → All (λ (x : Holding). x.log ≡ []) cells
    → IsNetOf p inputs (capacity cap (first_cap caps)) (record { tasks = ts; links = ls; cells = cells; refused = false })
opened p inputs cap caps ts0 ts ls cells v typed one all h k r cs blank = record {
  typed = typed;
  room = λ q. let h = (capacity_fits (first_cap caps) cap q one (first_fits caps q all)).0 in omega (arith, h);
  laid = record {
    many = map_long body ts ts0 r.bodies ∙ h.many;
    numbers = λ o t g. let x = same_got body ts ts0 r.bodies o t g in ap (λ (b : TaskBody). b.op) x.2 ∙ (h.each o x.0 x.1).number;
    rings = λ o o' port j q f i x.
        let l : Link = record { writer = o'; out = j; reader = o; port = port } in
        let a = k.all l (record { queue = q; read = x.op; write = x.op'; read_is = x.op_is; reads = x.reads; write_is = x.op_is'; writes = x.writes }) in
        subst (λ n. IsLink (capacity cap (first_cap caps) n) f i) (queue_here p l x.op' q x.op_is' x.writes)
        (r.rung a.0 l f i (slice_get_within ls a.0 l a.1) a.1
        (record { t = x.t; t' = x.t'; t_is = x.t_is; t_is' = x.t_is'; in_is = x.in_is; out_is = x.out_is })).0;
    inputs_are = λ o port op q t i g w z gt gi.
        let x = same_got body ts ts0 r.bodies o t gt in
        (h.each o x.0 x.1).inputs_are port op q i g w (sym (r.ins o port t x.0 gt x.1 (no_reader o port op q g w z)) ∙ gi);
    outputs_are = λ o' j op' q t' f g w z gt gf.
        let x = same_got body ts ts0 r.bodies o' t' gt in
        ((h.each o' x.0 x.1).outs j f (sym (r.outs o' j t' x.0 gt x.1 (no_writer o' j op' q g w z)) ∙ gf)).0;
  };
  tasks = record {
    each = λ o d lt.
        let g = slice_get-get_or ts o d lt in
        let x = same_got body ts ts0 r.bodies o (get_or ts o d) g in
        with_adds p (λ j. []) (added p (logs_of cells) (get_or ts o d).op) (get_or ts o d) (λ j. none_added_yet p cells blank (get_or ts o d).op j)
        (body_task p (λ j. []) x.0 (get_or ts o d) x.2 (h.each o x.0 x.1).task
        (rung_fits p inputs (room_of p cap (first_cap caps)) ts0 ts ls h k (fresh_there p inputs ts0 ls v h k) r o (get_or ts o d) x.0 g x.1));
  };
  settled = record {
    each = λ o o' port j q f i x.
        let l : Link = record { writer = o'; out = j; reader = o; port = port } in
        let a = k.all l (record { queue = q; read = x.op; write = x.op'; read_is = x.op_is; reads = x.reads; write_is = x.op_is'; writes = x.writes }) in
        (r.rung a.0 l f i (slice_get_within ls a.0 l a.1) a.1
        (record { t = x.t; t' = x.t'; t_is = x.t_is; t_is' = x.t_is'; in_is = x.in_is; out_is = x.out_is })).1;
  };
  links = k;
  cells = cs;
  entries = λ c. subst (All (IsEntryOf p c)) (sym (blank_log cells blank c)) (All-nil (IsEntryOf p c));
}
  where
    no_reader : (o port : ℕ) (op : OpForm) (q : Name) → slice_get p.ops o ≡ Some op → slice_get op.reads port ≡ Some q → total (writes_it q) p.ops ≡ 0
        → NoReader ls (length ls) o port
    no_reader o port op q g w z m l lt gl e =
        let x = k.right m l gl in
        let eo : x.read ≡ op = same_Some x.read op (sym x.read_is ∙ ap (slice_get p.ops) e.0 ∙ g) in
        let eq : x.queue ≡ q = same_Some x.queue q (sym x.reads ∙ ap (λ (y : OpForm). slice_get y.reads l.port) eo ∙ ap (slice_get op.reads) e.1 ∙ w) in
        let c = got_count x.write.writes l.out q (x.writes ∙ ap Some eq) in
        let a = at_most (writes_it q) p.ops l.writer x.write x.write_is in
        omega (arith, c, a, z)

    no_writer : (o j : ℕ) (op : OpForm) (q : Name) → slice_get p.ops o ≡ Some op → slice_get op.writes j ≡ Some q → total (reads_it q) p.ops ≡ 0
        → NoWriter ls (length ls) o j
    no_writer o j op q g w z m l lt gl e =
        let x = k.right m l gl in
        let eo : x.write ≡ op = same_Some x.write op (sym x.write_is ∙ ap (slice_get p.ops) e.0 ∙ g) in
        let eq : x.queue ≡ q = same_Some x.queue q (sym x.writes ∙ ap (λ (y : OpForm). slice_get y.writes l.out) eo ∙ ap (slice_get op.writes) e.1 ∙ w) in
        let c = got_count x.read.reads l.port q (x.reads ∙ ap Some eq) in
        let a = at_most (reads_it q) p.ops l.reader x.read x.read_is in
        omega (arith, c, a, z)
