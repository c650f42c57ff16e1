-- What a closed net gave.
use Rattle.std.proofs.Common.{Vec, Global, ◌≡◌, ℕ, pos, zero, suc, ◌+◌, ◌≤◌, Some, List, [], ◌∷◌, length, map, sym, ap, ◌∙◌, arith, subst}
use Rattle.std.specs.Prelude.{slice_get}
use Rattle.std.proofs.lemmas.List.{length-map}
use Rattle.std.proofs.lemmas.Option.{slice_get_within, same_Some}
use Rattle.river_base.proofs.Lists.{there_is}
use Rattle.river_base.specs.Bags.{SameBag}
use Rattle.river_base.specs.Places.{list_at}
use Rattle.river_base.specs.declared.item.Item as item
use Rattle.kern_tables.specs.Kept.{kept_of, rows_of}
use Rattle.kern_tables.proofs.Tabs.{kept_of_bag}
use Rattle.river_plan.specs.declared.plan.TableDecl.{TableDecl}
use Rattle.river_plan.specs.Forms.{PlanForm}
use Rattle.river_plan.specs.Valid.{IsPlan}
use Rattle.brooklet_model.specs.Bounded.{Capacities}
use Rattle.brooklet_model.specs.Histories.{hist, given_on, all_adds}
use Rattle.brooklet_step.specs.Tables.{defined_tables, kept_tables}
use Rattle.brooklet_step.proofs.KeptTables.{defined_rows}
use Rattle.class_locks.specs.declared.log.LogEntry.{LogEntry}
use Rattle.class_locks.specs.Logs.{Holding, rows_to}
use Rattle.fire_tasks.specs.declared.task.Task.{Task}
use Rattle.fire_tasks.specs.Adds.{AreEntries, added, logs_of, table_class}
use Rattle.fire_tasks.specs.Tasks.{all_moves}
use Rattle.fire_run.specs.Whole.{sent_hist}
use Rattle.fire_run.specs.declared.closing.Ran.{Ran}
use Rattle.fire_run.specs.declared.net.Net.{Net}
use Rattle.fire_run.specs.Closed.{AreLogsOf, AreOuts, ArePlaced, AreReplayed, IsRanOf, log_at}
use Rattle.fire_run.specs.NetOf.{IsNetOf, AreIdle}
use Rattle.fire_run.specs.Whole.{IsWholeNet}
use Rattle.fire_run.proofs.OutLemmas.{counts_end, outs_end, same_lists}
use Rattle.fire_run.proofs.RowSums.{table_rows}
use Rattle.fire_run.proofs.WholeLemmas.{whole_net, few_law}

got_kept : (ts : List TableDecl) (rows : _) (i : ℕ) (t : TableDecl) → slice_get ts i ≡ Some t
    → slice_get (kept_tables ts rows) i ≡ Some (kept_of t.kind (rows t.name))
got_kept [] rows i t g = absurd (cc g)
got_kept (u ∷ us) rows zero t g = ap (λ (x : TableDecl). Some (kept_of x.kind (rows x.name))) (same_Some u t g)
got_kept (u ∷ us) rows (suc i) t g = got_kept us rows i t g

module _ (p : PlanForm) (inputs : List (List item.Item)) (caps : Capacities) (net : Net) (v : IsPlan p)
    (n : IsNetOf p inputs caps net) (idle : AreIdle net.tasks) where
  whole : IsWholeNet p inputs net.cells net.tasks
  whole = whole_net p inputs caps net v n idle

  module _ (ran : Ran) (logs_are : map (λ (l : Vec LogEntry Global). l.items) ran.logs ≡ map (λ (x : Holding). x.log) net.cells)
      (placed : ArePlaced (table_class p) (logs_of net.cells) 0 p.tables ran.outcome.tables) where
    same_logs : logs_of net.cells ≡ log_at ran.logs
    same_logs = ap {B = ℕ → List LogEntry} (λ (ls : List (List LogEntry)) c. list_at ls c) (sym logs_are)

    as_many : length ran.logs ≡ length net.cells
    as_many = sym (length-map ran.logs (λ (l : Vec LogEntry Global). l.items)) ∙ ap length logs_are ∙ length-map net.cells (λ (x : Holding). x.log)

    logs_end : AreLogsOf p inputs ran.logs
    unfolding whole same_logs
    logs_end =
        let m = as_many in
        record {
          all = λ k lt. let a = n.cells.all k lt in omega (arith, a, m);
          used = λ c lt. n.cells.used c (omega (arith, lt, m));
          bags = λ o k op g lt. subst (λ f. SameBag (added p f o k) ((given_on op (hist p inputs)).adds k)) same_logs (whole.bags o k op g lt);
          rows = λ o k op g lt one. ap (λ f. added p f o k) (sym same_logs) ∙ whole.rows o k op g lt one;
          entries = subst (AreEntries p) same_logs whole.entries;
        }

    replayed_end : AreReplayed p (log_at ran.logs) ran.outcome.tables
    replayed_end k t g = placed.each k t (omega arith) g ∙ ap (λ f. Some (kept_of t.kind (rows_to k (f (table_class p k))))) same_logs

    tables_end : ran.outcome.tables ≡ defined_tables p inputs
    unfolding whole
    tables_end =
        let long = placed.many in
        let l = length-map p.tables (λ (t : TableDecl). kept_of t.kind (all_adds p inputs t.name)) in
        sym (same_lists (defined_tables p inputs) ran.outcome.tables (l ∙ sym long)
        (λ k x gx.
        let lt = slice_get_within (defined_tables p inputs) k x gx in
        let t = there_is p.tables k (omega (arith, lt, l)) in
        placed.each k t.0 (omega arith) t.1
        ∙ ap Some (kept_of_bag t.0.kind (rows_to k (logs_of net.cells (table_class p k))) (all_adds p inputs t.0.name)
        (table_rows p inputs (logs_of net.cells) v whole.entries whole.bags k t.0 t.1))
        ∙ sym (got_kept p.tables (all_adds p inputs) k t.0 t.1) ∙ gx))

    -- the outcome, the logs and the rounds are those of a run
    pub ran_end : AreOuts p (sent_hist p inputs) (length p.ops) 0 ran.outcome.outs → ran.outcome.counts ≡ map (λ (t : Task). pos t.count) net.tasks
        → ran.rounds ≤ 1 + all_moves net.tasks → IsRanOf p inputs ran
    ran_end outs counts rounds = record {
      outs = outs_end p inputs ran.outcome.outs v outs;
      tables = tables_end;
      rows = ap (map rows_of) tables_end ∙ defined_rows p inputs;
      counts = counts_end p inputs caps net v n idle ran.outcome.counts counts;
      logs = logs_end;
      replayed = replayed_end;
      rounds = (let f = few_law p inputs caps net v n in omega (arith, f, rounds));
    }
