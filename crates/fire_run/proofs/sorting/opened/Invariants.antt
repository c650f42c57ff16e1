use Rattle.std.proofs.Common.{Vec, Global, ◌≡◌, map}
use Rattle.kern_tables.specs.declared.kept.Aggregate.{Aggregate}
use Rattle.class_locks.specs.declared.log.LogEntry.{LogEntry}
use Rattle.class_locks.specs.Logs.{Holding, replay}
use Rattle.fire_run.proofs.sorting.opened.Given as goal

abbrev pub invariant-loop-cell : goal.invariant-loop-cell
invariant-loop-cell l = record {
  tables : map (λ (v : Vec Aggregate Global). v.items) l.tables ≡ map (λ (x : Holding). map (replay x.log) x.kinds) l.yielded;
  logs : map (λ (v : Vec LogEntry Global). v.items) l.logs ≡ map (λ (x : Holding). x.log) l.yielded;
}
