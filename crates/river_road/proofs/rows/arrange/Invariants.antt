use Rattle.std.proofs.Common.{◌≡◌, ◌++◌, drop, length}
use Rattle.river_road.specs.Inputs.{contents_in_order}
use Rattle.river_road.proofs.rows.arrange.Given as goal

abbrev pub invariant-loop-place : goal.invariant-loop-place
invariant-loop-place l = record {
  count : length l.all ≡ length l.ins;
  arranged : l.files ++ contents_in_order (drop l.place l.decls) l.ins l.all ≡ contents_in_order l.decls l.ins l.initial.all;
}
