use Rattle.std.proofs.Common.{◌≡◌, drop, length}
use Rattle.river_road.specs.Inputs.{content_reader, all_read}
use Rattle.river_road.proofs.Inputs.{put_before}
use Rattle.river_road.proofs.rows.read_all.Given as goal

abbrev pub invariant-loop-place : goal.invariant-loop-place
invariant-loop-place l = record {
  count : length l.all ≡ l.place;
  read : put_before l.all (all_read (content_reader l.decls l.layout) (drop l.place l.ins) (drop l.place l.files)) ≡ all_read
      (content_reader l.decls l.layout) l.ins l.files;
}
