use Rattle.std.proofs.Common.{◌≡◌, List, length, drop}
use Rattle.river_road.specs.Inputs.{content_named}
use Rattle.river_road.specs.declared.content.FileContent.{FileContent}
use Rattle.river_road.proofs.rows.place_named.Given as goal

abbrev pub invariant-loop-place : goal.invariant-loop-place
invariant-loop-place l =
    (all : List FileContent) → length all ≡ length l.ins → content_named (drop l.place l.ins) (drop l.place all) l.name ≡ content_named l.ins all l.name
