use Rattle.std.proofs.Common.{◌+◌, drop}
use Rattle.streamit_model.specs.Judged.{Streamed, all_streams}
use Rattle.streamit_text.specs.Program.{unit_forms}
use Rattle.streamit_build.specs.Knowing.{Knows}
use Rattle.streamit_build.specs.Readable.{AreReadable}
use Rattle.streamit_build.proofs.AllUnits.{Judging}
use Rattle.streamit_build.proofs.streams.Known.units.Given as goal

abbrev pub invariant-loop-i : goal.invariant-loop-i
invariant-loop-i l = record {
  readable : AreReadable (unit_forms (drop l.i l.units));
  judged : (start : Streamed) → Knows l.initial.self start
      → Judging (all_streams 1 start (unit_forms l.units)) (l.i + 1) (unit_forms (drop l.i l.units)) l.self;
}
