use Rattle.std.proofs.Common.{◌≡◌, ◌+◌, ◌≤◌, ◌∷◌, length, drop, rules, sym, subst}
use Rattle.river_base.proofs.Lists.{map_next, map_none}
use Rattle.streamit_model.specs.Judged.{all_streams}
use Rattle.streamit_text.specs.Program.{unit_form, unit_forms}
use Rattle.streamit_build.specs.Planned.{IsWhyRefused}
use Rattle.streamit_build.specs.Readable.{AreReadable}
use Rattle.streamit_build.proofs.AllUnits.{Judging, judging_start, judging_next, judging_fault, judging_end}
use Rattle.streamit_build.proofs.streams.Known.units.Goals as goal

pub loop-i-init : goal.loop-i-init
loop-i-init c = record { readable = c.requires.readable; judged = λ start k. judging_start start (unit_forms c.args.units.now) c.args.self.now k }

pub unit-requires : goal.unit-requires
unit-requires c =
    let units = c.args.units.now in
    let i = c.loop-i.i in
    (subst AreReadable (map_next unit_form units i c.index-units-i.result c.loop-i-test.true c.index-units-i.is) c.loop-i.invariant.readable).0

pub loop-i-preserved : goal.loop-i-preserved
loop-i-preserved c =
    let units = c.args.units.now in
    let i = c.loop-i.i in
    let u = c.index-units-i.result in
    let at : unit_forms (drop i units) ≡ unit_form u ∷ unit_forms (drop (i + 1) units) =
    map_next unit_form units i u c.loop-i-test.true c.index-units-i.is in
    record {
      readable = (subst AreReadable at c.loop-i.invariant.readable).1;
      judged = λ start k.
          let whole = all_streams 1 start (unit_forms units) in
          let j = subst (λ p. Judging whole (i + 1) p c.loop-i.self) at (c.loop-i.invariant.judged start k) in
          judging_next whole i (unit_form u) (unit_forms (drop (i + 1) units)) c.loop-i.self c.unit.new.self j (c.in-Ok.ensures {u = tt} j.known j.knows);
    }

pub returns-in-Err : goal.returns-in-Err
returns-in-Err c = λ start k.
    let units = c.args.units.now in
    let i = c.loop-i.i in
    let u = c.index-units-i.result in
    let at : unit_forms (drop i units) ≡ unit_form u ∷ unit_forms (drop (i + 1) units) =
    map_next unit_form units i u c.loop-i-test.true c.index-units-i.is in
    let whole = all_streams 1 start (unit_forms units) in
    let j = subst (λ p. Judging whole (i + 1) p c.loop-i.self) at (c.loop-i.invariant.judged start k) in
    subst (IsWhyRefused whole) (sym c.refused_in.ensures)
    (judging_fault whole i (unit_form u) (unit_forms (drop (i + 1) units)) c.loop-i.self c.unit.new.self c.in-Err.why j (c.in-Err.ensures j.known j.knows))

pub returns : goal.returns
returns c = λ start k.
    let units = c.args.units.now in
    let i = c.loop-i.i in
    let le : length units ≤ i = search rules in
    let whole = all_streams 1 start (unit_forms units) in
    judging_end whole (i + 1) c.loop-i.self
    (subst (λ p. Judging whole (i + 1) p c.loop-i.self) (map_none unit_form units i le) (c.loop-i.invariant.judged start k))
