use Rattle.std.proofs.Common.{◌+◌, ◌<◌, pos, arith, ap, sym, subst, ◌∙◌}
use Rattle.river_base.specs.Row.{AreShortValues}
use Rattle.std.proofs.Math.ListN.{set, take}
use Rattle.std.specs.Int.{w64}
use Rattle.std.proofs.lemmas.Int.{to_z-of_z}
use Rattle.std.proofs.lemmas.List.Elements.{All-set}
use Rattle.river_base.specs.Number.{IsValue}
use Rattle.river_base.proofs.RowLemmas.{IsShort-pushed, shown_pushed, short_width}
use Rattle.river_base.proofs.values.Values.pushed.Goals as goal

pub invariant_of-result : goal.invariant_of-result
invariant_of-result c =
    let w = short_width 16 (pos 0) c.self.inside.width c.self.inside.values c.args.self.now c.self.invariant.short c.self.view_is in
    let room : c.self.inside.width < 16 = omega (arith, w, c.requires) in
    subst (λ v. AreShortValues (c.self.inside.width + 1) (set c.self.inside.values c.self.inside.width v)) (sym (to_z-of_z w64 c.args.value c.ranges.value))
    (record {
      short = IsShort-pushed 16 (pos 0) c.self.inside.width c.self.inside.values c.args.value c.self.invariant.short room;
      in_range = All-set IsValue c.self.inside.values c.self.inside.width c.args.value c.ranges.value c.self.invariant.in_range;
    })

pub returns : goal.returns
returns c =
    let w = short_width 16 (pos 0) c.self.inside.width c.self.inside.values c.args.self.now c.self.invariant.short c.self.view_is in
    let room : c.self.inside.width < 16 = omega (arith, w, c.requires) in
    ap (λ v. take (c.self.inside.width + 1) (set c.self.inside.values c.self.inside.width v)) (to_z-of_z w64 c.args.value c.ranges.value)
    ∙ shown_pushed 16 (pos 0) c.self.inside.width c.self.inside.values c.args.self.now c.args.value c.self.invariant.short room c.self.view_is
