use Rattle.std.proofs.Common.{◌≡◌, true, refl, sym, ap, ◌∙◌}
use Rattle.river_base.specs.Name.{name_eq}
use Rattle.river_plan.proofs.NameLemmas.{name_is}
use Rattle.river_road.specs.Inputs.{content_named}
use Rattle.command_line.specs.declared.command.InWord.{InWord}
use Rattle.river_road.proofs.Inputs.{content-skip}
use Rattle.river_road.proofs.Arranged.{named-at, named-none}
use Rattle.river_road.proofs.rows.place_named.Goals as goal

pub loop-place-init : goal.loop-place-init
loop-place-init c = λ all same. refl

pub loop-place-preserved : goal.loop-place-preserved
loop-place-preserved c = λ all same.
    let other = rw c.as_slice.ensures at (sym c.eq.ensures ∙ c.if-eq.false) in
    content-skip c.args.ins.now all c.args.name.now c.loop-place.place c.index-ins-place.result (content_named c.args.ins.now all c.args.name.now)
    c.loop-place-test.true same c.index-ins-place.is other (c.loop-place.invariant all same)

pub returns-then-eq : goal.returns-then-eq
returns-then-eq c =
    let name = c.args.name.now in
    let w = c.index-ins-place.result in
    let told = rw c.as_slice.ensures at (sym c.eq.ensures ∙ c.if-eq.true) in
    let here : name_eq w.name name ≡ true = ap (λ (u : InWord). name_eq u.name name) c.index-ins-place.is ∙ told in
    record {
      within = c.loop-place-test.true;
      word = w;
      word_is = c.index-ins-place.is;
      named = name_is w.name name here;
      gives =
          λ all d same. named-at c.args.ins.now all name c.loop-place.place w
          (content_named c.args.ins.now all name) d c.loop-place-test.true same c.index-ins-place.is here (c.loop-place.invariant all same);
    }

pub returns : goal.returns
returns c = record {
  gives =
      λ all same. named-none c.args.ins.now all c.args.name.now c.loop-place.place (content_named c.args.ins.now all c.args.name.now) c.loop-place-test.false
      (c.loop-place.invariant all same);
}
