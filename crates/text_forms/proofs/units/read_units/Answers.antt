use Rattle.std.proofs.Common.{◌∙◌, ◌+◌, List, drop, sym, ap}
use Rattle.std.specs.Prelude.{map}
use Rattle.std.proofs.lemmas.List.{map-append}
use Rattle.text_tokens.specs.Cut.{unit_tokens}
use Rattle.text_forms.specs.AllUnits.{units_from, or_syntax}
use Rattle.text_forms.proofs.AllUnits.{behind, units-next, units-bad, units-end}
use Rattle.text_forms.proofs.units.read_units.Goals as goal

-- one unit more
pub items-preserved : goal.items-preserved
items-preserved g c =
    let view = g.L.Units.unit_tree in
    let unit = g.L.Units.unit c.args.language.now in
    let list = c.items.list.items in
    ap (λ (done : List g.L.Units.UnitTree). behind done (units_from unit (c.items.i + 1 + 1) (map unit_tokens (drop (c.items.i + 1) c.args.parts.now))))
    (ap (λ l. map view l) c.in_ok-push-in-Ok.ensures.items ∙ map-append view list _)
    ∙ units-next unit (map view list) (c.items.i + 1) c.args.parts.now c.items.i _ (view c.in-Ok.unit) c.items-test.true c.in-Ok.ensures
    ∙ c.items.invariant

-- all of them
pub returns : goal.returns
returns g c =
    let unit = g.L.Units.unit c.args.language.now in
    ap or_syntax (sym c.items.invariant ∙ units-end unit (map g.L.Units.unit_tree c.items.list.items) (c.items.i + 1) c.args.parts.now c.items.i c.items-test.false)

-- one that is none
pub returns-in-Err-Syntax : goal.returns-in-Err-Syntax
returns-in-Err-Syntax g c =
    let unit = g.L.Units.unit c.args.language.now in
    let read = rw c.in-Err-Syntax.field-0-is at c.in-Err-Syntax.ensures in
    ap or_syntax
    (sym c.items.invariant ∙ units-bad unit (map g.L.Units.unit_tree c.items.list.items) (c.items.i + 1) c.args.parts.now c.items.i _ c.items-test.true read)
