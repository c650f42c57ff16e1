use Rattle.std.proofs.Common.{◌≡◌, w64, to_z, of_z, rules}
use Rattle.work_code.specs.Term.{term}
use Rattle.river_base.specs.declared.item.Change.{Change}
use Rattle.kern_bags.specs.Contents.{selected}
use Rattle.kern_bags.proofs.Stepping.{selects, select_fits}
use Rattle.kern_bags.proofs.rowwise.select_change.Goals as goal

pub returns : goal.returns
returns c =
    let at : to_z w64 (of_z w64 c.args.change.at) ≡ c.args.change.at = search rules in
    let p = c.keep_rows.ensures in
    let m = c.keep_rows-2.ensures in
    let t = term c.args.cond.now in
    let d : Change = record { at = to_z w64 (of_z w64 c.args.change.at); plus = c.keep_rows.new.rows; minus = c.keep_rows-2.new.rows } in
    let is : d ≡ record { at = c.args.change.at; plus = selected t c.args.change.plus; minus = selected t c.args.change.minus } =
    λ i. record { at = at i; plus = p i; minus = m i } in
    record { contents = selects t c.args.change d is; fits = λ w. select_fits w t c.args.change d is }
