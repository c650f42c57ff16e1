use Rattle.std.proofs.Common.{◌≡◌, w64, to_z, of_z, ◌∙◌, rules}
use Rattle.std.proofs.lemmas.Result.{IfOk-weaker}
use Rattle.work_code.specs.Term.{terms}
use Rattle.river_base.specs.Changes.{cancelled}
use Rattle.kern_bags.specs.Following.{Projects}
use Rattle.kern_bags.proofs.Stepping.{projects, project_fits}
use Rattle.kern_bags.proofs.rowwise.project_change.Goals as goal

pub returns : goal.returns
returns c =
    let at : to_z w64 (of_z w64 c.args.change.at) ≡ c.args.change.at = search rules in
    let was = to_z w64 (of_z w64 c.args.change.at) in
    let p = c.project_rows.ensures in
    let m = c.project_rows-2.ensures in
    let ts = terms c.args.list.now in
    IfOk-weaker c.settle.result (λ d. d ≡ cancelled was c.project_rows.new.rows c.project_rows-2.new.rows) (λ d. Projects ts c.args.change d)
    (λ d e. record {
      contents = projects ts c.args.change d (e ∙ (λ i. cancelled (at i) (p i) (m i)));
      fits = project_fits ts was c.args.change.plus c.args.change.minus d (e ∙ (λ i. cancelled was (p i) (m i)));
    }) c.settle.ensures
