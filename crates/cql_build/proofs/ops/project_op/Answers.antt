use Rattle.std.proofs.Common.{ap, ◌∙◌}
use Rattle.river_kernels.proofs.KernLemmas.{kern_of-project}
use Rattle.river_kernels.specs.Kern.{project}
use Rattle.work_code.specs.Term.{terms}
use Rattle.cql_model.specs.Plan.{op}
use Rattle.cql_build.proofs.ops.project_op.Goals as goal

pub returns : goal.returns
returns c =
    let kernel = kern_of-project c.in_ok-of.field-0 ∙ ap project (ap terms c.in_ok-of.ensures ∙ c.in_ok-values.ensures) in
    λ i. op c.args.name (kernel i) (c.in_ok-reads.ensures i) (c.in_ok-writes.ensures i) (c.new.ensures i)
