use Rattle.std.proofs.Common.{ap, ◌∙◌}
use Rattle.river_kernels.proofs.KernLemmas.{kern_of-select}
use Rattle.river_kernels.specs.Kern.{select}
use Rattle.work_code.specs.Term.{term}
use Rattle.cql_model.specs.Plan.{op}
use Rattle.cql_build.proofs.ops.select_op.Goals as goal

pub returns : goal.returns
returns c =
    let kernel = kern_of-select c.in_ok-of.field-0 ∙ ap select (ap term c.in_ok-of.ensures ∙ c.in_ok-resolve.ensures) in
    λ i. op c.args.name (kernel i) (c.in_ok-reads.ensures i) (c.in_ok-writes.ensures i) (c.new.ensures i)
