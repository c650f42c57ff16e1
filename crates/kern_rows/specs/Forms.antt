-- The kernels on rows as plain data.
use Rattle.std.specs.Prelude.{ℕ, ℤ, List, Option, Some, None}
use Rattle.work_code.specs.Steps.{BodyForm, code_body}
use Rattle.kern_rows.specs.declared.kernel.CodeKernel.{CodeKernel}
use Rattle.kern_rows.specs.declared.kernel.Filter.{Filter}
use Rattle.kern_rows.specs.declared.kernel.First.{First}

-- a body that is run on each row; the width of each output port; the kept slots at the start
pub record CodeForm : Type 0 where
  pub body : BodyForm
  pub outs : List ℤ
  pub starts : List ℤ

abbrev pub code_form : CodeKernel → CodeForm
code_form k = record { body = code_body k.code; outs = k.outs; starts = k.starts }

-- a run: it looks at the first `peek` values of a buffer, from which it takes `pop`, and gives `push` values
pub record RunForm : Type 0 where
  pub peek : ℕ
  pub pop : ℕ
  pub push : ℕ
  pub body : BodyForm

-- a body that is run on the first `peek` values of a buffer, from which `pop` are taken; it gives `push` values. The first run may
-- be another
pub record FilterForm : Type 0 where
  pub peek : ℕ
  pub pop : ℕ
  pub push : ℕ
  pub body : BodyForm
  pub starts : List ℤ
  pub first : Option RunForm

abbrev pub run_form : First → RunForm
run_form r = record { peek = r.peek; pop = r.pop; push = r.push; body = code_body r.code }

abbrev pub optional_run : Option First → Option RunForm
optional_run None = None
optional_run (Some r) = Some (run_form r)

abbrev pub filter_form : Filter → FilterForm
filter_form f = record { peek = f.peek; pop = f.pop; push = f.push; body = code_body f.code; starts = f.starts; first = optional_run f.first }
