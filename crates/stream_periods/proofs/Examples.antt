-- The walk over the plans of small streams.
use Rattle.std.proofs.Common.{◌≡◌, ℕ, pos, [], ◌∷◌, Result, Ok, Err, Some, None, refl}
use Rattle.std.specs.Prelude.{codes}
use Rattle.std.specs.Fmt.{digits}
use Rattle.work_code.specs.Term as term
use Rattle.work_code.specs.Steps as steps
use Rattle.kern_rows.specs.Forms.{FilterForm}
use Rattle.streamit_model.specs.Meaning.{look}
use Rattle.streamit_model.specs.Plan.{plan_of}
use Rattle.streamit_model.specs.Unrolled.{Duplicate, RoundRobin, Stream, Filter, Pipeline, SplitJoin, Last, Then}
use Rattle.stream_periods.specs.Periods.{Unbalanced}
use Rattle.stream_periods.specs.Walk.{Known, NoWalk, Rates, at_input, on_known, or_lacks, walk}

-- what is known of the output
at_output : Stream → Result Known NoWalk
at_output s = on_known (walk (plan_of s).ops (at_input (codes "in"))) (λ known. or_lacks (codes "out") (look known (codes "out")))

-- passes on the first of so many items
passes : ℕ → FilterForm
passes o = record {
  peek = o;
  pop = o;
  push = 1;
  body = record { inputs = o; slots = 0; steps = steps.Then (steps.Push 0 (term.Input 0 ∷ [])) steps.Done };
  starts = [];
  first = None;
}

-- a delay by one item, and then every second item
late : FilterForm
late = record {
  peek = 1;
  pop = 1;
  push = 1;
  body = record { inputs = 1; slots = 0; steps = steps.Then (steps.Push 0 (term.Input 0 ∷ [])) steps.Done };
  starts = [];
  first = Some (record { peek = 0; pop = 0; push = 1; body = record { inputs = 0; slots = 0; steps = steps.Then (steps.Push 0 (term.Const (pos 0) ∷ [])) steps.Done } });
}

halved : at_output (Pipeline (Then (Filter [] late) (Last (Filter [] (passes 2))))) ≡ Ok (record { period = record { takes = 2; gives = 1; reach = 1 }; fades = 1 })
unfolding at_output late passes digits
halved = refl

even : at_output (SplitJoin (RoundRobin (1 ∷ 2 ∷ [])) (Then (Filter [] (passes 1)) (Last (Filter [] (passes 2)))) (1 ∷ 1 ∷ []))
    ≡ Ok (record { period = record { takes = 3; gives = 2; reach = 0 }; fades = 0 })
unfolding at_output passes digits
even = refl

uneven : at_output (SplitJoin Duplicate (Then (Filter [] (passes 1)) (Last (Filter [] (passes 2)))) (1 ∷ 1 ∷ [])) ≡ Err (Rates Unbalanced)
unfolding at_output passes digits
uneven = refl
