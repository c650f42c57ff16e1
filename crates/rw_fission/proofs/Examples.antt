-- Steps that are accepted, one of each form, and steps that are refused.
use Rattle.std.proofs.Common.{◌≡◌, ℕ, pos, None, List, [], ◌∷◌, ◌++◌, refl}
use Rattle.std.specs.Prelude.{map, Ok, Err, Result}
use Rattle.kern_tables.specs.declared.kind.TableKind.TheVariants.{Sum}
use Rattle.river_kernels.specs.Fits.{rows, relation, stream}
use Rattle.river_kernels.specs.Kern.{Kern, code, filter, deal, fused, project, tally, window, streamer}
use Rattle.kern_bags.specs.declared.kernel.Window.TheVariants.{Now}
use Rattle.kern_bags.specs.declared.kernel.Streamer.TheVariants.{Rstream}
use Rattle.river_plan.specs.Forms.{Name, OpForm, PlanForm}
use Rattle.work_code.specs.Steps.{Push, Done, Then}
use Rattle.work_code.specs.Term.{Input, Const}
use Rattle.rw_fission.specs.Asked.{fission_of}
use Rattle.plan_edits.specs.declared.unfit.Unfit.{Unfit}
use Rattle.plan_edits.specs.declared.unfit.Unfit.TheVariants.{N1, N2, N4, N5}

abbrev F : Name
F = 70 ∷ []

abbrev in_name : Name
in_name = 105 ∷ []

abbrev out_name : Name
out_name = 111 ∷ []

abbrev filters : ℕ → ℕ → PlanForm
filters peek pop = record {
  outputs = record { name = out_name; kind = rows 1 } ∷ [];
  inputs = record { name = in_name; kind = rows 1 } ∷ [];
  queues = [];
  tables = [];
  vars = F ∷ [];
  ops = record {
    label = F;
    kernel =
        filter (record {
          peek = peek;
          pop = pop;
          push = 1;
          body = record { inputs = peek; slots = 0; steps = Then (Push 0 (Input 0 ∷ [])) Done };
          starts =
              [];
          first = None;
        });
    reads = in_name ∷ [];
    writes = out_name ∷ [];
    vars = F ∷ [];
  } ∷ [];
}

abbrev vars_of : Result PlanForm Unfit → List Name
vars_of (Ok p) = p.vars
vars_of (Err e) = []

-- F@d, F@1, F@2, F@j
blocks_step : vars_of (fission_of (filters 2 2) F 2) ≡ (70 ∷ 64 ∷ 100 ∷ []) ∷ (70 ∷ 64 ∷ 49 ∷ []) ∷ (70 ∷ 64 ∷ 50 ∷ []) ∷ (70 ∷ 64 ∷ 106 ∷ []) ∷ []
blocks_step = refl

-- peek above pop
peeks : fission_of (filters 2 1) F 2 ≡ Err N4
peeks = refl

no_such : fission_of (filters 2 2) in_name 2 ≡ Err N1
no_such = refl

too_many : fission_of (filters 2 2) F 17 ≡ Err N2
too_many = refl

abbrev codes : List Name → PlanForm
codes more = record (filters 2 2) {
  vars = more;
  ops = record {
    label = F;
    kernel = code (record { body = record { inputs = 1; slots = 0; steps = Then (Push 0 (Input 0 ∷ [])) Done }; outs = pos 1 ∷ []; starts = [] });
    reads = in_name ∷ [];
    writes = out_name ∷ [];
    vars = [];
  } ∷ [];
}

packs_step : vars_of (fission_of (codes []) F 2) ≡ (70 ∷ 64 ∷ 100 ∷ []) ∷ (70 ∷ 64 ∷ 106 ∷ []) ∷ []
packs_step = refl

-- a variable has the name of a made one
twice : fission_of (codes ((70 ∷ 64 ∷ 106 ∷ []) ∷ [])) F 2 ≡ Err N5
twice = refl

abbrev adds : PlanForm
adds = record {
  outputs = [];
  inputs = record { name = in_name; kind = rows 1 } ∷ [];
  queues = [];
  tables = record { name = out_name; kind = Sum 0 } ∷ [];
  vars = [];
  ops = record { label = F; kernel = tally; reads = in_name ∷ []; writes = []; vars = out_name ∷ [] } ∷ [];
}

adds_step : vars_of (fission_of adds F 16) ≡ (70 ∷ 64 ∷ 100 ∷ []) ∷ []
adds_step = refl

abbrev queries : PlanForm
queries = record {
  outputs = record { name = out_name; kind = stream 1 } ∷ [];
  inputs = record { name = in_name; kind = stream 1 } ∷ [];
  queues = record { name = 113 ∷ []; kind = relation 1 } ∷ record { name = 114 ∷ []; kind = relation 1 } ∷ [];
  tables = [];
  vars = (119 ∷ []) ∷ (115 ∷ []) ∷ [];
  ops =
      record { label = 119 ∷ []; kernel = window Now; reads = in_name ∷ []; writes = (113 ∷ []) ∷ []; vars = (119 ∷ []) ∷ [] }
      ∷ record { label = F; kernel = project (Input 0 ∷ []); reads = (113 ∷ []) ∷ []; writes = (114 ∷ []) ∷ []; vars = [] }
      ∷ record { label = 115 ∷ []; kernel = streamer Rstream; reads = (114 ∷ []) ∷ []; writes = out_name ∷ []; vars = (115 ∷ []) ∷ [] }
      ∷ [];
}

-- on relations
query_step : vars_of (fission_of queries F 2) ≡ (119 ∷ []) ∷ (115 ∷ []) ∷ (70 ∷ 64 ∷ 100 ∷ []) ∷ (70 ∷ 64 ∷ 106 ∷ []) ∷ []
query_step = refl

-- THE PLAN OF `fission map 3` ON A FUSED MAP THAT COUNTS AND SUMS

abbrev map_name : Name
map_name = 109 ∷ 97 ∷ 112 ∷ []

abbrev k_map : Kern
k_map =
    fused (fused (code (record {
      body =
          record { inputs = 2; slots = 0; steps = Then (Push 0 (Const (pos 1) ∷ [])) (Then (Push 1 (Input 0 ∷ Input 1 ∷ [])) Done) };
      outs =
          pos 1 ∷ pos 2 ∷ [];
      starts = [];
    })) tally 0) tally 0

abbrev map_plan : PlanForm
map_plan = record {
  outputs = [];
  inputs = record { name = in_name; kind = rows 2 } ∷ [];
  queues = [];
  tables = record { name = 99 ∷ []; kind = Sum 0 } ∷ record { name = 116 ∷ []; kind = Sum 1 } ∷ [];
  vars = [];
  ops = record { label = map_name; kernel = k_map; reads = in_name ∷ []; writes = []; vars = (99 ∷ []) ∷ (116 ∷ []) ∷ [] } ∷ [];
}

abbrev map_at : List ℕ → Name
map_at t = map_name ++ 64 ∷ t

abbrev map_copy : ℕ → OpForm
map_copy d = record { label = map_at (d ∷ []); kernel = k_map; reads = map_at (97 ∷ d ∷ []) ∷ []; writes = []; vars = (99 ∷ []) ∷ (116 ∷ []) ∷ [] }

map_step : fission_of map_plan map_name 3 ≡ Ok (record map_plan {
  queues =
      record { name = map_at (97 ∷ 49 ∷ []); kind = rows 2 } ∷ record { name = map_at (97 ∷ 50 ∷ []); kind = rows 2 } ∷ record {
        name =
            map_at (97 ∷ 51 ∷ []);
        kind = rows 2;
      } ∷ [];
  vars = map_at (100 ∷ []) ∷ [];
  ops =
      record {
        label = map_at (100 ∷ []);
        kernel = deal (pos 1 ∷ pos 1 ∷ pos 1 ∷ []);
        reads = in_name ∷ [];
        writes = map_at (97 ∷ 49 ∷ []) ∷ map_at (97 ∷ 50 ∷ []) ∷ map_at (97 ∷ 51 ∷ []) ∷ [];
        vars = map_at (100 ∷ []) ∷ [];
      }
      ∷ map_copy 49 ∷ map_copy 50 ∷ map_copy 51 ∷ [];
})
map_step = refl

-- the filter's own variable goes, so a made one may have its name
abbrev own_name : PlanForm
own_name = record (filters 2 2) { vars = (70 ∷ 64 ∷ 49 ∷ []) ∷ []; ops = map (λ (o : OpForm). record o { vars = (70 ∷ 64 ∷ 49 ∷ []) ∷ [] }) (filters 2 2).ops }

own_step : vars_of (fission_of own_name F 2) ≡ (70 ∷ 64 ∷ 100 ∷ []) ∷ (70 ∷ 64 ∷ 49 ∷ []) ∷ (70 ∷ 64 ∷ 50 ∷ []) ∷ (70 ∷ 64 ∷ 106 ∷ []) ∷ []
own_step = refl
