-- The filter of a plan for a filter as it is written, or the first fault in reading order.
use Rattle.std.specs.Prelude.{ℕ, ℤ, pos, ◌+◌, ◌&&◌, List, [], ◌∷◌, length, replicate, max, Option, Some, None, Result, Ok, nat_le, nat_eq}
use Rattle.work_code.specs.Steps.{Steps, BodyForm}
use Rattle.kern_rows.specs.Runs.{run_kept}
use Rattle.kern_rows.specs.Forms.{FilterForm, RunForm}
use Rattle.river_plan.specs.Forms.{Name}
use Rattle.streamit_text.specs.Program.{WorkTree, FilterTree}
use Rattle.streamit_model.specs.Meaning.{push_of, pop_of, peek_of}
use Rattle.streamit_model.specs.Elaborate.{on_ok, demand, Var, find, is_new, has_slot, At, steps_of, optional_of}
use Rattle.streamit_model.specs.declared.fault.Fault.{Fault}
use Rattle.streamit_model.specs.declared.fault.Fault.TheVariants.{Rates, Limit}

-- a field is known from here on, in a slot of its own
abbrev pub read_field : Name → At → Result At Fault
read_field f s = on_ok (is_new (find s.scope f)) (λ u. on_ok (has_slot s) (λ w. Ok (record s { scope = (f, Var s.slots) ∷ s.scope; slots = s.slots + 1 })))

abbrev pub read_fields : List Name → At → Result At Fault
read_fields [] s = Ok s
read_fields (f ∷ fs) s = on_ok (read_field f s) (read_fields fs)

abbrev pub nothing_read : At
nothing_read = record { scope = []; slots = 0; popped = 0; pushed = 0; size = 0 }

-- the slots of n fields after one run of the statements of `init`
abbrev pub starts_of : ℕ → Steps × At → List ℤ
starts_of n i = (run_kept (record { inputs = 0; slots = i.1.slots; steps = i.0 }) (replicate n (pos 0)) []).slots

-- rates of pushes, pops and looks: none is above 65,536; a firing pops so many items at least, and no more than it looks at
abbrev pub judged_rates : ℕ → ℕ → ℕ → ℕ → Result (Unit {0}) Fault
judged_rates least push pop peek =
    on_ok (demand (nat_le push 65536 && (nat_le pop 65536 && nat_le peek 65536)) Limit) (λ u.
    on_ok (demand (nat_le least pop) Limit) (λ v.
    demand (nat_le pop peek) (Rates peek pop)))

-- a firing pops and pushes as many items as is declared; the pops are told first
abbrev pub kept_rates : ℕ → ℕ → At → Result (Unit {0}) Fault
kept_rates push pop s = on_ok (demand (nat_eq s.popped pop) (Rates pop s.popped)) (λ u. demand (nat_eq s.pushed push) (Rates push s.pushed))

-- what is read of a block, with the slots of its own fields and locals
abbrev pub run_of : WorkTree → Steps × At → RunForm
run_of w r = record { peek = peek_of w; pop = pop_of w; push = push_of w; body = record { inputs = peek_of w; slots = r.1.slots; steps = r.0 } }

-- `prework` or `work`, which pops so many items at least: the rates, the block, and what was counted there
abbrev pub read_work : ℕ → WorkTree → At → Result RunForm Fault
read_work least w s =
    on_ok (judged_rates least (push_of w) (pop_of w) (peek_of w)) (λ u.
    on_ok (steps_of (peek_of w) w.block s) (λ r.
    on_ok (kept_rates (push_of w) (pop_of w) r.1) (λ v. Ok (run_of w r))))

-- `prework` may pop nothing
abbrev pub read_prework : Option WorkTree → At → Result (Option RunForm) Fault
read_prework None s = Ok None
read_prework (Some w) s = on_ok (read_work 0 w s) (λ r. Ok (Some r))

-- the slots of that of both which has more
abbrev pub slots_for : Option RunForm → ℕ → ℕ
slots_for None n = n
slots_for (Some r) n = max r.body.slots n

abbrev pub with_slots : ℕ → BodyForm → BodyForm
with_slots n b = record { inputs = b.inputs; slots = n; steps = b.steps }

abbrev pub widened : ℕ → RunForm → RunForm
widened n r = record { peek = r.peek; pop = r.pop; push = r.push; body = with_slots n r.body }

abbrev pub widened_first : ℕ → Option RunForm → Option RunForm
widened_first n None = None
widened_first n (Some r) = Some (widened n r)

-- what is read of `prework` and `work`, put together
abbrev pub form_of_runs : List ℤ → Option RunForm → RunForm → FilterForm
form_of_runs starts p w =
    let n = slots_for p w.body.slots in
    record { peek = w.peek; pop = w.pop; push = w.push; body = with_slots n w.body; starts = starts; first = widened_first n p }

-- the fields start as the statements of `init` leave them
abbrev pub elaborated_form : FilterTree → Steps × At → Option RunForm → RunForm → FilterForm
elaborated_form t i p w = form_of_runs (starts_of (length t.fields) i) p w

-- in the order in which it is written: the fields, `init`, `prework` and `work`, whose locals each begin behind the fields
abbrev pub elaborated : FilterTree → Result FilterForm Fault
elaborated t =
    on_ok (read_fields t.fields nothing_read) (λ s.
    on_ok (optional_of 0 t.init s) (λ i.
    on_ok (read_prework t.prework s) (λ p.
    on_ok (read_work 1 t.work s) (λ w. Ok (elaborated_form t i p w)))))
