-- One firing of a kernel, after the Brooklet calculus (Soulé and others, ESOP 2010): an item at a port and the states of
-- the private variables give items at the output ports, rows for the tables, and the new states.
use Rattle.std.specs.Prelude.{ℕ, ℤ, pos, List, [], ◌∷◌, ◌++◌, length, take, drop, nat_lt, if◌then◌else◌, slice_index_or}
use Rattle.river_base.specs.declared.item.Item as item
use Rattle.river_base.specs.declared.item.Item.TheVariants.{Flat, Pack}
use Rattle.river_base.specs.declared.item.Flat.TheVariants.{One, Batch as Batched, Change as Changed}
use Rattle.river_base.specs.Held.{flats, items_of}
use Rattle.river_base.specs.Places.{only, none}
use Rattle.work_code.specs.Ran.{Ran}
use Rattle.kern_rows.specs.Forms.{CodeForm, FilterForm}
use Rattle.kern_rows.specs.Runs.{run_kept, pushed_to, Filtered, filter_start, filter_one}
use Rattle.kern_rows.specs.Turns.{Turns, shares, ones, turns_start, next_port, next_had, joins, itself}
use Rattle.kern_bags.specs.Steps.{Pairing, window_one, select_one, project_one, streamer_one, crosses}
use Rattle.river_kernels.specs.Kern.{Kern, code, filter, duplicate, deal, collect, packed, unpack, window, select, project, cross, streamer, tally, fused}
use Rattle.river_kernels.specs.Shape.{shape}
pub use Rattle.river_kernels.specs.Shape.{kept_vars}
use Rattle.brooklet_model.specs.Firings.{Kept, Slots, Buffered, Turn, Joining, Received, Crossing, Fired, gives, feed, fused_of}

-- how many input ports, output ports, tables and private variables a kernel has
abbrev pub ins : Kern → ℕ
ins k = (shape k).ins

abbrev pub outs : Kern → ℕ
outs k = (shape k).outs

abbrev pub tabs : Kern → ℕ
tabs k = (shape k).tables

abbrev pub privates : Kern → ℕ
privates k = (shape k).privates

abbrev pub first_slots : List ℤ → List Kept
first_slots [] = []
first_slots (z ∷ zs) = Slots (z ∷ zs) ∷ []

-- the states before the first firing
abbrev pub first_kept : Kern → List Kept
first_kept (code k) = first_slots k.starts
first_kept (filter f) = Buffered (filter_start f) ∷ []
first_kept (duplicate n) = []
first_kept (deal ws) = Turn 0 0 ∷ []
first_kept (collect ws) = Joining (turns_start (length ws)) ∷ []
first_kept (packed k) = first_kept k
first_kept (unpack n) = Joining (turns_start n) ∷ []
first_kept (window w) = Received [] ∷ []
first_kept (select e) = []
first_kept (project es) = []
first_kept cross = Crossing (record { left = []; right = [] }) ∷ []
first_kept (streamer s) = Received [] ∷ []
first_kept tally = []
first_kept (fused a b at) = first_kept a ++ first_kept b

-- the values of a row
abbrev pub values_of : item.Item → List ℤ
values_of (Flat (One row)) = row
values_of (Flat (Batched b)) = []
values_of (Flat (Changed c)) = []
values_of (Pack fs) = []

abbrev pub value_of : item.Item → ℤ
value_of x = slice_index_or (values_of x) 0 (pos 0)

-- what a body pushes, and its states: the slots that it keeps, or none
abbrev pub ran_fired : Ran → List Kept → Fired
ran_fired r ss = record { outs = λ p. pushed_to p r.pushes; adds = none; states = ss }

abbrev pub code_one : CodeForm → item.Item → List Kept → Fired
code_one k x [] = ran_fired (run_kept k.body [] (values_of x)) []
code_one k x (Slots kept ∷ ss) = let r = run_kept k.body kept (values_of x) in ran_fired r (Slots r.slots ∷ ss)
code_one k x (s ∷ ss) = gives 0 [] (s ∷ ss)

abbrev pub filter_fired : Filtered → List Kept → Fired
filter_fired r ss = record { outs = λ p. pushed_to p r.pushes; adds = none; states = Buffered r.after ∷ ss }

abbrev pub filter_firing : FilterForm → item.Item → List Kept → Fired
filter_firing f x (Buffered s ∷ ss) = filter_fired (filter_one f (value_of x) s) ss
filter_firing f x ss = gives 0 [] ss

abbrev pub deal_one : List ℕ → item.Item → List Kept → Fired
deal_one ws x (Turn port had ∷ ss) = gives port (x ∷ []) (Turn (next_port ws port had) (next_had ws port had) ∷ ss)
deal_one ws x ss = gives 0 [] ss

abbrev pub joined_fired : List item.Item × Turns → List Kept → Fired
joined_fired d ss = gives 0 d.0 (Joining d.1 ∷ ss)

-- a joiner; `give` says what one item gives when it passes
abbrev pub join_one : (item.Item → List item.Item) → List ℕ → ℕ → item.Item → List Kept → Fired
join_one give ws p x (Joining s ∷ ss) = joined_fired (joins give ws p x s) ss
join_one give ws p x ss = gives 0 [] ss

-- a window or a streamer, whose state is all that it has received
abbrev pub received_one : (List item.Item → item.Item → List item.Item) → item.Item → List Kept → Fired
received_one one x (Received past ∷ ss) = gives 0 (one past x) (Received (past ++ x ∷ []) ∷ ss)
received_one one x ss = gives 0 [] ss

abbrev pub crossed_fired : List item.Item × Pairing → List Kept → Fired
crossed_fired d ss = gives 0 d.0 (Crossing d.1 ∷ ss)

abbrev pub cross_one : ℕ → item.Item → List Kept → Fired
cross_one p x (Crossing s ∷ ss) = crossed_fired (crosses p x s) ss
cross_one p x ss = gives 0 [] ss

-- one firing of a kernel on an item at a port
abbrev pub fire : Kern → ℕ → item.Item → List Kept → Fired
fire (code k) p x ss = code_one k x ss
fire (filter f) p x ss = filter_firing f x ss
fire (duplicate n) p x ss = record { outs = λ q. if nat_lt q n then x ∷ [] else []; adds = none; states = ss }
fire (deal ws) p x ss = deal_one (shares ws) x ss
fire (collect ws) p x ss = join_one itself (shares ws) p x ss
fire (packed k) p x ss = let r = fire k p x ss in gives 0 (Pack (flats (r.outs 0)) ∷ []) r.states
fire (unpack n) p x ss = join_one items_of (ones n) p x ss
fire (window w) p x ss = received_one (window_one w) x ss
fire (select e) p x ss = gives 0 (select_one e x) ss
fire (project es) p x ss = gives 0 (project_one es x) ss
fire cross p x ss = cross_one p x ss
fire (streamer s) p x ss = received_one (streamer_one s) x ss
fire tally p x ss = record { outs = none; adds = only 0 (values_of x ∷ []); states = ss }
fire (fused a b at) p x ss =
    fused_of at (outs b) (tabs a) (fire a p x (take (privates a) ss)) (λ xs. feed (fire b 0) xs (drop (privates a) ss))
