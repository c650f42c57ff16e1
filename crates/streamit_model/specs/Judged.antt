-- Whether a program is accepted: the trees of its streams, or the first fault in reading order and its unit.
use Rattle.std.specs.Prelude.{ℕ, suc, Bool, true, ◌&&◌, List, [], ◌∷◌, length, nat_lt, nat_le, nat_eq, Option, Some, None, Result, Ok, Err}
use Rattle.std.specs.List.{list_all}
use Rattle.river_plan.specs.Forms.{Name}
use Rattle.streamit_model.specs.Unrolled.{Splitter, Duplicate, RoundRobin, Stream, Filter, Pipeline, SplitJoin, Streams, Last, Then, nesting}
use Rattle.brooklet_model.specs.ByIndex.{cycle}
use Rattle.streamit_model.specs.Plan.{ops_in}
use Rattle.streamit_model.specs.Elaborate.{on_ok, demand}
use Rattle.streamit_model.specs.declared.fault.Fault.{Fault}
use Rattle.streamit_model.specs.declared.fault.Refusal.{Refusal}
use Rattle.streamit_model.specs.declared.fault.Fault.TheVariants.{UnknownName, NameTwice, Limit, Weights}
use Rattle.streamit_model.specs.ElaborateFilter.{elaborated}
use Rattle.streamit_text.specs.Program.{Dealing, Copies, Turns, Body, AFilter, APipeline, ASplitJoin, UnitForm, Program}
use Rattle.streamit_model.specs.Meaning.{weights_for, look, branch_count}

-- what f gives for the value that is there
abbrev pub on_fine : {A B : Type 0} → Result A Refusal → (A → Result B Refusal) → Result B Refusal
on_fine (Ok x) f = f x
on_fine (Err e) f = Err e

-- what f gives for the value of unit k, or its fault
abbrev pub in_unit : {A B : Type 0} → ℕ → Result A Fault → (A → Result B Refusal) → Result B Refusal
in_unit k (Ok x) f = f x
in_unit k (Err e) f = Err (record { unit = k; fault = e })

-- the streams that are declared so far, the newest first
abbrev pub Streamed : Type 0
Streamed = List (Name × Stream)

abbrev pub found_stream : Option Stream → Result Stream Fault
found_stream None = Err UnknownName
found_stream (Some s) = Ok s

-- the stream that is added as number i, from 0: whether there may be so many, then its name, then how deep it is nested
abbrev pub stream_added : (ℕ → Bool) → Streamed → ℕ → Name → Result Stream Fault
stream_added may known i n = on_ok (demand (may i) Limit) (λ u. on_ok (found_stream (look known n)) (λ s. on_ok (demand (nat_lt (nesting s) 64) Limit) (λ v. Ok s)))

abbrev pub streams_added : (ℕ → Bool) → Streamed → ℕ → Name → List Name → Result Streams Fault
streams_added may known i n [] = on_ok (stream_added may known i n) (λ s. Ok (Last s))
streams_added may known i n (m ∷ ms) = on_ok (stream_added may known i n) (λ s. on_ok (streams_added may known (suc i) m ms) (λ ss. Ok (Then s ss)))

-- a pipeline may have any number of streams, a split-join 64 branches
abbrev pub any : ℕ → Bool
any i = true

abbrev pub branches : ℕ → Bool
branches i = nat_lt i 64

-- the weights of n branches: one for each, none of them 0, and then their sum
abbrev pub fitting_round : List ℕ → ℕ → Result (List ℕ) Fault
fitting_round vs n =
    on_ok (demand (nat_eq (length vs) n && list_all (λ w. nat_le 1 w) vs) Weights) (λ u. on_ok (demand (nat_le (cycle vs) 65536) Limit) (λ v. Ok vs))

abbrev pub round_of : Option (List ℕ) → ℕ → Result (List ℕ) Fault
round_of ws n = fitting_round (weights_for ws n) n

abbrev pub splitter_of : Dealing → ℕ → Result Splitter Fault
splitter_of Copies n = Ok Duplicate
splitter_of (Turns ws) n = on_ok (round_of ws n) (λ vs. Ok (RoundRobin vs))

-- a split-join is read in the order in which it is written: the splitter, the branches, the joiner
abbrev pub stream_of : Streamed → Name → Body → Result Stream Fault
stream_of known name (AFilter t) = on_ok (elaborated t) (λ f. Ok (Filter name f))
stream_of known name (APipeline a) = on_ok (streams_added any known 0 a.first a.others) (λ ss. Ok (Pipeline ss))
stream_of known name (ASplitJoin d a ws) =
    on_ok (splitter_of d (branch_count a)) (λ p.
    on_ok (streams_added branches known 0 a.first a.others) (λ ss.
    on_ok (round_of ws (branch_count a)) (λ vs. Ok (SplitJoin p ss vs))))

abbrev pub not_there : Option Stream → Result (Unit {0}) Fault
not_there None = Ok tt
not_there (Some s) = Err NameTwice

-- a stream's name is judged first
abbrev pub unit_of : Streamed → UnitForm → Result Stream Fault
unit_of known u = on_ok (not_there (look known u.name)) (λ z. stream_of known u.name u.body)

-- unit k and those after it
abbrev pub all_streams : ℕ → Streamed → Program → Result Streamed Refusal
all_streams k known [] = Ok known
all_streams k known (u ∷ us) = in_unit k (unit_of known u) (λ s. all_streams (suc k) ((u.name, s) ∷ known) us)

-- the plan of the last stream has at most 256 operators
abbrev pub few_operators : Streamed → Result (Unit {0}) Fault
few_operators [] = Ok tt
few_operators (e ∷ known) = demand (nat_le (ops_in e.1) 256) Limit

-- all units of a program, numbered from 1, and then the limits of its plan, which are told at the last
abbrev pub judged : Program → Result Streamed Refusal
judged p = on_fine (all_streams 1 [] p) (λ known. in_unit (length p) (few_operators known) (λ u. Ok known))
