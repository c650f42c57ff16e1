-- When the bodies and expressions of kernels are well formed.
use Rattle.std.specs.Prelude.{ℕ, ℤ, pos, negsuc, ◌+◌, ◌-◌, Bool, true, false, ◌&&◌, nat_lt, nat_le, nat_eq, if◌then◌else◌, Option, Some, None, List, [], ◌∷◌}
use Rattle.std.specs.Prelude.{length, slice_get}
use Rattle.std.specs.List.{list_all}
use Rattle.river_base.specs.Number.{count_of}
use Rattle.work_code.specs.Term.{Term, Const, Input, Slot, Neg, Not, Bin, depth_of}
use Rattle.work_code.specs.Steps.{Step, Steps, Set, Push, If, Done, Then}
use Rattle.kern_rows.specs.Forms.{CodeForm, FilterForm, RunForm}
use Rattle.kern_bags.specs.declared.kernel.Window.{Window}
use Rattle.kern_bags.specs.declared.kernel.Window.TheVariants.{Now, Range, Unbounded, Latest}

-- how many values a row may have
abbrev pub is_width : ℕ → Bool
is_width w = nat_le 1 w && nat_le w 16

-- each index of the input and each slot is below its bound, and no constant is below 0
abbrev pub is_sound : ℕ → ℕ → Term → Bool
is_sound inputs slots (Const (pos n)) = true
is_sound inputs slots (Const (negsuc n)) = false
is_sound inputs slots (Input place) = nat_lt place inputs
is_sound inputs slots (Slot slot) = nat_lt slot slots
is_sound inputs slots (Neg t) = is_sound inputs slots t
is_sound inputs slots (Not t) = is_sound inputs slots t
is_sound inputs slots (Bin op l r) = is_sound inputs slots l && is_sound inputs slots r

-- such an expression, at most 64 deep
abbrev pub is_term : ℕ → ℕ → Term → Bool
is_term inputs slots t = is_sound inputs slots t && nat_le (depth_of t) 64

-- the number is there, and it counts n
abbrev pub counts : Option ℤ → ℕ → Bool
counts (Some w) n = nat_eq (count_of w) n
counts None n = false

-- `port` is one of the ports, whose rows have these widths, and its width is n
abbrev pub has_port : List ℤ → ℕ → ℕ → Bool
has_port outs port n = counts (slice_get outs port) n

-- each slot that is set is there, each push names a port and has as many values as the port's width, each expression is well formed
abbrev mutual
  pub is_step : ℕ → ℕ → List ℤ → Step → Bool
  is_step inputs slots outs (Set slot t) = nat_lt slot slots && is_term inputs slots t
  is_step inputs slots outs (Push port ts) = has_port outs port (length ts) && list_all (is_term inputs slots) ts
  is_step inputs slots outs (If cond when otherwise) = is_term inputs slots cond && (is_steps inputs slots outs when && is_steps inputs slots outs otherwise)

  pub is_steps : ℕ → ℕ → List ℤ → Steps → Bool
  is_steps inputs slots outs Done = true
  is_steps inputs slots outs (Then s ss) = is_step inputs slots outs s && is_steps inputs slots outs ss

-- two numbers together
abbrev pub both_counts : Option ℕ → Option ℕ → Option ℕ
both_counts (Some m) (Some n) = Some (m + n)
both_counts (Some m) None = None
both_counts None n = None

-- the number that two arms share
abbrev pub same : Option ℕ → Option ℕ → Option ℕ
same (Some m) (Some n) = if nat_eq m n then Some m else None
same (Some m) None = None
same None n = None

-- how many rows each run pushes; None where the two arms of an `if` push different numbers
abbrev mutual
  pub pushes_once : Step → Option ℕ
  pushes_once (Set slot t) = Some 0
  pushes_once (Push port ts) = Some 1
  pushes_once (If cond when otherwise) = same (pushes when) (pushes otherwise)

  pub pushes : Steps → Option ℕ
  pushes Done = Some 0
  pushes (Then s ss) = both_counts (pushes_once s) (pushes ss)

-- what is left of `room` where so many are taken from it; None where they are more
abbrev pub left_of : Option ℕ → ℕ → Option ℕ
left_of (Some n) room = if nat_le n room then Some (room - n) else None
left_of None room = None

abbrev pub is_number : Option ℕ → ℕ → Bool
is_number (Some m) n = nat_eq m n
is_number None n = false

-- the body of a `code` is well formed: its inputs are the row's values, and the kept slots are among its slots
abbrev pub is_code : CodeForm → Bool
is_code k = is_steps k.body.inputs k.body.slots k.outs k.body.steps && nat_le (length k.starts) k.body.slots

-- the inputs of a `filter` are the first values of the buffer; at least one value leaves it at each run, and no more than these
abbrev pub has_rates : FilterForm → Bool
has_rates f = nat_eq f.body.inputs f.peek && (nat_le 1 f.pop && nat_le f.pop f.peek)

-- the body of a `filter` is well formed, the kept slots are among its slots, and each run pushes so many rows of one value to port 0
abbrev pub is_usual : FilterForm → Bool
is_usual f =
    has_rates f && (is_steps f.peek f.body.slots (pos 1 ∷ []) f.body.steps && (nat_le (length f.starts) f.body.slots && is_number (pushes f.body.steps) f.push))

-- a first run has as many slots as the others; its inputs are the first values of the buffer, of which no more than these leave it; it
-- pushes so many rows of one value to port 0
abbrev pub is_run : ℕ → RunForm → Bool
is_run slots r =
    nat_eq r.body.inputs r.peek && (nat_eq r.body.slots slots && (nat_le r.pop r.peek
    && (is_steps r.peek slots (pos 1 ∷ []) r.body.steps && is_number (pushes r.body.steps) r.push)))

abbrev pub is_first : ℕ → Option RunForm → Bool
is_first slots None = true
is_first slots (Some r) = is_run slots r

abbrev pub is_filter : FilterForm → Bool
is_filter f = is_usual f && is_first f.body.slots f.first

-- there are weights, and each is at least 1
abbrev pub are_weights : List ℤ → Bool
are_weights ws = nat_le 1 (length ws) && list_all (λ w. nat_le 1 (count_of w)) ws

-- a window of the last rows has at least 1
abbrev pub is_window : Window → Bool
is_window Now = true
is_window (Range t) = true
is_window Unbounded = true
is_window (Latest n) = nat_le 1 n
