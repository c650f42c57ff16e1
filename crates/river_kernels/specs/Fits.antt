-- When a kernel fits the types of its ports and its variables.
use Rattle.std.specs.Prelude.{◌≡◌, ℕ, ◌+◌, Bool, true, false, ◌&&◌, nat_le, IsTrue, Some, List, [], ◌∷◌, ◌++◌, length, map, take, drop, replicate, slice_get, ℤ}
use Rattle.std.specs.List.{list_all}
use Rattle.river_base.specs.declared.kind.FlatType.{FlatType}
use Rattle.river_base.specs.declared.kind.QueueType.{QueueType}
use Rattle.river_base.specs.declared.kind.FlatType.TheVariants.{Rows, Stream, Relation}
use Rattle.river_base.specs.declared.kind.QueueType.TheVariants.{Flat, Pack}
use Rattle.river_kernels.specs.Kern.{Kern, code, filter, duplicate, deal, collect, packed, unpack, window, select, project, cross, streamer, tally, fused}
use Rattle.river_base.specs.Number.{count_of}
use Rattle.river_kernels.specs.Formed.{is_width, is_term, is_code, is_filter, are_weights, is_window}
use Rattle.river_kernels.specs.declared.types.VarKind.{VarKind}
use Rattle.river_kernels.specs.declared.types.VarKind.TheVariants.{Private, Table}

-- queues of rows, of a stream, of a relation
abbrev pub rows : ℕ → QueueType
rows w = Flat (Rows w)

abbrev pub stream : ℕ → QueueType
stream w = Flat (Stream w)

abbrev pub relation : ℕ → QueueType
relation w = Flat (Relation w)

abbrev pub width_of : FlatType → ℕ
width_of (Rows w) = w
width_of (Stream w) = w
width_of (Relation w) = w

abbrev pub is_sized : FlatType → Bool
is_sized t = is_width (width_of t)

abbrev pub is_bag : FlatType → Bool
is_bag (Rows w) = false
is_bag (Stream w) = true
is_bag (Relation w) = true

-- the output ports of a `code`
abbrev pub ports : List ℤ → List QueueType
ports outs = map (λ w. rows (count_of w)) outs

abbrev pub are_widths : List ℤ → Bool
are_widths outs = list_all (λ w. is_width (count_of w)) outs

-- the slots that are kept are one variable
abbrev pub kept : List ℤ → List VarKind
kept [] = []
kept (z ∷ zs) = Private ∷ []

-- the ports of the first kernel, with those of the second in place of port `at`
abbrev pub spliced : {A : Type 0} → ℕ → List A → List A → List A
spliced at firsts seconds = take at firsts ++ (seconds ++ drop (at + 1) firsts)

-- The kernel is well formed, reads queues of the types `is`, writes queues of the types `os`, and has the variables `vs`, private ones
-- and tables, in this order. All widths are 1 to 16, those of ports between two kernels included.
abbrev pub Fits : Kern → List QueueType → List QueueType → List VarKind → Type 0
Fits (code k) is os vs =
    (is ≡ rows k.body.inputs ∷ []) × (os ≡ ports k.outs) × (vs ≡ kept k.starts) × IsTrue (is_width k.body.inputs && (are_widths k.outs && is_code k))
Fits (filter f) is os vs = (is ≡ rows 1 ∷ []) × (os ≡ rows 1 ∷ []) × (vs ≡ Private ∷ []) × IsTrue (is_filter f)
Fits (duplicate n) is os vs = (t : FlatType) × (is ≡ Flat t ∷ []) × (os ≡ replicate n (Flat t)) × (vs ≡ []) × IsTrue (is_sized t && nat_le 1 n)
Fits (deal ws) is os vs =
    (t : FlatType) × (is ≡ Flat t ∷ []) × (os ≡ replicate (length ws) (Flat t)) × (vs ≡ Private ∷ []) × IsTrue (is_sized t && are_weights ws)
Fits (collect ws) is os vs =
    (t : FlatType) × (is ≡ replicate (length ws) (Flat t)) × (os ≡ Flat t ∷ []) × (vs ≡ Private ∷ []) × IsTrue (is_sized t && are_weights ws)
Fits (packed k) is os vs = (t : FlatType) × (u : FlatType) × (is ≡ Flat t ∷ []) × (os ≡ Pack u ∷ []) × (vs ≡ []) × Fits k (Flat t ∷ []) (Flat u ∷ []) []
Fits (unpack n) is os vs = (t : FlatType) × (is ≡ replicate n (Pack t)) × (os ≡ Flat t ∷ []) × (vs ≡ Private ∷ []) × IsTrue (is_sized t && nat_le 1 n)
Fits (window w) is os vs = (n : ℕ) × (is ≡ stream n ∷ []) × (os ≡ relation n ∷ []) × (vs ≡ Private ∷ []) × IsTrue (is_width n && is_window w)
Fits (select e) is os vs = (t : FlatType) × (is ≡ Flat t ∷ []) × (os ≡ Flat t ∷ []) × (vs ≡ []) × IsTrue (is_sized t && (is_bag t && is_term (width_of t) 0 e))
Fits (project es) is os vs =
    (n : ℕ) × (is ≡ relation n ∷ []) × (os ≡ relation (length es) ∷ []) × (vs ≡ []) × IsTrue (is_width n && (is_width (length es) && list_all (is_term n 0) es))
Fits cross is os vs =
    (a : ℕ) × (b : ℕ) × (is ≡ relation a ∷ relation b ∷ []) × (os ≡ relation (a + b) ∷ []) × (vs ≡ Private ∷ [])
    × IsTrue (is_width a && (is_width b && is_width (a + b)))
Fits (streamer s) is os vs = (n : ℕ) × (is ≡ relation n ∷ []) × (os ≡ stream n ∷ []) × (vs ≡ Private ∷ []) × IsTrue (is_width n)
Fits tally is os vs = (n : ℕ) × (is ≡ rows n ∷ []) × (os ≡ []) × (vs ≡ Table n ∷ []) × IsTrue (is_width n)
Fits (fused a b at) is os vs =
    (ms : List QueueType) × (m : QueueType) × (bs : List QueueType) × (us : List VarKind) × (ws : List VarKind)
    × Fits a is ms us × (slice_get ms at ≡ Some m) × Fits b (m ∷ []) bs ws × (os ≡ spliced at ms bs) × (vs ≡ us ++ ws)
