-- The types of what a kernel writes, and its variables, from the types of what it reads.
use Rattle.std.specs.Prelude.{◌≡◌, ℕ, ◌+◌, ◌<◌, Bool, true, false, ◌&&◌, nat_le, nat_eq, if◌then◌else◌, Option, Some, None, List, [], ◌∷◌, ◌++◌, length}
use Rattle.std.specs.Prelude.{replicate, slice_get}
use Rattle.std.specs.List.{list_all}
use Rattle.river_base.specs.declared.kind.FlatType.{FlatType}
use Rattle.river_base.specs.declared.kind.QueueType.{QueueType}
use Rattle.river_base.specs.declared.kind.FlatType.TheVariants.{Rows, Stream, Relation}
use Rattle.river_base.specs.declared.kind.QueueType.TheVariants.{Flat, Pack}
use Rattle.river_kernels.specs.Kern.{Kern, code, filter, duplicate, deal, collect, packed, unpack, window, select, project, cross, streamer, tally, fused}
use Rattle.river_kernels.specs.Formed.{is_width, is_term, is_code, is_filter, are_weights, is_window}
use Rattle.river_kernels.specs.Fits.{rows, stream, relation, width_of, is_sized, is_bag, ports, are_widths, kept, spliced}
use Rattle.river_kernels.specs.declared.types.VarKind.{VarKind}
use Rattle.river_kernels.specs.declared.types.VarKind.TheVariants.{Private, Table}
use Rattle.river_kernels.specs.declared.types.Types.{Types}

-- the types of the output ports, and the variables
abbrev pub given : List QueueType → List VarKind → Types
given os vs = record { outs = os; vars = vs }

abbrev pub given_if : Bool → List QueueType → List VarKind → Option Types
given_if true os vs = Some (given os vs)
given_if false os vs = None

-- what f gives for the value that is there
abbrev pub bind : {A B : Type 0} → Option A → (A → Option B) → Option B
bind None f = None
bind (Some x) f = f x

-- the type of the only queue, where it carries no packs
abbrev pub only_type : List QueueType → Option FlatType
only_type [] = None
only_type (Flat t ∷ []) = Some t
only_type (Pack t ∷ []) = None
only_type (t ∷ u ∷ us) = None

abbrev pub on_only_type : List QueueType → (FlatType → Option Types) → Option Types
on_only_type is f = bind (only_type is) f

-- the width of rows, of a stream, of a relation
abbrev pub rows_width : FlatType → Option ℕ
rows_width (Rows n) = Some n
rows_width (Stream n) = None
rows_width (Relation n) = None

abbrev pub stream_width : FlatType → Option ℕ
stream_width (Rows n) = None
stream_width (Stream n) = Some n
stream_width (Relation n) = None

abbrev pub relation_width : FlatType → Option ℕ
relation_width (Rows n) = None
relation_width (Stream n) = None
relation_width (Relation n) = Some n

abbrev pub on_rows_width : FlatType → (ℕ → Option Types) → Option Types
on_rows_width t f = bind (rows_width t) f

abbrev pub stream_in : FlatType → (ℕ → Option Types) → Option Types
stream_in t f = bind (stream_width t) f

abbrev pub relation_in : FlatType → (ℕ → Option Types) → Option Types
relation_in t f = bind (relation_width t) f

abbrev pub same_flat : FlatType → FlatType → Bool
same_flat (Rows m) (Rows n) = nat_eq m n
same_flat (Rows m) (Stream n) = false
same_flat (Rows m) (Relation n) = false
same_flat (Stream m) (Rows n) = false
same_flat (Stream m) (Stream n) = nat_eq m n
same_flat (Stream m) (Relation n) = false
same_flat (Relation m) (Rows n) = false
same_flat (Relation m) (Stream n) = false
same_flat (Relation m) (Relation n) = nat_eq m n

abbrev pub same_type : QueueType → QueueType → Bool
same_type (Flat t) (Flat u) = same_flat t u
same_type (Flat t) (Pack u) = false
same_type (Pack t) (Flat u) = false
same_type (Pack t) (Pack u) = same_flat t u

-- the type of so many queues, where they are all of it
abbrev pub all_flat : ℕ → List QueueType → Option FlatType
all_flat n [] = None
all_flat n (Flat t ∷ ts) = if nat_eq (length ts + 1) n && list_all (same_type (Flat t)) ts then Some t else None
all_flat n (Pack t ∷ ts) = None

abbrev pub all_packs : ℕ → List QueueType → Option FlatType
all_packs n [] = None
all_packs n (Flat t ∷ ts) = None
all_packs n (Pack t ∷ ts) = if nat_eq (length ts + 1) n && list_all (same_type (Pack t)) ts then Some t else None

abbrev pub flats_in : ℕ → List QueueType → (FlatType → Option Types) → Option Types
flats_in n is f = bind (all_flat n is) f

abbrev pub packs_in : ℕ → List QueueType → (FlatType → Option Types) → Option Types
packs_in n is f = bind (all_packs n is) f

-- the widths of two relations
abbrev pub two_widths : QueueType → QueueType → Option (ℕ × ℕ)
two_widths (Flat (Relation a)) (Flat (Relation b)) = Some (a, b)
two_widths t u = None

abbrev pub two_relations : List QueueType → Option (ℕ × ℕ)
two_relations [] = None
two_relations (t ∷ []) = None
two_relations (t ∷ u ∷ []) = two_widths t u
two_relations (t ∷ u ∷ v ∷ vs) = None

abbrev pub crossed_types : ℕ × ℕ → Option Types
crossed_types w = given_if (is_width w.0 && (is_width w.1 && is_width (w.0 + w.1))) (relation (w.0 + w.1) ∷ []) (Private ∷ [])

-- one pack of what the kernel inside gives at its only port
abbrev pub packed_outs : List QueueType → List VarKind → Option Types
packed_outs (Flat u ∷ []) [] = Some (given (Pack u ∷ []) [])
packed_outs os vs = None

abbrev pub packed_of : Option Types → Option Types
packed_of None = None
packed_of (Some p) = packed_outs p.outs p.vars

-- the second kernel behind a port of the first
abbrev pub joined_types : ℕ → Types → Option Types → Option Types
joined_types at p None = None
joined_types at p (Some q) = Some (given (spliced at p.outs q.outs) (p.vars ++ q.vars))

abbrev pub behind : ℕ → Types → Option QueueType → (List QueueType → Option Types) → Option Types
behind at p None f = None
behind at p (Some m) f = joined_types at p (f (m ∷ []))

abbrev pub fused_types : ℕ → Option Types → (List QueueType → Option Types) → Option Types
fused_types at None f = None
fused_types at (Some p) f = behind at p (slice_get p.outs at) f

abbrev pub types_of : Kern → List QueueType → Option Types
types_of (code k) is =
    on_only_type is (λ t. on_rows_width t (λ n. given_if (nat_eq n k.body.inputs && (is_width k.body.inputs && (are_widths k.outs && is_code k)))
    (ports k.outs) (kept k.starts)))
types_of (filter f) is = on_only_type is (λ t. on_rows_width t (λ n. given_if (nat_eq n 1 && is_filter f) (rows 1 ∷ []) (Private ∷ [])))
types_of (duplicate n) is = on_only_type is (λ t. given_if (is_sized t && nat_le 1 n) (replicate n (Flat t)) [])
types_of (deal ws) is = on_only_type is (λ t. given_if (is_sized t && are_weights ws) (replicate (length ws) (Flat t)) (Private ∷ []))
types_of (collect ws) is = flats_in (length ws) is (λ t. given_if (is_sized t && are_weights ws) (Flat t ∷ []) (Private ∷ []))
types_of (packed k) is = on_only_type is (λ t. packed_of (types_of k (Flat t ∷ [])))
types_of (unpack n) is = packs_in n is (λ t. given_if (is_sized t && nat_le 1 n) (Flat t ∷ []) (Private ∷ []))
types_of (window w) is = on_only_type is (λ t. stream_in t (λ n. given_if (is_width n && is_window w) (relation n ∷ []) (Private ∷ [])))
types_of (select e) is = on_only_type is (λ t. given_if (is_sized t && (is_bag t && is_term (width_of t) 0 e)) (Flat t ∷ []) [])
types_of (project es) is =
    on_only_type is (λ t. relation_in t (λ n. given_if (is_width n && (is_width (length es) && list_all (is_term n 0) es)) (relation (length es) ∷ []) []))
types_of cross is = bind (two_relations is) crossed_types
types_of (streamer s) is = on_only_type is (λ t. relation_in t (λ n. given_if (is_width n) (stream n ∷ []) (Private ∷ [])))
types_of tally is = on_only_type is (λ t. on_rows_width t (λ n. given_if (is_width n) [] (Table n ∷ [])))
types_of (fused a b at) is = fused_types at (types_of a is) (types_of b)

-- what the code may answer: the types, or None also where there are more output ports than `most`
abbrev pub MayAnswer : ℕ → Option Types → Option Types → Type 0
MayAnswer most (Some p) (Some r) = r ≡ p
MayAnswer most (Some p) None = most < length p.outs
MayAnswer most None (Some r) = ⊥
MayAnswer most None None = Unit {0}
