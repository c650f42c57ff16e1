-- A piece of the files of a CQL program (Arasu, Babu, Widom, 2006) is what each of them has from an instant of its own on, up to one for
-- all. What the program gives on it need not be right from its first instant on: windows look back to what the piece has not, and a
-- streamer looks at the instant before. Here is, for each stream, the bound above which what the piece gives is what the whole gives.
-- It is reckoned from what the piece reads and gives, and from the instants before it.
use Rattle.std.specs.Prelude.{ℕ, ℤ, pos, ◌+ℤ◌, Bool, true, List, [], ◌∷◌, length, map, filter, flat_map, fold, ◌&&◌, int_le, int_lt, nat_lt, not, Option, Some, None, if◌then◌else◌}
use Rattle.river_base.specs.Instants.{Timed, instants}
use Rattle.river_base.specs.Name.{name_eq}
use Rattle.kern_bags.specs.Contents.{later}
use Rattle.cql_text.specs.Tree.{Name, Window, Now, Range, Unbounded, Latest, Source, Query, Register, AQuery, Program}
use Rattle.cql_text.specs.declared.tree.Kind.{Kind}
use Rattle.cql_text.specs.declared.tree.Kind.TheVariants.{Istream, Dstream, Rstream}
use Rattle.cql_model.specs.Streams.{last_instant}
use Rattle.cql_model.specs.Meaning.{KnownStream, rows_named, stream_known, query_known, other_files}

-- the timed rows of a file: the instant of each, and its fields
abbrev pub File : Type 0
File = List (ℤ × List ℤ)

-- THE PIECE

-- an instant is in this stretch of time, both ends included
abbrev pub within : ℤ → ℤ → ℤ → Bool
within lo hi t = int_le lo t && int_le t hi

-- what a file has from one instant up to another
abbrev pub cut_file : ℤ → ℤ → File → File
cut_file lo hi file = filter (λ e. within lo hi e.0) file

-- a file, and the instant from which a piece has it
pub record Cut : Type 0 where
  pub lo : ℤ
  pub file : File

-- the piece: what each file has from its instant on, up to one for all
abbrev pub cut_files : ℤ → List Cut → List File
cut_files hi cuts = map (λ c. cut_file c.lo hi c.file) cuts

-- the files as they were
abbrev pub whole_files : List Cut → List File
whole_files cuts = map (λ c. c.file) cuts

-- the piece has all files from this instant on
abbrev pub is_full : List Cut → ℤ → Bool
is_full [] t = true
is_full (c ∷ cs) t = int_le c.lo t && is_full cs t

-- the last of these instants at which a file is not there yet; None where all files are there at all of them
abbrev pub missing : List Cut → List ℤ → Option ℤ
missing cuts ts = last_instant (filter (λ u. not (is_full cuts u)) ts)

-- the last of these instants before a file's part, for each file
abbrev pub last_before : ℤ → List ℤ → Option ℤ
last_before lo ts = last_instant (filter (λ u. int_lt u lo) ts)

-- for each of the cuts
abbrev pub starts_of : List Cut → List ℤ → List (Option ℤ)
starts_of cuts ts = map (λ c. last_before c.lo ts) cuts

-- FROM WHERE ON IT IS RIGHT

-- A bound: right at every instant above it. None: right at every instant of the piece.
abbrev pub settled : Option ℤ → ℤ → Bool
settled None t = true
settled (Some m) t = int_lt m t

-- the later of two bounds
abbrev pub both : Option ℤ → Option ℤ → Option ℤ
both None o = o
both (Some m) None = Some m
both (Some m) (Some n) = Some (later m n)

-- the rows of a stream that came behind m, up to t
abbrev pub rows_since : List ℤ → Timed → ℤ → ℤ → List (List ℤ)
rows_since vs s m t = flat_map s (filter (λ u. int_lt m u && int_le u t) vs)

-- the latest of m and of the instants at which fewer than n rows have come behind m
abbrev pub filled : ℕ → List ℤ → Timed → ℤ → ℤ
filled n vs s m = fold later m (filter (λ t. nat_lt (length (rows_since vs s m t)) n) vs)

-- a bound that is moved on
abbrev pub moved : (ℤ → ℤ) → Option ℤ → Option ℤ
moved f None = None
moved f (Some m) = Some (f m)

-- The content of a window on a stream with this bound. `[Now]` looks at its instant alone, `[Range T]` so far back, `[Rows N]` to
-- the N-th row before; `[Range Unbounded]` looks back to the beginning, so it is right at no instant of a piece that begins later.
abbrev pub window_moves : Window → List ℤ → Timed → ℤ → ℤ
window_moves Now vs s m = m
window_moves (Range n unit) vs s m = m +ℤ pos n
window_moves Unbounded vs s m = fold later m vs
window_moves (Latest n) vs s m = filled n vs s m

-- and where there is a bound at all
abbrev pub window_settles : Window → List ℤ → Timed → Option ℤ → Option ℤ
window_settles w vs s o = moved (window_moves w vs s) o

-- the first instant behind m, or m where there is none
abbrev pub next_after : ℤ → List ℤ → ℤ
next_after m [] = m
next_after m (v ∷ vs) = if int_lt m v then v else next_after m vs

-- the stream of a relation with this bound: `Istream` and `Dstream` look at the instant before
abbrev pub kind_moves : Kind → List ℤ → ℤ → ℤ
kind_moves Istream vs m = next_after m vs
kind_moves Dstream vs m = next_after m vs
kind_moves Rstream vs m = m

-- and where there is a bound at all
abbrev pub kind_settles : Kind → List ℤ → Option ℤ → Option ℤ
kind_settles k vs o = moved (kind_moves k vs) o

-- a stream as the piece has it, and its bound
pub record PieceStream : Type 0 where
  pub stream : KnownStream
  pub bound : Option ℤ

-- the streams without their bounds
abbrev pub streams_in : List PieceStream → List KnownStream
streams_in ks = map (λ k. k.stream) ks

-- the bound of the stream of this name
abbrev pub bound_named : List PieceStream → Name → Option ℤ
bound_named [] n = None
bound_named (k ∷ ks) n = if name_eq k.stream.named.name n then k.bound else bound_named ks n

-- the windows of all items, at instants at which all files are there
abbrev pub items_settle : List ℤ → Option ℤ → List PieceStream → List Source → Option ℤ
items_settle vs start ks [] = start
items_settle vs start ks (i ∷ is) =
    both (window_settles i.window vs (rows_named (streams_in ks) i.stream) (bound_named ks i.stream)) (items_settle vs start ks is)

-- The stream of a query that has one item, all of whose rows stay: its window is `[Range Unbounded]`. Nothing goes from its content,
-- and what comes are the rows of the instant; so `Istream` looks at its instant alone, and `Dstream` at none.
abbrev pub stays : Window → Name → Option Name
stays Now n = None
stays (Range k unit) n = None
stays Unbounded n = Some n
stays (Latest k) n = None

-- the stream whose rows all stay, where a query has one item
abbrev pub growing : List Source → Option Name
growing [] = None
growing (i ∷ []) = stays i.window i.stream
growing (i ∷ j ∷ is) = None

-- the bound of such a query, by that of its stream and the last instant at which a file is missing
abbrev pub growth_settles : Kind → Option ℤ → Option ℤ → Option ℤ → Option ℤ
growth_settles Istream start stream other = both stream start
growth_settles Dstream start stream other = start
growth_settles Rstream start stream other = other

-- the bound of a query, whether it grows or not
abbrev pub stream_settles : Option Name → Kind → Option ℤ → List PieceStream → Option ℤ → Option ℤ
stream_settles None k start ks other = other
stream_settles (Some n) k start ks other = growth_settles k start (bound_named ks n) other

-- the bound of a query by those of the streams that it reads
abbrev pub query_settles : List ℤ → Option ℤ → List PieceStream → Query → Option ℤ
query_settles vs start ks q = stream_settles (growing q.items) q.kind start ks (kind_settles q.kind vs (items_settle vs start ks q.items))

-- the bound of the first file, and those of the others
abbrev pub first_start : List (Option ℤ) → Option ℤ
first_start [] = None
first_start (o ∷ os) = o

abbrev pub other_starts : List (Option ℤ) → List (Option ℤ)
other_starts [] = []
other_starts (o ∷ os) = os

-- a registered stream, with the bound of its file
abbrev pub file_piece : Option ℤ → Name → List Name → List File → PieceStream
file_piece o name fields files = record { stream = stream_known name fields files; bound = o }

-- the stream of a query, with its bound
abbrev pub query_piece : List ℤ → Option ℤ → List PieceStream → Query → PieceStream
query_piece vs start ks q = record { stream = query_known vs (streams_in ks) q; bound = query_settles vs start ks q }

-- The bound of each query, one after another: by the piece's instants, the last at which a file is missing, what is known with its
-- bounds, the bounds of the files, and the piece's files.
abbrev pub bounds : List ℤ → Option ℤ → List PieceStream → Program → List (Option ℤ) → List File → List (Option ℤ)
bounds vs start ks [] os files = []
bounds vs start ks (Register name fields ∷ ps) os files =
    bounds vs start (file_piece (first_start os) name fields files ∷ ks) ps (other_starts os) (other_files files)
bounds vs start ks (AQuery q ∷ ps) os files = query_settles vs start ks q ∷ bounds vs start (query_piece vs start ks q ∷ ks) ps os files

-- those of a program on a piece
abbrev pub piece_bounds : Program → ℤ → List Cut → List (Option ℤ)
piece_bounds p hi cuts =
    let ts = instants (whole_files cuts) in
    bounds (instants (cut_files hi cuts)) (missing cuts ts) [] p (starts_of cuts ts) (cut_files hi cuts)
