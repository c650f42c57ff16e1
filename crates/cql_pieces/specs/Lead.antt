-- How far back each file of a piece has to begin, so that the piece is right from an instant on. It is reckoned backward through the
-- program: None says from the beginning of the files, `Some x` from x on.
use Rattle.std.specs.Prelude.{ℕ, ℤ, pos, ◌-ℤ◌, ◌≤ℤ◌, List, [], ◌∷◌, length, filter, flat_map, fold, ◌&&◌, int_le, int_lt, nat_le, Option, Some, None, if◌then◌else◌}
use Rattle.river_base.specs.Instants.{Timed, instants}
use Rattle.river_base.specs.Name.{name_eq}
use Rattle.cql_text.specs.Tree.{Name, Window, Now, Range, Unbounded, Latest, Source, Query, Register, AQuery, Program}
use Rattle.cql_text.specs.declared.tree.Kind.{Kind}
use Rattle.cql_text.specs.declared.tree.Kind.TheVariants.{Istream, Dstream, Rstream}
use Rattle.cql_model.specs.Laws.{AreFiles}
use Rattle.cql_model.specs.Streams.{last_instant}
use Rattle.cql_model.specs.Meaning.{KnownStream, rows_named, stream_known, query_known, other_files}
use Rattle.cql_pieces.specs.Piece.{File, growing}
use Rattle.cql_pieces.specs.Whole.{IsRight}

-- the earlier of two
abbrev pub earlier : Option ℤ → Option ℤ → Option ℤ
earlier None o = None
earlier (Some x) None = None
earlier (Some x) (Some y) = Some (if int_lt x y then x else y)

-- a need that is reckoned from another
abbrev pub through : (ℤ → Option ℤ) → Option ℤ → Option ℤ
through f None = None
through f (Some x) = f x

-- the contents that the stream of a relation looks at, from x on: `Istream` and `Dstream` look at the instant before too
abbrev pub kind_back : Kind → List ℤ → ℤ → Option ℤ
kind_back Istream ts x = last_instant (filter (λ u. int_lt u x) ts)
kind_back Dstream ts x = last_instant (filter (λ u. int_lt u x) ts)
kind_back Rstream ts x = Some x

-- the rows of a stream from one instant up to another
abbrev pub rows_between : List ℤ → Timed → ℤ → ℤ → List (List ℤ)
rows_between ts r z y = flat_map r (filter (λ u. int_le z u && int_le u y) ts)

-- the latest instant from which on, up to y, so many rows came
abbrev pub rows_back : ℕ → List ℤ → Timed → ℤ → Option ℤ
rows_back n ts r y = last_instant (filter (λ z. int_le z y && nat_le n (length (rows_between ts r z y))) ts)

-- what a window's contents look at, from y on
abbrev pub window_back : Window → List ℤ → Timed → ℤ → Option ℤ
window_back Now ts r y = Some y
window_back (Range n unit) ts r y = Some (y -ℤ pos n)
window_back Unbounded ts r y = None
window_back (Latest n) ts r y = rows_back n ts r y

-- a query of one item all of whose rows stay looks at the instant alone
abbrev pub look_kind : Option Name → Kind → Kind
look_kind None k = k
look_kind (Some n) k = Rstream

-- and its window need not look back
abbrev pub look_window : Option Name → Kind → Window → Window
look_window None k w = w
look_window (Some n) Istream w = Now
look_window (Some n) Dstream w = Now
look_window (Some n) Rstream w = w

-- the contents of a query that its stream looks at, where this is needed of it
abbrev pub content_back : Query → List ℤ → Option ℤ → Option ℤ
content_back q ts x = through (kind_back (look_kind (growing q.items) q.kind) ts) x

-- what items need of the stream of this name; `first` where they need nothing of it
abbrev pub items_need : List ℤ → List KnownStream → (Window → Window) → Option ℤ → ℤ → Name → List Source → Option ℤ
items_need ts ks look y first n [] = Some first
items_need ts ks look y first n (i ∷ is) =
    earlier (if name_eq i.stream n then through (window_back (look i.window) ts (rows_named ks i.stream)) y else Some first) (items_need ts ks look y first n is)

-- what the queries of a program need of the stream of this name, so that all of them are right from `first` on
abbrev pub needs : List ℤ → ℤ → List KnownStream → Program → List File → Name → Option ℤ
needs ts first ks [] files n = Some first
needs ts first ks (Register name fields ∷ ps) files n = needs ts first (stream_known name fields files ∷ ks) ps (other_files files) n
needs ts first ks (AQuery q ∷ ps) files n =
    let later = needs ts first (query_known ts ks q ∷ ks) ps files in
    earlier (later n) (items_need ts ks (look_window (growing q.items) q.kind) (content_back q ts (later q.name)) first n q.items)

-- from where on they need all files to be there
abbrev pub floor : List ℤ → ℤ → List KnownStream → Program → List File → Option ℤ
floor ts first ks [] files = Some first
floor ts first ks (Register name fields ∷ ps) files = floor ts first (stream_known name fields files ∷ ks) ps (other_files files)
floor ts first ks (AQuery q ∷ ps) files =
    earlier (content_back q ts (needs ts first (query_known ts ks q ∷ ks) ps files q.name)) (floor ts first (query_known ts ks q ∷ ks) ps files)

-- the earliest of an instant and of all of these
abbrev pub beginning : ℤ → List ℤ → ℤ
beginning first ts = fold (λ a b. if int_lt b a then b else a) first ts

-- the instant from which a file is taken, by what is needed of it
abbrev pub opened : ℤ → List ℤ → Option ℤ → ℤ
opened first ts None = beginning first ts
opened first ts (Some x) = x

-- for the file of each registered stream
abbrev pub leads_from : List ℤ → ℤ → Option ℤ → List KnownStream → Program → List File → List ℤ
leads_from ts first low ks [] files = []
leads_from ts first low ks (Register name fields ∷ ps) files =
    let known = stream_known name fields files ∷ ks in
    opened first ts (earlier (needs ts first known ps (other_files files) name) low) ∷ leads_from ts first low known ps (other_files files)
leads_from ts first low ks (AQuery q ∷ ps) files = leads_from ts first low (query_known ts ks q ∷ ks) ps files

-- for each file, the instant from which a piece whose span begins at `first` has it
abbrev pub leads : Program → List File → ℤ → List ℤ
leads p files first = leads_from (instants files) first (floor (instants files) first [] p files) [] p files

-- A piece with these leads is right from the first instant of its span on, for every program and all files of its streams.
abbrev pub LeadIsEnough : Type 0
LeadIsEnough =
    (p : Program) (files : List File) (first upto : ℤ) → AreFiles p files → first ≤ℤ upto
    → IsRight p files (record { los = leads p files first; first = first; upto = upto })
