-- The grammar of River text.
--
--     text   = [ "river" "2" ";" ] { output } { input } { queue } { table } { var } { op }
--     output = "output" NAME ":" type ";"
--     input  = "input" NAME ":" type ";"
--     queue  = "queue" NAME ":" type [ "cap" "(" N ")" ] ";"
--     table  = "table" VAR ":" ( "sum" "(" N ")" | "collection" "(" N ")" | "maximum" "(" N "," N ")" ) ";"
--     var    = "var" VAR ";"
--     op     = "op" NAME ":" "(" list ")" "<-" "(" list ")" "{" kernel "}"
--     type   = flat | "pack" "(" flat ")"
--     flat   = ( "rows" | "stream" | "relation" ) "(" N ")"
--     list   = NAMEs and then VARs, separated by commas, or nothing
--
-- The first line is the header of version 2; the number in it is the one byte `2`. A text without it is of version 1. `cap` stands only
-- behind a header, and its number is 1 to 65,536.
use Rattle.std.specs.Prelude.{◌≡◌, ℕ, ◌+◌, ◌++◌, Bool, true, false, ◌&&◌, ◌||◌, ◌==◌, List, [], ◌∷◌, Option, None, Some, map, Ok, codes, nat_le, if◌then◌else◌}
use Rattle.std.specs.Str.{bytes_eq}
use Rattle.std.specs.Cmp.Lexicographic.{pointwise}
use Rattle.text_tokens.specs.Cut.{units_of}
use Rattle.text_tokens.specs.Lexis.{tokens_in}
use Rattle.text_tokens.specs.Tok.{Tok, Mark, toks}
use Rattle.text_tokens.specs.declared.sign.Symbol.TheVariants as s
use Rattle.river_base.specs.Name.{is_name, name_eq}
use Rattle.river_base.specs.declared.kind.FlatType.{FlatType}
use Rattle.river_base.specs.declared.kind.FlatType.TheVariants.{Rows, Stream, Relation}
use Rattle.river_base.specs.declared.kind.QueueType.{QueueType}
use Rattle.river_base.specs.declared.kind.QueueType.TheVariants.{Flat, Pack}
use Rattle.kern_tables.specs.declared.kind.TableKind.{TableKind}
use Rattle.kern_tables.specs.declared.kind.TableKind.TheVariants.{Sum, Collection, Maximum}
use Rattle.river_kernels.specs.Kern.{Kern}
use Rattle.river_plan.specs.Caps.{cap_of}
use Rattle.river_plan.specs.Forms.{OpForm, PlanForm, empty_form}
use Rattle.river_plan.specs.declared.caps.Cap.{Cap}
use Rattle.river_plan.specs.declared.plan.Decl.{Decl}
use Rattle.river_plan.specs.declared.plan.TableDecl.{TableDecl}
use Rattle.text_forms.specs.Forms.{Count, NameToken, Number, Var, Never, Both, After, AfterWord, Before, Tested, Seen, Maybe, Merged, Listing, Choose, Headed}
use Rattle.text_forms.specs.Texts.{AllFormed, IsFirstBad}
use Rattle.text_blocks.specs.Parts.{Round}
use Rattle.river_text.specs.Kernels.{IsBraced}
use Rattle.river_text.specs.declared.decl.QueueDecl.{QueueDecl}
use Rattle.river_text.specs.declared.entry.Place.{Place}

-- NAME and VAR, of at most 64 bytes
abbrev pub IsName : List ℕ → List Tok → Type 0
IsName = Tested is_name NameToken

abbrev pub IsVar : List ℕ → List Tok → Type 0
IsVar = Tested is_name Var

-- how many brackets may be open in a unit
abbrev pub brackets : ℕ
brackets = 128

-- flat, behind its word
abbrev pub FlatAfter : ℕ → List ℕ → FlatType → List Tok → Type 0
FlatAfter n w =
    Choose (bytes_eq w (codes "rows")) (Seen Rows (Round (λ m. Count) n))
    (Choose (bytes_eq w (codes "stream")) (Seen Stream (Round (λ m. Count) n))
    (Choose (bytes_eq w (codes "relation")) (Seen Relation (Round (λ m. Count) n))
    Never))

abbrev pub IsFlatType : ℕ → FlatType → List Tok → Type 0
IsFlatType n = Headed (FlatAfter n)

-- type
abbrev pub IsType : QueueType → List Tok → Type 0
IsType = Headed (λ w. Choose (bytes_eq w (codes "pack")) (Seen Pack (Round IsFlatType brackets)) (Seen Flat (FlatAfter brackets w)))

-- NAME ":" type ";"
abbrev pub made_decl : List ℕ × QueueType → Decl
made_decl v = record { name = v.0; kind = v.1 }

abbrev pub IsDecl : Decl → List Tok → Type 0
IsDecl = Seen made_decl (Both IsName (After (s.Colon ∷ []) (Before IsType (s.Semicolon ∷ []))))

-- NAME ":" type [ "cap" "(" N ")" ] ";"
abbrev pub made_queue : List ℕ × (QueueType × Option ℕ) → QueueDecl
made_queue v = record { decl = record { name = v.0; kind = v.1.0 }; most = v.1.1 }

abbrev pub IsCapped : Option ℕ → List Tok → Type 0
IsCapped = Maybe (AfterWord (codes "cap") (Round (λ m. Count) brackets))

abbrev pub IsQueue : QueueDecl → List Tok → Type 0
IsQueue = Seen made_queue (Both IsName (After (s.Colon ∷ []) (Before (Both IsType IsCapped) (s.Semicolon ∷ []))))

-- "2" ";"
abbrev pub is_two : ℕ → Bool
is_two n = n == 2

abbrev pub IsHeader : ℕ → List Tok → Type 0
IsHeader = Before (Tested is_two Number) (s.Semicolon ∷ [])

-- the kind of a table
abbrev pub made_maximum : ℕ × ℕ → TableKind
made_maximum v = Maximum v.0 v.1

abbrev pub KindAfter : List ℕ → TableKind → List Tok → Type 0
KindAfter w =
    Choose (bytes_eq w (codes "sum")) (Seen Sum (Round (λ m. Count) brackets))
    (Choose (bytes_eq w (codes "collection")) (Seen Collection (Round (λ m. Count) brackets))
    (Choose (bytes_eq w (codes "maximum")) (Seen made_maximum (Round (λ m. Both Count (After (s.Comma ∷ []) Count)) brackets))
    Never))

abbrev pub made_table : List ℕ × TableKind → TableDecl
made_table v = record { name = v.0; kind = v.1 }

abbrev pub IsTable : TableDecl → List Tok → Type 0
IsTable = Seen made_table (Both IsVar (After (s.Colon ∷ []) (Before (Headed KindAfter) (s.Semicolon ∷ []))))

-- what an operator reads or writes
pub data Port : Type 0 where
  queue : List ℕ → Port
  variable : List ℕ → Port

abbrev pub IsPort : Port → List Tok → Type 0
IsPort = Merged (Seen variable IsVar) (Seen queue IsName)

-- queues and then variables
abbrev pub IsPorts : List (List ℕ) × List (List ℕ) → List Tok → Type 0
IsPorts v ts = Listing IsPort (map queue v.0 ++ map variable v.1) ts

-- NAME ":" "(" list ")" "<-" "(" list ")" "{" kernel "}"
abbrev pub Ports : Type 0
Ports = List (List ℕ) × List (List ℕ)

abbrev pub same_vars : List ℕ × (Ports × (Ports × Kern)) → Bool
same_vars v = pointwise name_eq v.1.0.1 v.1.1.0.1

abbrev pub made_op : List ℕ × (Ports × (Ports × Kern)) → OpForm
made_op v = record { label = v.0; kernel = v.1.1.1; reads = v.1.1.0.0; writes = v.1.0.0; vars = v.1.0.1 }

abbrev pub IsOp : OpForm → List Tok → Type 0
IsOp =
    Seen made_op (Tested same_vars (Both IsName (After (s.Colon ∷ []) (Both (Round (λ m. IsPorts) brackets)
    (After (s.Less ∷ s.Minus ∷ []) (Both (Round (λ m. IsPorts) brackets) (IsBraced brackets)))))))

-- what a unit says: that the text is of version 2, or what is added to a plan
pub data EntryForm : Type 0 where
  header : EntryForm
  output : Decl → EntryForm
  input : Decl → EntryForm
  inner : QueueDecl → EntryForm
  table : TableDecl → EntryForm
  private : List ℕ → EntryForm
  operator : OpForm → EntryForm

-- the units come in this order
abbrev pub stage_of : EntryForm → ℕ
stage_of header = 0
stage_of (output d) = 1
stage_of (input d) = 2
stage_of (inner q) = 3
stage_of (table t) = 4
stage_of (private v) = 5
stage_of (operator o) = 6

abbrev pub as_header : ℕ → EntryForm
as_header version = header

abbrev pub UnitAfter : List ℕ → EntryForm → List Tok → Type 0
UnitAfter w =
    Choose (bytes_eq w (codes "output")) (Seen output IsDecl)
    (Choose (bytes_eq w (codes "input")) (Seen input IsDecl)
    (Choose (bytes_eq w (codes "queue")) (Seen inner IsQueue)
    (Choose (bytes_eq w (codes "table")) (Seen table IsTable)
    (Choose (bytes_eq w (codes "var")) (Seen private (Before IsVar (s.Semicolon ∷ [])))
    (Choose (bytes_eq w (codes "op")) (Seen operator IsOp)
    (Choose (bytes_eq w (codes "river")) (Seen as_header IsHeader)
    Never))))))

abbrev pub IsUnit : EntryForm → List Tok → Type 0
IsUnit = Headed UnitAfter

-- a capacity stands only behind a header, and it is 1 to 65,536
abbrev pub is_cap : ℕ → Bool
is_cap n = nat_le 1 n && nat_le n 65536

abbrev pub cap_stands : Bool → Option ℕ → Bool
cap_stands headed None = true
cap_stands headed (Some n) = headed && is_cap n

abbrev pub entry_cap : EntryForm → Option ℕ
entry_cap header = None
entry_cap (output d) = None
entry_cap (input d) = None
entry_cap (inner q) = q.most
entry_cap (table t) = None
entry_cap (private v) = None
entry_cap (operator o) = None

-- a unit that may stand there: late enough, and with a capacity only where it may have one
abbrev pub may_stand : Place → EntryForm → Bool
may_stand at e = nat_le at.stage (stage_of e) && cap_stands at.headed (entry_cap e)

abbrev pub IsUnitAt : Place → EntryForm → List Tok → Type 0
IsUnitAt at = Tested (may_stand at) IsUnit

-- behind any unit there is no header
abbrev pub is_header : EntryForm → Bool
is_header e = stage_of e == 0

abbrev pub next_place : Place → EntryForm → Place
next_place at e = record { stage = if is_header e then 1 else stage_of e; headed = at.headed || is_header e }

-- where a text begins: a header may come where the second token is one byte long, as `2` is
abbrev pub is_second_short : List Mark → Bool
is_second_short [] = false
is_second_short (m ∷ []) = false
is_second_short (m ∷ k ∷ ms) = k.end == k.start + 1

abbrev pub first_place : List Mark → Place
first_place marks = record { stage = if is_second_short marks then 0 else 1; headed = false }

-- what a text stands for: the lists of a plan, and the capacities that it gives to queues, in order
pub record TextForm : Type 0 where
  pub plan : PlanForm
  pub caps : List Cap

abbrev pub empty_text : TextForm
empty_text = record { plan = empty_form; caps = [] }

-- with one entry more, at the end of its list
abbrev pub add_entry : TextForm → EntryForm → TextForm
add_entry t header = t
add_entry t (output d) = record { plan = record t.plan { outputs = t.plan.outputs ++ d ∷ [] }; caps = t.caps }
add_entry t (input d) = record { plan = record t.plan { inputs = t.plan.inputs ++ d ∷ [] }; caps = t.caps }
add_entry t (inner q) = record { plan = record t.plan { queues = t.plan.queues ++ q.decl ∷ [] }; caps = t.caps ++ cap_of q.decl.name q.most }
add_entry t (table d) = record { plan = record t.plan { tables = t.plan.tables ++ d ∷ [] }; caps = t.caps }
add_entry t (private v) = record { plan = record t.plan { vars = t.plan.vars ++ v ∷ [] }; caps = t.caps }
add_entry t (operator o) = record { plan = record t.plan { ops = t.plan.ops ++ o ∷ [] }; caps = t.caps }

abbrev pub add_all : TextForm → List EntryForm → TextForm
add_all t [] = t
add_all t (e ∷ es) = add_all (add_entry t e) es

-- the units stand for the entries
abbrev pub AreUnits : Place → List EntryForm → List (List Tok) → Type 0
AreUnits at entries units = AllFormed IsUnitAt next_place at entries units

-- what the text stands for: it has tokens, and their units stand for entries, one after another
pub record IsText (text : List ℕ) (t : TextForm) : Type 0 where
  pub marks : List Mark
  pub lexed : tokens_in text ≡ Ok marks
  pub entries : List EntryForm
  pub formed : AreUnits (first_place marks) entries (units_of (toks marks))
  pub is : t ≡ add_all empty_text entries

-- the text has tokens, and this unit, from 1, is the first that is not in the grammar
pub record IsBadAt (text : List ℕ) (unit : ℕ) : Type 0 where
  pub marks : List Mark
  pub lexed : tokens_in text ≡ Ok marks
  pub first : IsFirstBad IsUnitAt next_place (first_place marks) (units_of (toks marks)) unit
