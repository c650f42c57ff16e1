-- The grammar of Sawzall, line by line (Sawzall of Pike, Dorward, Griesemer and Quinlan, cut to whole numbers and the tables `sum`,
-- `collection` and `maximum`). `n` is how many more brackets may be open.
use Rattle.std.specs.Prelude.{◌≡◌, ℕ, Bool, true, false, not, List, [], ◌∷◌, Option, Some, None, Ok, codes, is_some, if◌then◌else◌}
use Rattle.std.specs.Str.{bytes_eq}
use Rattle.text_tokens.specs.Cut.{units_of}
use Rattle.text_tokens.specs.Lexis.{tokens_in}
use Rattle.text_tokens.specs.Tok.{Tok, Mark, toks}
use Rattle.text_tokens.specs.declared.sign.Symbol.TheVariants as s
use Rattle.text_forms.specs.Texts.{AllFormed}
use Rattle.text_forms.specs.Forms.{Nothing, Never, Both, After, Before, AfterWord, Tested, Seen, Merged, Maybe, Many, Choose, Headed, Count}
use Rattle.saw_text.specs.declared.tree.Kind.{Kind}
use Rattle.saw_text.specs.declared.tree.Kind.TheVariants.{Sum, Collection, Maximum}
use Rattle.saw_text.specs.declared.tree.Field.{Field}
use Rattle.text_blocks.specs.Statements.{IsRest}
use Rattle.text_blocks.specs.Parts.{Round, Square}
use Rattle.saw_text.specs.Blocks.{IsDeclare, IsAssign, style, holes}
use Rattle.saw_text.specs.Words.{is_user}
use Rattle.saw_text.specs.Tree.{TableForm, UnitForm, TableUnit, StatementUnit}

-- TABLES

-- field = [NAME ":"] "int"
abbrev pub nameless : Field
nameless = record { name = None }

abbrev pub field_named : List ℕ → Unit {0} → Field
field_named w u = record { name = Some w }

abbrev pub FieldAfter : List ℕ → Field → List Tok → Type 0
FieldAfter w =
    Choose (bytes_eq w (codes "int")) (Nothing nameless)
    (Choose (is_user w) (Seen (field_named w) (After (s.Colon ∷ []) (AfterWord (codes "int") (Nothing tt)))) Never)

abbrev pub IsField : Field → List Tok → Type 0
IsField = Headed FieldAfter

-- kind = "sum" | "collection" | "maximum" "(" N ")"
abbrev pub KindAfter : ℕ → List ℕ → Kind → List Tok → Type 0
KindAfter n w =
    Choose (bytes_eq w (codes "sum")) (Nothing Sum)
    (Choose (bytes_eq w (codes "collection")) (Nothing Collection)
    (Choose (bytes_eq w (codes "maximum")) (Seen Maximum (Round (λ m. Count) n)) Never))

abbrev pub IsKind : ℕ → Kind → List Tok → Type 0
IsKind n = Headed (KindAfter n)

-- a table has `weight` exactly where it is a maximum
abbrev pub is_maximum : Kind → Bool
is_maximum Sum = false
is_maximum Collection = false
is_maximum (Maximum best) = true

abbrev pub is_fitting : TableForm → Bool
is_fitting t = if is_maximum t.kind then is_some t.weight else not (is_some t.weight)

-- kind { "[" field "]" } "of" field ["weight" field] ";", behind NAME ":" "table"
abbrev pub made_table : List ℕ → Kind × (List Field × (Field × Option Field)) → TableForm
made_table name v = record { name = name; kind = v.0; indexes = v.1.0; value = v.1.1.0; weight = v.1.1.1 }

abbrev pub InTable : ℕ → Kind × (List Field × (Field × Option Field)) → List Tok → Type 0
InTable n =
    Both (IsKind n) (Both (Many (Square (λ m. IsField) n)) (AfterWord (codes "of") (Both IsField
    (Before (Maybe (AfterWord (codes "weight") IsField)) (s.Semicolon ∷ [])))))

abbrev pub IsTable : List ℕ → ℕ → TableForm → List Tok → Type 0
IsTable name n = Tested is_fitting (Seen (made_table name) (InTable n))

-- UNITS

-- what stands behind NAME ":"
abbrev pub TypedAfter : List ℕ → ℕ → List ℕ → UnitForm → List Tok → Type 0
TypedAfter name n w =
    Choose (bytes_eq w (codes "table")) (Seen TableUnit (IsTable name n))
    (Choose (bytes_eq w (codes "int")) (Seen StatementUnit (IsDeclare name n)) Never)

abbrev pub UnitNamed : List ℕ → ℕ → UnitForm → List Tok → Type 0
UnitNamed w n = Merged (After (s.Colon ∷ []) (Headed (TypedAfter w n))) (Seen StatementUnit (IsAssign w n))

-- an `if` that nests 16 deep at most
abbrev pub UnitAfter : ℕ → List ℕ → UnitForm → List Tok → Type 0
UnitAfter n w = Choose (is_user w) (UnitNamed w n) (Seen StatementUnit (IsRest style holes 16 n w))

-- unit, where 128 brackets may be open
abbrev pub IsUnit : UnitForm → List Tok → Type 0
IsUnit = Headed (UnitAfter 128)

-- no unit depends on those before it
abbrev pub IsUnitAt : Unit {0} → UnitForm → List Tok → Type 0
IsUnitAt u = IsUnit

abbrev pub next_unit : Unit {0} → UnitForm → Unit {0}
next_unit u d = tt

abbrev pub AreUnits : List UnitForm → List (List Tok) → Type 0
AreUnits us units = AllFormed IsUnitAt next_unit tt us units

-- the text stands for these units: it has tokens, and their units stand for them
pub record IsText (text : List ℕ) (us : List UnitForm) : Type 0 where
  pub marks : List Mark
  pub lexed : tokens_in text ≡ Ok marks
  pub formed : AreUnits us (units_of (toks marks))
