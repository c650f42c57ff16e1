-- How River text is read: the grammar in the words of reading functions.
use Rattle.std.specs.Prelude.{ℕ, ◌+◌, ◌++◌, Bool, true, false, List, [], ◌∷◌, Option, None, Some, Result, Ok, Err, codes, if◌then◌else◌}
use Rattle.std.specs.Str.{bytes_eq}
use Rattle.text_tokens.specs.Cut.{units_of}
use Rattle.text_tokens.specs.Tok.{Tok, name, var, number, symbol, Mark, toks}
use Rattle.text_tokens.specs.declared.sign.Symbol.TheVariants as s
use Rattle.river_base.specs.declared.kind.FlatType.{FlatType}
use Rattle.river_base.specs.declared.kind.FlatType.TheVariants.{Rows, Stream, Relation}
use Rattle.river_base.specs.declared.kind.QueueType.{QueueType}
use Rattle.river_base.specs.declared.kind.QueueType.TheVariants.{Flat, Pack}
use Rattle.kern_tables.specs.declared.kind.TableKind.{TableKind}
use Rattle.kern_tables.specs.declared.kind.TableKind.TheVariants.{Sum, Collection}
use Rattle.river_plan.specs.Forms.{OpForm}
use Rattle.river_plan.specs.declared.plan.Decl.{Decl}
use Rattle.river_plan.specs.declared.plan.TableDecl.{TableDecl}
use Rattle.river_kernels.specs.Kern.{Kern}
use Rattle.text_forms.specs.Parse.{Parse, is_word_at, short_name_at, short_var_at, symbols_at, then_parsed, then_rest}
use Rattle.text_forms.specs.Parse.{answer_at, both, after, after_word, before, maybe, tested, seen, known, merged, listing}
use Rattle.text_forms.specs.Parse as parse
use Rattle.text_forms.specs.Parse.{headed}
use Rattle.text_forms.specs.AllUnits.{text_by}
use Rattle.text_forms.specs.Texts.{whole}
use Rattle.text_forms.specs.declared.text_fault.TextFault.{TextFault}
use Rattle.river_text.specs.Plans.{brackets, made_decl, made_maximum, made_table, Port, queue, variable, Ports, same_vars, made_op, EntryForm, output, input, inner}
use Rattle.river_text.specs.Plans.{table, private, operator, made_queue, is_two, as_header, may_stand, first_place, next_place, TextForm, add_entry, empty_text}
use Rattle.river_text.specs.declared.decl.QueueDecl.{QueueDecl}
use Rattle.river_text.specs.declared.entry.Place.{Place}
use Rattle.river_text.specs.ReadKernels.{round, number_at, pair_at, braced_at}

unfoldable pub flat_after : ℕ → List ℕ → Parse FlatType
flat_after n w ts =
    if bytes_eq w (codes "rows") then seen Rows (number_at n) ts
    else if bytes_eq w (codes "stream") then seen Stream (number_at n) ts
    else if bytes_eq w (codes "relation") then seen Relation (number_at n) ts
    else None

unfoldable pub flat_at : ℕ → Parse FlatType
flat_at n ts = headed (flat_after n) ts

unfoldable pub packed_at : Parse FlatType
packed_at ts = round flat_at brackets ts

unfoldable pub type_after : List ℕ → Parse QueueType
type_after w ts = if bytes_eq w (codes "pack") then seen Pack packed_at ts else seen Flat (flat_after brackets w) ts

unfoldable pub type_at : Parse QueueType
type_at ts = headed type_after ts

unfoldable pub decl_at : Parse Decl
decl_at ts = seen made_decl (both short_name_at (after (s.Colon ∷ []) (before type_at (s.Semicolon ∷ [])))) ts

-- a capacity, or nothing
unfoldable pub cap_at : Parse (Option ℕ)
cap_at ts = maybe (is_word_at (codes "cap")) (after_word (codes "cap") (number_at brackets)) ts

unfoldable pub queue_at : Parse QueueDecl
queue_at ts = seen made_queue (both short_name_at (after (s.Colon ∷ []) (before (both type_at cap_at) (s.Semicolon ∷ [])))) ts

unfoldable pub header_at : Parse ℕ
header_at ts = before (tested is_two parse.number_at) (s.Semicolon ∷ []) ts

unfoldable pub kind_after : List ℕ → Parse TableKind
kind_after w ts =
    if bytes_eq w (codes "sum") then seen Sum (number_at brackets) ts
    else if bytes_eq w (codes "collection") then seen Collection (number_at brackets) ts
    else if bytes_eq w (codes "maximum") then seen made_maximum (pair_at brackets) ts
    else None

unfoldable pub kind_at : Parse TableKind
kind_at ts = headed kind_after ts

unfoldable pub table_at : Parse TableDecl
table_at ts = seen made_table (both short_var_at (after (s.Colon ∷ []) (before kind_at (s.Semicolon ∷ [])))) ts

-- a variable comes
abbrev pub is_var_at : List Tok → Bool
is_var_at [] = false
is_var_at (name text ∷ ts) = false
is_var_at (var text ∷ ts) = true
is_var_at (number value ∷ ts) = false
is_var_at (symbol x ∷ ts) = false

unfoldable pub port_at : Parse Port
port_at ts = merged is_var_at (seen variable short_var_at) (seen queue short_name_at) ts

-- queues and then variables, behind these
unfoldable pub split_from : (qs vs : List (List ℕ)) → List Port → Option Ports
split_from qs vs [] = Some (qs, vs)
split_from qs [] (queue q ∷ ps) = split_from (qs ++ q ∷ []) [] ps
split_from qs (v ∷ vs) (queue q ∷ ps) = None
split_from qs vs (variable v ∷ ps) = split_from qs (vs ++ v ∷ []) ps

unfoldable pub port_list_at : Parse (List Port)
port_list_at ts = listing s.Close port_at ts

unfoldable pub ports_at : Parse Ports
ports_at ts = round (λ m. known (split_from [] []) port_list_at) brackets ts

-- an operator of these parts, where it reads and writes the same variables
abbrev pub op_of_parts : List ℕ → Ports → Ports → Kern → Option OpForm
op_of_parts label outs ins kernel = if same_vars (label, (outs, (ins, kernel))) then Some (made_op (label, (outs, (ins, kernel)))) else None

-- an operator, behind its name and what it writes
unfoldable pub op_from_at : List ℕ → Ports → Parse OpForm
op_from_at label outs ts =
    then_rest (symbols_at (s.Less ∷ s.Minus ∷ []) ts)
    (λ us. then_parsed (ports_at us) (λ ins vs. then_parsed (braced_at brackets vs) (λ kernel ws. answer_at (op_of_parts label outs ins kernel) ws)))

unfoldable pub op_at : Parse OpForm
op_at ts =
    then_parsed (short_name_at ts) (λ label us. then_rest (symbols_at (s.Colon ∷ []) us)
    (λ vs. then_parsed (ports_at vs) (λ outs ws. op_from_at label outs ws)))

unfoldable pub private_at : Parse (List ℕ)
private_at ts = before short_var_at (s.Semicolon ∷ []) ts

-- what stands behind the first word of a unit that declares no queue
unfoldable pub other_after : List ℕ → Parse EntryForm
other_after w ts =
    if bytes_eq w (codes "table") then seen table table_at ts
    else if bytes_eq w (codes "var") then seen private private_at ts
    else if bytes_eq w (codes "op") then seen operator op_at ts
    else if bytes_eq w (codes "river") then seen as_header header_at ts
    else None

unfoldable pub unit_after : List ℕ → Parse EntryForm
unit_after w ts =
    if bytes_eq w (codes "output") then seen output decl_at ts
    else if bytes_eq w (codes "input") then seen input decl_at ts
    else if bytes_eq w (codes "queue") then seen inner queue_at ts
    else other_after w ts

unfoldable pub unit_at : Parse EntryForm
unit_at ts = headed unit_after ts

abbrev pub unit_from : Place → Parse EntryForm
unit_from at ts = tested (may_stand at) unit_at ts

-- what the units say, of which the first has number n, behind what stands in t; or the first unit that is none
abbrev pub with_entry : ℕ → (EntryForm → Result TextForm ℕ) → Option EntryForm → Result TextForm ℕ
with_entry n more None = Err n
with_entry n more (Some e) = more e

unfoldable pub read_plan : Place → (n : ℕ) → TextForm → List (List Tok) → Result TextForm ℕ
read_plan at n t [] = Ok t
read_plan at n t (u ∷ us) = with_entry n (λ e. read_plan (next_place at e) (n + 1) (add_entry t e) us) (whole (unit_from at) u)

-- the lists of the units of some tokens, or which unit is the first that is none
abbrev pub lists_of : List Mark → Result TextForm ℕ
lists_of marks = read_plan (first_place marks) 1 empty_text (units_of (toks marks))

-- the lists of a text, or why it is not read
abbrev pub lists_in : List ℕ → Result TextForm TextFault
lists_in text = text_by lists_of text
