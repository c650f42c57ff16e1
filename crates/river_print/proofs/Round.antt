-- Printed plans are read back as themselves.
use Rattle.std.proofs.Common.{◌≡◌, ℕ, suc, ◌≤◌, Bool, true, false, List, [], ◌∷◌, ◌++◌, Option, Some, None, refl, sym, ap, ◌∙◌, subst, arith, append_assoc, append-nil}
use Rattle.std.specs.Prelude.{codes, map, nat_le, ◌&&◌, ◌==◌, if◌then◌else◌}
use Rattle.std.proofs.lemmas.Bool.Decides.{nat_tests}
use Rattle.river_base.proofs.Tests.{le_true}
use Rattle.text_tokens.specs.Laws.{joined_units}
use Rattle.text_tokens.specs.Cut.{cut, units_of, is_else}
use Rattle.text_tokens.specs.Lexis.{is_letter, is_word, is_digit}
use Rattle.text_tokens.specs.Tok.{Tok, toks}
use Rattle.text_tokens.proofs.Spelled.{Spells, Anything, is_name_text, spells-nothing, spells-then, spells-whole}
use Rattle.river_plan.specs.Caps.{OwnCaps, IsOwnCap, cap_of, caps_of}
use Rattle.river_plan.specs.Forms.{Name, OpForm, PlanForm, empty_form}
use Rattle.river_plan.specs.declared.caps.Cap.{Cap}
use Rattle.river_plan.specs.declared.plan.Decl.{Decl}
use Rattle.river_plan.specs.declared.plan.TableDecl.{TableDecl}
use Rattle.text_forms.specs.Texts.{AllFormed}
use Rattle.river_print.specs.Printed.{header_line, decl_line, queue_line, table_line, var_line, op_line, lines, plan_text}
use Rattle.river_text.specs.Plans.{EntryForm, header, output, input, inner, table, private, operator, stage_of, entry_cap, cap_stands, may_stand, IsUnit, IsUnitAt}
use Rattle.river_text.specs.Plans.{TextForm, empty_text, add_entry, add_all, first_place, next_place, AreUnits, IsText}
use Rattle.river_text.specs.declared.entry.Place.{Place}
use Rattle.river_text.proofs.Texts.{one_plan}
use Rattle.river_print.specs.Laws.{HaveOwnCaps, stood, PrintedIsRead}
use Rattle.river_print.specs.Writable as w
use Rattle.river_print.proofs.Queues.{header_toks, header-unit, header-formed, header-short, queue_toks, queue-unit, queue-formed}
use Rattle.river_print.proofs.Units.{UnitPiece, decl_toks, decl-unit, decl-formed, table_toks, table-unit, table-formed, var_toks, var-unit, var-formed}
use Rattle.river_print.proofs.Units.{op_toks, op-unit, op-formed}

-- the tokens of some units
joined-append : (us vs : List (List Tok)) → joined_units (us ++ vs) ≡ joined_units us ++ joined_units vs
joined-append [] vs = refl
joined-append (u ∷ us) vs = ap (λ (l : List Tok). u ++ l) (joined-append us vs) ∙ sym (append_assoc u (joined_units us) (joined_units vs))

-- these bytes are these units
record Chunk (bytes : List ℕ) (units : List (List Tok)) : Type 0 where
  spells : Spells bytes (joined_units units) Anything
  begins : (rest : List Tok) → is_else rest ≡ false → is_else (joined_units units ++ rest) ≡ false
  whole : (rest : List Tok) → is_else rest ≡ false → cut 0 (joined_units units ++ rest) ≡ units ++ cut 0 rest

chunk-nothing : Chunk [] []
chunk-nothing = record { spells = spells-nothing Anything; begins = λ rest none. none; whole = λ rest none. refl }

chunk-then : (a : List ℕ) (us : List (List Tok)) (b : List ℕ) (vs : List (List Tok)) → Chunk a us → Chunk b vs → Chunk (a ++ b) (us ++ vs)
chunk-then a us b vs x y = record { spells = spells; begins = begins; whole = whole } where
  spells : Spells (a ++ b) (joined_units (us ++ vs)) Anything
  spells =
      subst (λ (l : List Tok). Spells (a ++ b) l Anything) (sym (joined-append us vs))
      (spells-then a (joined_units us) b (joined_units vs) x.spells y.spells (λ rest any. tt))

  regroup : (rest : List Tok) → joined_units (us ++ vs) ++ rest ≡ joined_units us ++ (joined_units vs ++ rest)
  regroup rest = ap (λ (l : List Tok). l ++ rest) (joined-append us vs) ∙ append_assoc (joined_units us) (joined_units vs) rest

  begins : (rest : List Tok) → is_else rest ≡ false → is_else (joined_units (us ++ vs) ++ rest) ≡ false
  begins rest none = ap is_else (regroup rest) ∙ x.begins (joined_units vs ++ rest) (y.begins rest none)

  whole : (rest : List Tok) → is_else rest ≡ false → cut 0 (joined_units (us ++ vs) ++ rest) ≡ (us ++ vs) ++ cut 0 rest
  whole rest none =
      ap (cut 0) (regroup rest) ∙ x.whole (joined_units vs ++ rest) (y.begins rest none) ∙ ap (λ (l : List (List Tok)). us ++ l) (y.whole rest none)
      ∙ sym (append_assoc us vs (cut 0 rest))

chunk-unit : (b : List ℕ) (ts : List Tok) → UnitPiece b ts → Chunk b (ts ∷ [])
chunk-unit b ts x = record {
  spells = subst (λ (l : List Tok). Spells b l Anything) (sym (append-nil ts)) x.spells;
  begins = λ rest none. ap (λ (l : List Tok). is_else (l ++ rest)) (append-nil ts) ∙ x.begins rest;
  whole = λ rest none. ap (λ (l : List Tok). cut 0 (l ++ rest)) (append-nil ts) ∙ x.whole rest none;
}

chunk-lines : {A : Type 0} (line : A → List ℕ) (tokens : A → List Tok) (P : A → Type 0) → ((x : A) → P x → UnitPiece (line x) (tokens x)) → (xs : List A)
    → w.Every P xs → Chunk (lines line xs) (map tokens xs)
chunk-lines line tokens P unit [] h = chunk-nothing
chunk-lines line tokens P unit (x ∷ xs) h =
    chunk-then (line x) (tokens x ∷ []) (lines line xs) (map tokens xs) (chunk-unit (line x) (tokens x) (unit x h.0)) (chunk-lines line tokens P unit xs h.1)

-- ---- the units stand for the entries

-- entries of one stage, whose capacities may stand behind a header
abbrev OfStage : ℕ → List EntryForm → List (List Tok) → Type 0
OfStage k [] [] = Unit {0}
OfStage k [] (u ∷ us) = ⊥
OfStage k (e ∷ es) [] = ⊥
OfStage k (e ∷ es) (u ∷ us) = (stage_of e ≡ suc k) × (cap_stands true (entry_cap e) ≡ true) × IsUnit e u × OfStage k es us

stage_lines : {A : Type 0} (k : ℕ) (make : A → EntryForm) (tokens : A → List Tok) (P : A → Type 0) → ((x : A) → stage_of (make x) ≡ suc k)
    → ((x : A) → P x → cap_stands true (entry_cap (make x)) ≡ true) → ((x : A) → P x → IsUnit (make x) (tokens x)) → (xs : List A) → w.Every P xs
    → OfStage k (map make xs) (map tokens xs)
stage_lines k make tokens P same stands formed [] h = tt
stage_lines k make tokens P same stands formed (x ∷ xs) h = (same x, stands x h.0, formed x h.0, stage_lines k make tokens P same stands formed xs h.1)

-- behind a header, at this stage
abbrev behind : ℕ → Place
behind stage = record { stage = stage; headed = true }

late : (start : ℕ) (e : EntryForm) → start ≤ stage_of e → nat_le start (stage_of e) ≡ true
late start e h = grind (arith, nat_tests)

may : (start : ℕ) (e : EntryForm) → start ≤ stage_of e → cap_stands true (entry_cap e) ≡ true → may_stand (behind start) e ≡ true
may start e h k = ap (λ b. b && cap_stands true (entry_cap e)) (late start e h) ∙ k

not_first : (k : ℕ) → (suc k == 0) ≡ false
not_first k = grind (arith, nat_tests)

next : (start k : ℕ) (e : EntryForm) → stage_of e ≡ suc k → next_place (behind start) e ≡ behind (suc k)
next start k e h =
    ap (λ (n : ℕ). behind (if n == 0 then 1 else n)) h ∙ ap (λ (b : Bool). behind (if b then 1 else suc k)) (not_first k)

stage-then : (k start : ℕ) (es fs : List EntryForm) (us vs : List (List Tok)) → start ≤ suc k → OfStage k es us
    → ((b : ℕ) → b ≤ suc k → AllFormed IsUnitAt next_place (behind b) fs vs) → AllFormed IsUnitAt next_place (behind start) (es ++ fs) (us ++ vs)
stage-then k start [] fs [] vs le h more = more start le
stage-then k start [] fs (u ∷ us) vs le h more = absurd h
stage-then k start (e ∷ es) fs [] vs le h more = absurd h
stage-then k start (e ∷ es) fs (u ∷ us) vs le h more = (
  record { passes = may start e (let same = h.0 in omega (arith, same, le)) h.1; formed = h.2 },
  subst (λ (at : Place). AllFormed IsUnitAt next_place at (es ++ fs) (us ++ vs)) (sym (next start k e h.0))
      (stage-then k (suc k) es fs us vs (omega arith) h.3 more),
)

output-formed : (d : Decl) → w.IsWritableDecl d → IsUnit (output d) (decl_toks (codes "output") d)
unfolding decl_toks
output-formed d h = record { word = codes "output"; back = _; is = refl; formed = record { value = d; is = refl; formed = decl-formed d h } }

input-formed : (d : Decl) → w.IsWritableDecl d → IsUnit (input d) (decl_toks (codes "input") d)
unfolding decl_toks
input-formed d h = record { word = codes "input"; back = _; is = refl; formed = record { value = d; is = refl; formed = decl-formed d h } }

-- a queue that has a capacity of its own, if it has one
abbrev capped : OwnCaps → Decl → EntryForm
capped own d = inner (record { decl = d; most = own d.name })

stands_behind : (most : Option ℕ) → IsOwnCap most → cap_stands true most ≡ true
stands_behind None k = refl
stands_behind (Some n) k = let a = k.0 in let b = k.1 in rw (le_true 1 n a, le_true n 65536 b) refl

table_formed : (t : TableDecl) → w.IsWritableTable t → IsUnit (table t) (table_toks t)
unfolding table_toks
table_formed t h = record { word = codes "table"; back = _; is = refl; formed = record { value = t; is = refl; formed = table-formed t h } }

var_formed : (v : Name) → w.IsNamed v → IsUnit (private v) (var_toks v)
unfolding var_toks
var_formed v h = record { word = codes "var"; back = _; is = refl; formed = record { value = v; is = refl; formed = var-formed v h } }

op_formed : (o : OpForm) → w.IsWritableOp o → IsUnit (operator o) (op_toks o)
unfolding op_toks
op_formed o h = record { word = codes "op"; back = _; is = refl; formed = record { value = o; is = refl; formed = op-formed o h } }

-- ---- the entries make the plan

add-then : (t : TextForm) (es fs : List EntryForm) → add_all t (es ++ fs) ≡ add_all (add_all t es) fs
add-then t [] fs = refl
add-then t (e ∷ es) fs = add-then (add_entry t e) es fs

abbrev text_with : PlanForm → List Cap → TextForm
text_with p caps = record { plan = p; caps = caps }

adds-outputs : (p : PlanForm) (caps : List Cap) (ds : List Decl)
    → add_all (text_with p caps) (map output ds) ≡ text_with (record p { outputs = p.outputs ++ ds }) caps
adds-outputs p caps [] = ap (λ (l : List Decl). text_with (record p { outputs = l }) caps) (sym (append-nil p.outputs))
adds-outputs p caps (d ∷ ds) =
    adds-outputs (record p { outputs = p.outputs ++ d ∷ [] }) caps ds
    ∙ ap (λ (l : List Decl). text_with (record p { outputs = l }) caps) (append_assoc p.outputs (d ∷ []) ds)

adds-inputs : (p : PlanForm) (caps : List Cap) (ds : List Decl)
    → add_all (text_with p caps) (map input ds) ≡ text_with (record p { inputs = p.inputs ++ ds }) caps
adds-inputs p caps [] = ap (λ (l : List Decl). text_with (record p { inputs = l }) caps) (sym (append-nil p.inputs))
adds-inputs p caps (d ∷ ds) =
    adds-inputs (record p { inputs = p.inputs ++ d ∷ [] }) caps ds
    ∙ ap (λ (l : List Decl). text_with (record p { inputs = l }) caps) (append_assoc p.inputs (d ∷ []) ds)

adds-queues : (own : OwnCaps) (p : PlanForm) (caps : List Cap) (ds : List Decl)
    → add_all (text_with p caps) (map (capped own) ds) ≡ text_with (record p { queues = p.queues ++ ds }) (caps ++ caps_of own ds)
adds-queues own p caps [] = λ i. text_with (record p { queues = sym (append-nil p.queues) i }) (sym (append-nil caps) i)
adds-queues own p caps (d ∷ ds) =
    adds-queues own (record p { queues = p.queues ++ d ∷ [] }) (caps ++ cap_of d.name (own d.name)) ds
    ∙ (λ i. text_with (record p { queues = append_assoc p.queues (d ∷ []) ds i }) (append_assoc caps (cap_of d.name (own d.name)) (caps_of own ds) i))

adds-tables : (p : PlanForm) (caps : List Cap) (ds : List TableDecl)
    → add_all (text_with p caps) (map table ds) ≡ text_with (record p { tables = p.tables ++ ds }) caps
adds-tables p caps [] = ap (λ (l : List TableDecl). text_with (record p { tables = l }) caps) (sym (append-nil p.tables))
adds-tables p caps (d ∷ ds) =
    adds-tables (record p { tables = p.tables ++ d ∷ [] }) caps ds
    ∙ ap (λ (l : List TableDecl). text_with (record p { tables = l }) caps) (append_assoc p.tables (d ∷ []) ds)

adds-vars : (p : PlanForm) (caps : List Cap) (ds : List Name) → add_all (text_with p caps) (map private ds) ≡ text_with (record p { vars = p.vars ++ ds }) caps
adds-vars p caps [] = ap (λ (l : List Name). text_with (record p { vars = l }) caps) (sym (append-nil p.vars))
adds-vars p caps (d ∷ ds) =
    adds-vars (record p { vars = p.vars ++ d ∷ [] }) caps ds ∙ ap (λ (l : List Name). text_with (record p { vars = l }) caps) (append_assoc p.vars (d ∷ []) ds)

adds-ops : (p : PlanForm) (caps : List Cap) (ds : List OpForm) → add_all (text_with p caps) (map operator ds) ≡ text_with (record p { ops = p.ops ++ ds }) caps
adds-ops p caps [] = ap (λ (l : List OpForm). text_with (record p { ops = l }) caps) (sym (append-nil p.ops))
adds-ops p caps (d ∷ ds) =
    adds-ops (record p { ops = p.ops ++ d ∷ [] }) caps ds ∙ ap (λ (l : List OpForm). text_with (record p { ops = l }) caps) (append_assoc p.ops (d ∷ []) ds)

abbrev entries_of : OwnCaps → PlanForm → List EntryForm
entries_of own p =
    map output p.outputs ++ (map input p.inputs ++ (map (capped own) p.queues ++ (map table p.tables ++ (map private p.vars ++ map operator p.ops))))

made : (own : OwnCaps) (p : PlanForm) → add_all empty_text (header ∷ entries_of own p) ≡ stood own p
made own p =
    add-then empty_text (map output p.outputs) _
    ∙ ap (λ (q : TextForm). add_all q
    (map input p.inputs ++ (map (capped own) p.queues ++ (map table p.tables ++ (map private p.vars ++ map operator p.ops)))))
    (adds-outputs empty_form [] p.outputs)
    ∙ add-then _ (map input p.inputs) _
    ∙ ap (λ (q : TextForm). add_all q (map (capped own) p.queues ++ (map table p.tables ++ (map private p.vars ++ map operator p.ops))))
    (adds-inputs (record empty_form { outputs = p.outputs }) [] p.inputs)
    ∙ add-then _ (map (capped own) p.queues) _
    ∙ ap (λ (q : TextForm). add_all q (map table p.tables ++ (map private p.vars ++ map operator p.ops)))
    (adds-queues own (record empty_form { outputs = p.outputs; inputs = p.inputs }) [] p.queues)
    ∙ add-then _ (map table p.tables) _
    ∙ ap (λ (q : TextForm). add_all q (map private p.vars ++ map operator p.ops))
    (adds-tables (record empty_form { outputs = p.outputs; inputs = p.inputs; queues = p.queues }) (caps_of own p.queues) p.tables)
    ∙ add-then _ (map private p.vars) _
    ∙ ap (λ (q : TextForm). add_all q (map operator p.ops))
    (adds-vars (record empty_form { outputs = p.outputs; inputs = p.inputs; queues = p.queues; tables = p.tables }) (caps_of own p.queues) p.vars)
    ∙ adds-ops (record empty_form { outputs = p.outputs; inputs = p.inputs; queues = p.queues; tables = p.tables; vars = p.vars }) (caps_of own p.queues) p.ops

-- ---- the text

is_output : is_name_text (codes "output") ≡ true
unfolding is_letter is_word is_digit
is_output = refl

is_input : is_name_text (codes "input") ≡ true
unfolding is_letter is_word is_digit
is_input = refl

abbrev units : OwnCaps → PlanForm → List (List Tok)
units own p =
    map (decl_toks (codes "output")) p.outputs ++ (map (decl_toks (codes "input")) p.inputs ++ (map (λ d. queue_toks d (own d.name)) p.queues
    ++ (map table_toks p.tables ++ (map var_toks p.vars ++ map op_toks p.ops))))

-- the text behind the header
abbrev unit_lines : OwnCaps → PlanForm → List ℕ
unit_lines own p =
    lines (decl_line (codes "output")) p.outputs ++ (lines (decl_line (codes "input")) p.inputs ++ (lines (queue_line own) p.queues
    ++ (lines table_line p.tables ++ (lines var_line p.vars ++ lines op_line p.ops))))

plan-chunk : (own : OwnCaps) (p : PlanForm) → HaveOwnCaps own → w.IsWritable p → Chunk (unit_lines own p) (units own p)
plan-chunk own p fit h =
    chunk-then (lines (decl_line (codes "output")) p.outputs) (map (decl_toks (codes "output")) p.outputs) _ _
    (chunk-lines (decl_line (codes "output")) (decl_toks (codes "output")) w.IsWritableDecl
    (λ d k. decl-unit (codes "output") d is_output refl k) p.outputs h.outputs)
    (chunk-then (lines (decl_line (codes "input")) p.inputs) (map (decl_toks (codes "input")) p.inputs) _ _
    (chunk-lines (decl_line (codes "input")) (decl_toks (codes "input")) w.IsWritableDecl
    (λ d k. decl-unit (codes "input") d is_input refl k) p.inputs h.inputs)
    (chunk-then (lines (queue_line own) p.queues) (map (λ d. queue_toks d (own d.name)) p.queues) _ _
    (chunk-lines (queue_line own) (λ d. queue_toks d (own d.name)) w.IsWritableDecl (λ d k. queue-unit d (own d.name) k (fit d.name)) p.queues h.queues)
    (chunk-then (lines table_line p.tables) (map table_toks p.tables) _ _ (chunk-lines table_line table_toks w.IsWritableTable table-unit p.tables h.tables)
    (chunk-then (lines var_line p.vars) (map var_toks p.vars) _ _ (chunk-lines var_line var_toks w.IsNamed var-unit p.vars h.vars)
    (chunk-lines op_line op_toks w.IsWritableOp op-unit p.ops h.ops)))))

text-chunk : (own : OwnCaps) (p : PlanForm) → HaveOwnCaps own → w.IsWritable p → Chunk (plan_text own p) (header_toks ∷ units own p)
text-chunk own p fit h =
    chunk-then header_line (header_toks ∷ []) (unit_lines own p) (units own p) (chunk-unit header_line header_toks header-unit) (plan-chunk own p fit h)

last_stage : (p : PlanForm) → w.IsWritable p → (b : ℕ) → b ≤ 6 → AllFormed IsUnitAt next_place (behind b) (map operator p.ops) (map op_toks p.ops)
last_stage p h b le =
    subst (λ (es : List EntryForm). AllFormed IsUnitAt next_place (behind b) es (map op_toks p.ops)) (append-nil (map operator p.ops))
    (subst (λ (us : List (List Tok)). AllFormed IsUnitAt next_place (behind b) (map operator p.ops ++ []) us) (append-nil (map op_toks p.ops))
    (stage-then 5 b (map operator p.ops) [] (map op_toks p.ops) [] le
    (stage_lines 5 operator op_toks w.IsWritableOp (λ x. refl) (λ x k. refl) op_formed p.ops h.ops) (λ c k. tt)))

plan-formed : (own : OwnCaps) (p : PlanForm) → HaveOwnCaps own → w.IsWritable p → AreUnits (behind 1) (entries_of own p) (units own p)
plan-formed own p fit h =
    stage-then 0 1 (map output p.outputs) _ (map (decl_toks (codes "output")) p.outputs) _ (omega arith)
    (stage_lines 0 output (decl_toks (codes "output")) w.IsWritableDecl (λ x. refl) (λ x k. refl) output-formed p.outputs h.outputs) (λ a la.
    stage-then 1 a (map input p.inputs) _ (map (decl_toks (codes "input")) p.inputs) _ (omega arith)
    (stage_lines 1 input (decl_toks (codes "input")) w.IsWritableDecl (λ x. refl) (λ x k. refl) input-formed p.inputs h.inputs) (λ b lb.
    stage-then 2 b (map (capped own) p.queues) _ (map (λ d. queue_toks d (own d.name)) p.queues) _ (omega arith)
    (stage_lines 2 (capped own) (λ d. queue_toks d (own d.name)) w.IsWritableDecl (λ x. refl) (λ d k. stands_behind (own d.name) (fit d.name))
    (λ d k. queue-formed d (own d.name) k (fit d.name)) p.queues h.queues) (λ c lc.
    stage-then 3 c (map table p.tables) _ (map table_toks p.tables) _ (omega arith)
    (stage_lines 3 table table_toks w.IsWritableTable (λ x. refl) (λ x k. refl) table_formed p.tables h.tables) (λ d ld.
    stage-then 4 d (map private p.vars) _ (map var_toks p.vars) _ (omega arith)
    (stage_lines 4 private var_toks w.IsNamed (λ x. refl) (λ x k. refl) var_formed p.vars h.vars) (λ e le.
    last_stage p h e (omega arith))))))

cut-nothing : cut 0 [] ≡ []
unfolding cut
cut-nothing = refl

-- a header first, and then the units
text-formed : (own : OwnCaps) (p : PlanForm) → HaveOwnCaps own → w.IsWritable p
    → AreUnits (record { stage = 0; headed = false }) (header ∷ entries_of own p) (header_toks ∷ units own p)
text-formed own p fit h = (record { passes = refl; formed = header-formed }, plan-formed own p fit h)

stands : (own : OwnCaps) (p : PlanForm) → HaveOwnCaps own → w.IsWritable p → IsText (plan_text own p) (stood own p)
stands own p fit h =
    let all : List (List Tok) = header_toks ∷ units own p in
    let chunk = text-chunk own p fit h in
    let (ms, lexed, same) = spells-whole (plan_text own p) (joined_units all) chunk.spells tt in
    let whole : units_of (joined_units all) ≡ all =
    ap (cut 0) (sym (append-nil (joined_units all))) ∙ chunk.whole [] refl ∙ ap (λ (l : List (List Tok)). all ++ l) cut-nothing ∙ append-nil all in
    let first : first_place ms ≡ record { stage = 0; headed = false } =
    ap (λ b. record { stage = if b then 0 else 1; headed = false }) (header-short (unit_lines own p) ms lexed) in
    record {
      marks = ms;
      lexed = lexed;
      entries = header ∷ entries_of own p;
      formed =
          subst (λ (at : Place). AreUnits at (header ∷ entries_of own p) (units_of (toks ms))) (sym first)
          (subst (λ (us : List (List Tok)). AreUnits (record { stage = 0; headed = false }) (header ∷ entries_of own p) us) (sym (ap units_of same ∙ whole))
          (text-formed own p fit h));
      is = sym (made own p);
    }

-- the law: a plan that has what the grammar has is read back with its capacities, and no other
pub printed_is_read : PrintedIsRead
printed_is_read own p fit h = (stands own p fit h, λ u t. one_plan (plan_text own p) u (stood own p) t (stands own p fit h))
