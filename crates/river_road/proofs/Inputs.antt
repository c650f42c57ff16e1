-- The names, files and rows of inputs.
use Rattle.std.proofs.Common.{◌≡◌, ℕ, zero, suc, ◌+◌, ◌<◌, ◌≤◌, drop, get_or, Bool, true, false, List, [], ◌∷◌, ◌++◌, length, refl, sym, ap, ◌∙◌, subst, arith}
use Rattle.std.proofs.Common.{not}
use Rattle.std.specs.Prelude.{Option, Some, None, Result, Ok, Err, All, IsTrue, nat_lt, if◌then◌else◌}
use Rattle.std.proofs.lemmas.List.{append_assoc, append-nil, drop_more, drop_all}
use Rattle.std.proofs.lemmas.Bool.Decides.{nat_tests}
use Rattle.river_base.specs.Name.{name_eq}
use Rattle.river_outside.specs.Held.{Held}
use Rattle.river_outside.specs.Order.{Order, Comes}
use Rattle.river_outside.specs.Decides.{Stops}
use Rattle.river_outside.specs.Passes.{past, RefusesPoint, StandsFor, AnswersAs, Passes}
use Rattle.river_outside.specs.declared.stop.Stop.{Stop}
use Rattle.river_outside.specs.declared.stop.Stop.TheVariants as stop
use Rattle.river_outside.proofs.Comes.{Comes-same}
use Rattle.river_outside.proofs.Passes.{past-refused, then-passes}
use Rattle.river_kernels.specs.Formed.{is_width}
use Rattle.river_plan.specs.declared.plan.Decl.{Decl}
use Rattle.river_plan.specs.Faults.{HasWidth, IsOuter}
use Rattle.river_plan.specs.Forms.{decl_names}
use Rattle.river_plan.specs.Names.{count}
use Rattle.river_road.specs.Inputs.{names, unknown, missing, first_told, names_fit, Reader, file_read, fetch_each, width_named, content_reader, with_first}
use Rattle.river_road.specs.Inputs.{all_read, content_named, contents_in_order, of_inputs}
use Rattle.river_road.specs.Text.{unknown_input, missing_input}
use Rattle.river_road.specs.declared.content.FileContent.{FileContent}
use Rattle.river_road.specs.declared.content.FileContent.TheVariants.{Rows as Plain}
use Rattle.command_line.specs.declared.command.InWord.{InWord}
use Rattle.river_road.specs.declared.layout.Layout.{Layout}

-- an input that is declared has a width
declared_width : (decls : List Decl) (name : List ℕ) → All HasWidth decls → 0 < count name (decl_names decls) → IsTrue (is_width (width_named decls name))
declared_width [] name h lt = absurd (omega (arith, lt))
declared_width (d ∷ ds) name h lt = by (name_eq d.name name) refl (declared_width ds name (λ k e lt. h (suc k) e (omega (arith, lt))))
  where
    by : (b : Bool) → name_eq d.name name ≡ b → (0 < count name (decl_names ds) → IsTrue (is_width (width_named ds name)))
        → IsTrue (is_width (width_named (d ∷ ds) name))
    by true e later = rw e (h 0 d (omega arith))
    by false e later = rw e (later (grind (arith, lt, e)))

-- where no name is unknown each word has one
abbrev IsKnown : List Decl → InWord → Type 0
IsKnown decls w = IsTrue (is_width (width_named decls w.name))

-- an input that a word names
abbrev pub IsNamed : List InWord → Decl → Type 0
IsNamed ins d = 0 < count d.name (names ins)

first_rest : {A : Type 0} (P : A → Type 0) (x : A) (xs : List A) → P x → All P xs → All P (x ∷ xs)
first_rest P x xs p ps zero d lt = p
first_rest P x xs p ps (suc k) d lt = ps k d (omega (arith, lt))

all_known : (decls : List Decl) (ins : List InWord) → All HasWidth decls → unknown decls ins ≡ None → All (IsKnown decls) ins
all_known decls [] h none = λ k d lt. absurd (omega (arith, lt))
all_known decls (w ∷ ws) h none = by (nat_lt 0 (count w.name (decl_names decls))) refl none (all_known decls ws h)
  where
    some : ◌≡◌ {A = Option InWord} (Some w) None → ⊥
    some e = cc

    by : (b : Bool) → nat_lt 0 (count w.name (decl_names decls)) ≡ b → (if not b then Some w else unknown decls ws) ≡ None
        → (unknown decls ws ≡ None → All (IsKnown decls) ws) → All (IsKnown decls) (w ∷ ws)
    by true e none later = first_rest (IsKnown decls) w ws (declared_width decls w.name h (grind (arith, nat_tests, e))) (later none)
    by false e none later = absurd (some none)

-- and each input has one
named_all : (ds : List Decl) (ins : List InWord) → missing ds ins ≡ None → All (λ d. IsNamed ins d) ds
named_all [] ins none = λ k d lt. absurd (omega (arith, lt))
named_all (d ∷ ds) ins none = by (nat_lt 0 (count d.name (names ins))) refl none (named_all ds ins)
  where
    some : ◌≡◌ {A = Option Decl} (Some d) None → ⊥
    some e = cc

    by : (b : Bool) → nat_lt 0 (count d.name (names ins)) ≡ b → (if not b then Some d else missing ds ins) ≡ None
        → (missing ds ins ≡ None → All (λ e. IsNamed ins e) ds) → All (λ e. IsNamed ins e) (d ∷ ds)
    by true e none later = first_rest (λ f. IsNamed ins f) d ds (grind (arith, nat_tests, e)) (later none)
    by false e none later = absurd (some none)

told_none : (u : Option InWord) (m : Option Decl) → first_told u m ≡ Ok tt → u ≡ None
told_none None m e = refl
told_none (Some w) None e = cc
told_none (Some w) (Some d) e = cc

none_missing : (u : Option InWord) (m : Option Decl) → first_told u m ≡ Ok tt → m ≡ None
none_missing None None e = refl
none_missing None (Some d) e = cc
none_missing (Some w) m e = cc

-- where the names fit, each input is named
pub all-named : (decls : List Decl) (ins : List InWord) → names_fit decls ins ≡ Ok tt → All (λ d. IsNamed ins d) decls
unfolding names_fit
all-named decls ins told = named_all decls ins (none_missing (unknown decls ins) (missing decls ins) told)

-- a name that is no input is told
pub unknown-told : (decls : List Decl) (ins : List InWord) (w : InWord) → unknown decls ins ≡ Some w → names_fit decls ins ≡ Err (unknown_input w.name)
unfolding names_fit
unknown-told decls ins w e = ap (λ (u : Option InWord). first_told u (missing decls ins)) e

-- an input that no word names is told, where all names are inputs
pub missing-told : (decls : List Decl) (ins : List InWord) (d : Decl) → unknown decls ins ≡ None → missing decls ins ≡ Some d
    → names_fit decls ins ≡ Err (missing_input d.name)
unfolding names_fit
missing-told decls ins d e f = ap (λ (u : Option InWord). first_told u (missing decls ins)) e ∙ ap (first_told None) f

-- otherwise the names fit
pub nothing-told : (decls : List Decl) (ins : List InWord) → unknown decls ins ≡ None → missing decls ins ≡ None → names_fit decls ins ≡ Ok tt
unfolding names_fit
nothing-told decls ins e f = ap (λ (u : Option InWord). first_told u (missing decls ins)) e ∙ ap (first_told None) f

-- an input that is named is of rows or of a stream
pub known-widths : (decls : List Decl) (ins : List InWord) → All IsOuter decls → names_fit decls ins ≡ Ok tt
    → All (λ w. IsTrue (is_width (width_named decls w.name))) ins
unfolding names_fit
known-widths decls ins h none = all_known decls ins (λ k d lt. (h k d lt).0) (told_none (unknown decls ins) (missing decls ins) none)

-- what was read before, and then the rest
module _ {A : Type 0} where
  -- a file's rows before those of the others
  abbrev pub put_before : List A → Result (List A) (List ℕ) → Result (List A) (List ℕ)
  put_before all (Ok more) = Ok (all ++ more)
  put_before all (Err text) = Err text

  before-one : (all : List A) (x : A) (later : Result (List A) (List ℕ)) → put_before all (with_first (Ok x) later) ≡ put_before (all ++ x ∷ []) later
  before-one all x (Ok more) = ap (λ (l : List A). Ok l) (sym (append_assoc all (x ∷ []) more))
  before-one all x (Err text) = refl

  before-none : (all : List A) → put_before all (Ok []) ≡ Ok all
  before-none all = ap (λ (l : List A). Ok l) (append-nil all)

  -- nothing was read before
  pub before-all : (r : Result (List A) (List ℕ)) → put_before [] r ≡ r
  before-all (Ok more) = refl
  before-all (Err text) = refl

module _ {A : Type 0} (reader : Reader A) (ins : List InWord) (files : List (List ℕ)) where
  -- one file more is read
  pub read-more : (i : ℕ) (w : InWord) (b : List ℕ) (all : List A) (x : A) (whole : Result (List A) (List ℕ))
      → i < length ins → length files ≡ length ins → w ≡ get_or ins i w → b ≡ get_or files i b → file_read reader w b ≡ Ok x
      → put_before all (all_read reader (drop i ins) (drop i files)) ≡ whole
      → put_before (all ++ x ∷ []) (all_read reader (drop (i + 1) ins) (drop (i + 1) files)) ≡ whole
  read-more i w b all x whole lt same w_is b_is read so_far =
      let later = all_read reader (drop (i + 1) ins) (drop (i + 1) files) in
      let left : drop i ins ≡ w ∷ drop (i + 1) ins = drop_more ins i w lt ∙ ap (λ y. y ∷ drop (i + 1) ins) (sym w_is) in
      let bytes : drop i files ≡ b ∷ drop (i + 1) files = drop_more files i b (omega (arith, lt, same)) ∙ ap (λ y. y ∷ drop (i + 1) files) (sym b_is) in
      sym (before-one all x later)
      ∙ ap (λ r. put_before all (with_first r later)) (sym read)
      ∙ ap (λ l. put_before all (all_read reader (w ∷ drop (i + 1) ins) l)) (sym bytes)
      ∙ ap (λ l. put_before all (all_read reader l (drop i files))) (sym left)
      ∙ so_far

  -- a record at fault
  pub read-fault : (i : ℕ) (w : InWord) (b : List ℕ) (all : List A) (s : Stop)
      → i < length ins → length files ≡ length ins → w ≡ get_or ins i w → b ≡ get_or files i b → RefusesPoint (file_read reader w b) s
      → put_before all (all_read reader (drop i ins) (drop i files)) ≡ all_read reader ins files → RefusesPoint (all_read reader ins files) s
  read-fault i w b all stop.Usage lt same w_is b_is told so_far = absurd told
  read-fault i w b all (stop.Refused text) lt same w_is b_is told so_far =
      let later = all_read reader (drop (i + 1) ins) (drop (i + 1) files) in
      let left : drop i ins ≡ w ∷ drop (i + 1) ins = drop_more ins i w lt ∙ ap (λ y. y ∷ drop (i + 1) ins) (sym w_is) in
      let bytes : drop i files ≡ b ∷ drop (i + 1) files = drop_more files i b (omega (arith, lt, same)) ∙ ap (λ y. y ∷ drop (i + 1) files) (sym b_is) in
      sym so_far
      ∙ ap (λ l. put_before all (all_read reader l (drop i files))) left
      ∙ ap (λ l. put_before all (all_read reader (w ∷ drop (i + 1) ins) l)) bytes
      ∙ ap (λ r. put_before all (with_first r later)) told
  read-fault i w b all (stop.Failed text) lt same w_is b_is told so_far = absurd told
  read-fault i w b all (stop.Absent text) lt same w_is b_is told so_far = absurd told
  read-fault i w b all stop.NoMemory lt same w_is b_is told so_far = tt

  -- all files are read
  pub read-whole : (i : ℕ) (all : List A) (whole : Result (List A) (List ℕ)) → length ins ≤ i
      → put_before all (all_read reader (drop i ins) (drop i files)) ≡ whole → whole ≡ Ok all
  read-whole i all whole le so_far =
      sym so_far ∙ ap (λ l. put_before all (all_read reader l (drop i files))) (drop_all i ins le) ∙ before-none all

-- a word of another name
pub content-skip : (ins : List InWord) (all : List FileContent) (name : List ℕ) (i : ℕ) (w : InWord) (whole : FileContent)
    → i < length ins → length all ≡ length ins → w ≡ get_or ins i w → name_eq (get_or ins i w).name name ≡ false
    → content_named (drop i ins) (drop i all) name ≡ whole → content_named (drop (i + 1) ins) (drop (i + 1) all) name ≡ whole
content-skip ins all name i w whole lt same w_is other so_far =
    let none = Plain [] in
    let left : drop i ins ≡ w ∷ drop (i + 1) ins = drop_more ins i w lt ∙ ap (λ y. y ∷ drop (i + 1) ins) (sym w_is) in
    let files : drop i all ≡ get_or all i none ∷ drop (i + 1) all = drop_more all i none (omega (arith, lt, same)) in
    let here : name_eq w.name name ≡ false = ap (λ (y : InWord). name_eq y.name name) w_is ∙ other in
    ap (λ b. if b then get_or all i none else content_named (drop (i + 1) ins) (drop (i + 1) all) name) (sym here)
    ∙ ap (λ l. content_named (w ∷ drop (i + 1) ins) l name) (sym files)
    ∙ ap (λ l. content_named l (drop i all) name) (sym left)
    ∙ so_far

-- ---- FROM THE NAMES TO THE FILES

module _ (decls : List Decl) (ins : List InWord) (layout : Layout) (held : Option Held) where
  abbrev reader : Reader FileContent
  reader = content_reader decls layout

  -- after the names: the files are fetched, and then read
  abbrev from_files : (List FileContent → Order) → Order
  from_files next = fetch_each ins (λ files. past (all_read reader ins files) (λ all. next (contents_in_order decls ins all)))

  past_names : (next : List FileContent → Order) → names_fit decls ins ≡ Ok tt → of_inputs decls ins layout next ≡ from_files next
  unfolding of_inputs
  past_names next fit = ap (λ r. past r (λ _. from_files next)) fit

  -- a name refuses
  pub names-stop : (rose : Type 0) (s : Stop) → RefusesPoint (names_fit decls ins) s → (next : List FileContent → Order)
      → Stops (Some (of_inputs decls ins layout next)) held rose s
  unfolding of_inputs
  names-stop rose s told next = past-refused (names_fit decls ins) s held rose told (λ _. from_files next)

  -- a fetch stops
  pub fetch-stop : (rose : Type 0) (s : Stop) → names_fit decls ins ≡ Ok tt → ((next : List (List ℕ) → Order) → Stops (Some (fetch_each ins next)) held rose s)
      → (next : List FileContent → Order) → Stops (Some (of_inputs decls ins layout next)) held rose s
  fetch-stop rose s fit stops next =
      subst (λ (o : Order). Stops (Some o) held rose s) (sym (past_names next fit))
      (stops (λ files. past (all_read reader ins files) (λ all. next (contents_in_order decls ins all))))

  -- the files are read
  read_passes : (rose : Type 0) (files : List (List ℕ)) (result : Result (List FileContent) Stop)
      → AnswersAs (λ all rows. rows ≡ contents_in_order decls ins all) (all_read reader ins files) result
      → Passes (λ next. past (all_read reader ins files) (λ all. next (contents_in_order decls ins all))) held rose result
  read_passes rose files (Ok rows) told = found (all_read reader ins files) refl told
    where
      found : (r : Result (List FileContent) (List ℕ)) → all_read reader ins files ≡ r → StandsFor (λ all rows. rows ≡ contents_in_order decls ins all) r rows
          → (next : List FileContent → Order) → Comes (past r (λ all. next (contents_in_order decls ins all))) held (next rows)
      found (Ok all) is told next =
          subst (λ l. Comes (next (contents_in_order decls ins all)) held (next l)) (sym told) (Comes-same (next (contents_in_order decls ins all)) held)
      found (Err text) is told next = absurd told
  read_passes rose files (Err s) told = λ next. past-refused (all_read reader ins files) s held rose told (λ all. next (contents_in_order decls ins all))

  -- what is read of the files passes on as the order of points says
  pub files-pass : (rose : Type 0) (files : List (List ℕ)) (result : Result (List FileContent) Stop) → names_fit decls ins ≡ Ok tt
      → ((next : List (List ℕ) → Order) → Comes (fetch_each ins next) held (next files))
      → AnswersAs (λ all rows. rows ≡ contents_in_order decls ins all) (all_read reader ins files) result → Passes (of_inputs decls ins layout) held rose result
  files-pass rose files (Ok rows) fit far told = λ next.
      subst (λ (o : Order). Comes o held (next rows)) (sym (past_names next fit))
      (then-passes (fetch_each ins) (λ f next. past (all_read reader ins f) (λ all. next (contents_in_order decls ins all))) held rose rose (λ r. r) files
      (Ok rows) far (read_passes rose files (Ok rows) told) next)
  files-pass rose files (Err s) fit far told = λ next.
      subst (λ (o : Order). Stops (Some o) held rose s) (sym (past_names next fit))
      (then-passes (fetch_each ins) (λ f next. past (all_read reader ins f) (λ all. next (contents_in_order decls ins all))) held rose rose (λ r. r) files
      (Err s) far (read_passes rose files (Err s) told) next)
