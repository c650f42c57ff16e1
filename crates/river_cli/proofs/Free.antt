-- Where a free program is done, its journal was written.
use Rattle.std.proofs.Common.{◌≡◌, ◌<◌, ℕ, Bool, true, false, List, [], ◌∷◌, length, nat_lt, refl, ap, subst, inr}
use Rattle.std.specs.Prelude.{Option, None, Some, IfSome, MatchOption, Result, Ok, Err}
use Rattle.std.specs.Bool.{MatchBool}
use Rattle.command_line.specs.Sentences.{command_of}
use Rattle.command_line.specs.declared.command.Command.TheVariants.{Free}
use Rattle.command_line.specs.declared.command.FreeWords.{FreeWords}
use Rattle.command_line.specs.declared.command.InWord.{InWord}
use Rattle.free_front.proofs.Fronts.{means_what_it_has}
use Rattle.free_front.specs.Meaning.{program_in}
use Rattle.free_front.specs.declared.front_fault.FreeTextFault.{FreeTextFault}
use Rattle.free_model.specs.Forms.{FreeForm}
use Rattle.free_model.specs.Valid.{IsFree}
use Rattle.free_runs.proofs.Printed.{journal_is_printed}
use Rattle.free_runs.specs.Journals.{PrintsJournal}
use Rattle.free_runs.specs.Points.{or_refused, free_in, of_free_program, of_free_inputs, of_free}
use Rattle.free_runs.specs.Texts.{free_text, picks_of}
use Rattle.river_outside.proofs.Comes.{Comes-same, Comes-on}
use Rattle.river_outside.proofs.Passes.{past-found}
use Rattle.river_outside.specs.Held.{Held}
use Rattle.river_outside.specs.Order.{Order, Ends, Fetch, EndsIn, Comes, Unread, Refused, Done}
use Rattle.river_outside.specs.Passes.{past}
use Rattle.river_plan.specs.declared.plan.Decl.{Decl}
use Rattle.river_road.specs.Inputs.{names_fit, fetch_each, all_read, content_reader, contents_in_order, of_inputs, all_items}
use Rattle.river_road.specs.Layouts.{layout_of}
use Rattle.river_road.specs.Limits.{most_program, most_input}
use Rattle.river_road.specs.Text.{large_program, large_input}
use Rattle.river_road.specs.declared.content.FileContent.{FileContent}
use Rattle.river_road.specs.declared.layout.Layout.{Layout}
use Rattle.river_cli.specs.Answer.{WroteEnd}
use Rattle.river_cli.specs.Does.{Does}
use Rattle.river_cli.specs.Free.{RanFree, WroteJournal}
use Rattle.river_cli.specs.Points.{of_command, ended, points_of}
use Rattle.river_cli.proofs.Worked.{free-worked}

module _ (held : Option Held) (text : List ℕ) where
  -- a fetch whose points come to an output gave bytes
  record Fetched (name : List ℕ) (limit : ℕ) (next : List ℕ → Order) : Type 0 where
    bytes : List ℕ
    is : IfSome held (λ h. h name ≡ Some bytes)
    fits : nat_lt limit (length bytes) ≡ false
    rest : EndsIn (next bytes) held (Done text)

  fetch-done : (name : List ℕ) (limit : ℕ) (large : List ℕ) (next : List ℕ → Order) → EndsIn (Fetch name limit large next) held (Done text) → Fetched name limit next
  fetch-done name limit large next h = by h.0 h.1 h.2
    where
      fits-by : (bytes : List ℕ) (b : Bool) → nat_lt limit (length bytes) ≡ b → IfSome held (λ h. h name ≡ Some bytes)
          → MatchBool b (Done text ≡ Refused large) (EndsIn (next bytes) held (Done text)) → Fetched name limit next
      fits-by bytes true e is m = absurd (cc m)
      fits-by bytes false e is m = record { bytes = bytes; is = is; fits = e; rest = m }

      by : (given : Option (List ℕ)) → IfSome held (λ h. h name ≡ given)
          → MatchOption given (Done text ≡ Unread name) (λ bytes. MatchBool (nat_lt limit (length bytes)) (Done text ≡ Refused large) (EndsIn (next bytes) held (Done text)))
          → Fetched name limit next
      by None is m = absurd (cc m)
      by (Some bytes) is m = fits-by bytes (nat_lt limit (length bytes)) refl is m

  past-done : {A : Type 0} (found : Result A (List ℕ)) (next : A → Order) → EndsIn (past found next) held (Done text)
      → (x : A) × (found ≡ Ok x) × EndsIn (next x) held (Done text)
  past-done (Ok x) next h = (x, refl, h)
  past-done (Err t) next h = absurd (cc h)

  each-done : (ins : List InWord) (next : List (List ℕ) → Order) → EndsIn (fetch_each ins next) held (Done text)
      → (files : List (List ℕ)) × EndsIn (next files) held (Done text) × ((other : List (List ℕ) → Order) → Comes (fetch_each ins other) held (other files))
  unfolding fetch_each
  each-done [] next h = ([], h, λ other. Comes-same (other []) held)
  each-done (w ∷ ins) next h =
      let f = fetch-done w.file most_input (large_input w.name) (λ bytes. fetch_each ins (λ files. next (bytes ∷ files))) h in
      let i = each-done ins (λ files. next (f.bytes ∷ files)) f.rest in
      (f.bytes ∷ i.0, i.1, λ other. inr (f.bytes, f.is, f.fits, i.2 (λ files. other (f.bytes ∷ files))))

  -- the inputs were read, and what comes behind them comes to the output
  inputs-done : (decls : List Decl) (ins : List InWord) (layout : Layout) (next : List FileContent → Order) → EndsIn (of_inputs decls ins layout next) held (Done text)
      → (files : List FileContent) × EndsIn (next files) held (Done text)
      × ((other : List FileContent → Order) → Comes (of_inputs decls ins layout other) held (other files))
  unfolding of_inputs
  inputs-done decls ins layout next h =
      let make = contents_in_order decls ins in
      let reader = content_reader decls layout in
      let n = past-done (names_fit decls ins) (λ _. fetch_each ins (λ files. past (all_read reader ins files) (λ all. next (make all)))) h in
      let f = each-done ins (λ files. past (all_read reader ins files) (λ all. next (make all))) n.2 in
      let r = past-done (all_read reader ins f.0) (λ all. next (make all)) f.1 in (
        make r.0,
        r.2,
        λ other.
            let behind : List (List ℕ) → Order = λ files. past (all_read reader ins files) (λ all. other (make all)) in
            Comes-on (past (names_fit decls ins) (λ _. fetch_each ins behind)) (fetch_each ins behind) (other (make r.0)) held
            (past-found (names_fit decls ins) n.0 held n.1 (λ _. fetch_each ins behind))
            (Comes-on (fetch_each ins behind) (behind f.0) (other (make r.0)) held (f.2 behind)
            (past-found (all_read reader ins f.0) r.0 held r.1 (λ all. other (make all)))),
      )

  found-program : (r : Result FreeForm FreeTextFault) (p : FreeForm) → or_refused r ≡ Ok p → r ≡ Ok p
  found-program (Ok q) p e = let is : q ≡ p = cc e in ap (λ (x : FreeForm). Ok x) is
  found-program (Err fault) p e = absurd (cc e)

  free-ran : (w : FreeWords) → 0 < w.workers → EndsIn (of_free w (λ output. Ends (Done output))) held (Done text) → RanFree w held text
  unfolding of_free of_free_program of_free_inputs
  free-ran w some h =
      let then : FreeForm → Order = λ p. of_free_inputs w p (λ output. Ends (Done output)) in
      let f = fetch-done w.file most_program large_program (λ t. past (free_in t) then) h in
      let c = past-done (free_in f.bytes) then f.rest in
      let is = found-program (program_in f.bytes) c.0 c.1 in
      let valid : IsFree c.0 = ((means_what_it_has f.bytes (Ok c.0)).0 is).1 in
      let i = inputs-done c.0.inputs w.ins (layout_of false w.header)
      (λ files. Ends (Done (free_text c.0 w.workers (picks_of w.start) (all_items files)))) c.2 in
      let same : free_text c.0 w.workers (picks_of w.start) (all_items i.0) ≡ text = let e = i.1 in cc e in
      record {
        source = f.bytes;
        program = c.0;
        files = i.0;
        source_is = f.is;
        program_is = is;
        valid = valid;
        read = i.2;
        prints = subst (PrintsJournal c.0 w.workers (picks_of w.start) (all_items i.0)) same
            (journal_is_printed c.0 w.workers (picks_of w.start) (all_items i.0) valid some);
      }

-- where the words ask for a free program, and an end was written, its journal was
pub free-wrote : (words : List (List ℕ)) (w : FreeWords) (held : Option Held) (old new : Option (List ℕ)) → command_of words ≡ Some (Free w)
    → WroteEnd (points_of words) held Done old new → WroteJournal w held old new
unfolding points_of ended of_command
free-wrote words w held old new is wrote =
    let end : EndsIn (of_free w (λ output. Ends (Done output))) held (Done wrote.text) = rw is at wrote.end in
    record { text = wrote.text; ran = free-ran held wrote.text w (free-worked words w is) end; took = wrote.took }

pub free-does : (words : List (List ℕ)) (held : Option Held) (unread rose : Type 0) (out out' : Option (List ℕ)) (out_rose : Type 0) (err err' : Option (List ℕ))
    (err_rose : Type 0) (status : ℕ) → Does (points_of words) held unread rose out out' out_rose err err' err_rose status
    → (w : FreeWords) → command_of words ≡ Some (Free w) → status ≡ 0 → WroteJournal w held out out'
free-does words held unread rose out out' out_rose err err' err_rose status d w is z = free-wrote words w held out out' is (d.done z).0
