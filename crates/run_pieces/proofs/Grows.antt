-- What the calls of `pieces` that keep something and those of `river` come to.
use Rattle.std.proofs.Common.{◌≡◌, ◌⊎◌, inl, inr, ℕ, zero, suc, ◌+◌, ◌-◌, ◌≤◌, Bool, false, List, [], ◌∷◌, ◌++◌, length, take, drop, refl, sym, ap, ◌∙◌, subst, arith, length-append}
use Rattle.std.specs.Prelude.{Option, None, Some, IsSome, IfSome, Ok, codes}
use Rattle.std.specs.List.{AllByRecursion}
use Rattle.csv_cuts.specs.Cut.{AreCut}
use Rattle.csv_cuts.specs.Faults.{header_behind, moved, records_of}
use Rattle.csv_streams.specs.FilePieces.{IsUnmarked}
use Rattle.csv_streams.proofs.FilePieces.{records_in_pieces}
use Rattle.csv_streams.specs.Records.{csv_records}
use Rattle.kept_pieces.specs.Kept.{IsKeptOf}
use Rattle.kept_pieces.proofs.Kept.{front_is_kept, kept_goes_on, pieces_have_the_records, grown_fault_is_the_wholes}
use Rattle.piece_begin.specs.Grown.{begins_behind, begun_mark, extent_of, old_of}
use Rattle.piece_files.specs.Held.{HeldFiles}
use Rattle.piece_files.specs.Inputs.{HaveInputs}
use Rattle.piece_files.specs.declared.file.JobFile.TheVariants.{Program, Input, Kept, Mark}
use Rattle.piece_jobs.specs.Keeping.{HasKept, IsKept, IsKeptFrom, PutKept, Alone, Front}
use Rattle.piece_jobs.specs.Looked.{AreCame}
use Rattle.piece_jobs.specs.Next.{kept_texts, outs_of}
use Rattle.piece_jobs.specs.Plan.{most_text}
use Rattle.piece_jobs.specs.UnderWay.{OldPart, is_old}
use Rattle.piece_jobs.specs.Verdict.{IsDone}
use Rattle.piece_jobs.specs.declared.looking.Came.{Came}
use Rattle.piece_jobs.specs.declared.progress.Progress.{Progress}
use Rattle.piece_keep.specs.Fed.{inputs_to, records_held}
use Rattle.piece_keep.specs.Found.{IsFoundIn, IsMarkOf}
use Rattle.piece_keep.specs.Fronts.{bytes_in}
use Rattle.piece_keep.specs.Mark.{front_text, sum_of}
use Rattle.piece_keep.specs.declared.extent.Extent.{Extent}
use Rattle.piece_keep.specs.declared.found.Found.{Found}
use Rattle.piece_keep.specs.declared.found.Found.TheVariants as is
use Rattle.piece_keep.proofs.Fronts.{fronts_are_cut, unmarked-front}
use Rattle.piece_keep.proofs.Records.{inputs_are_fronts}
use Rattle.piece_merge.specs.Added.{IsMergeOf}
use Rattle.piece_work.specs.Faults.{most_file}
use Rattle.piece_work.specs.Held.{bytes_of}
use Rattle.river_outside.specs.Fetched.{FetchesAll}
use Rattle.river_pieces.specs.Refused.{HasFaultOfAll, HasFileFault}
use Rattle.river_pieces.specs.Whole.{ArePrinted, Means}
use Rattle.river_pieces.proofs.Whole.{grown_gives_the_whole}
use Rattle.river_plan.specs.Forms.{PlanForm}
use Rattle.saw_front.specs.Meaning.{Accepted, compiled, program_in}
use Rattle.saw_front.proofs.Fronts.{means_what_it_has}
use Rattle.saw_model.specs.Meaning.{tables_in}
use Rattle.run_pieces.specs.Driver.{AreCalls, TellsTheWhole, OfTheWhole, OfTheJob}
use Rattle.run_pieces.specs.Grown.{AgainStaysGrowing, BegunIsGrowing, DriverGivesTheGrown, DriverKeepsTheFront, DriverTellsTheGrown, IsGrowing, IsRightFor, KeepsFront}
use Rattle.run_pieces.specs.Refused.{told_of}
use Rattle.run_pieces.proofs.Driver.{again_stays_under_way, are-run, driver_gives_the_whole, held-is, progress-is}
use Rattle.run_pieces.proofs.Tells.{HasRefused, First, Itself, first-refused, driver_tells_the_whole, front-calls, front-inputs, moved-record, records-first}
use Rattle.run_pieces.proofs.Whole.{all-printed}

-- LISTS

take-drop : (n : ℕ) (xs : List ℕ) → take n xs ++ drop n xs ≡ xs
take-drop zero xs = refl
take-drop (suc n) [] = refl
take-drop (suc n) (x ∷ xs) = ap (λ (l : List ℕ). x ∷ l) (take-drop n xs)

take-front : (xs ys : List ℕ) → take (length xs) (xs ++ ys) ≡ xs
take-front [] ys = refl
take-front (x ∷ xs) ys = ap (λ (l : List ℕ). x ∷ l) (take-front xs ys)

take-length : (n : ℕ) (xs : List ℕ) → n ≤ length xs → length (take n xs) ≡ n
take-length zero xs l = refl
take-length (suc n) [] l = absurd (omega (arith, l))
take-length (suc n) (x ∷ xs) l = ap suc (take-length n xs (omega (arith, l)))

record Ending (pieces : List (List ℕ)) : Type 0 where
  first : List ℕ
  more : List (List ℕ)
  last : List ℕ
  is : pieces ≡ (first ∷ more) ++ (last ∷ [])

ending : (pieces : List (List ℕ)) → 2 ≤ length pieces → Ending pieces
ending [] l = absurd (omega (arith, l))
ending (x ∷ []) l = absurd (omega (arith, l))
ending (x ∷ y ∷ []) l = record { first = x; more = []; last = y; is = refl }
ending (x ∷ y ∷ z ∷ zs) l =
    let e = ending (y ∷ z ∷ zs) (omega arith) in
    record { first = x; more = e.first ∷ e.more; last = e.last; is = ap (λ (ps : List (List ℕ)). x ∷ ps) e.is }

-- BEGUN, AND ONCE MORE

pub begun_is_growing : BegunIsGrowing
begun_is_growing text bytes header found w g =
    let same : g.bytes ≡ bytes = sym (ap bytes_of g.file_is) in (
      g.pieces,
      record {
        within = subst (λ (b : List ℕ). (extent_of found).at ≤ length b) same g.within;
        cut = subst (λ (b : List ℕ). AreCut (drop (extent_of found).at b) (begins_behind header found) g.pieces) same g.cut;
        under_way = g.under_way;
        mark = g.mark;
      },
    )

inputs-same : (w v : HeldFiles) (n : ℕ) → ((job : ℕ) → v (Input job) ≡ w (Input job)) → inputs_to w n ≡ inputs_to v n
inputs-same w v zero same = refl
inputs-same w v (suc n) same = rw (inputs-same w v n same, same (suc n)) refl

records-same : (w v : HeldFiles) (n : ℕ) → ((job : ℕ) → v (Input job) ≡ w (Input job)) → records_held w n ≡ records_held v n
records-same w v zero same = refl
records-same w v (suc n) same = rw (records-same w v n same, same (suc n)) refl

mark-same : (text : List ℕ) (header : Bool) (front : List ℕ) (from : Extent) (w v : HeldFiles) (n : ℕ) → ((job : ℕ) → v (Input job) ≡ w (Input job))
    → begun_mark text header front from w n ≡ begun_mark text header front from v n
mark-same text header front from w v n same = rw (inputs-same w v n same, records-same w v n same) refl

pub again_stays_growing : AgainStaysGrowing
again_stays_growing text bytes header found pieces w None g n = absurd n.follows.3
again_stays_growing text bytes header found pieces w (Some v) g n =
    let retried = n.follows.3 in
    let same : (job : ℕ) → v (Input job) ≡ w (Input job) = λ job. retried.others (Input job) (λ e. cc e) (λ e. cc e) in
    let front = take (extent_of found).at bytes in
    let on = again_stays_under_way text (begins_behind header found) (old_of found) pieces w (Some v) g.under_way n in (
      refl,
      record {
        within = g.within;
        cut = g.cut;
        under_way = on.1;
        mark =
            retried.others Mark (λ e. cc e) (λ e. cc e) ∙ g.mark
            ∙ ap (λ (m : List ℕ). Some m) (mark-same text header front (extent_of found) w v (length pieces - 1) same);
      },
    )

-- WHAT IS PRINTED

pub driver_gives_the_grown : DriverGivesTheGrown
driver_gives_the_grown text bytes header k is.Nothing pieces w w' f right g calls n =
    driver_gives_the_whole text bytes header pieces w w' g.cut g.under_way calls n
driver_gives_the_grown text bytes header k is.Changed pieces w w' f right g calls n =
    driver_gives_the_whole text bytes header pieces w w' g.cut g.under_way calls n
driver_gives_the_grown text bytes header k (is.This kept) pieces w w' f right g calls n =
    let u = g.under_way in
    let at = kept.front.extent.at in
    let m : IsMarkOf f.0 (Some bytes) header text kept.tables kept.front.extent = f.2.0 in
    let r = right f.0 kept.tables kept.front.extent f.1 m in
    let old : Option OldPart = Some (record { tables = kept.tables; records = kept.front.extent.records }) in
    let p = progress-is text false old pieces w n.progress u n.reads in
    let many : length n.found ≡ length pieces = n.many ∙ ap (λ (q : Progress). q.jobs) p in
    let runs = are-run text false w n.progress.turn 1 pieces n.found many n.came n.follows.0 calls in
    let outs = outs_of w 1 n.found in
    let fin = n.follows.1 in
    let same = held-is (w Program) most_text fin.has.text text fin.has.reads u.program in
    let a = fin.has.is.program in
    let h = (means_what_it_has text (Ok a)).0 (ap compiled (sym same) ∙ fin.has.is.compiles) in
    let with_kept = subst (λ (b : Bool). IsMergeOf fin.plan.tables (kept_texts w b ++ outs) fin.text) (ap (λ (q : Progress). q.kept) p) fin.merge in
    let with_tables = subst (λ (t : List ℕ). IsMergeOf fin.plan.tables (t ∷ outs) fin.text) (ap bytes_of u.has_old) with_kept in
    let merge = subst (λ (plan : PlanForm). IsMergeOf plan.tables (kept.tables ∷ outs) fin.text) fin.has.is.is with_tables in
    record {
      out = fin.text;
      put = fin.put;
      means =
          subst (λ (b : List ℕ). Means text b header fin.text) (take-drop at bytes)
          (grown_gives_the_whole text (take at bytes) (drop at bytes) header a.units a.read kept.tables pieces outs fin.text h.0 h.1 r.kept.means r.kept.ends
          m.unmarked r.kept.begins g.cut (all-printed text false pieces outs runs) merge);
    }

-- WHAT IS KEPT

came-front : (w : HeldFiles) (turns job k : ℕ) (found : List (Option Came)) → AreCame w turns job found → AreCame w turns job (take k found)
came-front w turns job zero found c = tt
came-front w turns job (suc k) [] c = tt
came-front w turns job (suc k) (x ∷ xs) c = (c.0, came-front w turns (suc job) k xs c.1)

done-front : (k : ℕ) (found : List (Option Came)) → AllByRecursion IsDone found → AllByRecursion IsDone (take k found)
done-front zero found d = tt
done-front (suc k) [] d = tt
done-front (suc k) (x ∷ xs) d = (d.0, done-front k xs d.1)

front-length : (k : ℕ) (found : List (Option Came)) → k ≤ length found → length (take k found) ≡ k
front-length zero found l = refl
front-length (suc k) [] l = absurd (omega (arith, l))
front-length (suc k) (x ∷ xs) l = ap suc (front-length k xs (omega (arith, l)))

-- what is put is right for the front, where what was merged is
keeps-front : (text bytes : List ℕ) (header : Bool) (front last tables : List ℕ) (from : Extent) (w k : HeldFiles) (n : ℕ) (k' : Option HeldFiles)
    → from.at ≤ length bytes → bytes ≡ (take from.at bytes ++ front) ++ last → IsKeptOf text (take from.at bytes ++ front) header tables
    → from.records + records_held w n ≡ length (csv_records (take from.at bytes ++ front)) → inputs_to w n ≡ front
    → PutKept tables (begun_mark text header (take from.at bytes) from w n ++ (sum_of tables ++ codes "\n")) (Some k) k'
    → IsSome k' × IfSome k' (KeepsFront text bytes header)
keeps-front text bytes header front last tables from w k n None within whole kept records inputs put = absurd put
keeps-front text bytes header front last tables from w k n (Some v) within whole kept records inputs put =
    let old = take from.at bytes in
    let all = old ++ front in
    let at = from.at + length (inputs_to w n) in
    let many = from.records + records_held w n in
    let at-is : at ≡ length all =
    (let a = take-length from.at bytes within in
    let b = ap length inputs in
    omega (arith, a, b, length-append old front)) in
    let front-is : take at bytes ≡ all = rw at-is (ap (take (length all)) whole ∙ take-front all last) in
    let fed : old ++ inputs_to w n ≡ take at bytes = ap (λ (l : List ℕ). old ++ l) inputs ∙ sym front-is in (
      refl,
      record {
        tables = tables;
        extent = record { at = at; records = many };
        within = (let e = ap length whole in omega (arith, at-is, e, length-append all last));
        tables_are = put.tables_are;
        mark_is = put.mark_is ∙ ap (λ (l : List ℕ). Some (front_text at many header l text ++ (sum_of tables ++ codes "\n"))) fed;
        right = record {
          kept = subst (λ (b : List ℕ). IsKeptOf text b header tables) (sym front-is) kept;
          records = records ∙ ap (λ (b : List ℕ). length (csv_records b)) (sym front-is);
        };
      },
    )

-- what is merged of all jobs but the last, with what was kept
record Fronts (text bytes : List ℕ) (header : Bool) (found : Found) (pieces : List (List ℕ)) (w : HeldFiles) (tables : List ℕ) : Type 0 where
  e : Ending pieces
  n_is : length pieces - 1 ≡ length (e.first ∷ e.more)
  outs : List (List ℕ)
  printed : ArePrinted text (begins_behind header found) (e.first ∷ e.more) outs
  a : Accepted
  compiles : compiled text ≡ Ok a
  merge : IsMergeOf (tables_in (program_in a)) (kept_texts w (is_old (old_of found)) ++ outs) tables
  inputs : inputs_to w (length (e.first ∷ e.more)) ≡ bytes_in (e.first ∷ e.more)
  records : records_held w (length (e.first ∷ e.more)) ≡ records_of (e.first ∷ e.more)

fronts-of : (text bytes : List ℕ) (header : Bool) (found : Found) (pieces : List (List ℕ)) (w : HeldFiles) (old new : Option HeldFiles) (front : List ℕ)
    → (g : IsGrowing text bytes header found pieces w) → AreCalls text (begins_behind header found) w 1 pieces → (c : HasKept w old new) → 2 ≤ length c.found
    → (from : IsKeptFrom w c.progress.kept (take (length c.found - 1) c.found) front old new) → Fronts text bytes header found pieces w from.tables
fronts-of text bytes header found pieces w old new front g calls c two from =
    let u = g.under_way in
    let begins = begins_behind header found in
    let p = progress-is text begins (old_of found) pieces w c.progress u c.reads in
    let many : length c.found ≡ length pieces = c.many ∙ ap (λ (q : Progress). q.jobs) p in
    let e = ending pieces (omega (arith, many, two)) in
    let fronts = e.first ∷ e.more in
    let all = ap length e.is ∙ length-append fronts (e.last ∷ []) in
    let n_is : length pieces - 1 ≡ length fronts = omega (arith, all) in
    let short = take (length c.found - 1) c.found in
    let short-is : length short ≡ length fronts =
    (let a = front-length (length c.found - 1) c.found (omega arith) in
    omega (arith, a, many, n_is)) in
    let runs = are-run text begins w c.progress.turn 1 fronts short short-is (came-front w c.progress.turn 1 (length c.found - 1) c.found c.came)
    (done-front (length c.found - 1) c.found c.done) (front-calls text begins w 1 fronts (e.last ∷ []) (subst (AreCalls text begins w 1) e.is calls)) in
    let inputs = subst (HaveInputs w 1) e.is u.inputs in
    let same = held-is (w Program) most_text from.has.text text from.has.reads u.program in
    let outs = outs_of w 1 short in
    let with_kept = subst (λ (b : Bool). IsMergeOf from.plan.tables (kept_texts w b ++ outs) from.tables) (ap (λ (q : Progress). q.kept) p) from.merge in
    record {
      e = e;
      n_is = n_is;
      outs = outs;
      printed = all-printed text begins fronts outs runs;
      a = from.has.is.program;
      compiles = ap compiled (sym same) ∙ from.has.is.compiles;
      merge = subst (λ (plan : PlanForm). IsMergeOf plan.tables (kept_texts w (is_old (old_of found)) ++ outs) from.tables) from.has.is.is with_kept;
      inputs = inputs_are_fronts w fronts e.last inputs;
      records = records-first w fronts (front-inputs w 1 fronts (e.last ∷ []) inputs);
    }

-- where nothing was found
keeps-first : (text bytes : List ℕ) (header : Bool) (found : Found) (pieces : List (List ℕ)) (w k : HeldFiles) (tables : List ℕ) (k' : Option HeldFiles)
    → extent_of found ≡ record { at = 0; records = 0 } → begins_behind header found ≡ header → old_of found ≡ None
    → AreCut bytes header pieces → Fronts text bytes header found pieces w tables
    → PutKept tables (begun_mark text header [] (record { at = 0; records = 0 }) w (length pieces - 1) ++ (sum_of tables ++ codes "\n")) (Some k) k'
    → IsSome k' × IfSome k' (KeepsFront text bytes header)
keeps-first text bytes header found pieces w k tables k' ext beg none cut t put =
    let fronts = t.e.first ∷ t.e.more in
    let parts = subst (AreCut bytes header) t.e.is cut in
    let h = (means_what_it_has text (Ok t.a)).0 t.compiles in
    let printed = subst (λ (b : Bool). ArePrinted text b fronts t.outs) beg t.printed in
    let merge = subst (λ (o : Option OldPart). IsMergeOf (tables_in (program_in t.a)) (kept_texts w (is_old o) ++ t.outs) tables) none t.merge in
    let kept = front_is_kept text bytes header t.a.units t.a.read t.e.first t.e.more t.e.last t.outs tables h.0 h.1 parts printed merge in
    let f = fronts_are_cut bytes header t.e.first t.e.more t.e.last parts in
    let n = length fronts in
    let none : 0 + records_held w n ≡ records_held w n = omega arith in
    let counts = none ∙ t.records ∙ sym (pieces_have_the_records (bytes_in fronts) header t.e.first t.e.more f.cut) in
    keeps-front text bytes header (bytes_in fronts) t.e.last tables (record { at = 0; records = 0 }) w k n k' (omega arith) kept.0 kept.1 counts t.inputs
    (subst (λ (i : ℕ). PutKept tables (begun_mark text header [] (record { at = 0; records = 0 }) w i ++ (sum_of tables ++ codes "\n")) (Some k) k') t.n_is put)

-- where something was
keeps-grown : (text bytes : List ℕ) (header : Bool) (at records : ℕ) (old : List ℕ) (pieces : List (List ℕ)) (w k : HeldFiles) (tables : List ℕ) (k' : Option HeldFiles)
    (found : Found) → old_of found ≡ Some (record { tables = old; records = records }) → begins_behind header found ≡ false
    → at ≤ length bytes → IsUnmarked (drop at bytes) → IsRightFor text bytes header old (record { at = at; records = records })
    → w Kept ≡ Some old → AreCut (drop at bytes) false pieces → Fronts text bytes header found pieces w tables
    → PutKept tables (begun_mark text header (take at bytes) (record { at = at; records = records }) w (length pieces - 1) ++ (sum_of tables ++ codes "\n")) (Some k) k'
    → IsSome k' × IfSome k' (KeepsFront text bytes header)
keeps-grown text bytes header at records old pieces w k tables k' found has beg within unmarked right kept cut t put =
    let fronts = t.e.first ∷ t.e.more in
    let front = bytes_in fronts in
    let parts = subst (AreCut (drop at bytes) false) t.e.is cut in
    let h = (means_what_it_has text (Ok t.a)).0 t.compiles in
    let printed = subst (λ (b : Bool). ArePrinted text b fronts t.outs) beg t.printed in
    let with_old = subst (λ (o : Option OldPart). IsMergeOf (tables_in (program_in t.a)) (kept_texts w (is_old o) ++ t.outs) tables) has t.merge in
    let merge = subst (λ (l : List ℕ). IsMergeOf (tables_in (program_in t.a)) (l ∷ t.outs) tables) (ap bytes_of kept) with_old in
    let on = kept_goes_on text (take at bytes) (drop at bytes) header old t.a.units t.a.read t.e.first t.e.more t.e.last t.outs tables h.0 h.1 right.kept unmarked parts
    printed merge in
    let whole : bytes ≡ (take at bytes ++ front) ++ t.e.last = sym (take-drop at bytes) ∙ on.is in
    let f = fronts_are_cut (drop at bytes) false t.e.first t.e.more t.e.last parts in
    let behind = pieces_have_the_records front false t.e.first t.e.more f.cut in
    let plain : IsUnmarked front = unmarked-front front t.e.last (subst IsUnmarked f.is unmarked) in
    let both = ap length (records_in_pieces (take at bytes) front right.kept.ends plain) in
    let here = right.records in
    let those = t.records in
    let n = length fronts in
    let counts : records + records_held w n ≡ length (csv_records (take at bytes ++ front)) =
    omega (arith, here, those, behind, both, length-append (csv_records (take at bytes)) (csv_records front)) in
    keeps-front text bytes header front t.e.last tables (record { at = at; records = records }) w k n k' within whole on.kept counts t.inputs
    (subst (λ (i : ℕ). PutKept tables (begun_mark text header (take at bytes) (record { at = at; records = records }) w i ++ (sum_of tables ++ codes "\n")) (Some k) k')
    t.n_is put)

-- the mark begins with what the folder says
begins-so : (w : HeldFiles) (front mark tables : List ℕ) (k k' : Option HeldFiles) → FetchesAll (w Mark) most_file front → w Mark ≡ Some mark
    → PutKept tables (front ++ (sum_of tables ++ codes "\n")) k k' → PutKept tables (mark ++ (sum_of tables ++ codes "\n")) k k'
begins-so w front mark tables k k' reads is put =
    subst (λ (m : List ℕ). PutKept tables (m ++ (sum_of tables ++ codes "\n")) k k') (held-is (w Mark) most_file front mark reads is) put

pub driver_keeps_the_front : DriverKeepsTheFront
driver_keeps_the_front text bytes header k found pieces w k' f right g calls c = by c.kept where
  by-found : (found : Found) → IsFoundIn (Some bytes) header text k found → (g : IsGrowing text bytes header found pieces w)
      → (tables : List ℕ) → Fronts text bytes header found pieces w tables
      → PutKept tables (begun_mark text header (take (extent_of found).at bytes) (extent_of found) w (length pieces - 1) ++ (sum_of tables ++ codes "\n")) (Some k) k'
      → IsSome k' × IfSome k' (KeepsFront text bytes header)
  by-found is.Nothing f g tables t put = keeps-first text bytes header is.Nothing pieces w k tables k' refl refl refl g.cut t put
  by-found is.Changed f g tables t put = keeps-first text bytes header is.Changed pieces w k tables k' refl refl refl g.cut t put
  by-found (is.This kept) f g tables t put =
      let m : IsMarkOf f.0 (Some bytes) header text kept.tables kept.front.extent = f.2.0 in
      keeps-grown text bytes header kept.front.extent.at kept.front.extent.records kept.tables pieces w k tables k' (is.This kept) refl refl g.within m.unmarked
      (right f.0 kept.tables kept.front.extent f.1 m) g.under_way.has_old g.cut t put

  by : IsKept w c.progress.kept c.found (Some k) k' → (k' ≡ Some k) ⊎ (IsSome k' × IfSome k' (KeepsFront text bytes header))
  by (Alone few same) = inl same
  by (Front front two reads from) =
      let t = fronts-of text bytes header found pieces w (Some k) k' front g calls c two from in
      inr (by-found found f g from.tables t
      (begins-so w front (begun_mark text header (take (extent_of found).at bytes) (extent_of found) w (length pieces - 1)) from.tables (Some k) k' reads g.mark from.put))

-- WHAT IS TOLD

behind-none : (before : List (List ℕ)) → header_behind false before ≡ false
behind-none [] = refl
behind-none (x ∷ xs) = refl

pub driver_tells_the_grown : DriverTellsTheGrown
driver_tells_the_grown text bytes header k is.Nothing pieces w w' told f right g calls n =
    driver_tells_the_whole text bytes header pieces w w' told g.cut g.under_way calls n
driver_tells_the_grown text bytes header k is.Changed pieces w w' told f right g calls n =
    driver_tells_the_whole text bytes header pieces w w' told g.cut g.under_way calls n
driver_tells_the_grown text bytes header k (is.This kept) pieces w w' told f right g calls n =
    by (first-refused text false (old_of (is.This kept)) pieces w w' told g.under_way calls n) where
      m : IsMarkOf f.0 (Some bytes) header text kept.tables kept.front.extent
      m = f.2.0

      at : ℕ
      at = kept.front.extent.at

      r : IsRightFor text bytes header kept.tables kept.front.extent
      r = right f.0 kept.tables kept.front.extent f.1 m

      by : HasRefused text false (old_of (is.This kept)) pieces w told → TellsTheWhole text bytes header w told
      by (Itself job turn e) = OfTheJob job turn e
      by (First x) =
          let many = length (csv_records (take at bytes)) + records_of x.before in
          let fault = subst (λ (b : Bool). HasFileFault text x.piece b x.f) (behind-none x.before) x.fault in
          let all = grown_fault_is_the_wholes text (take at bytes) (drop at bytes) header kept.tables x.before x.piece x.after x.outs x.f r.kept m.unmarked
          (subst (λ (ps : List (List ℕ)). AreCut (drop at bytes) false ps) x.is g.cut) x.printed fault x.of_record in
          OfTheWhole (moved many x.f) (subst (λ (b : List ℕ). HasFaultOfAll text b header (moved many x.f)) (take-drop at bytes) all)
          (moved-record many x.f x.of_record) (x.told_is ∙ ap (λ (i : ℕ). told_of (moved (i + records_of x.before) x.f)) r.records)
