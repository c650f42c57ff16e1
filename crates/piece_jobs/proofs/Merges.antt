-- What the jobs printed is merged.
use Rattle.std.proofs.Common.{◌≡◌, ℕ, zero, suc, ◌+◌, ◌<◌, ◌≤◌, Bool, true, false, inl, inr, ◌⊎◌, List, [], ◌∷◌, ◌++◌, length, take, refl, sym, ap, ◌∙◌, subst, arith, append_assoc}
use Rattle.std.specs.Prelude.{get_or, Option, None, Some, IfSome}
use Rattle.std.specs.List.{AllByRecursion}
use Rattle.std.proofs.lemmas.List.{append-nil, take_all}
use Rattle.river_outside.specs.Fetched.{FetchesAll, IsLarger}
use Rattle.river_plan.specs.Forms.{PlanForm}
use Rattle.river_plan.specs.declared.plan.TableDecl.{TableDecl}
use Rattle.piece_files.specs.Held.{HeldFiles, Put}
use Rattle.piece_files.specs.declared.file.JobFile.{JobFile}
use Rattle.piece_files.specs.declared.file.JobFile.TheVariants.{Kept, Whole, Out}
use Rattle.piece_merge.specs.Added.{IsMergeOf}
use Rattle.piece_merge.specs.Merging.{Merging, HasAdded}
use Rattle.piece_work.specs.declared.fault.WorkFault.{WorkFault}
use Rattle.piece_work.specs.declared.fault.WorkFault.TheVariants as why
use Rattle.piece_work.specs.Faults.{most_file}
use Rattle.piece_work.specs.Held.{bytes_of}
use Rattle.piece_jobs.specs.Came.{Ended}
use Rattle.piece_jobs.specs.Fetched.{WhyUnfetched}
use Rattle.piece_jobs.specs.Looked.{IsCame, AreCame}
use Rattle.piece_jobs.specs.Merged.{HasTables, HaveCome, IsPrinted, IsPrintedBy, out_of, IsKept, IsOut, Adds, WhyNotAdded, PutMerge}
use Rattle.piece_jobs.specs.Next.{WhyNotNext, IsFinished, outs_of, kept_texts}
use Rattle.piece_jobs.specs.Plan.{HasPlan}
use Rattle.piece_jobs.specs.Verdict.{IsDone}
use Rattle.piece_jobs.specs.declared.came.Ending.TheVariants.{Done}
use Rattle.piece_jobs.specs.declared.looking.Came.{Came}

-- the same of the same files
pub brought : (Is : HeldFiles → Type 0) (held there : Option HeldFiles) → there ≡ held → IfSome held Is → IfSome there Is
brought Is held there same is = subst (λ (o : Option HeldFiles). IfSome o Is) (sym same) is

fetched-bytes : (o : Option (List ℕ)) (limit : ℕ) (got : List ℕ) → FetchesAll o limit got → got ≡ bytes_of o
fetched-bytes None limit got f = absurd f
fetched-bytes (Some bytes) limit got f = f.0

-- WHAT A FILE HAS

-- it is added
pub file-added : (held : Option HeldFiles) (file : JobFile) (text : List ℕ) (old new : Merging) → IfSome held (λ h. FetchesAll (h file) most_file text)
    → Adds (text ∷ []) old new → IfSome held (λ h. Adds (bytes_of (h file) ∷ []) old new)
file-added None file text old new f adds = tt
file-added (Some h) file text old new f adds =
    subst (λ (t : List ℕ). Adds (t ∷ []) old new) (fetched-bytes (h file) most_file text f) adds

none-there : (o : Option (List ℕ)) (limit : ℕ) (got : List ℕ) → FetchesAll o limit got → o ≡ None → ⊥
none-there None limit got f e = f
none-there (Some bytes) limit got f e = cc

none-larger : (o : Option (List ℕ)) (limit : ℕ) (got : List ℕ) → FetchesAll o limit got → IsLarger o limit → ⊥
none-larger None limit got f l = f
none-larger (Some bytes) limit got f l = let within = f.1 in omega (arith, within, l)

absent-why : (h : HeldFiles) (rose : Type 0) (file : JobFile) → IsPrinted h file → h file ≡ None → WhyNotNext (Some h) rose why.Absent
absent-why h rose file (IsKept e) n = inr (inr (ap h (sym e) ∙ n))
absent-why h rose file (IsOut job turn e ended) n =
    absurd (none-there (h (Out job turn)) most_file ended.out ended.came.printed (ap h (sym e) ∙ n))

large-why : (h : HeldFiles) (rose : Type 0) (file : JobFile) → IsPrinted h file → IsLarger (h file) most_file → WhyNotNext (Some h) rose why.Large
large-why h rose file (IsKept e) l = inr (inr (inl (subst (λ (f : JobFile). IsLarger (h f) most_file) e l)))
large-why h rose file (IsOut job turn e ended) l =
    absurd (none-larger (h (Out job turn)) most_file ended.out ended.came.printed (subst (λ (f : JobFile). IsLarger (h f) most_file) e l))

-- it is not read
pub unread-print-why : (held : Option HeldFiles) (rose : Type 0) (file : JobFile) (fault : WorkFault) → IfSome held (λ h. IsPrinted h file)
    → WhyUnfetched held rose file fault → WhyNotNext held rose fault
unread-print-why None rose file why.Absent p w = w
unread-print-why (Some h) rose file why.Absent p w = absent-why h rose file p w
unread-print-why held rose file why.Unread p w = w
unread-print-why None rose file why.Large p w = tt
unread-print-why (Some h) rose file why.Large p w = large-why h rose file p w
unread-print-why held rose file why.NoMemory p w = tt
unread-print-why held rose file why.Unwritten p w = absurd w
unread-print-why held rose file why.Program p w = absurd w
unread-print-why held rose file why.Other p w = absurd w

strange : (h : HeldFiles) (rose : Type 0) (tables : List TableDecl) (file : JobFile) (text : List ℕ) → HasTables h tables → IsPrinted h file
    → FetchesAll (h file) most_file text → WhyNotAdded tables text why.Other → WhyNotNext (Some h) rose why.Other
strange h rose tables file text t p f none = inr (record {
  plan = t.plan;
  has = t.has;
  text = text;
  is = of p;
  none = subst (λ (ts : List TableDecl). WhyNotAdded ts text why.Other) t.are none;
}) where
  of : IsPrinted h file → FetchesAll (h Kept) most_file text ⊎ ((job turn : ℕ) × Ended h job turn Done × FetchesAll (h (Out job turn)) most_file text)
  of (IsKept e) = inl (subst (λ (g : JobFile). FetchesAll (h g) most_file text) e f)
  of (IsOut job turn e ended) = inr (job, turn, ended, subst (λ (g : JobFile). FetchesAll (h g) most_file text) e f)

-- or is no print of the program
pub not-added-why : (held there : Option HeldFiles) (rose : Type 0) (tables : List TableDecl) (file : JobFile) (text : List ℕ) (fault : WorkFault)
    → IfSome held (λ h. HasTables h tables) → IfSome held (λ h. IsPrinted h file) → IfSome held (λ h. FetchesAll (h file) most_file text)
    → WhyNotAdded tables text fault → WhyNotNext held rose fault
not-added-why held there rose tables file text why.Absent t p f w = absurd w
not-added-why held there rose tables file text why.Unread t p f w = absurd w
not-added-why held there rose tables file text why.Large t p f w = absurd w
not-added-why held there rose tables file text why.NoMemory t p f w = tt
not-added-why held there rose tables file text why.Unwritten t p f w = absurd w
not-added-why held there rose tables file text why.Program t p f w = absurd w
not-added-why None there rose tables file text why.Other t p f w = tt
not-added-why (Some h) there rose tables file text why.Other t p f w = strange h rose tables file text t p f w

-- JOB BY JOB

-- what so many jobs printed is added
abbrev pub AddedSo : Option HeldFiles → List (Option Came) → ℕ → Merging → Merging → Type 0
AddedSo held found place old new = IfSome held (λ h. Adds (outs_of h 1 (take place found)) old new)

nothing-added : (m : Merging) → Adds [] m m
nothing-added m before added = subst (HasAdded m) (sym (append-nil before)) added

no-outs : (h : HeldFiles) (job : ℕ) (found : List (Option Came)) → outs_of h job (take 0 found) ≡ []
no-outs h job [] = refl
no-outs h job (c ∷ cs) = refl

pub outs-first : (held : Option HeldFiles) (found : List (Option Came)) (m : Merging) → AddedSo held found 0 m m
outs-first None found m = tt
outs-first (Some h) found m = subst (λ (outs : List (List ℕ)). Adds outs m m) (sym (no-outs h 1 found)) (nothing-added m)

outs-more : (h : HeldFiles) (job : ℕ) (found : List (Option Came)) (i : ℕ) (d : Option Came) → i < length found
    → outs_of h job (take (i + 1) found) ≡ outs_of h job (take i found) ++ out_of h (job + i) (get_or found i d)
outs-more h job [] i d l = absurd (omega (arith, l))
outs-more h job (None ∷ cs) zero d l = no-outs h (suc job) cs
outs-more h job (Some c ∷ cs) zero d l =
    let k : job ≡ job + 0 = omega arith in
    ap (λ (outs : List (List ℕ)). bytes_of (h (Out job c.turn)) ∷ outs) (no-outs h (suc job) cs) ∙ ap (λ (n : ℕ). bytes_of (h (Out n c.turn)) ∷ []) k
outs-more h job (None ∷ cs) (suc i) d l =
    let k : suc i + 1 ≡ suc (i + 1) = omega arith in
    let n : suc job + i ≡ job + suc i = omega arith in
    ap (λ (m : ℕ). outs_of h job (take m (None ∷ cs))) k ∙ outs-more h (suc job) cs i d (omega (arith, l))
    ∙ ap (λ (m : ℕ). outs_of h (suc job) (take i cs) ++ out_of h m (get_or cs i d)) n
outs-more h job (Some c ∷ cs) (suc i) d l =
    let k : suc i + 1 ≡ suc (i + 1) = omega arith in
    let n : suc job + i ≡ job + suc i = omega arith in
    ap (λ (m : ℕ). outs_of h job (take m (Some c ∷ cs))) k
    ∙ ap (λ (outs : List (List ℕ)). bytes_of (h (Out job c.turn)) ∷ outs)
    (outs-more h (suc job) cs i d (omega (arith, l)) ∙ ap (λ (m : ℕ). outs_of h (suc job) (take i cs) ++ out_of h m (get_or cs i d)) n)

chained : (xs ys : List (List ℕ)) (old mid new : Merging) → Adds xs old mid → Adds ys mid new → Adds (xs ++ ys) old new
chained xs ys old mid new a b before added = subst (HasAdded new) (append_assoc before xs ys) (b (before ++ xs) (a before added))

-- and of the next one
pub outs-next : (held there : Option HeldFiles) (found : List (Option Came)) (i : ℕ) (d : Option Came) (old mid new : Merging) → i < length found
    → there ≡ held → AddedSo held found i old mid → IfSome there (λ h. Adds (out_of h (i + 1) (get_or found i d)) mid new)
    → AddedSo held found (i + 1) old new
outs-next held there found i d old mid new l same so one =
    by held so (subst (λ (o : Option HeldFiles). IfSome o (λ h. Adds (out_of h (i + 1) (get_or found i d)) mid new)) same one) where
      by : (o : Option HeldFiles) → AddedSo o found i old mid → IfSome o (λ h. Adds (out_of h (i + 1) (get_or found i d)) mid new)
          → AddedSo o found (i + 1) old new
      by None so one = tt
      by (Some h) so one =
          let k : 1 + i ≡ i + 1 = omega arith in
          let outs = outs-more h 1 found i d l ∙ ap (λ (n : ℕ). outs_of h 1 (take i found) ++ out_of h n (get_or found i d)) k in
          subst (λ (os : List (List ℕ)). Adds os old new) (sym outs)
          (chained (outs_of h 1 (take i found)) (out_of h (i + 1) (get_or found i d)) old mid new so one)

-- nothing is added of a job that has not come
pub nothing-of : (held : Option HeldFiles) (job : ℕ) (m : Merging) → IfSome held (λ h. Adds (out_of h job None) m m)
nothing-of None job m = tt
nothing-of (Some h) job m = nothing-added m

-- all are added
pub outs-all : (held : Option HeldFiles) (found : List (Option Came)) (i : ℕ) (old new : Merging) → length found ≤ i → AddedSo held found i old new
    → IfSome held (λ h. Adds (outs_of h 1 found) old new)
outs-all None found i old new l so = tt
outs-all (Some h) found i old new l so = subst (λ (cs : List (Option Came)). Adds (outs_of h 1 cs) old new) (take_all i found l) so

came-there : (h : HeldFiles) (turns job : ℕ) (found : List (Option Came)) (i : ℕ) (d : Option Came) → i < length found → AreCame h turns job found
    → IsCame h turns (job + i) (get_or found i d)
came-there h turns job [] i d l all = absurd (omega (arith, l))
came-there h turns job (c ∷ cs) zero d l all = subst (λ (n : ℕ). IsCame h turns n c) (omega arith) all.0
came-there h turns job (c ∷ cs) (suc i) d l all =
    subst (λ (n : ℕ). IsCame h turns n (get_or cs i d)) (omega arith) (came-there h turns (suc job) cs i d (omega (arith, l)) all.1)

done-at : (found : List (Option Came)) (i : ℕ) (d : Option Came) → i < length found → AllByRecursion IsDone found → IsDone (get_or found i d)
done-at [] i d l all = absurd (omega (arith, l))
done-at (c ∷ cs) zero d l all = all.0
done-at (c ∷ cs) (suc i) d l all = done-at cs i d (omega (arith, l)) all.1

by-came : (h : HeldFiles) (job turns : ℕ) (c : Option Came) → IsCame h turns job c → IsDone c → IsPrintedBy h job c
by-came h job turns None came done = tt
by-came h job turns (Some c) came done = IsOut job c.turn refl (subst (Ended h job c.turn) done came.ended)

-- what a job printed that is done
pub printed-out : (held there : Option HeldFiles) (found : List (Option Came)) (i : ℕ) (d : Option Came) → i < length found → there ≡ held
    → IfSome held (λ h. HaveCome h found) → AllByRecursion IsDone found → IfSome there (λ h. IsPrintedBy h (i + 1) (get_or found i d))
printed-out held there found i d l same have all = brought (λ h. IsPrintedBy h (i + 1) (get_or found i d)) held there same (by held have) where
  by : (o : Option HeldFiles) → IfSome o (λ h. HaveCome h found) → IfSome o (λ h. IsPrintedBy h (i + 1) (get_or found i d))
  by None have = tt
  by (Some h) have =
      let k : 1 + i ≡ i + 1 = omega arith in
      by-came h (i + 1) have.turns (get_or found i d)
      (subst (λ (n : ℕ). IsCame h have.turns n (get_or found i d)) k (came-there h have.turns 1 found i d l have.came)) (done-at found i d l all)

pub printed-kept : (held : Option HeldFiles) → IfSome held (λ h. IsPrinted h Kept)
printed-kept None = tt
printed-kept (Some h) = IsKept refl

pub ruleset outs = (outs-first, outs-next, outs-all, printed-out)

pub ruleset one_job = (nothing-of)

-- THE WHOLE

-- all is merged
pub merged-all : (held a b : Option HeldFiles) (tables : List TableDecl) (found : List (Option Came)) (text : List ℕ) (first mid last : Merging)
    → a ≡ held → b ≡ held → HasAdded first [] → last.tables ≡ tables
    → IfSome a (λ h. Adds (bytes_of (h Kept) ∷ []) first mid) → IfSome b (λ h. Adds (outs_of h 1 found) mid last)
    → ((outs : List (List ℕ)) → HasAdded last outs → IsMergeOf last.tables outs text)
    → IfSome held (λ h. IsMergeOf tables (kept_texts h true ++ outs_of h 1 found) text)
merged-all held a b tables found text first mid last sa sb none same kept outs merge =
    by held (subst (λ (o : Option HeldFiles). IfSome o (λ h. Adds (bytes_of (h Kept) ∷ []) first mid)) sa kept)
    (subst (λ (o : Option HeldFiles). IfSome o (λ h. Adds (outs_of h 1 found) mid last)) sb outs) where
      by : (o : Option HeldFiles) → IfSome o (λ h. Adds (bytes_of (h Kept) ∷ []) first mid) → IfSome o (λ h. Adds (outs_of h 1 found) mid last)
          → IfSome o (λ h. IsMergeOf tables (kept_texts h true ++ outs_of h 1 found) text)
      by None kept outs = tt
      by (Some h) kept outs =
          subst (λ (ts : List TableDecl). IsMergeOf ts (kept_texts h true ++ outs_of h 1 found) text) same
          (merge (kept_texts h true ++ outs_of h 1 found) (outs (bytes_of (h Kept) ∷ []) (kept [] none)))

pub merged-outs : (held : Option HeldFiles) (tables : List TableDecl) (found : List (Option Came)) (text : List ℕ) (first last : Merging)
    → HasAdded first [] → last.tables ≡ tables → IfSome held (λ h. Adds (outs_of h 1 found) first last)
    → ((outs : List (List ℕ)) → HasAdded last outs → IsMergeOf last.tables outs text)
    → IfSome held (λ h. IsMergeOf tables (kept_texts h false ++ outs_of h 1 found) text)
merged-outs None tables found text first last none same outs merge = tt
merged-outs (Some h) tables found text first last none same outs merge =
    subst (λ (ts : List TableDecl). IsMergeOf ts (outs_of h 1 found) text) same (merge (outs_of h 1 found) (outs [] none))

-- and written
pub put-merge : (held there new : Option HeldFiles) (tables : List TableDecl) (kept : Bool) (found : List (Option Came)) (text : List ℕ) → there ≡ held
    → IfSome held (λ h. IsMergeOf tables (kept_texts h kept ++ outs_of h 1 found) text) → Put Whole text there new
    → IfSome held (λ h. PutMerge tables (kept_texts h kept ++ outs_of h 1 found) h new)
put-merge held there new tables kept found text same merge put = by held merge (subst (λ (o : Option HeldFiles). Put Whole text o new) same put) where
  by : (o : Option HeldFiles) → IfSome o (λ h. IsMergeOf tables (kept_texts h kept ++ outs_of h 1 found) text) → Put Whole text o new
      → IfSome o (λ h. PutMerge tables (kept_texts h kept ++ outs_of h 1 found) h new)
  by None merge put = tt
  by (Some h) merge put = record { text = text; merge = merge; put = put }

-- by the tables of the program
pub has-tables : (held there : Option HeldFiles) (plan : PlanForm) → there ≡ held → IfSome held (λ h. HasPlan h plan)
    → IfSome there (λ h. HasTables h plan.tables)
has-tables held there plan same has = brought (λ h. HasTables h plan.tables) held there same (by held has) where
  by : (o : Option HeldFiles) → IfSome o (λ h. HasPlan h plan) → IfSome o (λ h. HasTables h plan.tables)
  by None has = tt
  by (Some h) has = record { plan = plan; has = has; are = refl }

pub finished-is : (held there new : Option HeldFiles) (plan : PlanForm) (kept : Bool) (found : List (Option Came)) → there ≡ held
    → IfSome held (λ h. HasPlan h plan) → IfSome there (λ h. PutMerge plan.tables (kept_texts h kept ++ outs_of h 1 found) h new)
    → IfSome held (λ h. IsFinished h kept found new)
finished-is held there new plan kept found same has put =
    by held has (subst (λ (o : Option HeldFiles). IfSome o (λ h. PutMerge plan.tables (kept_texts h kept ++ outs_of h 1 found) h new)) same put) where
      by : (o : Option HeldFiles) → IfSome o (λ h. HasPlan h plan) → IfSome o (λ h. PutMerge plan.tables (kept_texts h kept ++ outs_of h 1 found) h new)
          → IfSome o (λ h. IsFinished h kept found new)
      by None has put = tt
      by (Some h) has put = record { plan = plan; has = has; text = put.text; merge = put.merge; put = put.put }
