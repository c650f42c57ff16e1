-- The loops over jobs and tries.
use Rattle.std.proofs.Common.{◌≡◌, ℕ, zero, suc, ◌+◌, ◌-◌, ◌<◌, ◌≤◌, List, [], ◌∷◌, ◌++◌, length, take, drop, refl, sym, ap, ◌∙◌, subst, arith, append_assoc, inl, inr, ◌⊎◌}
use Rattle.std.specs.Prelude.{get_or, ℤ, Option, None, Some, IfSome, IfNone}
use Rattle.std.specs.List.{AllByRecursion}
use Rattle.std.proofs.lemmas.List.{take_all}
use Rattle.std.proofs.lemmas.Bool.{cases_lt}
use Rattle.river_base.proofs.Lists.{drop_next, take_length, head_same}
use Rattle.piece_jobs.specs.Progress.{progress_row, HasCounts}
use Rattle.piece_jobs.specs.declared.progress.Progress.{Progress}
use Rattle.std.proofs.lemmas.List.{append-nil, length-append}
use Rattle.piece_files.specs.Held.{HeldFiles}
use Rattle.piece_jobs.specs.Came.{Ended, IsEnding}
use Rattle.piece_jobs.specs.Jobs.{list_line, list_text, numbers_from}
use Rattle.piece_jobs.specs.Verdict.{BehindSome, IsThere, IsDone}
use Rattle.piece_jobs.specs.declared.came.Ending.TheVariants.{Done, Refused}
use Rattle.piece_jobs.specs.Looked.{IsCame, AreCame, HasNotCome}
use Rattle.piece_jobs.specs.declared.came.Ending.{Ending}
use Rattle.piece_jobs.specs.declared.looking.Came.{Came}

-- LISTS OF JOBS

-- one line more of the list of all
pub all-next : (turn jobs job : ℕ) (text text' : List ℕ) → job < jobs → text' ≡ text ++ list_line turn (job + 1)
    → text' ++ list_text turn (numbers_from (job + 1 + 1) (jobs - (job + 1))) ≡ text ++ list_text turn (numbers_from (job + 1) (jobs - job))
all-next turn jobs job text text' l e =
    let n : jobs - job ≡ suc (jobs - (job + 1)) = omega (arith, l) in
    let k : suc (job + 1) ≡ job + 1 + 1 = omega arith in
    ap (λ (t : List ℕ). t ++ list_text turn (numbers_from (job + 1 + 1) (jobs - (job + 1)))) e
    ∙ append_assoc text (list_line turn (job + 1)) (list_text turn (numbers_from (job + 1 + 1) (jobs - (job + 1))))
    ∙ ap (λ (i : ℕ). text ++ (list_line turn (job + 1) ++ list_text turn (numbers_from i (jobs - (job + 1))))) (sym k)
    ∙ sym (ap (λ (m : ℕ). text ++ list_text turn (numbers_from (job + 1) m)) n)

-- behind the last
pub all-end : (turn jobs job : ℕ) (text : List ℕ) → jobs ≤ job → text ++ list_text turn (numbers_from (job + 1) (jobs - job)) ≡ text
all-end turn jobs job text l =
    let n : jobs - job ≡ 0 = omega (arith, l) in
    ap (λ (m : ℕ). text ++ list_text turn (numbers_from (job + 1) m)) n ∙ append-nil text

pub ruleset lists = (all-next, all-end)

-- FRONTS

-- what stands at a place does not hang on the default
get_or-same : {A : Type 0} (xs : List A) (i : ℕ) (d e : A) → i < length xs → get_or xs i d ≡ get_or xs i e
get_or-same [] i d e l = absurd (omega (arith, l))
get_or-same (x ∷ xs) zero d e l = refl
get_or-same (x ∷ xs) (suc i) d e l = get_or-same xs i d e (omega (arith, l))

none-so : (Is : Option Came → Type 0) (found : List (Option Came)) → AllByRecursion Is (take 0 found)
none-so Is [] = tt
none-so Is (c ∷ cs) = tt

pub front-first : (Is : Option Came → Type 0) (found : List (Option Came)) → AllByRecursion Is (take 0 found)
front-first Is found = none-so Is found

front-next : (Is : Option Came → Type 0) (found : List (Option Came)) (i : ℕ) (d : Option Came) → i < length found → AllByRecursion Is (take i found)
    → Is (get_or found i d) → AllByRecursion Is (take (i + 1) found)
front-next Is [] i d l all one = absurd (omega (arith, l))
front-next Is (c ∷ cs) zero d l all one = (one, none-so Is cs)
front-next Is (c ∷ cs) (suc i) d l all one =
    let k : suc (i + 1) ≡ suc i + 1 = omega arith in
    subst (λ (n : ℕ). AllByRecursion Is (take n (c ∷ cs))) k (all.0, front-next Is cs i d (omega (arith, l)) all.1 one)

-- the next job has come
pub there-next : (found : List (Option Came)) (i : ℕ) (d : Option Came) (came : Came) → i < length found → get_or found i d ≡ Some came
    → AllByRecursion IsThere (take i found) → AllByRecursion IsThere (take (i + 1) found)
there-next found i d came l e all = front-next IsThere found i d l all (subst IsThere (sym e) tt)

-- or is done
pub done-next : (found : List (Option Came)) (i : ℕ) (d : Option Came) (came : Came) → i < length found → get_or found i d ≡ Some came → came.ending ≡ Done
    → AllByRecursion IsDone (take i found) → AllByRecursion IsDone (take (i + 1) found)
done-next found i d came l e done all = front-next IsDone found i d l all (subst IsDone (sym e) done)

-- all are so
pub front-all : (Is : Option Came → Type 0) (found : List (Option Came)) (i : ℕ) → length found ≤ i → AllByRecursion Is (take i found) → AllByRecursion Is found
front-all Is found i l all = subst (AllByRecursion Is) (take_all i found l) all

-- the one at this place is the first that is not
pub behind-front : (Is : Option Came → Type 0) (found : List (Option Came)) (i : ℕ) (c : Option Came) → i < length found → c ≡ get_or found i c
    → AllByRecursion Is (take i found) → BehindSome Is i c found
behind-front Is found i c l e all = record {
  before = take i found;
  after = drop (i + 1) found;
  is = sym (parted found i) ∙ ap (λ (rest : List (Option Came)). take i found ++ rest) (drop_next found i c l e);
  many = take_length found i l;
  all = all;
} where
  parted : (xs : List (Option Came)) (n : ℕ) → take n xs ++ drop n xs ≡ xs
  parted [] zero = refl
  parted [] (suc n) = refl
  parted (x ∷ xs) zero = refl
  parted (x ∷ xs) (suc n) = ap (λ (l : List (Option Came)). x ∷ l) (parted xs n)

-- the first that is not done was refused
pub refused-front : (found : List (Option Came)) (i : ℕ) (d : Option Came) (came : Came) → i < length found → get_or found i d ≡ Some came
    → came.ending ≡ Refused → AllByRecursion IsDone (take i found) → BehindSome IsDone i (Some (record { turn = came.turn; ending = Refused })) found
refused-front found i d came l e refused all =
    let same : Some came ≡ get_or found i (Some came) = sym e ∙ get_or-same found i d (Some came) l in
    subst (λ (ending : Ending). BehindSome IsDone i (Some (record { turn = came.turn; ending = ending })) found) refused
    (behind-front IsDone found i (Some came) l same all)

pub ruleset fronts = (front-first, there-next, done-next, front-all, behind-front, refused-front)

-- ONE ROW

pub row-alone : {A : Type 0} (rows : List A) (row : A) → length rows ≡ 1 → row ≡ get_or rows 0 row → rows ≡ row ∷ []
row-alone [] row l e = absurd (omega (arith, l))
row-alone (x ∷ []) row l e = λ i. sym e i ∷ []
row-alone (x ∷ y ∷ ys) row l e = absurd (omega (arith, l))

-- what the only row says, all rows say
pub some-alone : (rows : List (List ℤ)) (row : List ℤ) (o : Option Progress) → length rows ≡ 1 → row ≡ get_or rows 0 row
    → IfSome o (λ p. row ≡ progress_row p) → IfSome o (λ p. rows ≡ progress_row p ∷ [])
some-alone rows row None l e h = tt
some-alone rows row (Some p) l e h = row-alone rows row l e ∙ ap (λ (r : List ℤ). r ∷ []) h

-- and nothing more
pub none-alone : (rows : List (List ℤ)) (row : List ℤ) (o : Option Progress) → length rows ≡ 1 → row ≡ get_or rows 0 row
    → IfNone o ((p : Progress) → HasCounts p → row ≡ progress_row p → ⊥) → IfNone o ((p : Progress) → HasCounts p → rows ≡ progress_row p ∷ [] → ⊥)
none-alone rows row (Some p) l e h = tt
none-alone rows row None l e h = λ p few is. h p few (head_same row (progress_row p) [] [] (sym (row-alone rows row l e) ∙ is))

-- there are not so many rows
pub not-alone : (rows : List (List ℤ)) (p : Progress) → (length rows ≡ 1 → ⊥) → rows ≡ progress_row p ∷ [] → ⊥
not-alone rows p l is = l (ap length is)

pub ruleset rows = (some-alone, none-alone, not-alone)

-- TRIES AND JOBS

-- so of all jobs so far, where it is told what is held
abbrev pub FoundSo : Option HeldFiles → ℕ → List (Option Came) → Type 0
FoundSo held turns found = IfSome held (λ h. AreCame h turns 1 found)

pub found-none : (held : Option HeldFiles) (turns : ℕ) → FoundSo held turns []
found-none None turns = tt
found-none (Some h) turns = tt

one-more : (h : HeldFiles) (turns k : ℕ) (cs : List (Option Came)) (c : Option Came) → AreCame h turns k cs → IsCame h turns (k + length cs) c
    → AreCame h turns k (cs ++ c ∷ [])
one-more h turns k [] c all one = (subst (λ (n : ℕ). IsCame h turns n c) (omega arith) one, tt)
one-more h turns k (d ∷ cs) c all one =
    (all.0, one-more h turns (suc k) cs c all.1 (subst (λ (n : ℕ). IsCame h turns n c) (omega arith) one))

pub found-more : (held there : Option HeldFiles) (turns job : ℕ) (found found' : List (Option Came)) (c : Option Came) → there ≡ held → length found ≡ job
    → found' ≡ found ++ c ∷ [] → FoundSo held turns found → IfSome there (λ h. IsCame h turns (job + 1) c) → FoundSo held turns found'
found-more held there turns job found found' c same many is all one =
    subst (FoundSo held turns) (sym is) (by held all (subst (λ (o : Option HeldFiles). IfSome o (λ h. IsCame h turns (job + 1) c)) same one)) where
      by : (o : Option HeldFiles) → FoundSo o turns found → IfSome o (λ h. IsCame h turns (job + 1) c) → FoundSo o turns (found ++ c ∷ [])
      by None all one = tt
      by (Some h) all one =
          let n : job + 1 ≡ 1 + length found = omega (arith, many) in
          one-more h turns 1 found c all (subst (λ (i : ℕ). IsCame h turns i c) n one)

-- no try so far came whole
pub found-many : (found found' : List (Option Came)) (job : ℕ) (c : Option Came) → length found ≡ job → found' ≡ found ++ c ∷ [] → length found' ≡ job + 1
found-many found found' job c many is = ap length is ∙ length-append found (c ∷ []) ∙ ap (λ (n : ℕ). n + 1) many

abbrev pub NoneSo : Option HeldFiles → ℕ → ℕ → Type 0
NoneSo held turns job = IfSome held (λ h. HasNotCome h turns job)

pub none-first : (held : Option HeldFiles) (job : ℕ) → NoneSo held 0 job
none-first None job = tt
none-first (Some h) job = λ turn ending first last ended. absurd (omega (arith, first, last))

pub none-next : (held there : Option HeldFiles) (before job : ℕ) → there ≡ held → NoneSo held before job
    → IfSome there (λ h. IsEnding h job (before + 1) None) → NoneSo held (before + 1) job
none-next held there before job same all one =
    by held all (subst (λ (o : Option HeldFiles). IfSome o (λ h. IsEnding h job (before + 1) None)) same one) where
      last-or : (turn : ℕ) → turn ≤ before + 1 → (turn ≤ before) ⊎ (turn ≡ before + 1)
      last-or turn l = of (cases_lt before turn) where
        of : (before < turn) ⊎ (turn ≤ before) → (turn ≤ before) ⊎ (turn ≡ before + 1)
        of (inl m) = inr (omega (arith, l, m))
        of (inr m) = inl m

      by : (o : Option HeldFiles) → NoneSo o before job → IfSome o (λ h. IsEnding h job (before + 1) None) → NoneSo o (before + 1) job
      by None all one = tt
      by (Some h) all one = λ turn ending first last ended. of turn ending first ended (last-or turn last) where
        of : (turn : ℕ) (ending : Ending) → 1 ≤ turn → Ended h job turn ending → (turn ≤ before) ⊎ (turn ≡ before + 1) → ⊥
        of turn ending first ended (inl l) = all turn ending first l ended
        of turn ending first ended (inr e) = one ending (subst (λ (t : ℕ). Ended h job t ending) e ended)

pub none-all : (held there : Option HeldFiles) (turns before job : ℕ) → turns ≤ before → before ≤ turns → NoneSo held before job
    → IfSome held (λ h. IsCame h turns job None)
none-all None there turns before job l m all = tt
none-all (Some h) there turns before job l m all = λ turn ending first last ended. all turn ending first (omega (arith, l, last)) ended

pub came-is : (held there : Option HeldFiles) (turns before job : ℕ) (ending : Ending) → before < turns → there ≡ held
    → IfSome there (λ h. IsEnding h job (before + 1) (Some ending))
    → IfSome held (λ h. IsCame h turns job (Some (record { turn = before + 1; ending = ending })))
came-is held there turns before job ending l same one =
    by held (subst (λ (o : Option HeldFiles). IfSome o (λ h. IsEnding h job (before + 1) (Some ending))) same one) where
      by : (o : Option HeldFiles) → IfSome o (λ h. IsEnding h job (before + 1) (Some ending))
          → IfSome o (λ h. IsCame h turns job (Some (record { turn = before + 1; ending = ending })))
      by None one = tt
      by (Some h) one = record { first = omega arith; last = omega (arith, l); ended = one }

pub ruleset tries = (found-none, found-more, none-first, none-next, none-all, came-is)
