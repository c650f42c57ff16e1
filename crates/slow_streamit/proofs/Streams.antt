-- Streams by the streams that are declared before them.
use Rattle.std.proofs.Common.{◌≡◌, ℕ, zero, suc, ◌+◌, ◌<◌, ◌≤◌, ℤ, Bool, true, false, List, [], ◌∷◌, ◌++◌, length, take, drop, get_or, Some, None, refl, sym}
use Rattle.std.proofs.Common.{ap, ◌∙◌, subst, arith, append_assoc, append-nil}
use Rattle.std.specs.Prelude.{if◌then◌else◌}
use Rattle.std.proofs.lemmas.List.{drop_all, take_all, take_more, map-append}
use Rattle.river_base.proofs.Lists.{drop_next}
use Rattle.river_base.specs.Name.{name_eq}
use Rattle.river_plan.specs.Forms.{Name}
use Rattle.streamit_model.specs.Meaning.{Works, look, or_same, known_works, piped, branched, body_works, all_work, last_of, program_outputs}
use Rattle.streamit_text.specs.Program.{Program, UnitForm, body_of, unit_form, unit_forms}
use Rattle.streamit_text.specs.declared.program.Unit as code_unit
use Rattle.streamit_build.specs.Readable.{IsReadableBody, AreReadable}
use Rattle.slow_streamit.specs.Works.{works_of}

abbrev Env : Type 0
Env = List (Name × Works)

-- ONE STREAM MORE

all_work-last : (env : Env) (us : Program) (u : UnitForm) → all_work env (us ++ u ∷ []) ≡ (u.name, body_works (all_work env us) u.body) ∷ all_work env us
all_work-last env [] u = refl
all_work-last env (v ∷ us) u = all_work-last ((v.name, body_works env v.body) ∷ env) us u

pub works-last : (us : List code_unit.Unit) (i : ℕ) (d : code_unit.Unit) → i < length us → d ≡ get_or us i d
    → works_of (take (i + 1) us) ≡ (d.name, body_works (works_of (take i us)) (body_of d.body)) ∷ works_of (take i us)
works-last us i d lt e =
    ap works_of (take_more us i d lt ∙ ap (λ x. take i us ++ x ∷ []) (sym e))
    ∙ ap (all_work []) (map-append unit_form (take i us) (d ∷ []))
    ∙ all_work-last [] (unit_forms (take i us)) (unit_form d)

-- LOOKING UP

-- the name is among the first ones, if it is there
pub record PlaceSoFar (us : List code_unit.Unit) (n : Name) (i : ℕ) : Type 0 where
  pub within : i ≤ length us
  pub same : look (works_of (take i us)) n ≡ look (works_of us) n

pub place_start : (us : List code_unit.Unit) (n : Name) → PlaceSoFar us n (length us)
place_start us n = record { within = omega arith; same = ap (λ l. look (works_of l) n) (take_all (length us) us (omega arith)) }

look-at : (us : List code_unit.Unit) (n : Name) (i : ℕ) (d : code_unit.Unit) (b : Bool) → i < length us → d ≡ get_or us i d → name_eq d.name n ≡ b
    → look (works_of (take (i + 1) us)) n ≡ (if b then Some (body_works (works_of (take i us)) (body_of d.body)) else look (works_of (take i us)) n)
look-at us n i d b lt e t =
    ap (λ env. look env n) (works-last us i d lt e)
    ∙ ap (λ c. if c then Some (body_works (works_of (take i us)) (body_of d.body)) else look (works_of (take i us)) n) t

-- the name is not at this place
pub place_next : (us : List code_unit.Unit) (n : Name) (k i : ℕ) (d : code_unit.Unit) → k ≡ i + 1 → d ≡ get_or us i d → name_eq d.name n ≡ false
    → PlaceSoFar us n k → PlaceSoFar us n i
place_next us n k i d ek e t f = record {
  within = let w = f.within in omega (arith, w, ek);
  same = let w = f.within in sym (look-at us n i d false (omega (arith, w, ek)) e t) ∙ ap (λ j. look (works_of (take j us)) n) (sym ek) ∙ f.same;
}

-- it is at this place
pub place_here : (us : List code_unit.Unit) (n : Name) (k i : ℕ) (d : code_unit.Unit) → k ≡ i + 1 → d ≡ get_or us i d → name_eq d.name n ≡ true
    → PlaceSoFar us n k → look (works_of us) n ≡ Some (body_works (works_of (take i us)) (body_of d.body))
place_here us n k i d ek e t f = let w = f.within in sym f.same ∙ ap (λ j. look (works_of (take j us)) n) ek ∙ look-at us n i d true (omega (arith, w, ek)) e t

pub place_none : (us : List code_unit.Unit) (n : Name) (i : ℕ) → i ≡ 0 → PlaceSoFar us n i → look (works_of us) n ≡ None
place_none us n i z f = sym f.same ∙ ap (λ j. look (works_of (take j us)) n) z

-- the program's stream is the last
pub outputs-last : (us : List code_unit.Unit) (i : ℕ) (d : code_unit.Unit) (xs : List ℤ) → i + 1 ≡ length us → d ≡ get_or us i d
    → program_outputs (unit_forms us) xs ≡ body_works (works_of (take i us)) (body_of d.body) xs
outputs-last us i d xs el e =
    ap (λ l. program_outputs (unit_forms l) xs) (sym (take_all (i + 1) us (omega (arith, el))))
    ∙ ap (λ env. or_same (last_of env) xs) (works-last us i d (omega (arith, el)) e)

pub outputs-none : (us : List code_unit.Unit) (xs : List ℤ) → length us ≡ 0 → program_outputs (unit_forms us) xs ≡ xs
outputs-none [] xs e = refl
outputs-none (u ∷ us) xs e = absurd (omega (arith, e))

-- WHAT THE GRAMMAR SEES TO

-- what the grammar sees to, of the first units
pub readable-front : (us : List code_unit.Unit) (i : ℕ) → AreReadable (unit_forms us) → AreReadable (unit_forms (take i us))
readable-front us zero h = tt
readable-front [] (suc i) h = tt
readable-front (u ∷ us) (suc i) h = (h.0, readable-front us i h.1)

-- and of one unit
pub readable-at : (us : List code_unit.Unit) (i : ℕ) (d : code_unit.Unit) → i < length us → d ≡ get_or us i d → AreReadable (unit_forms us)
    → IsReadableBody (body_of d.body)
readable-at [] i d lt e h = absurd (omega (arith, lt))
readable-at (u ∷ us) zero d lt e h = subst (λ (x : code_unit.Unit). IsReadableBody (body_of x.body)) (sym e) h.0
readable-at (u ∷ us) (suc i) d lt e h = readable-at us i d (omega (arith, lt)) e h.1

-- PIPELINES

-- one stream after another
abbrev pub in_line : Env → List Name → List ℤ → List ℤ
in_line env [] xs = xs
in_line env (m ∷ ms) xs = in_line env ms (known_works env m xs)

pub piped-line : (env : Env) (n : Name) (ms : List Name) (xs : List ℤ) → piped env n ms xs ≡ in_line env ms (known_works env n xs)
piped-line env n [] xs = refl
piped-line env n (m ∷ ms) xs = piped-line env m ms (known_works env n xs)

-- the streams that are left give what all give
abbrev pub LineSoFar : Env → List Name → ℕ → List ℤ → List ℤ → Type 0
LineSoFar env ms i first now = in_line env (drop i ms) now ≡ in_line env ms first

pub line_next : (env : Env) (ms : List Name) (i : ℕ) (m : Name) (first now next : List ℤ) → i < length ms → m ≡ get_or ms i m → next ≡ known_works env m now
    → LineSoFar env ms i first now → LineSoFar env ms (i + 1) first next
line_next env ms i m first now next lt e is f = ap (in_line env (drop (i + 1) ms)) is ∙ ap (λ l. in_line env l now) (sym (drop_next ms i m lt e)) ∙ f

-- behind the last stream of a line
pub line_end : (env : Env) (n : Name) (ms : List Name) (i : ℕ) (xs first now : List ℤ) → length ms ≤ i → first ≡ known_works env n xs
    → LineSoFar env ms i first now → now ≡ piped env n ms xs
line_end env n ms i xs first now le is f = ap (λ l. in_line env l now) (sym (drop_all i ms le)) ∙ f ∙ ap (in_line env ms) is ∙ sym (piped-line env n ms xs)

-- BRANCHES

-- the branches from number p on
abbrev pub from_branch : Env → (ℕ → List ℤ) → ℕ → List Name → List (List ℤ)
from_branch env f p [] = []
from_branch env f p (m ∷ ms) = known_works env m (f p) ∷ from_branch env f (suc p) ms

branched-from : (env : Env) (f : ℕ → List ℤ) (n : Name) (ms : List Name) (p : ℕ) (g : ℕ → List ℤ) → ((q : ℕ) → g q ≡ f (q + p))
    → branched env n ms g ≡ from_branch env f p (n ∷ ms)
branched-from env f n [] p g e = ap (λ xs. known_works env n xs ∷ []) (e 0 ∙ ap f (let z : 0 + p ≡ p = omega arith in z))
branched-from env f n (m ∷ ms) p g e =
    ap (λ xs. known_works env n xs ∷ branched env m ms (λ q. g (suc q))) (e 0 ∙ ap f (let z : 0 + p ≡ p = omega arith in z))
    ∙ ap (λ ls. known_works env n (f p) ∷ ls)
    (branched-from env f m ms (suc p) (λ q. g (suc q)) (λ q. e (suc q) ∙ ap f (let z : suc q + p ≡ q + suc p = omega arith in z)))

pub branched-all : (env : Env) (f : ℕ → List ℤ) (n : Name) (ms : List Name) → branched env n ms f ≡ known_works env n (f 0) ∷ from_branch env f 1 ms
branched-all env f n ms = branched-from env f n ms 0 f (λ q. ap f (let z : q ≡ q + 0 = omega arith in z))

-- the lists so far, and those of the branches from place i on behind the first
abbrev pub BranchesSoFar : Env → (ℕ → List ℤ) → Name → List Name → ℕ → List (List ℤ) → List (List ℤ) → Type 0
BranchesSoFar env f n ms i before lists = lists ++ from_branch env f (i + 1) (drop i ms) ≡ before ++ branched env n ms f

-- the first branch
pub branches_start : (env : Env) (f : ℕ → List ℤ) (n : Name) (ms : List Name) (before lists : List (List ℤ)) (share out : List ℤ) → share ≡ f 0
    → out ≡ known_works env n share → lists ≡ before ++ out ∷ [] → BranchesSoFar env f n ms 0 before lists
branches_start env f n ms before lists share out es eo el =
    ap (λ l. l ++ from_branch env f 1 ms) el
    ∙ append_assoc before (out ∷ []) (from_branch env f 1 ms)
    ∙ ap (λ l. before ++ (l ∷ from_branch env f 1 ms)) (eo ∙ ap (known_works env n) es)
    ∙ ap (λ l. before ++ l) (sym (branched-all env f n ms))

pub branches_next : (env : Env) (f : ℕ → List ℤ) (n : Name) (ms : List Name) (i : ℕ) (m : Name) (before lists lists' : List (List ℤ)) (share out : List ℤ)
    → i < length ms → m ≡ get_or ms i m → share ≡ f (i + 1) → out ≡ known_works env m share → lists' ≡ lists ++ out ∷ []
    → BranchesSoFar env f n ms i before lists → BranchesSoFar env f n ms (i + 1) before lists'
branches_next env f n ms i m before lists lists' share out lt em es eo el h =
    let rest = from_branch env f (i + 1 + 1) (drop (i + 1) ms) in
    ap (λ l. l ++ rest) el
    ∙ append_assoc lists (out ∷ []) rest
    ∙ ap (λ l. lists ++ (l ∷ rest)) (eo ∙ ap (known_works env m) es)
    ∙ ap (λ p. lists ++ (known_works env m (f (i + 1)) ∷ from_branch env f p (drop (i + 1) ms))) (let z : i + 1 + 1 ≡ suc (i + 1) = omega arith in z)
    ∙ ap (λ l. lists ++ from_branch env f (i + 1) l) (sym (drop_next ms i m lt em))
    ∙ h

pub branches_end : (env : Env) (f : ℕ → List ℤ) (n : Name) (ms : List Name) (i : ℕ) (before lists : List (List ℤ)) → length ms ≤ i
    → BranchesSoFar env f n ms i before lists → lists ≡ before ++ branched env n ms f
branches_end env f n ms i before lists le h = sym (append-nil lists) ∙ ap (λ l. lists ++ from_branch env f (i + 1) l) (sym (drop_all i ms le)) ∙ h

-- there are as many lists as branches
branched-length : (env : Env) (n : Name) (ms : List Name) (f : ℕ → List ℤ) → length (branched env n ms f) ≡ suc (length ms)
branched-length env n [] f = refl
branched-length env n (m ∷ ms) f = ap suc (branched-length env m ms (λ p. f (suc p)))

-- there are as many lists as branches
pub lists-length : (env : Env) (n : Name) (ms : List Name) (f : ℕ → List ℤ) (none lists : List (List ℤ)) → none ≡ [] → lists ≡ none ++ branched env n ms f
    → (length lists ≡ suc (length ms)) × (lists ≡ branched env n ms f)
lists-length env n ms f none lists z e =
    let is : lists ≡ branched env n ms f = e ∙ ap (λ l. l ++ branched env n ms f) z in
    (ap length is ∙ branched-length env n ms f, is)
