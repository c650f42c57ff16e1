-- Rows that are kept as their values one after another.
use Rattle.std.proofs.Common.{◌≡◌, ℕ, ℤ, ◌≤◌, List, [], ◌∷◌, ◌++◌, length, take, drop, map, refl, sym, ap, ◌∙◌, subst, arith, length-append, length-drop}
use Rattle.std.specs.Prelude.{All}
use Rattle.std.proofs.lemmas.List.{take-append-le, drop-append-le, take_all, map-append}
use Rattle.std.proofs.lemmas.List.Elements.{All-nil, All-cons, All-head, All-tail, All-append}
use Rattle.std.proofs.Math.Seq.{drop-append_seam}
use Rattle.work_code.specs.declared.emitted.Mark.{Mark}
use Rattle.work_code.specs.Emitted.{row_at, IsMark}

-- values that come behind leave a row as it was
row_at-grown : (values more : List ℤ) (m : Mark) → IsMark (length values) m → row_at (values ++ more) m ≡ row_at values m
row_at-grown values more m h =
    let w = h.within in
    let l = length-drop m.start values in
    ap (λ vs. (m.port, take m.width vs)) (drop-append-le m.start values more (omega (arith, w)))
    ∙ ap (λ vs. (m.port, vs)) (take-append-le m.width (drop m.start values) more (omega (arith, w, l)))

rows_behind : (values more : List ℤ) (marks : List Mark) → All (IsMark (length values)) marks
    → map (row_at (values ++ more)) marks ≡ map (row_at values) marks
rows_behind values more [] h = refl
rows_behind values more (m ∷ ms) h =
    ap (λ r. r ∷ map (row_at (values ++ more)) ms) (row_at-grown values more m (All-head (IsMark (length values)) m ms h))
    ∙ ap (λ rs. row_at values m ∷ rs) (rows_behind values more ms (All-tail (IsMark (length values)) m ms h))

-- and so all rows
pub rows-grown : (values more new : List ℤ) (marks marks' : List Mark) → new ≡ values ++ more → marks' ≡ marks → All (IsMark (length values)) marks
    → map (row_at new) marks' ≡ map (row_at values) marks
rows-grown values more new marks marks' g e h = ap (map (row_at new)) e ∙ ap (λ vs. map (row_at vs) marks) g ∙ rows_behind values more marks h

-- a row whose values came behind is the last
pub rows-more : (values row new : List ℤ) (marks marks' : List Mark) (m : Mark) → new ≡ values ++ row → marks' ≡ marks ++ m ∷ []
    → All (IsMark (length values)) marks → m.start ≡ length values → m.width ≡ length row
    → map (row_at new) marks' ≡ map (row_at values) marks ++ (m.port, row) ∷ []
rows-more values row new marks marks' m g e h s w =
    ap (map (row_at new)) e
    ∙ map-append (row_at new) marks (m ∷ [])
    ∙ ap (λ rs. rs ++ row_at new m ∷ []) (rows-grown values row new marks marks g refl h)
    ∙ ap (λ vs. map (row_at values) marks ++ (m.port, vs) ∷ [])
    (ap (λ vs. take m.width (drop m.start vs)) g ∙ ap (λ k. take m.width (drop k (values ++ row))) s ∙ ap (take m.width) (drop-append_seam values row)
    ∙ take_all m.width row (omega (arith, w)))

marks_within : (n k : ℕ) (marks : List Mark) → n ≤ k → All (IsMark n) marks → All (IsMark k) marks
marks_within n k [] le h = All-nil (IsMark k)
marks_within n k (m ∷ ms) le h =
    let here = All-head (IsMark n) m ms h in
    let w = here.within in
    All-cons (IsMark k) m ms (record { some = here.some; at_most = here.at_most; within = omega (arith, w, le) })
    (marks_within n k ms le (All-tail (IsMark n) m ms h))

-- the marks are marks of more values
pub marks-grown : (values more new : List ℤ) (marks marks' : List Mark) → new ≡ values ++ more → marks' ≡ marks → All (IsMark (length values)) marks
    → All (IsMark (length new)) marks'
marks-grown values more new marks marks' g e h =
    let l = ap length g ∙ length-append values more in
    subst (All (IsMark (length new))) (sym e) (marks_within (length values) (length new) marks (omega (arith, l)) h)

-- and so is that of a row of 1 to 16 values that came behind
pub marks-more : (values row new : List ℤ) (marks marks' : List Mark) (m : Mark) → new ≡ values ++ row → marks' ≡ marks ++ m ∷ []
    → All (IsMark (length values)) marks → m.start ≡ length values → m.width ≡ length row → 1 ≤ m.width → m.width ≤ 16
    → All (IsMark (length new)) marks'
marks-more values row new marks marks' m g e h s w some at_most =
    let l = ap length g ∙ length-append values row in
    let last : IsMark (length new) m = record { some = some; at_most = at_most; within = omega (arith, s, w, l) } in
    subst (All (IsMark (length new))) (sym e)
    (All-append (IsMark (length new)) marks (m ∷ []) (marks-grown values row new marks marks g refl h)
    (All-cons (IsMark (length new)) m [] last (All-nil (IsMark (length new)))))
