-- What a text says of the progress.
use Rattle.std.proofs.Common.{◌≡◌, ℕ, ◌<◌, ◌^◌, ℤ, pos, Bool, true, false, List, [], ◌∷◌, length, refl, sym, ap, ◌∙◌, subst, arith}
use Rattle.std.specs.Prelude.{All, Result, Ok, Err, nat_abs}
use Rattle.std.proofs.lemmas.List.{append-nil}
use Rattle.std.proofs.lemmas.List.Elements.{All-cons, All-nil}
use Rattle.river_base.specs.Number.{IsValue}
use Rattle.river_base.proofs.Lists.{head_same, tail_same}
use Rattle.csv_streams.specs.Outcome.{row_line}
use Rattle.csv_streams.specs.Rows.{rows_of_file}
use Rattle.csv_streams.specs.declared.fault.InFault.{InFault}
use Rattle.csv_streams.proofs.PrintedRead.{printed_rows_are_read}
use Rattle.piece_jobs.specs.Progress.{HasCounts, OneProgress, TextsSayProgress, flag, progress_row}
use Rattle.piece_jobs.specs.declared.progress.Progress.{Progress}

count-value : (n : ℕ) → n < 2 ^ 63 → IsValue (pos n)
count-value n l = omega (arith, l)

flag-value : (b : Bool) → IsValue (flag b)
flag-value true = omega arith
flag-value false = omega arith

row-values : (p : Progress) → HasCounts p → All IsValue (progress_row p)
row-values p few =
    let jobs = few.0 in
    let turn = few.1.0 in
    All-cons IsValue (pos p.jobs) (flag p.header ∷ pos p.turn ∷ flag p.kept ∷ pos p.before ∷ []) (count-value p.jobs (omega (arith, jobs)))
    (All-cons IsValue (flag p.header) (pos p.turn ∷ flag p.kept ∷ pos p.before ∷ []) (flag-value p.header)
    (All-cons IsValue (pos p.turn) (flag p.kept ∷ pos p.before ∷ []) (count-value p.turn (omega (arith, turn)))
    (All-cons IsValue (flag p.kept) (pos p.before ∷ []) (flag-value p.kept)
    (All-cons IsValue (pos p.before) [] (count-value p.before few.1.1) (All-nil IsValue)))))

-- what is written of a progress says it
pub texts_say_progress : TextsSayProgress
texts_say_progress p few =
    let row = progress_row p in
    subst (λ (text : List ℕ). rows_of_file text 5 false false ≡ Ok (row ∷ [])) (append-nil (row_line row))
    (printed_rows_are_read 5 false (row ∷ []) (omega arith)
    (All-cons (λ (r : List ℤ). length r ≡ 5) row [] refl (All-nil (λ (r : List ℤ). length r ≡ 5)))
    (All-cons (λ (r : List ℤ). All IsValue r) row [] (row-values p few) (All-nil (λ (r : List ℤ). All IsValue r))) (omega arith))

in-rows : Result (List (List ℤ)) InFault → List ℤ
in-rows (Ok []) = []
in-rows (Ok (r ∷ rs)) = r
in-rows (Err f) = []

same-row : (read : Result (List (List ℤ)) InFault) (x y : List ℤ) → read ≡ Ok (x ∷ []) → read ≡ Ok (y ∷ []) → x ≡ y
unfolding in-rows
same-row read x y e f = ap in-rows (sym e ∙ f)

same-flag : (b c : Bool) → flag b ≡ flag c → b ≡ c
same-flag true true e = refl
same-flag true false e = cc e
same-flag false true e = cc e
same-flag false false e = refl

same-count : (m n : ℕ) → pos m ≡ pos n → m ≡ n
same-count m n e = ap nat_abs e

-- a text says one progress at most
pub one_progress : OneProgress
one_progress text p q h g =
    let rows = same-row (rows_of_file text 5 false false) (progress_row p) (progress_row q) h g in
    let p4 = pos p.before ∷ [] in
    let q4 = pos q.before ∷ [] in
    let p3 = flag p.kept ∷ p4 in
    let q3 = flag q.kept ∷ q4 in
    let p2 = pos p.turn ∷ p3 in
    let q2 = pos q.turn ∷ q3 in
    let p1 = flag p.header ∷ p2 in
    let q1 = flag q.header ∷ q2 in
    let a = same-count p.jobs q.jobs (head_same (pos p.jobs) (pos q.jobs) p1 q1 rows) in
    let r1 : p1 ≡ q1 = tail_same (pos p.jobs) (pos q.jobs) p1 q1 rows in
    let b = same-flag p.header q.header (head_same (flag p.header) (flag q.header) p2 q2 r1) in
    let r2 : p2 ≡ q2 = tail_same (flag p.header) (flag q.header) p2 q2 r1 in
    let c = same-count p.turn q.turn (head_same (pos p.turn) (pos q.turn) p3 q3 r2) in
    let r3 : p3 ≡ q3 = tail_same (pos p.turn) (pos q.turn) p3 q3 r2 in
    let d = same-flag p.kept q.kept (head_same (flag p.kept) (flag q.kept) p4 q4 r3) in
    let r4 : p4 ≡ q4 = tail_same (flag p.kept) (flag q.kept) p4 q4 r3 in
    let e = same-count p.before q.before (head_same (pos p.before) (pos q.before) [] [] r4) in
    λ i. record { jobs = a i; header = b i; turn = c i; kept = d i; before = e i }
