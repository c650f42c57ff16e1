-- The plan of a program means what the program means.
use Rattle.std.proofs.Common.{◌≡◌, ℕ, zero, suc, ℤ, ◌+◌, ◌<◌, ◌≤◌, List, [], ◌∷◌, ◌++◌, refl, sym, ap, ◌∙◌, arith, subst, length, map, append_assoc, ⊎_elim}
use Rattle.std.specs.Prelude.{All, if◌then◌else◌}
use Rattle.river_base.specs.Instants.{Timed, at_instant, spread}
use Rattle.river_base.specs.Places.{list_at}
use Rattle.river_kernels.specs.Kern.{duplicate}
use Rattle.river_plan.specs.Forms.{Name, decl_names}
use Rattle.river_plan.specs.Names.{one_if, count}
use Rattle.river_plan.specs.Uses.{Each}
use Rattle.river_plan.proofs.NameLemmas.{cases_name, count-append, one_same}
use Rattle.brooklet_model.specs.Histories.{History, lists_of, hist, Lists, Solves}
use Rattle.brooklet_model.proofs.Feeds.{one_input}
use Rattle.brooklet_model.proofs.Solutions.{solve_law, lists_written}
use Rattle.cql_model.specs.Laws.{known_names, AreKnown, IsSourced, AreSourced, AreFiles, TranslationMeans}
use Rattle.cql_model.specs.Program.{registered, streams_of, all_uses}
use Rattle.cql_text.specs.Tree.{Source, Query, Register, AQuery, Program}
use Rattle.cql_model.specs.Scopes.{scope_of}
use Rattle.cql_model.specs.Meaning.{KnownStream, named_of, rows_named, answer, query_known, stream_known, first_file, other_files, answers}
use Rattle.cql_model.specs.Plan.{copy_name, queue_of_use, queues_of_uses, item_ops, item_last, tail_ops, query_ops, query_named, queries_ops, copy_ops, input_ops}
use Rattle.cql_model.specs.Plan.{input_decls, output_decls, plan_of}
use Rattle.cql_model.proofs.Fed.{copy_fed}
use Rattle.cql_model.proofs.Instants.{Ascends, ascends}
use Rattle.cql_model.proofs.Walk.{each-append, Has, Reads, Gives, copies_have, items_have, tail_has}
use Rattle.cql_model.proofs.Widths.{AllWide, answer_wide, file_wide}

-- which queue a use reads
source_own : (inputs all : List Name) (n : Name) (k : ℕ) → 0 < count n inputs → count n all ≤ 1 → queue_of_use inputs all n k ≡ n
source_own inputs all n k lt le = grind (arith, lt, le)

source_copy : (inputs all : List Name) (n : Name) (k : ℕ) → 1 < count n all → queue_of_use inputs all n k ≡ copy_name n k
source_copy inputs all n k lt = grind (arith, lt)

source_query : (inputs all : List Name) (n : Name) (k : ℕ) → count n inputs ≡ 0 → queue_of_use inputs all n k ≡ copy_name n k
source_query inputs all n k z = grind (arith, z)

module _ (h : History) (ts : List ℤ) (up : Ascends ts) (inputs all : List Name) where
  -- each use of a stream reads a queue that has its rows
  abbrev pub ServedBy : Name → Timed → Type 0
  ServedBy n r = (j : ℕ) → j < count n all → Has h ts up (queue_of_use inputs all n j) r

  abbrev pub Served : List KnownStream → Type 0
  Served [] = Unit {0}
  Served (k ∷ ks) = ServedBy k.named.name k.rows × Served ks

  served : (ks : List KnownStream) (n : Name) → Served ks → 0 < count n (known_names (named_of ks)) → ServedBy n (rows_named ks n)
  served [] n s lt j lj = absurd (omega (arith, lt))
  served (k ∷ ks) n s lt j lj = ⊎_elim
      (λ c. ap (λ m. h (queue_of_use inputs all m j)) (sym c.0) ∙ s.0 j (subst (λ m. j < count m all) (sym c.0) lj)
      ∙ ap (λ b. spread ts (λ t. if b then k.rows t else rows_named ks n t)) (sym c.1))
      (λ c. served ks n s.1 (let e = ap one_if c.1 in omega (arith, lt, e)) j lj
      ∙ ap (λ b. spread ts (λ t. if b then k.rows t else rows_named ks n t)) (sym c.1))
      (cases_name k.named.name n)

  -- uses are counted
  abbrev pub Room : List Name → List Name → Type 0
  Room past ns = (n : Name) → count n past + count n ns ≤ count n all

  room_next : (past ns ms : List Name) → Room past (ns ++ ms) → Room (past ++ ns) ms
  room_next past ns ms r n = let a = count-append n past ns in let b = count-append n ns ms in let c = r n in omega (arith, a, b, c)

  reads_all : (ks : List KnownStream) (past : List Name) (items : List Source) (rest : List Name) → Served ks → AreKnown (named_of ks) (streams_of items)
      → Room past (streams_of items ++ rest)
      → Reads h ts up ks items (queues_of_uses inputs all past (streams_of items))
  reads_all ks past [] rest s k r = tt
  reads_all ks past (i ∷ is) rest s k r = (
    served ks i.stream s k.0 (count i.stream past) (let c = r i.stream in let o = one_same i.stream in omega (arith, c, o)),
    reads_all ks (past ++ i.stream ∷ []) is rest s k.1 (room_next past (i.stream ∷ []) (streams_of is ++ rest) r),
  )

  -- ONE QUERY

  query_gives : (ks : List KnownStream) (past rest : List Name) (q : Query) → AllWide ks → Served ks → IsSourced inputs (named_of ks) q
      → Room past (streams_of q.items ++ rest)
      → Each (Solves h) (query_ops inputs all (named_of ks) past q) → Gives h ts up q.name (count q.name all) (answer ts ks q)
  query_gives ks past rest q wide s a r e =
      let srcs = queues_of_uses inputs all past (streams_of q.items) in
      let last = item_last q.name q.items in
      let parts = each-append (Solves h) (item_ops q.name q.items srcs) (tail_ops q (scope_of (named_of ks) q.items) (count q.name all) last) e in
      tail_has h ts up ks q (count q.name all) last wide parts.1
      (items_have h ts up ks q.name q.items srcs a.some parts.0 (reads_all ks past q.items rest s a.streams r))

  query_serves : (ks : List KnownStream) (q : Query) (r : Timed) → count q.name inputs ≡ 0 → Gives h ts up q.name (count q.name all) r → ServedBy q.name r
  query_serves ks q r z g j lt = ap h (source_query inputs all q.name j z) ∙ g.copy j lt

  -- QUERY BY QUERY

  -- what serves the registered streams
  abbrev pub InputsServed : Program → List (List (ℤ × List ℤ)) → Type 0
  InputsServed [] files = Unit {0}
  InputsServed (Register name fields ∷ ps) files = ServedBy name (at_instant (first_file files)) × InputsServed ps (other_files files)
  InputsServed (AQuery q ∷ ps) files = InputsServed ps files

  abbrev pub FilesWide : Program → List (List (ℤ × List ℤ)) → Type 0
  FilesWide [] files = Unit {0}
  FilesWide (Register name fields ∷ ps) files = All (λ (e : ℤ × List ℤ). length e.1 ≡ length fields) (first_file files) × FilesWide ps (other_files files)
  FilesWide (AQuery q ∷ ps) files = FilesWide ps files

  queries_give : (ks : List KnownStream) (past : List Name) (ps : Program) (files : List (List (ℤ × List ℤ))) → AllWide ks → Served ks → InputsServed ps files
      → FilesWide ps files → AreSourced inputs (named_of ks) ps
      → Room past (all_uses ps) → Each (Solves h) (queries_ops inputs all (named_of ks) past ps)
      → map h (decl_names (output_decls (named_of ks) ps)) ≡ map (spread ts) (answers ts ks ps files)
  queries_give ks past [] files wide s i f a r e = refl
  queries_give ks past (Register name fields ∷ ps) files wide s i f a r e =
      queries_give (stream_known name fields files ∷ ks) past ps (other_files files) ((λ t. file_wide (length fields) (first_file files) t f.0), wide)
      (i.0, s) i.1 f.1 a r e
  queries_give ks past (AQuery q ∷ ps) files wide s i f a r e =
      let parts = each-append (Solves h) (query_ops inputs all (named_of ks) past q)
      (queries_ops inputs all (query_named (named_of ks) q ∷ named_of ks) (past ++ streams_of q.items) ps) e in
      let g = query_gives ks past (all_uses ps) q wide s a.0 r parts.0 in
      let more = queries_give (query_known ts ks q ∷ ks) (past ++ streams_of q.items) ps files ((λ t. answer_wide ts ks q t wide), wide)
      (query_serves ks q (answer ts ks q) a.0.apart g, s) i f a.1
      (room_next past (streams_of q.items) (all_uses ps) r) parts.1 in
      ap (λ x. x ∷ map h (decl_names (output_decls (query_named (named_of ks) q ∷ named_of ks) ps))) g.own
      ∙ ap (λ l. spread ts (answer ts ks q) ∷ l) more

  -- INPUTS

  abbrev pub InputsHave : Program → List (List (ℤ × List ℤ)) → Type 0
  InputsHave [] files = Unit {0}
  InputsHave (Register name fields ∷ ps) files = Has h ts up name (at_instant (first_file files)) × InputsHave ps (other_files files)
  InputsHave (AQuery q ∷ ps) files = InputsHave ps files

  abbrev pub AreInputs : Program → Type 0
  AreInputs [] = Unit {0}
  AreInputs (Register name fields ∷ ps) = (0 < count name inputs) × AreInputs ps
  AreInputs (AQuery q ∷ ps) = AreInputs ps

  input_served : (n : Name) (u : ℕ) (r : Timed) → 0 < count n inputs → count n all ≡ u → Each (Solves h) (copy_ops n u) → Has h ts up n r → ServedBy n r
  input_served n zero r k c e l j lt = absurd (omega (arith, c, lt))
  input_served n (suc zero) r k c e l j lt = ap h (source_own inputs all n j k (omega (arith, c))) ∙ l
  input_served n (suc (suc u)) r k c e l j lt =
      ap h (source_copy inputs all n j (omega (arith, c)))
      ∙ (let z : 0 + j ≡ j = omega arith in ap (λ m. h (copy_name n m)) (sym z))
      ∙ copies_have h ts up n 0 (suc (suc u)) _ r e.0
      (λ i li. ap (λ f. f.outs i) (one_input (duplicate (suc (suc u))) (lists_of h (n ∷ [])) [] refl) ∙ copy_fed (suc (suc u)) i li (h n) [] ∙ l)
      j (omega (arith, c, lt))

  inputs_served : (ps : Program) (files : List (List (ℤ × List ℤ))) → AreInputs ps → Each (Solves h) (input_ops all ps) → InputsHave ps files
      → InputsServed ps files
  inputs_served [] files a e i = tt
  inputs_served (Register name fields ∷ ps) files a e i =
      let parts = each-append (Solves h) (copy_ops name (count name all)) (input_ops all ps) e in
      (input_served name (count name all) (at_instant (first_file files)) a.0 refl parts.0 i.0, inputs_served ps (other_files files) a.1 parts.1 i.1)
  inputs_served (AQuery q ∷ ps) files a e i = inputs_served ps files a e i

  files_wide : (ps : Program) (files : List (List (ℤ × List ℤ))) → AreFiles ps files → FilesWide ps files
  files_wide [] files a = tt
  files_wide (Register name fields ∷ ps) [] a = absurd a
  files_wide (Register name fields ∷ ps) (f ∷ fs) a = (a.0, files_wide ps fs a.1)
  files_wide (AQuery q ∷ ps) files a = files_wide ps files a

  -- the inputs of the plan are the files, spread over the instants
  inputs_have : (ps : Program) (files : List (List (ℤ × List ℤ))) → AreFiles ps files
      → Lists (decl_names (input_decls ps)) (list_at (map (λ f. spread ts (at_instant f)) files)) h → InputsHave ps files
  inputs_have [] files a l = tt
  inputs_have (Register name fields ∷ ps) [] a l = absurd a
  inputs_have (Register name fields ∷ ps) (f ∷ fs) a l = (l.0, inputs_have ps fs a.1 l.1)
  inputs_have (AQuery q ∷ ps) files a l = inputs_have ps files a l

-- THE PLAN

inputs_all : (h : History) (ts : List ℤ) (up : Ascends ts) (all front : List Name) (ps : Program) → AreInputs h ts up (front ++ registered ps) all ps
inputs_all h ts up all front [] = tt
inputs_all h ts up all front (Register name fields ∷ ps) = (
  (let a = count-append name front (name ∷ registered ps) in let o = one_same name in omega (arith, a, o)),
  subst (λ (l : List Name). AreInputs h ts up l all ps) (append_assoc front (name ∷ []) (registered ps)) (inputs_all h ts up all (front ++ name ∷ []) ps),
)
inputs_all h ts up all front (AQuery q ∷ ps) = inputs_all h ts up all front ps

-- the law: the plan of a program means what the program means
pub translation_means : TranslationMeans
translation_means p ts files asked_well are rise v =
    let up = ascends ts rise in
    let lists = map (λ f. spread ts (at_instant f)) files in
    let all = all_uses p in
    let ins = registered p in
    let h = hist (plan_of p) lists in
    let solved = solve_law (plan_of p) lists v in
    let parts = each-append (Solves h) (input_ops all p) (queries_ops ins all [] [] p) solved.0 in
    let names = decl_names (input_decls p) in
    let given_lists = lists_written names (list_at lists) (λ q. []) h
    (λ q. let w = v.written_once q in omega (arith, w))
    (λ q lt. solved.1 q (let w = v.written_once q in omega (arith, w, lt))) in
    let have = inputs_have h ts up ins all p files are given_lists in
    let serve = inputs_served h ts up ins all p files (inputs_all h ts up all [] p) parts.0 have in
    let outs = queries_give h ts up ins all [] [] p files tt tt serve (files_wide h ts up ins all p files are) asked_well (λ n. omega arith) parts.1 in
    ap (λ l. record { outs = l; tables = [] }) outs
