-- How often a name stands in a whole plan.
use Rattle.std.proofs.Common.{◌≡◌, ℕ, zero, suc, ◌+◌, ◌<◌, ◌≤◌, Some, None, List, [], ◌∷◌, ◌++◌, refl, sym, ap, ◌∙◌, arith, length, append_assoc}
use Rattle.std.specs.Prelude.{codes, IsTrue}
use Rattle.std.specs.List.{AllByRecursion}
use Rattle.std.proofs.lemmas.List.{length-map, append-nil}
use Rattle.river_plan.specs.Forms.{Name, decl_names}
use Rattle.river_plan.specs.Names.{count}
use Rattle.river_plan.specs.Uses.{total, writes_it, reads_it, vars_it, named_it}
use Rattle.river_plan.proofs.NameLemmas.{count-append}
use Rattle.cql_model.specs.Plannable.{has_no_at, declared_names}
use Rattle.cql_model.specs.Program.{registered, streams_of, all_uses}
use Rattle.cql_text.specs.Tree.{Source, Query, UnitForm, Register, AQuery, Program}
use Rattle.cql_model.specs.Scopes.{Named, scope_of}
use Rattle.cql_model.specs.Plan.{queue_of_use, queues_of_uses, query_ops, query_named, queries_ops, copy_ops, input_ops, query_decls, queries_decls, copy_decls}
use Rattle.cql_model.specs.Plan.{input_copies, input_decls, output_decls, copy_names}
use Rattle.cql_model.proofs.Naming.{split, Tag, tags, numbers, From, Of, from_nil, from_more, of_one, of_numbers, own_once}
use Rattle.river_plan.proofs.ValidLaw.{total-append}
use Rattle.cql_model.proofs.Counting.{among, among-append, word, query_tags, inner_tags, var_tags, label_tags, copies_are, block_writes, block_reads}
use Rattle.cql_model.proofs.Counting.{block_vars, block_labels, block_decls, query_from, inner_from, vars_from, labels_from, names-append, names_decls}

-- THE TAGS OF A PART

abbrev pub part_name : UnitForm → Name
part_name (Register name fields) = name
part_name (AQuery q) = q.name

abbrev pub copy_tags : ℕ → List Tag
copy_tags zero = []
copy_tags (suc zero) = []
copy_tags (suc (suc u)) = numbers [] 1 (suc (suc u))

abbrev pub copy_label : ℕ → List Tag
copy_label zero = []
copy_label (suc zero) = []
copy_label (suc (suc u)) = word (codes "d")

-- the copy that is read
abbrev pub copy_read : ℕ → List Tag
copy_read zero = []
copy_read (suc zero) = []
copy_read (suc (suc u)) = None ∷ []

-- the queues that a unit declares or writes
abbrev pub queues_of : List Name → UnitForm → List Tag
queues_of all (Register name fields) = (None ∷ []) ++ copy_tags (count name all)
queues_of all (AQuery q) = query_tags (count q.name all) q

-- the variables of a unit
abbrev pub vars_of : UnitForm → List Tag
vars_of (Register name fields) = []
vars_of (AQuery q) = var_tags q

-- the labels of a unit
abbrev pub labels_of : List Name → UnitForm → List Tag
labels_of all (Register name fields) = copy_label (count name all)
labels_of all (AQuery q) = label_tags (count q.name all) q

-- what is read, or given out, but for the uses of streams
abbrev pub taken_of : List Name → UnitForm → List Tag
taken_of all (Register name fields) = copy_read (count name all)
taken_of all (AQuery q) = (None ∷ []) ++ inner_tags (count q.name all) q

-- how often units make a name
abbrev pub sums : (UnitForm → List Tag) → Name → Program → ℕ
sums f z [] = 0
sums f z (p ∷ ps) = among z (part_name p) (f p) + sums f z ps

abbrev pub AreOnce : (UnitForm → List Tag) → Program → Type 0
AreOnce f [] = Unit {0}
AreOnce f (p ∷ ps) = ((t : Tag) → tags t (f p) ≤ 1) × AreOnce f ps

sums_base : (f : UnitForm → List Tag) (z : Name) (ps : Program) → AllByRecursion (λ n. IsTrue (has_no_at n)) (declared_names ps) → AreOnce f ps
    → sums f z ps ≤ count (split z).0 (declared_names ps)
sums_base f z [] names once = omega arith
sums_base f z (Register name fields ∷ ps) names once =
    let a = own_once name z (f (Register name fields)) names.0 once.0 in let m = sums_base f z ps names.1 once.1 in omega (arith, a, m)
sums_base f z (AQuery q ∷ ps) names once = let a = own_once q.name z (f (AQuery q)) names.0 once.0 in let m =
    sums_base f z ps names.1 once.1 in omega (arith, a, m)

-- tags that are once in each unit are once in a program whose names are once
pub sums_once : (f : UnitForm → List Tag) (z : Name) (ps : Program) → AllByRecursion (λ n. IsTrue (has_no_at n)) (declared_names ps)
    → ((n : Name) → count n (declared_names ps) ≤ 1) → AreOnce f ps → sums f z ps ≤ 1
sums_once f z ps names single once = let a = sums_base f z ps names once in let b = single (split z).0 in omega (arith, a, b)

-- queries have few items
abbrev pub FewItems : Program → Type 0
FewItems [] = Unit {0}
FewItems (Register name fields ∷ ps) = FewItems ps
FewItems (AQuery q ∷ ps) = (0 < length q.items) × (length q.items ≤ 4) × FewItems ps

copies_from : (u : ℕ) → From 0 ((None ∷ []) ++ copy_tags u)
copies_from zero = from_more 0 2 (None ∷ []) [] (omega arith) (of_one None) (from_nil 2)
copies_from (suc zero) = from_more 0 2 (None ∷ []) [] (omega arith) (of_one None) (from_nil 2)
copies_from (suc (suc u)) =
    from_more 0 2 (None ∷ []) (numbers [] 1 (suc (suc u))) (omega arith) (of_one None) (as_from (of_numbers 1 (suc (suc u)))) where
      as_from : Of 2 (numbers [] 1 (suc (suc u))) → From 2 (numbers [] 1 (suc (suc u)))
      as_from o = record { once = o.once; above = λ t lt. let e = o.only t lt in omega (arith, e) }

-- each queue of a unit is declared once
pub queues_once : (all : List Name) (ps : Program) → FewItems ps → AreOnce (queues_of all) ps
queues_once all [] h = tt
queues_once all (Register name fields ∷ ps) h = ((copies_from (count name all)).once, queues_once all ps h)
queues_once all (AQuery q ∷ ps) h = ((query_from (count q.name all) q h.1).once, queues_once all ps h.2)

-- each variable is used once
pub vars_once : (ps : Program) → FewItems ps → AreOnce vars_of ps
vars_once [] h = tt
vars_once (Register name fields ∷ ps) h = ((λ t. omega arith), vars_once ps h)
vars_once (AQuery q ∷ ps) h = ((vars_from q h.1).once, vars_once ps h.2)

label_once : (u : ℕ) (t : Tag) → tags t (copy_label u) ≤ 1
label_once zero t = omega arith
label_once (suc zero) t = omega arith
label_once (suc (suc u)) t = (of_one (Some (codes "d"))).once t

-- each label is given once
pub labels_once : (all : List Name) (ps : Program) → FewItems ps → AreOnce (labels_of all) ps
labels_once all [] h = tt
labels_once all (Register name fields ∷ ps) h = (label_once (count name all), labels_once all ps h)
labels_once all (AQuery q ∷ ps) h = ((labels_from (count q.name all) q h.1).once, labels_once all ps h.2)

read_once : (u : ℕ) (t : Tag) → tags t (copy_read u) ≤ 1
read_once zero t = omega arith
read_once (suc zero) t = omega arith
read_once (suc (suc u)) t = (of_one None).once t

taken_from : (u : ℕ) (q : Query) → length q.items ≤ 4 → From 0 ((None ∷ []) ++ inner_tags u q)
taken_from u q h = from_more 0 111 (None ∷ []) (inner_tags u q) (omega arith) (of_one None) (inner_from u q h)

-- each queue is read once
pub taken_once : (all : List Name) (ps : Program) → FewItems ps → AreOnce (taken_of all) ps
taken_once all [] h = tt
taken_once all (Register name fields ∷ ps) h = (read_once (count name all), taken_once all ps h)
taken_once all (AQuery q ∷ ps) h = ((taken_from (count q.name all) q h.1).once, taken_once all ps h.2)

-- WHAT THE OPERATORS DO, SUMMED

pub length-sources : (inputs all past ns : List Name) → length (queues_of_uses inputs all past ns) ≡ length ns
length-sources inputs all past [] = refl
length-sources inputs all past (n ∷ ns) = let e = length-sources inputs all (past ++ n ∷ []) ns in omega (arith, e)

-- there is a queue for each use of a stream
pub as_many : (inputs all past : List Name) (items : List Source) → length (queues_of_uses inputs all past (streams_of items)) ≡ length items
as_many inputs all past items = length-sources inputs all past (streams_of items) ∙ length-map items _

copy_writes : (z n : Name) (u : ℕ) → total (writes_it z) (copy_ops n u) ≡ among z n (copy_tags u)
copy_writes z n zero = refl
copy_writes z n (suc zero) = refl
copy_writes z n (suc (suc u)) = let e = ap (count z) (copies_are n 0 (suc (suc u))) in omega (arith, e)

copy_reads : (z n : Name) (u : ℕ) → total (reads_it z) (copy_ops n u) ≡ among z n (copy_read u)
copy_reads z n zero = refl
copy_reads z n (suc zero) = refl
copy_reads z n (suc (suc u)) = omega arith

copy_vars : (z n : Name) (u : ℕ) → total (vars_it z) (copy_ops n u) ≡ 0
copy_vars z n zero = refl
copy_vars z n (suc zero) = refl
copy_vars z n (suc (suc u)) = refl

copy_labels : (z n : Name) (u : ℕ) → total (named_it z) (copy_ops n u) ≡ among z n (copy_label u)
copy_labels z n zero = refl
copy_labels z n (suc zero) = refl
copy_labels z n (suc (suc u)) = refl

-- how often the operators of all queries write a queue
pub all_writes : (z : Name) (inputs all past : List Name) (known : List Named) (ps : Program)
    → count z (registered ps) + (total (writes_it z) (input_ops all ps) + total (writes_it z) (queries_ops inputs all known past ps)) ≡ sums
    (queues_of all) z ps
all_writes z inputs all past known [] = refl
all_writes z inputs all past known (Register name fields ∷ ps) =
    let a = total-append (writes_it z) (copy_ops name (count name all)) (input_ops all ps) in
    let c = copy_writes z name (count name all) in
    let b = among-append z name (None ∷ []) (copy_tags (count name all)) in
    let m = all_writes z inputs all past (record { name = name; fields = fields } ∷ known) ps in
    omega (arith, a, c, b, m)
all_writes z inputs all past known (AQuery q ∷ ps) =
    let srcs = queues_of_uses inputs all past (streams_of q.items) in
    let a = total-append (writes_it z) (query_ops inputs all known past q)
    (queries_ops inputs all (query_named known q ∷ known) (past ++ streams_of q.items) ps) in
    let b = block_writes z q (scope_of known q.items) (count q.name all) srcs (as_many inputs all past q.items) in
    let m = all_writes z inputs all (past ++ streams_of q.items) (query_named known q ∷ known) ps in
    omega (arith, a, b, m)

-- how often they use a variable
pub all_vars_sum : (z : Name) (inputs all past : List Name) (known : List Named) (ps : Program)
    → total (vars_it z) (input_ops all ps) + total (vars_it z) (queries_ops inputs all known past ps) ≡ sums vars_of z ps
all_vars_sum z inputs all past known [] = refl
all_vars_sum z inputs all past known (Register name fields ∷ ps) =
    let a = total-append (vars_it z) (copy_ops name (count name all)) (input_ops all ps) in
    let c = copy_vars z name (count name all) in
    let m = all_vars_sum z inputs all past (record { name = name; fields = fields } ∷ known) ps in
    omega (arith, a, c, m)
all_vars_sum z inputs all past known (AQuery q ∷ ps) =
    let srcs = queues_of_uses inputs all past (streams_of q.items) in
    let a = total-append (vars_it z) (query_ops inputs all known past q)
    (queries_ops inputs all (query_named known q ∷ known) (past ++ streams_of q.items) ps) in
    let b = block_vars z q (scope_of known q.items) (count q.name all) srcs (as_many inputs all past q.items) in
    let m = all_vars_sum z inputs all (past ++ streams_of q.items) (query_named known q ∷ known) ps in
    omega (arith, a, b, m)

-- how often they have a label
pub all_labels : (z : Name) (inputs all past : List Name) (known : List Named) (ps : Program)
    → total (named_it z) (input_ops all ps) + total (named_it z) (queries_ops inputs all known past ps) ≡ sums (labels_of all) z ps
all_labels z inputs all past known [] = refl
all_labels z inputs all past known (Register name fields ∷ ps) =
    let a = total-append (named_it z) (copy_ops name (count name all)) (input_ops all ps) in
    let c = copy_labels z name (count name all) in
    let m = all_labels z inputs all past (record { name = name; fields = fields } ∷ known) ps in
    omega (arith, a, c, m)
all_labels z inputs all past known (AQuery q ∷ ps) =
    let srcs = queues_of_uses inputs all past (streams_of q.items) in
    let a = total-append (named_it z) (query_ops inputs all known past q)
    (queries_ops inputs all (query_named known q ∷ known) (past ++ streams_of q.items) ps) in
    let b = block_labels z q (scope_of known q.items) (count q.name all) srcs (as_many inputs all past q.items) in
    let m = all_labels z inputs all (past ++ streams_of q.items) (query_named known q ∷ known) ps in
    omega (arith, a, b, m)

copied_decls : (z n : Name) (width u : ℕ) → count z (decl_names (copy_decls n width u)) ≡ among z n (copy_tags u)
copied_decls z n width zero = refl
copied_decls z n width (suc zero) = refl
copied_decls z n width (suc (suc u)) = ap (count z) (names_decls (copy_names n 0 (suc (suc u))) _ ∙ copies_are n 0 (suc (suc u)))

-- how often their queues are declared
pub all_decls_sum : (z : Name) (all : List Name) (known : List Named) (ps : Program)
    → count z (decl_names (output_decls known ps)) +
    (count z (decl_names (input_decls ps)) + (count z (decl_names (input_copies all ps)) + count z (decl_names (queries_decls all known ps)))) ≡ sums
    (queues_of all) z ps
all_decls_sum z all known [] = refl
all_decls_sum z all known (Register name fields ∷ ps) =
    let a = names-append z (copy_decls name (length fields) (count name all)) (input_copies all ps) in
    let c = copied_decls z name (length fields) (count name all) in
    let b = among-append z name (None ∷ []) (copy_tags (count name all)) in
    let m = all_decls_sum z all (record { name = name; fields = fields } ∷ known) ps in
    omega (arith, a, c, b, m)
all_decls_sum z all known (AQuery q ∷ ps) =
    let a = names-append z (query_decls all known q) (queries_decls all (query_named known q ∷ known) ps) in
    let b = block_decls z all known q in
    let m = all_decls_sum z all (query_named known q ∷ known) ps in
    omega (arith, a, b, m)

-- the inputs are the registered streams
pub inputs_declared : (z : Name) (ps : Program) → count z (decl_names (input_decls ps)) ≡ count z (registered ps)
inputs_declared z [] = refl
inputs_declared z (Register name fields ∷ ps) = let m = inputs_declared z ps in omega (arith, m)
inputs_declared z (AQuery q ∷ ps) = inputs_declared z ps

-- SOURCES

sources-append : (inputs all past xs ys : List Name)
    → queues_of_uses inputs all past (xs ++ ys) ≡ queues_of_uses inputs all past xs ++ queues_of_uses inputs all (past ++ xs) ys
sources-append inputs all past [] ys = ap (λ l. queues_of_uses inputs all l ys) (sym (append-nil past))
sources-append inputs all past (x ∷ xs) ys =
    ap (λ l. queue_of_use inputs all x (count x past) ∷ l)
    (sources-append inputs all (past ++ x ∷ []) xs ys
    ∙ ap (λ l. queues_of_uses inputs all (past ++ x ∷ []) xs ++ queues_of_uses inputs all l ys) (append_assoc past (x ∷ []) xs))

-- how often they read a queue
pub all_reads : (z : Name) (inputs all past : List Name) (known : List Named) (ps : Program) → FewItems ps
    → count z (decl_names (output_decls known ps)) + (total (reads_it z) (input_ops all ps) + total (reads_it z) (queries_ops inputs all known past ps)) ≡ sums
    (taken_of all) z ps + count z (queues_of_uses inputs all past (all_uses ps))
all_reads z inputs all past known [] h = refl
all_reads z inputs all past known (Register name fields ∷ ps) h =
    let a = total-append (reads_it z) (copy_ops name (count name all)) (input_ops all ps) in
    let c = copy_reads z name (count name all) in
    let m = all_reads z inputs all past (record { name = name; fields = fields } ∷ known) ps h in
    omega (arith, a, c, m)
all_reads z inputs all past known (AQuery q ∷ ps) h =
    let srcs = queues_of_uses inputs all past (streams_of q.items) in
    let a = total-append (reads_it z) (query_ops inputs all known past q)
    (queries_ops inputs all (query_named known q ∷ known) (past ++ streams_of q.items) ps) in
    let b = block_reads z q (scope_of known q.items) (count q.name all) srcs h.0 (as_many inputs all past q.items) in
    let m = all_reads z inputs all (past ++ streams_of q.items) (query_named known q ∷ known) ps h.2 in
    let s = ap (count z) (sources-append inputs all past (streams_of q.items) (all_uses ps)) in
    let t = count-append z srcs (queues_of_uses inputs all (past ++ streams_of q.items) (all_uses ps)) in
    let k = among-append z q.name (None ∷ []) (inner_tags (count q.name all) q) in
    omega (arith, a, b, m, s, t, k)
