-- The plan of a program that a text stands for can be written as River text: `if` nests at most 16 deep, and no window is there.
use Rattle.std.proofs.Common.{◌≡◌, ℕ, suc, ◌≤◌, ◌+◌, Bool, true, false, List, [], ◌∷◌, length, Option, Some, None, Result, Ok, Err, refl, sym, subst, ap, ◌∙◌}
use Rattle.std.proofs.Common.{arith}
use Rattle.std.specs.Prelude.{codes, if◌then◌else◌, nat_lt}
use Rattle.std.specs.Str.{bytes_eq}
use Rattle.river_base.specs.Name.{name_eq}
use Rattle.text_tokens.specs.Cut.{units_of as cut_units}
use Rattle.text_tokens.specs.Tok.{Tok, toks}
use Rattle.kern_rows.specs.Forms.{FilterForm, RunForm}
use Rattle.river_plan.specs.Forms.{Name}
use Rattle.river_print.specs.Printable.{IsShallowFirst, IsPrintable}
use Rattle.river_print.specs.Writable.{Every, depths}
use Rattle.river_print.proofs.Spoken.{IsSpoken, every-joined, spoken-printable}
use Rattle.streamit_model.specs.Plan.{numbered, queue, queues, ops_in, ops_of, queues_in, splitter, joiner, build, build_line, build_branches, plan_of}
use Rattle.streamit_model.specs.Elaborate.{on_ok, demand}
use Rattle.streamit_model.specs.declared.fault.Fault.{Fault}
use Rattle.streamit_model.specs.declared.fault.Fault.TheVariants.{Limit}
use Rattle.streamit_text.specs.Program.{WorkTree, FilterTree, Body, AFilter, APipeline, ASplitJoin, UnitForm, Program}
use Rattle.streamit_model.specs.ElaborateFilter.{elaborated}
use Rattle.streamit_model.specs.Judged.{Streamed, on_fine, in_unit, found_stream, stream_added, streams_added, any, branches, round_of, splitter_of, stream_of}
use Rattle.streamit_model.specs.declared.fault.Refusal.{Refusal}
use Rattle.streamit_model.specs.Judged.{not_there, unit_of, all_streams, few_operators, judged}
use Rattle.streamit_model.specs.Meaning.{look, branch_count}
use Rattle.streamit_model.specs.Unrolled.{Splitter, Duplicate, RoundRobin, Stream, Filter, Pipeline, SplitJoin, Streams, Last, Then, number_of, nesting}
use Rattle.streamit_model.proofs.Elaborated.{fine, ok_parts, ok_is}
use Rattle.streamit_text.specs.Grammar.{IsWork, IsPrework, InFilter, BodyAfter, IsUnit, AreUnits}
use Rattle.streamit_front.specs.Laws.{Has, PlansArePrintable}
use Rattle.streamit_front.proofs.Fronts.{means_what_it_has}
use Rattle.streamit_front.proofs.Nested.{nests, depths-first, nests-first, block-nested, filter-below}
use Rattle.text_blocks.proofs.Every.{chosen, enclosed}

-- THE GRAMMAR

abbrev IsNestedWork : WorkTree → Type 0
IsNestedWork w = nests w.block ≤ 16

abbrev IsNestedFilter : FilterTree → Type 0
IsNestedFilter t = (nests-first t.prework ≤ 16) × IsNestedWork t.work

abbrev IsNestedBody : Body → Type 0
IsNestedBody (AFilter t) = IsNestedFilter t
IsNestedBody (APipeline a) = Unit {0}
IsNestedBody (ASplitJoin d a ws) = Unit {0}

abbrev AreNestedUnits : Program → Type 0
AreNestedUnits [] = Unit {0}
AreNestedUnits (u ∷ us) = IsNestedBody u.body × AreNestedUnits us

work-nested : (n : ℕ) (w : WorkTree) (ts : List Tok) → IsWork n w ts → IsNestedWork w
work-nested n w ts h = subst IsNestedWork (sym h.is) (block-nested n h.value.1 h.formed.back h.formed.second)

first-nested : (n : ℕ) (o : Option WorkTree) (ts : List Tok) → IsPrework n o ts → nests-first o ≤ 16
first-nested n None ts h = omega arith
first-nested n (Some w) ts h = work-nested n w h.back h.formed

filter-nested : (n : ℕ) (t : FilterTree) (ts : List Tok) → InFilter n t ts → IsNestedFilter t
filter-nested n t ts h =
    let v = h.value in
    let rest = h.formed.second.second in
    subst IsNestedFilter (sym h.is) (first-nested n v.1.1.0 rest.front rest.first, work-nested n v.1.1.1 rest.second.back rest.second.formed)

body-nested : (n : ℕ) (w : List ℕ) (b : Body) (ts : List Tok) → BodyAfter n w b ts → IsNestedBody b
body-nested n w b ts h =
    chosen (IsNestedBody b) _ _ (bytes_eq w (codes "filter")) b ts h
    (λ e f. subst IsNestedBody (sym f.is) (enclosed IsNestedFilter _ _ _ n f.value ts f.formed (λ m us g. filter-nested m f.value us g))) (λ h.
    chosen (IsNestedBody b) _ _ (bytes_eq w (codes "pipeline")) b ts h (λ e f. subst IsNestedBody (sym f.is) tt) (λ h.
    chosen (IsNestedBody b) _ _ (bytes_eq w (codes "splitjoin")) b ts h
    (λ e f. enclosed IsNestedBody _ _ _ n b ts f (λ m us g. subst IsNestedBody (sym g.is) tt)) (λ h. absurd h)))

unit-nested : (d : UnitForm) (ts : List Tok) → IsUnit d ts → IsNestedBody d.body
unit-nested d ts h =
    let g = h.formed.formed.formed in
    let k = g.formed in
    subst (λ (e : UnitForm). IsNestedBody e.body) (sym k.is) (body-nested 128 g.word k.value.1 k.formed.back k.formed.second)

units-nested : (p : Program) (units : List (List Tok)) → AreUnits p units → AreNestedUnits p
units-nested [] units h = tt
units-nested (d ∷ ds) [] h = absurd h
units-nested (d ∷ ds) (u ∷ us) h = (unit-nested d u h.0, units-nested ds us h.1)

-- THE STREAMS

abbrev IsLow : FilterForm → Type 0
IsLow f = (depths f.body.steps ≤ 16) × IsShallowFirst f.first

shallow-first : (o : Option RunForm) → depths-first o ≤ 16 → IsShallowFirst o
shallow-first None h = tt
shallow-first (Some r) h = h

-- of each filter of a stream this holds
abbrev mutual
  IsLowStream : Stream → Type 0
  IsLowStream (Filter name f) = IsLow f
  IsLowStream (Pipeline ss) = AreLowStreams ss
  IsLowStream (SplitJoin d ss ws) = AreLowStreams ss

  AreLowStreams : Streams → Type 0
  AreLowStreams (Last s) = IsLowStream s
  AreLowStreams (Then s ss) = IsLowStream s × AreLowStreams ss

abbrev AllLow : Streamed → Type 0
AllLow [] = Unit {0}
AllLow (k ∷ ks) = IsLowStream k.1 × AllLow ks

looked-low : (known : Streamed) (n : Name) (s : Stream) → AllLow known → look known n ≡ Some s → IsLowStream s
looked-low [] n s a h = absurd (cc h)
looked-low (k ∷ ks) n s a h = by (name_eq k.0 n) h (looked-low ks n s a.1)
  where
    by : (b : Bool) → (if b then Some k.1 else look ks n) ≡ Some s → (look ks n ≡ Some s → IsLowStream s) → IsLowStream s
    by true e later = subst IsLowStream (let q : k.1 ≡ s = cc in q) a.0
    by false e later = later e

found-is : (o : Option Stream) (s : Stream) → found_stream o ≡ fine s → o ≡ Some s
found-is None s h = absurd (cc h)
found-is (Some t) s h = ap Some (ok_is t s h)

added-low : (may : ℕ → Bool) (known : Streamed) (i : ℕ) (n : Name) (s : Stream) → AllLow known → stream_added may known i n ≡ fine s → IsLowStream s
added-low may known i n s a h =
    let f2 = λ (s : Stream). on_ok (demand (nat_lt (nesting s) 64) Limit) (λ v. fine s) in
    let p = ok_parts (demand (may i) Limit) (λ u. on_ok (found_stream (look known n)) f2) s h in
    let q = ok_parts (found_stream (look known n)) f2 s p.2 in
    let r = ok_parts (demand (nat_lt (nesting q.0) 64) Limit) (λ v. fine q.0) s q.2 in
    looked-low known n s a (found-is (look known n) s (q.1 ∙ ap fine (ok_is q.0 s r.2)))

streams-low : (may : ℕ → Bool) (known : Streamed) (i : ℕ) (n : Name) (ms : List Name) (ss : Streams) → AllLow known
    → streams_added may known i n ms ≡ fine ss → AreLowStreams ss
streams-low may known i n [] ss a h =
    let p = ok_parts (stream_added may known i n) (λ s. fine (Last s)) ss h in
    subst AreLowStreams (ok_is (Last p.0) ss p.2) (added-low may known i n p.0 a p.1)
streams-low may known i n (m ∷ ms) ss a h =
    let p = ok_parts (stream_added may known i n) (λ s. on_ok (streams_added may known (suc i) m ms) (λ ss. fine (Then s ss))) ss h in
    let q = ok_parts (streams_added may known (suc i) m ms) (λ ss. fine (Then p.0 ss)) ss p.2 in
    subst AreLowStreams (ok_is (Then p.0 q.0) ss q.2) (added-low may known i n p.0 a p.1, streams-low may known (suc i) m ms q.0 a q.1)

stream-low : (known : Streamed) (name : Name) (b : Body) (s : Stream) → AllLow known → IsNestedBody b → stream_of known name b ≡ fine s → IsLowStream s
stream-low known name (AFilter t) s a low h =
    let p = ok_parts (elaborated t) (λ f. fine (Filter name f)) s h in
    let le = filter-below t p.0 p.1 in
    let first = le.0 in
    let body = le.1 in
    let low-first = low.0 in
    let low-body = low.1 in
    subst IsLowStream (ok_is (Filter name p.0) s p.2) (omega (arith, body, low-body), shallow-first p.0.first (omega (arith, first, low-first)))
stream-low known name (APipeline l) s a low h =
    let p = ok_parts (streams_added any known 0 l.first l.others) (λ ss. fine (Pipeline ss)) s h in
    subst IsLowStream (ok_is (Pipeline p.0) s p.2) (streams-low any known 0 l.first l.others p.0 a p.1)
stream-low known name (ASplitJoin d l ws) s a low h =
    let n = branch_count l in
    let f3 = λ (p : Splitter) (ss : Streams). on_ok (round_of ws n) (λ vs. fine (SplitJoin p ss vs)) in
    let f2 = λ (p : Splitter). on_ok (streams_added branches known 0 l.first l.others) (f3 p) in
    let p = ok_parts (splitter_of d n) f2 s h in
    let q = ok_parts (streams_added branches known 0 l.first l.others) (f3 p.0) s p.2 in
    let r = ok_parts (round_of ws n) (λ vs. fine (SplitJoin p.0 q.0 vs)) s q.2 in
    subst IsLowStream (ok_is (SplitJoin p.0 q.0 r.0) s r.2) (streams-low branches known 0 l.first l.others q.0 a q.1)

abbrev took : {A : Type 0} → A → Result A Refusal
took x = Ok x

took-is : {A : Type 0} (x y : A) → took x ≡ took y → x ≡ y
took-is x y h = cc

unit-parts : {A B : Type 0} (k : ℕ) (r : Result A Fault) (f : A → Result B Refusal) (y : B) → in_unit k r f ≡ took y → (x : A) × (r ≡ fine x) × (f x ≡ took y)
unit-parts k (Ok x) f y h = (x, refl, h)
unit-parts k (Err e) f y h = absurd (cc h)

fine-parts : {A B : Type 0} (r : Result A Refusal) (f : A → Result B Refusal) (y : B) → on_fine r f ≡ took y → (x : A) × (r ≡ took x) × (f x ≡ took y)
fine-parts (Ok x) f y h = (x, refl, h)
fine-parts (Err e) f y h = absurd (cc h)

all-low : (k : ℕ) (known : Streamed) (p : Program) (all : Streamed) → AllLow known → AreNestedUnits p → all_streams k known p ≡ took all → AllLow all
all-low k known [] all a low h = subst AllLow (took-is known all h) a
all-low k known (u ∷ us) all a low h =
    let q = unit-parts k (unit_of known u) (λ s. all_streams (suc k) ((u.name, s) ∷ known) us) all h in
    let r = ok_parts (not_there (look known u.name)) (λ z. stream_of known u.name u.body) q.0 q.1 in
    all-low (suc k) ((u.name, q.0) ∷ known) us all (stream-low known u.name u.body q.0 a low.0 r.2, a) low.1 q.2

judged-low : (p : Program) (known : Streamed) → AreNestedUnits p → judged p ≡ took known → AllLow known
judged-low p known low h =
    let all = fine-parts (all_streams 1 [] p) (λ known. in_unit (length p) (few_operators known) (λ u. took known)) known h in
    let few = unit-parts (length p) (few_operators all.0) (λ u. took all.0) known all.2 in
    subst AllLow (took-is all.0 known few.2) (all-low 1 [] p all.0 tt low all.1)

-- THE PLAN

splitter-spoken : (d : Splitter) (n : ℕ) (label from : Name) (to : List Name) → IsSpoken (splitter d n label from to)
splitter-spoken Duplicate n label from to = (tt, tt)
splitter-spoken (RoundRobin ws) n label from to = (tt, tt)

mutual
  built-spoken : (s : Stream) (c k : ℕ) (from to : Name) → IsLowStream s → Every IsSpoken (build s c k from to)
  built-spoken (Filter name f) c k from to low = ((low, tt), tt)
  built-spoken (Pipeline ss) c k from to low = line-spoken ss c k from to low
  built-spoken (SplitJoin d ss ws) c k from to low =
      let n = number_of ss in (
        splitter-spoken d n (numbered (codes "split") c) from (queues k n),
        every-joined IsSpoken (build_branches ss (suc c) (k + (n + n)) k (k + n))
            (joiner ws (numbered (codes "join") (suc c + ops_of ss)) (queues (k + n) n) to ∷ [])
            (branches-spoken ss (suc c) (k + (n + n)) k (k + n) low) ((tt, tt), tt),
      )

  line-spoken : (ss : Streams) (c k : ℕ) (from to : Name) → AreLowStreams ss → Every IsSpoken (build_line ss c k from to)
  line-spoken (Last s) c k from to low = built-spoken s c k from to low
  line-spoken (Then s ss) c k from to low =
      every-joined IsSpoken (build s c (suc k) from (queue k)) (build_line ss (c + ops_in s) (suc k + queues_in s) (queue k) to)
      (built-spoken s c (suc k) from (queue k) low.0) (line-spoken ss (c + ops_in s) (suc k + queues_in s) (queue k) to low.1)

  branches-spoken : (ss : Streams) (c k a b : ℕ) → AreLowStreams ss → Every IsSpoken (build_branches ss c k a b)
  branches-spoken (Last s) c k a b low = built-spoken s c k (queue a) (queue b) low
  branches-spoken (Then s ss) c k a b low =
      every-joined IsSpoken (build s c k (queue a) (queue b)) (build_branches ss (c + ops_in s) (k + queues_in s) (suc a) (suc b))
      (built-spoken s c k (queue a) (queue b) low.0) (branches-spoken ss (c + ops_in s) (k + queues_in s) (suc a) (suc b) low.1)

plan-printable : (s : Stream) → IsLowStream s → IsPrintable (plan_of s)
plan-printable s low = spoken-printable (plan_of s) (built-spoken s 1 1 (codes "in") (codes "out") low)

-- the law: the plan of a text's program is within the bounds of River text
pub plans_are_printable : PlansArePrintable
plans_are_printable text a e =
    let h : Has text (Ok a) = (means_what_it_has text (Ok a)).0 e in
    plan-printable a.stream
    (judged-low a.program ((h.0, a.stream) ∷ h.1) (units-nested a.program (cut_units (toks h.2.marks)) h.2.formed) h.3).0
