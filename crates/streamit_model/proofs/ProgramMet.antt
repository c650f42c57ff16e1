-- The tree of a program means what the program means.
use Rattle.std.proofs.Common.{◌≡◌, ℕ, suc, ℤ, ◌<◌, ◌≤◌, Bool, true, false, List, [], ◌∷◌, length, Option, Some, None, Ok, refl, sym, ap, ◌∙◌, subst, arith}
use Rattle.std.proofs.Common.{nat_lt, nat_le, nat_eq, ◌+◌, Result, Err}
use Rattle.std.specs.Prelude.{if◌then◌else◌, ◌&&◌}
use Rattle.std.specs.List.{list_all, AllByRecursion}
use Rattle.std.proofs.lemmas.Bool.{and_parts, ltb-true, eqb-true, leb-true}
use Rattle.std.proofs.Math.Path.{fun_ext}
use Rattle.river_base.specs.Name.{name_eq}
use Rattle.river_plan.specs.Forms.{Name}
use Rattle.streamit_model.specs.Unrolled.{Splitter, Duplicate, RoundRobin, Stream, Filter, Pipeline, SplitJoin, Streams, Last, Then, number_of, nesting}
use Rattle.streamit_model.specs.Unrolled.{IsStream, AreStreams, IsSmall, AreSmall, IsRound, IsSplitter, IsSmallSplitter}
use Rattle.brooklet_model.specs.ByIndex.{cycle, dealt, collected}
use Rattle.streamit_model.specs.UnrolledMeans.{branch_input, outputs, in_line, side_by_side}
use Rattle.streamit_model.specs.Elaborate.{on_ok, demand}
use Rattle.streamit_model.specs.declared.fault.Fault.{Fault}
use Rattle.streamit_model.specs.declared.fault.Fault.TheVariants.{Limit, Weights}
use Rattle.streamit_model.specs.ElaborateFilter.{elaborated}
use Rattle.streamit_model.specs.Plan.{ops_in}
use Rattle.streamit_text.specs.Program.{Dealing, Copies, Turns, Body, AFilter, APipeline, ASplitJoin, Program}
use Rattle.streamit_model.specs.Meaning.{weights_for, Works, look, or_same, known_works, piped, branched, branch_count, share_of, body_works, all_work, last_of}
use Rattle.streamit_model.specs.Meaning.{program_outputs}
use Rattle.streamit_model.specs.Shallow.{IsShallowBody, AreShallowUnits}
use Rattle.streamit_model.specs.Judged.{on_fine, in_unit, Streamed, found_stream, stream_added, streams_added, any, branches, round_of, splitter_of, stream_of}
use Rattle.streamit_model.specs.declared.fault.Refusal.{Refusal}
use Rattle.streamit_model.specs.Judged.{not_there, unit_of, all_streams, few_operators, judged}
use Rattle.streamit_model.proofs.Elaborated.{fine, ok_is, ok_parts, demanded}
use Rattle.streamit_model.proofs.FilterMet.{filter_met}
use Rattle.streamit_model.proofs.FormedMet.{filter_formed}

-- a stream and what it does
pub record Fits (s : Stream) (f : Works) : Type 0 where
  pub formed : IsStream s
  pub small : IsSmall s
  pub works : (xs : List ℤ) → outputs s xs ≡ f xs

abbrev pub AllFit : Streamed → List (Name × Works) → Type 0
AllFit [] [] = Unit {0}
AllFit [] (e ∷ es) = ⊥
AllFit (k ∷ ks) [] = ⊥
AllFit (k ∷ ks) (e ∷ es) = (k.0 ≡ e.0) × Fits k.1 e.1 × AllFit ks es

found_is : (o : Option Stream) (s : Stream) → found_stream o ≡ Ok s → o ≡ Some s
found_is None s h = absurd (cc h)
found_is (Some t) s h = ap Some (ok_is t s h)

look_by : (b : Bool) (k : Stream) (o : Option Stream) (s : Stream) (e : Works) (p : Option Works) → (if b then Some k else o) ≡ Some s → Fits k e
    → (o ≡ Some s → Fits s (or_same p)) → Fits s (or_same (if b then Some e else p))
look_by true k o s e p h f g = subst (λ t. Fits t e) (let q : k ≡ s = cc in q) f
look_by false k o s e p h f g = g h

looked : (known : Streamed) (env : List (Name × Works)) (n : Name) (s : Stream) → AllFit known env → look known n ≡ Some s → Fits s (known_works env n)
looked [] env n s a h = absurd (cc h)
looked (k ∷ ks) [] n s a h = absurd a
looked (k ∷ ks) (e ∷ es) n s a h =
    let r = look_by (name_eq k.0 n) k.1 (look ks n) s e.1 (look es n) h a.1 (λ g. looked ks es n s a.2 g) in
    subst (λ m. Fits s (or_same (if name_eq m n then Some e.1 else look es n))) a.0 r

-- streams that were added
record AddsFit (ss : Streams) (env : List (Name × Works)) (n : Name) (ms : List Name) : Type 0 where
  formed : AreStreams ss
  small : AreSmall ss
  number : number_of ss ≡ suc (length ms)
  line : (xs : List ℤ) → in_line ss xs ≡ piped env n ms xs
  side : (f : ℕ → List ℤ) → side_by_side ss f ≡ branched env n ms f

added_is : (may : ℕ → Bool) (known : Streamed) (i : ℕ) (n : Name) (s : Stream) → stream_added may known i n ≡ Ok s → (may i ≡ true) × (look known n ≡ Some s)
added_is may known i n s h =
    let f2 = λ (s : Stream). on_ok (demand (nat_lt (nesting s) 64) Limit) (λ v. fine s) in
    let f1 = λ (u : Unit {0}). on_ok (found_stream (look known n)) f2 in
    let p = ok_parts (demand (may i) Limit) f1 s h in
    let q = ok_parts (found_stream (look known n)) f2 s p.2 in
    let r = ok_parts (demand (nat_lt (nesting q.0) 64) Limit) (λ v. fine q.0) s q.2 in
    (demanded (may i) Limit p.0 p.1, found_is (look known n) s (q.1 ∙ ap fine (ok_is q.0 s r.2)))

adds_fit : (may : ℕ → Bool) (known : Streamed) (env : List (Name × Works)) (i : ℕ) (n : Name) (ms : List Name) (ss : Streams) → AllFit known env
    → streams_added may known i n ms ≡ Ok ss → AddsFit ss env n ms
adds_fit may known env i n [] ss a h =
    let p = ok_parts (stream_added may known i n) (λ s. Ok (Last s)) ss h in
    let f = looked known env n p.0 a (added_is may known i n p.0 p.1).1 in
    subst (λ t. AddsFit t env n []) (ok_is (Last p.0) ss p.2)
    (record { formed = f.formed; small = f.small; number = refl; line = f.works; side = λ g. ap (λ l. l ∷ []) (f.works (g 0)) })
adds_fit may known env i n (m ∷ ms) ss a h =
    let p = ok_parts (stream_added may known i n) (λ s. on_ok (streams_added may known (suc i) m ms) (λ ss. Ok (Then s ss))) ss h in
    let q = ok_parts (streams_added may known (suc i) m ms) (λ ss. Ok (Then p.0 ss)) ss p.2 in
    let f = looked known env n p.0 a (added_is may known i n p.0 p.1).1 in
    let r = adds_fit may known env (suc i) m ms q.0 a q.1 in
    subst (λ t. AddsFit t env n (m ∷ ms)) (ok_is (Then p.0 q.0) ss q.2) (record {
      formed = (f.formed, r.formed);
      small = (f.small, r.small);
      number = ap suc r.number;
      line = λ xs. ap (in_line q.0) (f.works xs) ∙ r.line (known_works env n xs);
      side = λ g. ap (λ l. l ∷ side_by_side q.0 (λ p. g (suc p))) (f.works (g 0)) ∙ ap (λ l. known_works env n (g 0) ∷ l) (r.side (λ p. g (suc p)));
    })

-- where each of the branches may be there, there are no more than 64
few_branches : (known : Streamed) (i : ℕ) (n : Name) (ms : List Name) (ss : Streams) → streams_added branches known i n ms ≡ Ok ss → i + number_of ss ≤ 64
few_branches known i n [] ss h =
    let p = ok_parts (stream_added branches known i n) (λ s. Ok (Last s)) ss h in
    let lt = ltb-true i 64 (added_is branches known i n p.0 p.1).0 in
    subst (λ t. i + number_of t ≤ 64) (ok_is (Last p.0) ss p.2) (omega (arith, lt))
few_branches known i n (m ∷ ms) ss h =
    let p = ok_parts (stream_added branches known i n) (λ s. on_ok (streams_added branches known (suc i) m ms) (λ ss. Ok (Then s ss))) ss h in
    let q = ok_parts (streams_added branches known (suc i) m ms) (λ ss. Ok (Then p.0 ss)) ss p.2 in
    let r = few_branches known (suc i) m ms q.0 q.1 in
    subst (λ t. i + number_of t ≤ 64) (ok_is (Then p.0 q.0) ss q.2) (omega (arith, r))

record Round (ws : Option (List ℕ)) (n : ℕ) (vs : List ℕ) : Type 0 where
  is : weights_for ws n ≡ vs
  round : IsRound vs n
  sum : cycle vs ≤ 65536

positive : (vs : List ℕ) → list_all (λ w. nat_le 1 w) vs ≡ true → AllByRecursion (λ w. 0 < w) vs
positive [] h = tt
positive (w ∷ vs) h = let p = and_parts (nat_le 1 w) (list_all (λ w. nat_le 1 w) vs) h in (above w p.0, positive vs p.1)
  where
    above : (w : ℕ) → nat_le 1 w ≡ true → 0 < w
    above w e = grind (arith, e)

round_parts : (ws : Option (List ℕ)) (n : ℕ) (vs : List ℕ) → round_of ws n ≡ Ok vs → Round ws n vs
round_parts ws n vs h =
    let us = weights_for ws n in
    let all = list_all (λ w. nat_le 1 w) us in
    let f = λ (u : Unit {0}). on_ok (demand (nat_le (cycle us) 65536) Limit) (λ v. fine us) in
    let p = ok_parts (demand (nat_eq (length us) n && all) Weights) f vs h in
    let q = and_parts (nat_eq (length us) n) all (demanded (nat_eq (length us) n && all) Weights p.0 p.1) in
    let r = ok_parts (demand (nat_le (cycle us) 65536) Limit) (λ v. fine us) vs p.2 in
    subst (Round ws n) (ok_is us vs r.2)
    (record {
      is = refl;
      round = record { number = eqb-true (length us) n q.0; each = positive us q.1 };
      sum =
          leb-true (cycle us) 65536 (demanded (nat_le (cycle us) 65536) Limit r.0 r.1);
    })

record Split (d : Dealing) (n : ℕ) (p : Splitter) : Type 0 where
  formed : IsSplitter p n
  small : IsSmallSplitter p
  works : (b : ℕ) (xs : List ℤ) → branch_input p b xs ≡ share_of d n b xs

split_parts : (d : Dealing) (n : ℕ) (p : Splitter) → splitter_of d n ≡ Ok p → Split d n p
split_parts Copies n p h = subst (Split Copies n) (ok_is Duplicate p h) (record { formed = tt; small = tt; works = λ b xs. refl })
split_parts (Turns ws) n p h =
    let q = ok_parts (round_of ws n) (λ vs. Ok (RoundRobin vs)) p h in
    let r = round_parts ws n q.0 q.1 in
    subst (Split (Turns ws) n) (ok_is (RoundRobin q.0) p q.2) (record { formed = r.round; small = r.sum; works = λ b xs. ap (λ vs. dealt vs b xs) (sym r.is) })

stream_fits : (known : Streamed) (env : List (Name × Works)) (name : Name) (b : Body) (s : Stream) → AllFit known env → IsShallowBody b
    → stream_of known name b ≡ Ok s → Fits s (body_works env b)
stream_fits known env name (AFilter t) s a low h =
    let p = ok_parts (elaborated t) (λ f. Ok (Filter name f)) s h in
    let g = filter_formed t p.0 low p.1 in
    subst (λ u. Fits u (body_works env (AFilter t))) (ok_is (Filter name p.0) s p.2)
    (record { formed = g.0; small = g.1; works = λ xs. sym (filter_met t p.0 xs p.1) })
stream_fits known env name (APipeline a) s all low h =
    let p = ok_parts (streams_added any known 0 a.first a.others) (λ ss. Ok (Pipeline ss)) s h in
    let i = adds_fit any known env 0 a.first a.others p.0 all p.1 in
    subst (λ u. Fits u (body_works env (APipeline a))) (ok_is (Pipeline p.0) s p.2) (record { formed = i.formed; small = i.small; works = i.line })
stream_fits known env name (ASplitJoin d a ws) s all low h =
    let n = branch_count a in
    let f3 = λ (p : Splitter) (ss : Streams). on_ok (round_of ws n) (λ vs. fine (SplitJoin p ss vs)) in
    let f2 = λ (p : Splitter). on_ok (streams_added branches known 0 a.first a.others) (f3 p) in
    let q1 = ok_parts (splitter_of d n) f2 s h in
    let q2 = ok_parts (streams_added branches known 0 a.first a.others) (f3 q1.0) s q1.2 in
    let q3 = ok_parts (round_of ws n) (λ vs. fine (SplitJoin q1.0 q2.0 vs)) s q2.2 in
    let sp = split_parts d n q1.0 q1.1 in
    let i = adds_fit branches known env 0 a.first a.others q2.0 all q2.1 in
    let few = few_branches known 0 a.first a.others q2.0 q2.1 in
    let r = round_parts ws n q3.0 q3.1 in
    subst (λ u. Fits u (body_works env (ASplitJoin d a ws))) (ok_is (SplitJoin q1.0 q2.0 q3.0) s q3.2) (record {
      formed = (subst (IsSplitter q1.0) (sym i.number) sp.formed, i.formed, subst (IsRound q3.0) (sym i.number) r.round);
      small = (omega (arith, few), sp.small, r.sum, i.small);
      works = λ xs.
          ap (λ vs. collected vs (side_by_side q2.0 (λ p. branch_input q1.0 p xs))) (sym r.is)
          ∙ ap (λ f. collected (weights_for ws n) (side_by_side q2.0 f)) (fun_ext (λ p. sp.works p xs))
          ∙ ap (collected (weights_for ws n)) (i.side (λ p. share_of d n p xs));
    })

abbrev took : {A : Type 0} → A → Result A Refusal
took x = Ok x

took_is : {A : Type 0} (x y : A) → took x ≡ took y → x ≡ y
took_is x y h = cc

unit_parts : {A B : Type 0} (k : ℕ) (r : Result A Fault) (f : A → Result B Refusal) (y : B) → in_unit k r f ≡ took y → (x : A) × (r ≡ Ok x) × (f x ≡ took y)
unit_parts k (Ok x) f y h = (x, refl, h)
unit_parts k (Err e) f y h = absurd (cc h)

fine_parts : {A B : Type 0} (r : Result A Refusal) (f : A → Result B Refusal) (y : B) → on_fine r f ≡ took y → (x : A) × (r ≡ took x) × (f x ≡ took y)
fine_parts (Ok x) f y h = (x, refl, h)
fine_parts (Err e) f y h = absurd (cc h)

all_fit : (k : ℕ) (known : Streamed) (env : List (Name × Works)) (p : Program) (all : Streamed) → AllFit known env → AreShallowUnits p
    → all_streams k known p ≡ took all → AllFit all (all_work env p)
all_fit k known env [] all a low h = subst (λ k. AllFit k env) (took_is known all h) a
all_fit k known env (u ∷ us) all a low h =
    let q = unit_parts k (unit_of known u) (λ s. all_streams (suc k) ((u.name, s) ∷ known) us) all h in
    let r = ok_parts (not_there (look known u.name)) (λ z. stream_of known u.name u.body) q.0 q.1 in
    all_fit (suc k) ((u.name, q.0) ∷ known) ((u.name, body_works env u.body) ∷ env) us all
    (refl, stream_fits known env u.name u.body q.0 a low.0 r.2, a) low.1 q.2

last_fits : (name : Name) (s : Stream) (others : Streamed) (env : List (Name × Works)) → AllFit ((name, s) ∷ others) env → Fits s (or_same (last_of env))
last_fits name s others [] a = absurd a
last_fits name s others (e ∷ es) a = a.1

-- what a program that is accepted is
pub record Accepted (p : Program) (s : Stream) : Type 0 where
  pub fits : Fits s (program_outputs p)
  pub few : ops_in s ≤ 256

-- a program that is accepted is a stream that means what the program means
pub program_met : (p : Program) (name : Name) (s : Stream) (others : Streamed) → AreShallowUnits p → judged p ≡ Ok ((name, s) ∷ others) → Accepted p s
program_met p name s others low h =
    let all = fine_parts (all_streams 1 [] p) (λ known. in_unit (length p) (few_operators known) (λ u. took known)) ((name, s) ∷ others) h in
    let few = unit_parts (length p) (few_operators all.0) (λ u. took all.0) ((name, s) ∷ others) all.2 in
    let is = took_is all.0 ((name, s) ∷ others) few.2 in
    let fit = all_fit 1 [] [] p all.0 tt low all.1 in
    let ok = subst (λ (l : Streamed). few_operators l ≡ fine few.0) is few.1 in
    record {
      fits = last_fits name s others (all_work [] p) (subst (λ (l : Streamed). AllFit l (all_work [] p)) is fit);
      few = le_by (demanded (nat_le (ops_in s) 256) Limit few.0 ok);
    }
  where
    le_by : nat_le (ops_in s) 256 ≡ true → ops_in s ≤ 256
    le_by h = grind (arith, h)
