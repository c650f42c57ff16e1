-- The streams that are added to one, so far.
use Rattle.std.proofs.Common.{◌≡◌, ℕ, suc, ◌+◌, ◌<◌, Bool, List, [], ◌∷◌, ◌++◌, length, Result, Ok, Err, refl, sym, ap, ◌∙◌, subst, arith}
use Rattle.std.proofs.Common.{add-one}
use Rattle.std.specs.Prelude.{min, max}
use Rattle.std.specs.List.{AllByRecursion}
use Rattle.river_plan.specs.Forms.{Name}
use Rattle.streamit_model.specs.Unrolled.{Stream, Streams, Last, Then, nesting, deepest}
use Rattle.streamit_model.specs.Plan.{ops_in, ops_of}
use Rattle.streamit_model.specs.Elaborate.{on_ok}
use Rattle.streamit_model.specs.declared.fault.Fault.{Fault}
use Rattle.streamit_model.specs.Judged.{Streamed, stream_added, streams_added}
use Rattle.streamit_unroll.specs.declared.refused.RefusedUnit.{RefusedUnit}
use Rattle.streamit_unroll.specs.View.{IsWhyUnit}
use Rattle.streamit_unroll.proofs.SoFar.{tells_more}
use Rattle.streamit_build.specs.declared.streams.Entry.{Entry}
use Rattle.streamit_build.specs.declared.streams.Children.{Children}
use Rattle.streamit_build.specs.Units.{DeclaredForm, IsTree, AreTrees}
use Rattle.streamit_build.specs.Knowing.{AddsOne, AreChildren, AddsAll}

-- a result without a fault
abbrev pub fine : {A : Type 0} → A → Result A Fault
fine x = Ok x

-- streams and a last one
abbrev pub chain : List Stream → Stream → Streams
chain [] l = Last l
chain (s ∷ ss) l = Then s (chain ss l)

-- behind these streams
abbrev pub onto : List Stream → Result Streams Fault → Result Streams Fault
onto [] r = r
onto (s ∷ ss) r = on_ok (onto ss r) (λ x. Ok (Then s x))

-- what is read from stream number i on, which is this
abbrev pub going_on : (ℕ → Bool) → Streamed → ℕ → Stream → List Name → Result Streams Fault
going_on may known i s [] = Ok (Last s)
going_on may known i s (m ∷ ms) = on_ok (streams_added may known (suc i) m ms) (λ ss. Ok (Then s ss))

streams_ok : (may : ℕ → Bool) (known : Streamed) (i : ℕ) (n : Name) (ms : List Name) (s : Stream) → stream_added may known i n ≡ Ok s
    → streams_added may known i n ms ≡ going_on may known i s ms
streams_ok may known i n [] s h = ap (λ r. on_ok r (λ s. fine (Last s))) h
streams_ok may known i n (m ∷ ms) s h = ap (λ r. on_ok r (λ s. on_ok (streams_added may known (suc i) m ms) (λ ss. fine (Then s ss)))) h

streams_err : (may : ℕ → Bool) (known : Streamed) (i : ℕ) (n : Name) (ms : List Name) (g : Fault) → stream_added may known i n ≡ Err g
    → streams_added may known i n ms ≡ Err g
streams_err may known i n [] g h = ap (λ r. on_ok r (λ s. fine (Last s))) h
streams_err may known i n (m ∷ ms) g h = ap (λ r. on_ok r (λ s. on_ok (streams_added may known (suc i) m ms) (λ ss. fine (Then s ss)))) h

onto_more : (ss : List Stream) (s : Stream) (r : Result Streams Fault) → onto (ss ++ s ∷ []) r ≡ onto ss (on_ok r (λ x. Ok (Then s x)))
onto_more [] s r = refl
onto_more (t ∷ ss) s r = ap (λ q. on_ok q (λ x. fine (Then t x))) (onto_more ss s r)

onto_last : (ss : List Stream) (l : Stream) → onto ss (Ok (Last l)) ≡ Ok (chain ss l)
onto_last [] l = refl
onto_last (s ∷ ss) l = ap (λ q. on_ok q (λ x. fine (Then s x))) (onto_last ss l)

onto_err : (ss : List Stream) (g : Fault) → onto ss (Err g) ≡ Err g
onto_err [] g = refl
onto_err (s ∷ ss) g = ap (λ q. on_ok q (λ x. fine (Then s x))) (onto_err ss g)

trees_more : (us : List DeclaredForm) (front : List ℕ) (last next : ℕ) (ss : List Stream) (l s : Stream) → AreTrees us front last (chain ss l) → IsTree us next s
    → AreTrees us (front ++ last ∷ []) next (chain (ss ++ l ∷ []) s)
trees_more us [] last next [] l s h t = (h, t)
trees_more us [] last next (x ∷ ss) l s h t = absurd h
trees_more us (j ∷ js) last next [] l s h t = absurd h
trees_more us (j ∷ js) last next (x ∷ ss) l s h t = (h.0, trees_more us js last next ss l s h.1 t)

ops_more : (ss : List Stream) (l s : Stream) → ops_of (chain (ss ++ l ∷ []) s) ≡ ops_of (chain ss l) + ops_in s
ops_more [] l s = refl
ops_more (x ∷ ss) l s = let e = ops_more ss l s in omega (arith, e)

deep_more : (ss : List Stream) (l s : Stream) → deepest (chain (ss ++ l ∷ []) s) ≡ max (deepest (chain ss l)) (nesting s)
deep_more [] l s = refl
deep_more (x ∷ ss) l s = ap (max (nesting x)) (deep_more ss l s) ∙ three (nesting x) (deepest (chain ss l)) (nesting s)
  where
    three : (a b c : ℕ) → max a (max b c) ≡ max (max a b) c
    three a b c = omega arith

lower_more : (n : ℕ) (js : List ℕ) (j : ℕ) → AllByRecursion (λ i. i < n) js → j < n → AllByRecursion (λ i. i < n) (js ++ j ∷ [])
lower_more n [] j h lt = (lt, tt)
lower_more n (i ∷ js) j h lt = (h.0, lower_more n js j h.1 lt)

-- so far: what was added, and that the whole is what is read from the last one on
pub record SoFar (us : List DeclaredForm) (may : ℕ → Bool) (known : Streamed) (whole : Result Streams Fault) (i : ℕ) (rest : List Name)
    (c : Children) : Type 0 where
  pub prior : List Stream
  pub last : Stream
  pub are : AreChildren us c (chain prior last)
  pub whole_is : whole ≡ onto prior (going_on may known i last rest)

-- the first stream was added
pub adds_start : (us : List DeclaredForm) (may : ℕ → Bool) (known : Streamed) (n : Name) (ms : List Name) (k : Entry) (c : Children)
    → AddsOne us (Ok k) (stream_added may known 0 n)
    → c.front.items ≡ [] → c.last ≡ k.number → c.ops ≡ k.ops → c.deepest ≡ k.nesting → SoFar us may known (streams_added may known 0 n ms) 0 ms c
adds_start us may known n ms k c (s, e, h) f l o d = record {
  prior = [];
  last = s;
  are = record {
    trees = subst (λ js. AreTrees us js c.last (Last s)) (sym f) (subst (λ j. IsTree us j s) (sym l) h.tree);
    front = subst (AllByRecursion (λ j. j < length us)) (sym f) tt;
    last = subst (λ j. j < length us) (sym l) h.there;
    ops = o ∙ h.ops;
    deepest = d ∙ h.nesting;
  };
  whole_is = streams_ok may known 0 n ms s e;
}

-- one stream more
pub adds_next : (us : List DeclaredForm) (may : ℕ → Bool) (known : Streamed) (whole : Result Streams Fault) (i : ℕ) (m : Name) (ms : List Name) (c c' : Children)
    (k : Entry)
    → SoFar us may known whole i (m ∷ ms) c → AddsOne us (Ok k) (stream_added may known (i + 1) m)
    → c'.front.items ≡ c.front.items ++ c.last ∷ [] → c'.last ≡ k.number → c'.ops ≡ min (c.ops + k.ops) 257 → c'.deepest ≡ max c.deepest k.nesting
    → SoFar us may known whole (i + 1) ms c'
adds_next us may known whole i m ms c c' k f (s, e, h) fr la op de =
    let a = f.are in
    record {
      prior = f.prior ++ f.last ∷ [];
      last = s;
      are = record {
        trees =
            subst (λ js. AreTrees us js c'.last (chain (f.prior ++ f.last ∷ []) s)) (sym fr)
            (subst (λ j. AreTrees us (c.front.items ++ c.last ∷ []) j (chain (f.prior ++ f.last ∷ []) s)) (sym la)
            (trees_more us c.front.items c.last k.number f.prior f.last s a.trees h.tree));
        front = subst (AllByRecursion (λ j. j < length us)) (sym fr) (lower_more (length us) c.front.items c.last a.front a.last);
        last = subst (λ j. j < length us) (sym la) h.there;
        ops = (let p = a.ops in let q = h.ops in let r = ops_more f.prior f.last s in omega (arith, op, p, q, r));
        deepest = de ∙ ap (λ x. max x k.nesting) a.deepest ∙ ap (max (deepest (chain f.prior f.last))) h.nesting ∙ sym (deep_more f.prior f.last s);
      };
      whole_is =
          f.whole_is
          ∙ ap (λ r. onto f.prior (on_ok r (λ ss. fine (Then f.last ss))))
          (streams_ok may known (suc i) m ms s (ap (λ j. stream_added may known j m) (sym (add-one i)) ∙ e)
          ∙ ap (λ j. going_on may known j s ms) (sym (add-one i)))
          ∙ sym (onto_more f.prior f.last (going_on may known (i + 1) s ms));
    }

-- a stream that is refused
pub adds_fault : (us : List DeclaredForm) (may : ℕ → Bool) (known : Streamed) (whole : Result Streams Fault) (i : ℕ) (m : Name) (ms : List Name) (c : Children)
    (f : RefusedUnit)
    → SoFar us may known whole i (m ∷ ms) c → IsWhyUnit f (stream_added may known (i + 1) m) → IsWhyUnit f whole
adds_fault us may known whole i m ms c f s h =
    tells_more f (stream_added may known (i + 1) m) whole
    (λ g e. s.whole_is ∙ ap (λ r. onto s.prior (on_ok r (λ ss. fine (Then s.last ss))))
    (streams_err may known (suc i) m ms g (ap (λ j. stream_added may known j m) (sym (add-one i)) ∙ e)) ∙ onto_err s.prior g)
    h

-- the first one is refused
pub first_fault : (may : ℕ → Bool) (known : Streamed) (n : Name) (ms : List Name) (f : RefusedUnit) → IsWhyUnit f (stream_added may known 0 n)
    → IsWhyUnit f (streams_added may known 0 n ms)
first_fault may known n ms f h = tells_more f (stream_added may known 0 n) (streams_added may known 0 n ms) (λ g e. streams_err may known 0 n ms g e) h

-- all streams
pub adds_end : (us : List DeclaredForm) (may : ℕ → Bool) (known : Streamed) (whole : Result Streams Fault) (i : ℕ) (c : Children) → SoFar us may known whole i [] c
    → AddsAll us (Ok c) whole
adds_end us may known whole i c f = (chain f.prior f.last, f.whole_is ∙ onto_last f.prior f.last, f.are)
