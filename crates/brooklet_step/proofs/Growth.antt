-- What firings give does not hang on what was in the lists before them.
use Rattle.std.proofs.Common.{◌≡◌, ℕ, ◌-◌, ◌<◌, List, [], ◌∷◌, length, drop, replicate, suc, refl, sym, ap, ◌∙◌, arith}
use Rattle.std.proofs.lemmas.List.{drop_at, length-replicate}
use Rattle.river_base.specs.declared.item.Item as item
use Rattle.river_base.specs.Places.{each_grew, list_at}
use Rattle.river_base.proofs.PlaceLemmas.{each_grew_cong, if_ge, length-each_grew}
use Rattle.river_kernels.specs.Kern.{Kern}
use Rattle.brooklet_model.specs.Firings.{splice, beside}
use Rattle.brooklet_model.specs.Fire.{outs, tabs}
use Rattle.brooklet_model.proofs.Spliced.{splice_second}
use Rattle.brooklet_step.specs.declared.emit.Emit.{Emit}
use Rattle.brooklet_step.specs.declared.state.State.{State}
use Rattle.brooklet_step.specs.Took.{HasLists}
use Rattle.brooklet_step.specs.Given.{CanTakeAll, CanTakeOn, CameAsHeld, FiresEach, TookOn}
use Rattle.brooklet_step.proofs.Fires.{grown_list}

-- what came to the end of each list
abbrev pub grown : {A : Type 0} → List (List A) → List (List A) → List (List A)
grown [] ls' = []
grown (l ∷ ls) [] = []
grown (l ∷ ls) (m ∷ ms) = drop (length l) m ∷ grown ls ms

grown_each : {A : Type 0} (ls : List (List A)) (f : ℕ → List A) → grown ls (each_grew ls f) ≡ each_grew (replicate (length ls) []) f
grown_each [] f = refl
grown_each (l ∷ ls) f = ap (λ m. m ∷ grown ls (each_grew ls (λ p. f (suc p)))) (drop_at l (f 0) (length l) refl) ∙ ap (λ t. f 0 ∷ t) (grown_each ls (λ p. f (suc p)))

-- is what lists would have that were empty
grown_is : {A : Type 0} (n : ℕ) (ls ls' : List (List A)) (f : ℕ → List A) → length ls ≡ n → ls' ≡ each_grew ls f → grown ls ls' ≡ each_grew (replicate n []) f
grown_is n ls ls' f m e = ap (grown ls) e ∙ grown_each ls f ∙ ap (λ k. each_grew (replicate k []) f) m

-- and makes the new lists of the old ones
grown_all : {A : Type 0} (n : ℕ) (ls ls' : List (List A)) (f : ℕ → List A) → length ls ≡ n → ls' ≡ each_grew ls f
    → ls' ≡ each_grew ls (list_at (grown ls ls'))
grown_all n ls ls' f m e =
    e ∙ each_grew_cong ls f (list_at (grown ls ls'))
    (λ p lt. sym (grown_list n (replicate n []) (grown ls ls') f p refl (grown_is n ls ls' f m e) (omega (arith, lt, m))))

grown_many : {A : Type 0} (n : ℕ) (ls ls' : List (List A)) (f : ℕ → List A) → length ls ≡ n → ls' ≡ each_grew ls f → length (grown ls ls') ≡ n
grown_many n ls ls' f m e = ap length (grown_is n ls ls' f m e) ∙ length-each_grew (replicate n []) f ∙ length-replicate n []

-- lists without anything for all that a kernel gives
abbrev pub blank_of : Kern → Emit
blank_of k = record { outs = replicate (outs k) []; adds = replicate (tabs k) [] }

-- what came to the lists
abbrev pub growth : Emit → Emit → Emit
growth e e' = record { outs = grown e.outs e'.outs; adds = grown e.adds e'.adds }

-- what firings gave to lists that had something already, they would have given to empty ones
pub each_grows : (k : Kern) (is : List item.Item) (e e' : Emit) (st st' : List State) → HasLists k e → FiresEach k is e e' st st'
    → FiresEach k is (blank_of k) (growth e e') st st'
each_grows k is e e' st st' h f = record {
  each = λ reads writes vars fits fs hs.
      let d = f.each reads writes vars fits fs hs in
      record {
        gives = record {
          given = λ start w xs is_start tw txs sa hx.
              let g = d.gives.given start w xs is_start tw txs sa hx in (
                record { outs = grown_is (outs k) e.outs e'.outs _ h.outs g.0.outs; adds = grown_is (tabs k) e.adds e'.adds _ h.adds g.0.adds },
                g.1,
              );
        };
        came = record {
          outs = d.came.outs;
          adds = d.came.adds;
          outs_are = grown_is (outs k) e.outs e'.outs d.came.outs h.outs d.came.outs_are;
          adds_are = grown_is (tabs k) e.adds e'.adds d.came.adds h.adds d.came.adds_are;
          held = d.came.held;
          wide = d.came.wide;
          again = d.came.again;
        };
      };
}

-- ONE PORT BETWEEN TWO KERNELS

module _ (b : Kern) (at : ℕ) (st : List State) (mid out : Emit) (c : CanTakeOn b at st mid out) (one : length mid.outs ≡ 1) (none : length mid.adds ≡ 0) where
  all : CanTakeAll b (list_at mid.outs at) st (blank_of b)
  all = c.takes (blank_of b) (record { outs = refl; adds = refl })

  room : HasLists b out
  room = let o = c.outs in let a = c.adds in record { outs = omega (arith, o, one); adds = omega (arith, a, none) }

  -- where the first has no other port and no table, the second gives to the lists themselves
  pub through_can : CanTakeAll b (list_at mid.outs at) st out
  through_can = record { reads = all.reads; fitting = all.fitting; items = all.items; room = room }

  pub through : (out' : Emit) (st' : List State) → FiresEach b (list_at mid.outs at) out out' st st' → TookOn b at mid out out' st st'
  through out' st' f =
      let t = all in
      let d : CameAsHeld b t.reads t.fitting.writes t.fitting.vars out out' st' =
      (f.each t.reads t.fitting.writes t.fitting.vars t.fitting.fits t.fitting.state t.items).came in
      record {
        blank = blank_of b;
        last = growth out out';
        is_blank = record { outs = refl; adds = refl };
        fires = each_grows b (list_at mid.outs at) out out' st st' room f;
        outs =
            grown_all (outs b) out.outs out'.outs d.outs room.outs d.outs_are
            ∙ each_grew_cong out.outs (list_at (grown out.outs out'.outs))
            (splice at (length (grown out.outs out'.outs)) (list_at mid.outs) (list_at (grown out.outs out'.outs)))
            (λ p lt. at_port p lt (grown_many (outs b) out.outs out'.outs d.outs room.outs d.outs_are));
        adds =
            grown_all (tabs b) out.adds out'.adds d.adds room.adds d.adds_are
            ∙ each_grew_cong out.adds (list_at (grown out.adds out'.adds))
            (beside (length mid.adds) (list_at mid.adds) (list_at (grown out.adds out'.adds))) (λ p lt. at_table p);
      }
    where
      at_port : (p : ℕ) → p < length out.outs → length (grown out.outs out'.outs) ≡ outs b
          → list_at (grown out.outs out'.outs) p
          ≡ splice at (length (grown out.outs out'.outs)) (list_at mid.outs) (list_at (grown out.outs out'.outs)) p
      at_port p lt many =
          let at_lt = c.place in
          let r = room.outs in
          let same : p - at ≡ p = omega (arith, at_lt, one) in
          sym (splice_second at (length (grown out.outs out'.outs)) (list_at mid.outs) (list_at (grown out.outs out'.outs)) p (omega (arith, at_lt, one))
          (omega (arith, lt, many, r, same))
          ∙ ap (list_at (grown out.outs out'.outs)) same)

      at_table : (p : ℕ) → list_at (grown out.adds out'.adds) p ≡ beside (length mid.adds) (list_at mid.adds) (list_at (grown out.adds out'.adds)) p
      at_table p =
          let same : p - length mid.adds ≡ p = omega (arith, none) in
          sym (if_ge p (length mid.adds) (list_at mid.adds p) (list_at (grown out.adds out'.adds) (p - length mid.adds)) (omega (arith, none))
          ∙ ap (list_at (grown out.adds out'.adds)) same)
