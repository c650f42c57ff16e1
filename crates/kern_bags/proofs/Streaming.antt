-- What streamers give for changes.
use Rattle.std.proofs.Common.{◌≡◌, ℕ, ℤ, List, sym, ap, ◌∙◌, arith, subst}
use Rattle.river_base.specs.Held.{HaveWidth}
use Rattle.river_base.specs.Row.{copies, in_order}
use Rattle.river_base.specs.declared.item.Batch.{Batch}
use Rattle.river_base.proofs.Rows.{in_order_sorted}
use Rattle.kern_bags.specs.Contents.{difference}
use Rattle.kern_changes.proofs.Copies.{differences_are}
use Rattle.kern_bags.specs.declared.kernel.Streamer.{Streamer}
use Rattle.kern_bags.specs.declared.kernel.Streamer.TheVariants.{Istream, Dstream}
use Rattle.river_base.specs.declared.item.Change.{Change}
use Rattle.river_base.specs.Changes.{change_to, IsWideChange}
use Rattle.kern_changes.specs.Counted.{AreSame, Changed}
use Rattle.kern_bags.specs.Following.{StreamsFree, StreamsAll, StreamSteps}
use Rattle.kern_changes.proofs.Leading.{same_order}
use Rattle.kern_changes.proofs.Widths.{wide_changed, wide_in_order}

-- a change made on the bag of the content gives the next one
pub changed_same : (c : Change) (old new before : List (List ℤ)) (b : Batch) → AreSame old before → c ≡ change_to before b → Changed c old new
    → AreSame new b.rows
changed_same c old new before b same is made = record {
  each = λ row.
      let m : copies row c.minus ≡ copies row (difference before b.rows) = ap (λ (d : Change). copies row d.minus) is in
      let p : copies row c.plus ≡ copies row (difference b.rows before) = ap (λ (d : Change). copies row d.plus) is in
      let x = differences_are before b.rows row in
      let y = differences_are b.rows before row in
      let e = same.each row in
      let n = made.each row in
      omega (arith, m, p, x, y, e, n);
}

-- the next content, in order, is what Rstream gives
pub all_streams : (c : Change) (old new : List (List ℤ)) (g : Batch) → Changed c old new → g ≡ record { at = c.at; rows = in_order new }
    → StreamsAll c old new g
all_streams c old new g made e = record {
  each = λ before b up same is.
      let s = changed_same c old new before b same is made in
      (e ∙ (λ i. record { at = (is i).at; rows = (same_order new b.rows s.each ∙ in_order_sorted b.rows up) i }), s);
}

-- the content and what is given are as wide as what came
pub all_fit : (w : ℕ) (c : Change) (old new rows : List (List ℤ)) → Changed c old new → rows ≡ in_order new → HaveWidth w old → IsWideChange w c
    → HaveWidth w new
    × HaveWidth w rows
all_fit w c old new rows made e h k =
    let n = wide_changed w c old new h k.plus made in
    (n, subst (HaveWidth w) (sym e) (wide_in_order w new n))

-- so Istream steps: it keeps nothing
pub came_steps : (s : Streamer) (c : Change) (kept : List (List ℤ)) (g : Batch) → s ≡ Istream → StreamsFree Istream c g
    → ((w : ℕ) → IsWideChange w c → HaveWidth w g.rows) → StreamSteps s c kept kept g
came_steps s c kept g is free wide = subst (λ t. StreamSteps t c kept kept g) (sym is) (record {
  contents = record { each = λ before b up k e. (free.each before b e, tt) };
  fits = record { each = λ w h k. (h, wide w k) };
})

-- and Dstream
pub went_steps : (s : Streamer) (c : Change) (kept : List (List ℤ)) (g : Batch) → s ≡ Dstream → StreamsFree Dstream c g
    → ((w : ℕ) → IsWideChange w c → HaveWidth w g.rows) → StreamSteps s c kept kept g
went_steps s c kept g is free wide = subst (λ t. StreamSteps t c kept kept g) (sym is) (record {
  contents = record { each = λ before b up k e. (free.each before b e, tt) };
  fits = record { each = λ w h k. (h, wide w k) };
})
