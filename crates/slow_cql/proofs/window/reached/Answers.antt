use Rattle.std.proofs.Common.{rules, ◌≡◌, ℤ, List, map, filter, sym, ap, ◌∙◌, subst, int_le, int_lt, to_z, of_z, w64}
use Rattle.std.specs.Prelude.{not, ◌&&◌}
use Rattle.std.proofs.lemmas.Int.{to_z-of_z}
use mir.Val.{SFits}
use Rattle.std.specs.Ordering.{int_eq}
use Rattle.cql_model.specs.Streams.{in_reach, newest_rows}
use Rattle.cql_text.specs.declared.tree.Window.{Window}
use Rattle.cql_text.specs.declared.tree.Window.TheVariants.{Range}
use Rattle.cql_text.specs.Tree.{window_of}
use Rattle.slow_cql.specs.Kept.{Entry, reached}
use Rattle.slow_cql.proofs.Windows.{now_is, between, last_of}
use Rattle.slow_cql.proofs.window.reached.Goals as goal

same : (z : ℤ) → SFits w64 z → to_z w64 (of_z w64 z) ≡ z
same z h = to_z-of_z w64 z h

below : (es ps : List Entry) (a b : ℤ) → a ≡ b → ps ≡ filter (λ (e : Entry). int_le e.0 a) es → ps ≡ filter (λ (e : Entry). int_le e.0 b) es
below es ps a b e h = subst (λ z. ps ≡ filter (λ (e : Entry). int_le e.0 z) es) e h

above : (es ps : List Entry) (a b : ℤ) → a ≡ b → ps ≡ filter (λ (e : Entry). not (int_lt e.0 a)) es → ps ≡ filter (λ (e : Entry). not (int_lt e.0 b)) es
above es ps a b e h = subst (λ z. ps ≡ filter (λ (e : Entry). not (int_lt e.0 z)) es) e h

pub returns-in-Now : goal.returns-in-Now
returns-in-Now c =
    let es = c.args.entries.now in
    let at = c.args.at in
    let e : to_z w64 (of_z w64 at) ≡ at = same at c.ranges.at in
    let ps = c.up_to.result.now in
    let qs = c.not_below.result.now in
    ap (map (λ (e : Entry). e.1))
    (between (λ e. int_le e.0 at) (λ e. not (int_lt e.0 at)) (λ e. int_eq e.0 at) (λ e. now_is at e.0) es ps qs
    (below es ps (to_z w64 (of_z w64 at)) at e c.up_to.ensures.rows) (above ps qs (to_z w64 (of_z w64 at)) at e c.not_below.ensures))
    ∙ ap (λ (w : Window). reached (window_of w) at es) (sym c.in-Now.is)

pub returns-in-Range : goal.returns-in-Range
returns-in-Range c =
    let es = c.args.entries.now in
    let at = c.args.at in
    let first = c.earliest.result in
    let e : to_z w64 (of_z w64 at) ≡ at = same at c.ranges.at in
    let f : to_z w64 (of_z w64 first) ≡ first = search rules in
    let w = window_of (Range c.in-Range.span c.in-Range.field-1) in
    let fits : (u : ℤ) → (int_le u at && not (int_lt u first)) ≡ in_reach w at u = subst (λ (z : ℤ). (u : ℤ)
    → (int_le u z && not (int_lt u first)) ≡ in_reach w z u) e c.earliest.ensures in
    let ps = c.up_to-in-Range.result.now in
    let qs = c.not_below-in-Range.result.now in
    ap (map (λ (e : Entry). e.1))
    (between (λ e. int_le e.0 at) (λ e. not (int_lt e.0 first)) (λ e. in_reach w at e.0) (λ e. fits e.0) es ps qs
    (below es ps (to_z w64 (of_z w64 at)) at e c.up_to-in-Range.ensures.rows) (above ps qs (to_z w64 (of_z w64 first)) first f c.not_below-in-Range.ensures))
    ∙ ap (λ (w : Window). reached (window_of w) at es) (sym c.in-Range.is)

pub returns-in-Rows : goal.returns-in-Rows
returns-in-Rows c =
    let es = c.args.entries.now in
    let at = c.args.at in
    let e : to_z w64 (of_z w64 at) ≡ at = same at c.ranges.at in
    let ps = c.up_to-in-Rows.result.now in
    ap (map (λ (e : Entry). e.1)) c.last.ensures
    ∙ last_of c.in-Rows.count ps
    ∙ ap (λ (l : List Entry). newest_rows c.in-Rows.count (map (λ (e : Entry). e.1) l)) (below es ps (to_z w64 (of_z w64 at)) at e c.up_to-in-Rows.ensures.rows)
    ∙ ap (λ (w : Window). reached (window_of w) at es) (sym c.in-Rows.is)
