-- The ports and variables of a kernel that fits types.
use Rattle.std.proofs.Common.{◌≡◌, ℕ, zero, suc, ℤ, ◌+◌, ◌-◌, ◌<◌, ◌≤◌, Bool, true, ◌&&◌, List, [], ◌∷◌, ◌++◌, length, take, drop, refl, sym, ap}
use Rattle.std.proofs.Common.{◌∙◌, subst, arith, length-append, length-drop}
use Rattle.std.specs.Prelude.{nat_le}
use Rattle.std.specs.List.{AllByRecursion, list_all}
use Rattle.std.proofs.lemmas.Bool.{and_parts}
use Rattle.std.proofs.lemmas.List.{length-map, length-replicate, length-take}
use Rattle.std.proofs.lemmas.Option.{slice_get_within}
use Rattle.river_base.specs.Number.{count_of}
use Rattle.river_base.specs.declared.kind.QueueType.{QueueType}
use Rattle.kern_rows.specs.Needs.{HaveShares}
use Rattle.kern_rows.specs.Turns.{shares, ones}
use Rattle.river_kernels.specs.declared.types.VarKind.{VarKind}
use Rattle.river_kernels.specs.declared.types.VarKind.TheVariants.{Private, Table}
use Rattle.river_kernels.specs.Formed.{are_weights}
use Rattle.river_kernels.specs.Fits.{Fits, rows, is_sized, kept, spliced}
use Rattle.river_kernels.specs.Kern.{Kern, code, filter, duplicate, deal, collect, packed, unpack, cross, fused}
use Rattle.brooklet_model.specs.Fire.{ins, outs, tabs, privates, kept_vars}
use Rattle.brooklet_model.specs.Shapes.{IsFormed, IsShaped}

-- how many variables are private, and how many are tables
abbrev pub privates_in : List VarKind → ℕ
privates_in [] = 0
privates_in (Private ∷ vs) = 1 + privates_in vs
privates_in (Table n ∷ vs) = privates_in vs

-- how many variables are tables
abbrev pub tables_in : List VarKind → ℕ
tables_in [] = 0
tables_in (Private ∷ vs) = tables_in vs
tables_in (Table n ∷ vs) = 1 + tables_in vs

pub privates_in-append : (us vs : List VarKind) → privates_in (us ++ vs) ≡ privates_in us + privates_in vs
privates_in-append [] vs = omega arith
privates_in-append (Private ∷ us) vs = let e = privates_in-append us vs in omega (arith, e)
privates_in-append (Table n ∷ us) vs = privates_in-append us vs

pub tables_in-append : (us vs : List VarKind) → tables_in (us ++ vs) ≡ tables_in us + tables_in vs
tables_in-append [] vs = omega arith
tables_in-append (Private ∷ us) vs = tables_in-append us vs
tables_in-append (Table n ∷ us) vs = let e = tables_in-append us vs in omega (arith, e)

-- the numbers of a kernel that fits these types
pub record Counts (k : Kern) (is os : List QueueType) (vs : List VarKind) : Type 0 where
  pub ins : length is ≡ ins k
  pub outs : length os ≡ outs k
  pub privates : privates_in vs ≡ privates k
  pub tables : tables_in vs ≡ tabs k

counts_of : (k : Kern) (is is' os os' : List QueueType) (vs vs' : List VarKind) → is ≡ is' → os ≡ os' → vs ≡ vs' → length is' ≡ ins k → length os' ≡ outs k
    → privates_in vs' ≡ privates k → tables_in vs' ≡ tabs k → Counts k is os vs
counts_of k is is' os os' vs vs' e f g a b c d =
    record { ins = ap length e ∙ a; outs = ap length f ∙ b; privates = ap privates_in g ∙ c; tables = ap tables_in g ∙ d }

kept_privates : (zs : List ℤ) → privates_in (kept zs) ≡ kept_vars zs
kept_privates [] = refl
kept_privates (z ∷ zs) = refl

kept_tables : (zs : List ℤ) → tables_in (kept zs) ≡ 0
kept_tables [] = refl
kept_tables (z ∷ zs) = refl

-- one item is replaced by a list
pub length-spliced : {A : Type 0} (at : ℕ) (ms bs : List A) → at < length ms → length (spliced at ms bs) ≡ length ms + length bs - 1
length-spliced at ms bs lt =
    let a = length-append (take at ms) (bs ++ drop (at + 1) ms) in
    let b = length-append bs (drop (at + 1) ms) in
    let c = length-take at ms in
    let d = length-drop (at + 1) ms in
    omega (arith, a, b, c, d, lt)

-- a kernel that fits types has as many ports and variables as its shape says
pub counts : (k : Kern) (is os : List QueueType) (vs : List VarKind) → Fits k is os vs → Counts k is os vs
counts (code k) is os vs h =
    counts_of (code k) is _ os _ vs _ h.0 h.1 h.2 refl (length-map k.outs (λ w. rows (count_of w))) (kept_privates k.starts) (kept_tables k.starts)
counts (filter f) is os vs h = counts_of (filter f) is _ os _ vs _ h.0 h.1 h.2 refl refl refl refl
counts (duplicate n) is os vs h = counts_of (duplicate n) is _ os _ vs _ h.1 h.2 h.3 refl (length-replicate n _) refl refl
counts (deal ws) is os vs h = counts_of (deal ws) is _ os _ vs _ h.1 h.2 h.3 refl (length-replicate (length ws) _) refl refl
counts (collect ws) is os vs h = counts_of (collect ws) is _ os _ vs _ h.1 h.2 h.3 (length-replicate (length ws) _) refl refl refl
counts (packed k) is os vs h =
    let c = counts k _ _ _ h.5 in
    counts_of (packed k) is _ os _ vs _ h.2 h.3 h.4 refl refl c.privates refl
counts (unpack n) is os vs h = counts_of (unpack n) is _ os _ vs _ h.1 h.2 h.3 (length-replicate n _) refl refl refl
counts cross is os vs h = counts_of cross is _ os _ vs _ h.2 h.3 h.4 refl refl refl refl
counts (fused a b at) is os vs h =
    let ms = h.0 in
    let bs = h.2 in
    let us = h.3 in
    let ws = h.4 in
    let ca = counts a is ms us h.5 in
    let cb = counts b (h.1 ∷ []) bs ws h.7 in
    record {
      ins = ca.ins;
      outs = ap length h.8 ∙ length-spliced at ms bs (slice_get_within ms at h.1 h.6) ∙ ap (λ n. n + length bs - 1) ca.outs ∙ ap (λ n. outs a + n - 1) cb.outs;
      privates = ap privates_in h.9 ∙ privates_in-append us ws ∙ ap (λ n. n + privates_in ws) ca.privates ∙ ap (λ n. privates a + n) cb.privates;
      tables = ap tables_in h.9 ∙ tables_in-append us ws ∙ ap (λ n. n + tables_in ws) ca.tables ∙ ap (λ n. tabs a + n) cb.tables;
    }
counts kernel is os vs h = counts_of kernel is _ os _ vs _ h.1 h.2 h.3 refl refl refl refl

-- SHARES

at_least : (ws : List ℤ) → list_all (λ w. nat_le 1 (count_of w)) ws ≡ true → AllByRecursion (λ w. 0 < w) (shares ws)
at_least [] h = tt
at_least (w ∷ ws) h =
    let p = and_parts (nat_le 1 (count_of w)) (list_all (λ v. nat_le 1 (count_of v)) ws) h in
    (grind (arith, p.0), at_least ws p.1)

weights_shares : (b : Bool) (ws : List ℤ) → (b && are_weights ws) ≡ true → HaveShares (shares ws)
weights_shares b ws h =
    let p = and_parts b (are_weights ws) h in
    let q = and_parts (nat_le 1 (length ws)) (list_all (λ w. nat_le 1 (count_of w)) ws) p.1 in
    let e = length-map ws count_of in
    let some : 1 ≤ length ws = grind (arith, q.0) in
    (omega (arith, e, some), at_least ws q.1)

ones_each : (n : ℕ) → AllByRecursion (λ w. 0 < w) (ones n)
ones_each zero = tt
ones_each (suc n) = (omega arith, ones_each n)

ones_shares : (b : Bool) (n : ℕ) → (b && nat_le 1 n) ≡ true → HaveShares (ones n)
ones_shares b n h =
    let p = and_parts b (nat_le 1 n) h in
    let some : 1 ≤ n = grind (arith, p.1) in
    let one : ℕ = 1 in
    let e = length-replicate n one in
    (omega (arith, e, some), ones_each n)

-- a well-formed kernel has what its firings need
pub shaped : (k : Kern) (is os : List QueueType) (vs : List VarKind) → Fits k is os vs → IsShaped k
shaped (deal ws) is os vs h = weights_shares (is_sized h.0) ws h.4
shaped (collect ws) is os vs h = weights_shares (is_sized h.0) ws h.4
shaped (packed k) is os vs h =
    let c = counts k _ _ _ h.5 in
    (shaped k _ _ _ h.5, sym c.ins, sym c.outs, sym c.tables, sym c.privates)
shaped (unpack n) is os vs h = ones_shares (is_sized h.0) n h.4
shaped (fused a b at) is os vs h =
    let ca = counts a is h.0 h.3 h.5 in
    let cb = counts b (h.1 ∷ []) h.2 h.4 h.7 in
    (shaped a is h.0 h.3 h.5, shaped b (h.1 ∷ []) h.2 h.4 h.7, subst (λ n. at < n) ca.outs (slice_get_within h.0 at h.1 h.6), sym cb.ins)
shaped kernel is os vs h = tt

-- a kernel that is right in itself has weights above 0
pub formed_shaped : (k : Kern) → IsFormed k → IsShaped k
formed_shaped k f = shaped k f.reads f.writes f.vars f.fits
