-- A kernel fits exactly the types that are inferred from what it reads.
use Rattle.std.proofs.Common.{◌≡◌, ℤ, ℕ, ◌+◌, ◌≤◌, Bool, true, ◌&&◌, nat_eq, Option, Some, None, List, [], ◌∷◌, ◌++◌, length, refl, sym, ap, ◌∙◌, subst, arith}
use Rattle.std.specs.Prelude.{nat_le, replicate, slice_get}
use Rattle.std.specs.List.{list_all}
use Rattle.std.proofs.lemmas.Bool.{and_from, and_parts}
use Rattle.std.proofs.lemmas.Option.{same_Some}
use Rattle.river_base.proofs.Tests.{eq_by}
use Rattle.river_base.specs.declared.kind.FlatType.{FlatType}
use Rattle.river_base.specs.declared.kind.QueueType.{QueueType}
use Rattle.river_base.specs.declared.kind.QueueType.TheVariants.{Flat, Pack}
use Rattle.river_kernels.specs.declared.types.VarKind.{VarKind}
use Rattle.river_kernels.specs.declared.types.VarKind.TheVariants.{Private, Table}
use Rattle.river_kernels.specs.declared.types.Types.{Types}
use Rattle.river_kernels.specs.Kern.{Kern, code, filter, duplicate, deal, collect, packed, unpack, window, select, project, cross, streamer, tally, fused}
use Rattle.river_kernels.specs.Formed.{is_width, is_term, is_code, is_filter, are_weights, is_window}
use Rattle.river_kernels.specs.Fits.{Fits, rows, stream, relation, width_of, is_sized, is_bag, ports, are_widths, kept, spliced}
use Rattle.river_kernels.specs.Types.{given, given_if, on_rows_width, stream_in, relation_in, crossed_types, packed_outs, packed_of, joined_types, behind, fused_types, types_of}
use Rattle.river_kernels.proofs.TypeLemmas.{eq_same, not_some, gives_if, gives_some, flat_some, rows_some, stream_some, relation_some}
use Rattle.river_kernels.proofs.TypeLemmas.{flats_some, packs_some, flats_all, packs_all, pair_some}

-- the first part of a test of weights
weighed : (b : Bool) (ws : List ℤ) → (b && are_weights ws) ≡ true → 1 ≤ length ws
weighed b ws h = grind arith

-- what fits is inferred
pub fits_types : (k : Kern) (is os : List QueueType) (vs : List VarKind) → Fits k is os vs → types_of k is ≡ Some (given os vs)
fits_types (code k) is os vs h =
    ap (types_of (code k)) h.0
    ∙ gives_if (nat_eq k.body.inputs k.body.inputs && (is_width k.body.inputs && (are_widths k.outs && is_code k))) (ports k.outs) os (kept k.starts) vs
    (and_from (nat_eq k.body.inputs k.body.inputs) (is_width k.body.inputs && (are_widths k.outs && is_code k)) (eq_same k.body.inputs) h.3) h.1 h.2
fits_types (filter f) is os vs h = ap (types_of (filter f)) h.0 ∙ gives_if (nat_eq 1 1 && is_filter f) (rows 1 ∷ []) os (Private ∷ []) vs h.3 h.1 h.2
fits_types (duplicate n) is os vs h = ap (types_of (duplicate n)) h.1 ∙ gives_if (is_sized h.0 && nat_le 1 n) (replicate n (Flat h.0)) os [] vs h.4 h.2 h.3
fits_types (deal ws) is os vs h =
    ap (types_of (deal ws)) h.1 ∙ gives_if (is_sized h.0 && are_weights ws) (replicate (length ws) (Flat h.0)) os (Private ∷ []) vs h.4 h.2 h.3
fits_types (collect ws) is os vs h =
    ap (types_of (collect ws)) h.1
    ∙ flats_all (length ws) h.0 (λ t. given_if (is_sized t && are_weights ws) (Flat t ∷ []) (Private ∷ [])) (weighed (is_sized h.0) ws h.4)
    ∙ gives_if (is_sized h.0 && are_weights ws) (Flat h.0 ∷ []) os (Private ∷ []) vs h.4 h.2 h.3
fits_types (packed k) is os vs h =
    ap (types_of (packed k)) h.2 ∙ ap packed_of (fits_types k (Flat h.0 ∷ []) (Flat h.1 ∷ []) [] h.5) ∙ (λ i. Some (given (sym h.3 i) (sym h.4 i)))
fits_types (unpack n) is os vs h =
    ap (types_of (unpack n)) h.1
    ∙ packs_all n h.0 (λ t. given_if (is_sized t && nat_le 1 n) (Flat t ∷ []) (Private ∷ [])) (grind (arith, h.4))
    ∙ gives_if (is_sized h.0 && nat_le 1 n) (Flat h.0 ∷ []) os (Private ∷ []) vs h.4 h.2 h.3
fits_types (window w) is os vs h = ap (types_of (window w)) h.1 ∙ gives_if (is_width h.0 && is_window w) (relation h.0 ∷ []) os (Private ∷ []) vs h.4 h.2 h.3
fits_types (select e) is os vs h =
    ap (types_of (select e)) h.1 ∙ gives_if (is_sized h.0 && (is_bag h.0 && is_term (width_of h.0) 0 e)) (Flat h.0 ∷ []) os [] vs h.4 h.2 h.3
fits_types (project es) is os vs h =
    ap (types_of (project es)) h.1
    ∙ gives_if (is_width h.0 && (is_width (length es) && list_all (is_term h.0 0) es)) (relation (length es) ∷ []) os [] vs h.4 h.2 h.3
fits_types cross is os vs h =
    ap (types_of cross) h.2 ∙ gives_if (is_width h.0 && (is_width h.1 && is_width (h.0 + h.1))) (relation (h.0 + h.1) ∷ []) os (Private ∷ []) vs h.5 h.3 h.4
fits_types (streamer s) is os vs h = ap (types_of (streamer s)) h.1 ∙ gives_if (is_width h.0) (stream h.0 ∷ []) os (Private ∷ []) vs h.4 h.2 h.3
fits_types tally is os vs h = ap (types_of tally) h.1 ∙ gives_if (is_width h.0) [] os (Table h.0 ∷ []) vs h.4 h.2 h.3
fits_types (fused a b at) is os vs h =
    let ms = h.0 in
    let m = h.1 in
    let bs = h.2 in
    let us = h.3 in
    let ws = h.4 in
    ap (λ o. fused_types at o (types_of b)) (fits_types a is ms us h.5) ∙ ap (λ o. behind at (given ms us) o (types_of b)) h.6
    ∙ ap (joined_types at (given ms us)) (fits_types b (m ∷ []) bs ws h.7) ∙ (λ i. Some (given (sym h.8 i) (sym h.9 i)))

-- what is inferred for the kernel inside a pack
record Inside (o : Option Types) (p : Types) : Type 0 where
  pub within : Types
  pub some : o ≡ Some within
  pub type : FlatType
  pub outs : within.outs ≡ Flat type ∷ []
  pub vars : within.vars ≡ []
  pub pack : p.outs ≡ Pack type ∷ []
  pub none : p.vars ≡ []

inside_outs : (q : Types) (os : List QueueType) (vs : List VarKind) (p : Types) → q.outs ≡ os → q.vars ≡ vs → packed_outs os vs ≡ Some p → Inside (Some q) p
inside_outs q [] vs p e f h = absurd (not_some h)
inside_outs q (Flat u ∷ []) [] p e f h =
    let s : given (Pack u ∷ []) [] ≡ p = same_Some _ _ h in
    record { within = q; some = refl; type = u; outs = e; vars = f; pack = sym (ap (λ (r : Types). r.outs) s); none = sym (ap (λ (r : Types). r.vars) s) }
inside_outs q (Flat u ∷ []) (v ∷ vs) p e f h = absurd (not_some h)
inside_outs q (Pack u ∷ []) vs p e f h = absurd (not_some h)
inside_outs q (Flat u ∷ w ∷ ws) vs p e f h = absurd (not_some h)
inside_outs q (Pack u ∷ w ∷ ws) vs p e f h = absurd (not_some h)

inside : (o : Option Types) (p : Types) → packed_of o ≡ Some p → Inside o p
inside None p h = absurd (not_some h)
inside (Some q) p h = inside_outs q q.outs q.vars p refl refl h

-- what is inferred for two kernels
record Behind (at : ℕ) (o : Option Types) (f : List QueueType → Option Types) (p : Types) : Type 0 where
  pub first : Types
  pub first_some : o ≡ Some first
  pub middle : QueueType
  pub middle_is : slice_get first.outs at ≡ Some middle
  pub second : Types
  pub second_some : f (middle ∷ []) ≡ Some second
  pub outs : p.outs ≡ spliced at first.outs second.outs
  pub vars : p.vars ≡ first.vars ++ second.vars

behind_joined : (at : ℕ) (q : Types) (m : QueueType) (f : List QueueType → Option Types) (o : Option Types) (p : Types) → slice_get q.outs at ≡ Some m
    → f (m ∷ []) ≡ o → joined_types at q o ≡ Some p → Behind at (Some q) f p
behind_joined at q m f None p e g h = absurd (not_some h)
behind_joined at q m f (Some r) p e g h =
    let s : given (spliced at q.outs r.outs) (q.vars ++ r.vars) ≡ p = same_Some _ _ h in
    record {
      first = q;
      first_some = refl;
      middle = m;
      middle_is = e;
      second = r;
      second_some = g;
      outs = sym (ap (λ (t : Types). t.outs) s);
      vars = sym (ap (λ (t : Types). t.vars) s);
    }

behind_middle : (at : ℕ) (q : Types) (o : Option QueueType) (f : List QueueType → Option Types) (p : Types) → slice_get q.outs at ≡ o → behind at q o f ≡ Some p
    → Behind at (Some q) f p
behind_middle at q None f p e h = absurd (not_some h)
behind_middle at q (Some m) f p e h = behind_joined at q m f (f (m ∷ [])) p e refl h

two_parts : (at : ℕ) (o : Option Types) (f : List QueueType → Option Types) (p : Types) → fused_types at o f ≡ Some p → Behind at o f p
two_parts at None f p h = absurd (not_some h)
two_parts at (Some q) f p h = behind_middle at q (slice_get q.outs at) f p refl h

-- what is inferred fits
pub types_fits : (k : Kern) (is : List QueueType) (p : Types) → types_of k is ≡ Some p → Fits k is p.outs p.vars
types_fits (code k) is p h =
    let a = flat_some is
    (λ t. on_rows_width t
    (λ n. given_if (nat_eq n k.body.inputs && (is_width k.body.inputs && (are_widths k.outs && is_code k))) (ports k.outs) (kept k.starts))) p h in
    let b = rows_some a.type
    (λ n. given_if (nat_eq n k.body.inputs && (is_width k.body.inputs && (are_widths k.outs && is_code k))) (ports k.outs) (kept k.starts)) p a.some in
    let g = gives_some (nat_eq b.width k.body.inputs && (is_width k.body.inputs && (are_widths k.outs && is_code k))) (ports k.outs) (kept k.starts) p b.some in
    let c = and_parts (nat_eq b.width k.body.inputs) (is_width k.body.inputs && (are_widths k.outs && is_code k)) g.holds in
    (a.reads ∙ ap (λ t. Flat t ∷ []) b.is ∙ ap (λ n. rows n ∷ []) (eq_by b.width k.body.inputs c.0), g.outs, g.vars, c.1)
types_fits (filter f) is p h =
    let a = flat_some is (λ t. on_rows_width t (λ n. given_if (nat_eq n 1 && is_filter f) (rows 1 ∷ []) (Private ∷ []))) p h in
    let b = rows_some a.type (λ n. given_if (nat_eq n 1 && is_filter f) (rows 1 ∷ []) (Private ∷ [])) p a.some in
    let g = gives_some (nat_eq b.width 1 && is_filter f) (rows 1 ∷ []) (Private ∷ []) p b.some in
    let c = and_parts (nat_eq b.width 1) (is_filter f) g.holds in
    (a.reads ∙ ap (λ t. Flat t ∷ []) b.is ∙ ap (λ n. rows n ∷ []) (eq_by b.width 1 c.0), g.outs, g.vars, c.1)
types_fits (duplicate n) is p h =
    let a = flat_some is (λ t. given_if (is_sized t && nat_le 1 n) (replicate n (Flat t)) []) p h in
    let g = gives_some (is_sized a.type && nat_le 1 n) (replicate n (Flat a.type)) [] p a.some in
    (a.type, a.reads, g.outs, g.vars, g.holds)
types_fits (deal ws) is p h =
    let a = flat_some is (λ t. given_if (is_sized t && are_weights ws) (replicate (length ws) (Flat t)) (Private ∷ [])) p h in
    let g = gives_some (is_sized a.type && are_weights ws) (replicate (length ws) (Flat a.type)) (Private ∷ []) p a.some in
    (a.type, a.reads, g.outs, g.vars, g.holds)
types_fits (collect ws) is p h =
    let a = flats_some (length ws) is (λ t. given_if (is_sized t && are_weights ws) (Flat t ∷ []) (Private ∷ [])) p h in
    let g = gives_some (is_sized a.type && are_weights ws) (Flat a.type ∷ []) (Private ∷ []) p a.some in
    (a.type, a.reads, g.outs, g.vars, g.holds)
types_fits (packed k) is p h =
    let a = flat_some is (λ t. packed_of (types_of k (Flat t ∷ []))) p h in
    let c = inside (types_of k (Flat a.type ∷ [])) p a.some in
    let f : Fits k (Flat a.type ∷ []) c.within.outs c.within.vars = types_fits k (Flat a.type ∷ []) c.within c.some in (
      a.type,
      c.type,
      a.reads,
      c.pack,
      c.none,
      subst (Fits k (Flat a.type ∷ []) (Flat c.type ∷ [])) c.vars (subst (λ os. Fits k (Flat a.type ∷ []) os c.within.vars) c.outs f),
    )
types_fits (unpack n) is p h =
    let a = packs_some n is (λ t. given_if (is_sized t && nat_le 1 n) (Flat t ∷ []) (Private ∷ [])) p h in
    let g = gives_some (is_sized a.type && nat_le 1 n) (Flat a.type ∷ []) (Private ∷ []) p a.some in
    (a.type, a.reads, g.outs, g.vars, g.holds)
types_fits (window w) is p h =
    let a = flat_some is (λ t. stream_in t (λ n. given_if (is_width n && is_window w) (relation n ∷ []) (Private ∷ []))) p h in
    let b = stream_some a.type (λ n. given_if (is_width n && is_window w) (relation n ∷ []) (Private ∷ [])) p a.some in
    let g = gives_some (is_width b.width && is_window w) (relation b.width ∷ []) (Private ∷ []) p b.some in
    (b.width, a.reads ∙ ap (λ t. Flat t ∷ []) b.is, g.outs, g.vars, g.holds)
types_fits (select e) is p h =
    let a = flat_some is (λ t. given_if (is_sized t && (is_bag t && is_term (width_of t) 0 e)) (Flat t ∷ []) []) p h in
    let g = gives_some (is_sized a.type && (is_bag a.type && is_term (width_of a.type) 0 e)) (Flat a.type ∷ []) [] p a.some in
    (a.type, a.reads, g.outs, g.vars, g.holds)
types_fits (project es) is p h =
    let a = flat_some is
    (λ t. relation_in t (λ n. given_if (is_width n && (is_width (length es) && list_all (is_term n 0) es)) (relation (length es) ∷ []) [])) p h in
    let b = relation_some a.type (λ n. given_if (is_width n && (is_width (length es) && list_all (is_term n 0) es)) (relation (length es) ∷ []) []) p a.some in
    let g = gives_some (is_width b.width && (is_width (length es) && list_all (is_term b.width 0) es)) (relation (length es) ∷ []) [] p b.some in
    (b.width, a.reads ∙ ap (λ t. Flat t ∷ []) b.is, g.outs, g.vars, g.holds)
types_fits cross is p h =
    let a = pair_some is crossed_types p h in
    let g = gives_some (is_width a.left && (is_width a.right && is_width (a.left + a.right))) (relation (a.left + a.right) ∷ []) (Private ∷ []) p a.some in
    (a.left, a.right, a.reads, g.outs, g.vars, g.holds)
types_fits (streamer s) is p h =
    let a = flat_some is (λ t. relation_in t (λ n. given_if (is_width n) (stream n ∷ []) (Private ∷ []))) p h in
    let b = relation_some a.type (λ n. given_if (is_width n) (stream n ∷ []) (Private ∷ [])) p a.some in
    let g = gives_some (is_width b.width) (stream b.width ∷ []) (Private ∷ []) p b.some in
    (b.width, a.reads ∙ ap (λ t. Flat t ∷ []) b.is, g.outs, g.vars, g.holds)
types_fits tally is p h =
    let a = flat_some is (λ t. on_rows_width t (λ n. given_if (is_width n) [] (Table n ∷ []))) p h in
    let b = rows_some a.type (λ n. given_if (is_width n) [] (Table n ∷ [])) p a.some in
    let g = gives_some (is_width b.width) [] (Table b.width ∷ []) p b.some in
    (b.width, a.reads ∙ ap (λ t. Flat t ∷ []) b.is, g.outs, g.vars, g.holds)
types_fits (fused a b at) is p h =
    let c = two_parts at (types_of a is) (types_of b) p h in (
      c.first.outs,
      c.middle,
      c.second.outs,
      c.first.vars,
      c.second.vars,
      types_fits a is c.first c.first_some,
      c.middle_is,
      types_fits b (c.middle ∷ []) c.second c.second_some,
      c.outs,
      c.vars,
    )
