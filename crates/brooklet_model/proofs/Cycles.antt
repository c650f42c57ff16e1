-- Places of a cycle: the next one, and how many of them are each branch's.
use Rattle.std.proofs.Common.{◌≡◌, ◌≢◌, ℕ, zero, suc, ◌+◌, ◌-◌, ◌*◌, ◌/◌, ◌%◌, ◌<◌, ◌≤◌, ◌⊎◌, inl, inr, List, [], ◌∷◌, length, refl, sym, ap, ◌∙◌, subst, arith}
use Rattle.std.proofs.Common.{nat_lt, ⊎_elim}
use Rattle.std.specs.Prelude.{if◌then◌else◌, slice_index_or, min}
use Rattle.std.specs.List.{AllByRecursion}
use Rattle.std.proofs.lemmas.Bool.{cases_lt}
use Rattle.std.proofs.lemmas.Nat.{mod_below, div-add-mod', div-mul-add, mod-mul-add}
use Rattle.river_base.proofs.PlaceLemmas.{if_lt, if_ge}
use Rattle.kern_rows.specs.Turns.{next_port, next_had}
use Rattle.brooklet_model.specs.ByIndex.{cycle, part_of_cycle, within, branch, number_in_branch}

-- each weight is above 0
abbrev pub Positive : List ℕ → Type 0
Positive ws = AllByRecursion (λ w. 0 < w) ws

-- what comes before the first weight falls to the first part
pub part_first : (w : ℕ) (ws : List ℕ) (m : ℕ) → m < w → part_of_cycle (w ∷ ws) m ≡ 0
part_first w ws m lt = if_lt m w 0 (suc (part_of_cycle ws (m - w))) lt

-- what comes behind it falls to a part of the other weights
pub part_other : (w : ℕ) (ws : List ℕ) (m : ℕ) → w ≤ m → part_of_cycle (w ∷ ws) m ≡ suc (part_of_cycle ws (m - w))
part_other w ws m le = if_ge m w 0 (suc (part_of_cycle ws (m - w))) le

-- its place within the first part is its place
pub within_first : (w : ℕ) (ws : List ℕ) (m : ℕ) → m < w → within (w ∷ ws) m ≡ m
within_first w ws m lt = if_lt m w m (within ws (m - w)) lt

-- its place within another part is the one among the other weights
pub within_other : (w : ℕ) (ws : List ℕ) (m : ℕ) → w ≤ m → within (w ∷ ws) m ≡ within ws (m - w)
within_other w ws m le = if_ge m w m (within ws (m - w)) le

-- a place of the cycle falls in the part of a branch that is there, below its weight
pub part_below : (ws : List ℕ) (m : ℕ) → m < cycle ws → part_of_cycle ws m < length ws
part_below [] m lt = absurd (omega (arith, lt))
part_below (w ∷ ws) m lt = ⊎_elim
    (λ a. let e = part_first w ws m a in omega (arith, e))
    (λ b. let e = part_other w ws m b in let i = part_below ws (m - w) (omega (arith, lt, b)) in omega (arith, e, i))
    (cases_lt m w)

pub within_below : (ws : List ℕ) (m : ℕ) → m < cycle ws → within ws m < slice_index_or ws (part_of_cycle ws m) 0
within_below [] m lt = absurd (omega (arith, lt))
within_below (w ∷ ws) m lt = ⊎_elim
    (λ a. let e = part_first w ws m a in let f = within_first w ws m a in
    subst (λ p. within (w ∷ ws) m < slice_index_or (w ∷ ws) p 0) (sym e) (omega (arith, f, a)))
    (λ b. let e = part_other w ws m b in let f = within_other w ws m b in let i = within_below ws (m - w) (omega (arith, lt, b)) in
    subst (λ p. within (w ∷ ws) m < slice_index_or (w ∷ ws) p 0) (sym e) (omega (arith, f, i)))
    (cases_lt m w)

-- the next place of the cycle: in the same part, or the first of the next part. `d` and `d'` are where in their parts they fall
abbrev NextAt : ℕ → ℕ → ℕ → ℕ → ℕ → Type 0
NextAt share p p' d d' = ((d + 1 < share) × (p' ≡ p) × (d' ≡ d + 1)) ⊎ ((share ≤ d + 1) × (p' ≡ p + 1) × (d' ≡ 0))

next_by : (s s0 p p0 q q0 d d0 e e0 : ℕ) → s ≡ s0 → p ≡ p0 → q ≡ q0 → d ≡ d0 → e ≡ e0 → NextAt s0 p0 q0 d0 e0 → NextAt s p q d e
next_by s s0 p p0 q q0 d d0 e e0 hs hp hq hd he h = rw (hs, hp, hq, hd, he) h

abbrev Next : List ℕ → ℕ → Type 0
Next ws m = NextAt (slice_index_or ws (part_of_cycle ws m) 0) (part_of_cycle ws m) (part_of_cycle ws (m + 1)) (within ws m) (within ws (m + 1))

pub starts : (ws : List ℕ) → Positive ws → 0 < cycle ws → (part_of_cycle ws 0 ≡ 0) × (within ws 0 ≡ 0)
starts [] pos lt = absurd (omega (arith, lt))
starts (w ∷ ws) pos lt = (part_first w ws 0 pos.0, within_first w ws 0 pos.0)

next_place : (ws : List ℕ) (m : ℕ) → Positive ws → m + 1 < cycle ws → Next ws m
next_place [] m pos lt = absurd (omega (arith, lt))
next_place (w ∷ ws) m pos lt = ⊎_elim
    (λ a.
    let p = part_first w ws m a in
    let d = within_first w ws m a in
    let share : slice_index_or (w ∷ ws) (part_of_cycle (w ∷ ws) m) 0 ≡ w = ap (λ k. slice_index_or (w ∷ ws) k 0) p in
    ⊎_elim
    (λ b. next_by _ w _ 0 _ 0 _ m _ (m + 1) share p (part_first w ws (m + 1) b) d (within_first w ws (m + 1) b) (inl (b, refl, refl)))
    (λ b.
    let z : m + 1 - w ≡ 0 = omega (arith, a, b) in
    let s = starts ws pos.1 (omega (arith, lt, a, b)) in
    next_by _ w _ 0 _ 1 _ m _ 0 share p (part_other w ws (m + 1) b ∙ ap (λ k. suc (part_of_cycle ws k)) z ∙ ap suc s.0) d
    (within_other w ws (m + 1) b ∙ ap (within ws) z ∙ s.1) (inr (b, refl, refl)))
    (cases_lt (m + 1) w))
    (λ b.
    let p = part_other w ws m b in
    let d = within_other w ws m b in
    let z : m + 1 - w ≡ (m - w) + 1 = omega (arith, b) in
    let i = next_place ws (m - w) pos.1 (omega (arith, lt, b)) in
    let p' = part_other w ws (m + 1) (omega (arith, b)) ∙ ap (λ k. suc (part_of_cycle ws k)) z in
    let d' = within_other w ws (m + 1) (omega (arith, b)) ∙ ap (within ws) z in
    next_by _ (slice_index_or ws (part_of_cycle ws (m - w)) 0) _ (suc (part_of_cycle ws (m - w))) _ (suc (part_of_cycle ws ((m - w) + 1))) _
    (within ws (m - w)) _ (within ws ((m - w) + 1))
    (ap (λ k. slice_index_or (w ∷ ws) k 0) p) p p' d d'
    (⊎_elim (λ h. inl (h.0, ap suc h.1, h.2)) (λ h. inr (h.0, (let e = h.1 in omega (arith, e)), h.2)) i))
    (cases_lt m w)

-- the last place of the cycle is the last of the last part
last_place : (ws : List ℕ) (m : ℕ) → Positive ws → m + 1 ≡ cycle ws
    → (slice_index_or ws (part_of_cycle ws m) 0 ≤ within ws m + 1) × (part_of_cycle ws m + 1 ≡ length ws)
last_place [] m pos e = absurd (omega (arith, e))
last_place (w ∷ []) m pos e =
    let a : m < w = omega (arith, e) in
    let p = part_first w [] m a in
    let d = within_first w [] m a in
    let share : slice_index_or (w ∷ []) (part_of_cycle (w ∷ []) m) 0 ≡ w = ap (λ k. slice_index_or (w ∷ []) k 0) p in
    (omega (arith, share, d, e), omega (arith, p))
last_place (w ∷ v ∷ vs) m pos e =
    let v0 = pos.1.0 in
    let b : w ≤ m = omega (arith, e, v0) in
    let p = part_other w (v ∷ vs) m b in
    let d = within_other w (v ∷ vs) m b in
    let i = last_place (v ∷ vs) (m - w) pos.1 (omega (arith, e, b)) in
    let share : slice_index_or (w ∷ v ∷ vs) (part_of_cycle (w ∷ v ∷ vs) m) 0 ≡ slice_index_or (v ∷ vs) (part_of_cycle (v ∷ vs) (m - w)) 0 =
    ap (λ k. slice_index_or (w ∷ v ∷ vs) k 0) p in
    let i0 = i.0 in let i1 = i.1 in
    (omega (arith, share, d, i0), omega (arith, p, i1))

-- ITEM AFTER ITEM

-- the next item is in the same cycle, or the first of the next one
pub stays_in : (w x : ℕ) → x % w + 1 < w → (suc x % w ≡ x % w + 1) × (suc x / w ≡ x / w)
stays_in w x lt =
    let e : suc x ≡ x / w * w + (x % w + 1) = (let d = div-add-mod' x w in omega (arith, d)) in
    (ap (λ y. y % w) e ∙ mod-mul-add (x / w) w (x % w + 1) lt, ap (λ y. y / w) e ∙ div-mul-add (x / w) w (x % w + 1) lt)

pub turns_over : (w x : ℕ) → 0 < w → x % w + 1 ≡ w → (suc x % w ≡ 0) × (suc x / w ≡ x / w + 1)
turns_over w x pos h =
    let e : suc x ≡ (x / w + 1) * w + 0 = (let d = div-add-mod' x w in omega (arith, d, h)) in
    (ap (λ y. y % w) e ∙ mod-mul-add (x / w + 1) w 0 pos, ap (λ y. y / w) e ∙ div-mul-add (x / w + 1) w 0 pos)

pub cases_cycle : {B : Type 0} (w x : ℕ) → 0 < w → (x % w + 1 < w → B) → (x % w + 1 ≡ w → B) → B
cases_cycle w x pos f g = ⊎_elim f (λ h. g (let b = mod_below x w pos in omega (arith, h, b))) (cases_lt (x % w + 1) w)

zero_is : (w : ℕ) → 0 < w → (0 % w ≡ 0) × (0 / w ≡ 0)
zero_is w pos =
    let e : 0 ≡ 0 * w + 0 = omega arith in
    (ap (λ y. y % w) e ∙ mod-mul-add 0 w 0 pos, ap (λ y. y / w) e ∙ div-mul-add 0 w 0 pos)

-- the port in turn, and how many items it had, when item x comes
pub next_turn : (ws : List ℕ) (x : ℕ) → Positive ws → 0 < cycle ws
    → (next_port ws (branch ws x) (within ws (x % cycle ws)) ≡ branch ws (suc x))
    × (next_had ws (branch ws x) (within ws (x % cycle ws)) ≡ within ws (suc x % cycle ws))
next_turn ws x pos lt =
    let w = cycle ws in
    let m = x % w in
    let share = slice_index_or ws (part_of_cycle ws m) 0 in
    let d = within ws m in
    let other : ℕ = if nat_lt (part_of_cycle ws m + 1) (length ws) then part_of_cycle ws m + 1 else 0 in
    cases_cycle w x lt
    (λ h.
    let s = stays_in w x h in
    ⊎_elim
    (λ n. (
      if_lt (d + 1) share (part_of_cycle ws m) other n.0 ∙ sym n.1 ∙ ap (part_of_cycle ws) (sym s.0),
      if_lt (d + 1) share (d + 1) 0 n.0 ∙ sym n.2
          ∙ ap (within ws) (sym s.0),
    ))
    (λ n. (
      if_ge (d + 1) share (part_of_cycle ws m) other n.0
          ∙ if_lt (part_of_cycle ws m + 1) (length ws) (part_of_cycle ws m + 1) 0 (let b = part_below ws (m + 1) h in let e = n.1 in omega (arith, b, e))
          ∙ sym n.1 ∙ ap (part_of_cycle ws) (sym s.0),
      if_ge (d + 1) share (d + 1) 0 n.0 ∙ sym n.2 ∙ ap (within ws) (sym s.0),
    ))
    (next_place ws m pos h))
    (λ h.
    let s = turns_over w x lt h in
    let l = last_place ws m pos h in
    let z = starts ws pos lt in (
      if_ge (d + 1) share (part_of_cycle ws m) other l.0
          ∙ if_ge (part_of_cycle ws m + 1) (length ws) (part_of_cycle ws m + 1) 0 (let e = l.1 in omega (arith, e))
          ∙ sym z.0 ∙ ap (part_of_cycle ws) (sym s.0),
      if_ge (d + 1) share (d + 1) 0 l.0 ∙ sym z.1 ∙ ap (within ws) (sym s.0),
    ))

-- a cycle begins at the first port
pub first_turn : (ws : List ℕ) → Positive ws → 0 < cycle ws → (branch ws 0 ≡ 0) × (within ws (0 % cycle ws) ≡ 0)
first_turn ws pos lt =
    let z = (zero_is (cycle ws) lt).0 in
    let s = starts ws pos lt in
    (ap (part_of_cycle ws) z ∙ s.0, ap (within ws) z ∙ s.1)

-- a cycle of weights above 0 has items for each port
pub positive_cycle : (ws : List ℕ) (n p : ℕ) → Positive ws → length ws ≡ n → p < n → 0 < cycle ws
positive_cycle [] n p pos e lt = absurd (omega (arith, e, lt))
positive_cycle (w ∷ ws) n p pos e lt = let h = pos.0 in omega (arith, h)

-- HOW MANY OF THE FIRST x ITEMS ARE A BRANCH'S

-- of the first m places of a cycle
abbrev before : List ℕ → ℕ → ℕ → ℕ
before [] p m = 0
before (w ∷ ws) zero m = min m w
before (w ∷ ws) (suc p) m = before ws p (m - w)

before_none : (ws : List ℕ) (p : ℕ) → before ws p 0 ≡ 0
before_none [] p = refl
before_none (w ∷ ws) zero = omega arith
before_none (w ∷ ws) (suc p) = ap (before ws p) (let e : 0 - w ≡ 0 = omega arith in e) ∙ before_none ws p

before_all : (ws : List ℕ) (p : ℕ) → before ws p (cycle ws) ≡ slice_index_or ws p 0
before_all [] p = refl
before_all (w ∷ ws) zero = omega arith
before_all (w ∷ ws) (suc p) = ap (before ws p) (let e : w + cycle ws - w ≡ cycle ws = omega arith in e) ∙ before_all ws p

before_here : (ws : List ℕ) (m : ℕ) → m < cycle ws → before ws (part_of_cycle ws m) m ≡ within ws m
before_here [] m lt = refl
before_here (w ∷ ws) m lt = ⊎_elim
    (λ a. ap (λ k. before (w ∷ ws) k m) (part_first w ws m a) ∙ (let e : min m w ≡ m = omega (arith, a) in e) ∙ sym (within_first w ws m a))
    (λ b. ap (λ k. before (w ∷ ws) k m) (part_other w ws m b) ∙ before_here ws (m - w) (omega (arith, lt, b)) ∙ sym (within_other w ws m b))
    (cases_lt m w)

before_same : (ws : List ℕ) (m : ℕ) → m < cycle ws → before ws (part_of_cycle ws m) (m + 1) ≡ before ws (part_of_cycle ws m) m + 1
before_same [] m lt = absurd (omega (arith, lt))
before_same (w ∷ ws) m lt = ⊎_elim
    (λ a.
    let p = part_first w ws m a in
    ap (λ k. before (w ∷ ws) k (m + 1)) p ∙ (let e : min (m + 1) w ≡ min m w + 1 = omega (arith, a) in e) ∙ ap (λ k. before (w ∷ ws) k m + 1) (sym p))
    (λ b.
    let p = part_other w ws m b in
    ap (λ k. before (w ∷ ws) k (m + 1)) p
    ∙ ap (before ws (part_of_cycle ws (m - w))) (let e : m + 1 - w ≡ (m - w) + 1 = omega (arith, b) in e)
    ∙ before_same ws (m - w) (omega (arith, lt, b))
    ∙ ap (λ k. before (w ∷ ws) k m + 1) (sym p))
    (cases_lt m w)

before_other : (ws : List ℕ) (p m : ℕ) → part_of_cycle ws m ≢ p → before ws p (m + 1) ≡ before ws p m
before_other [] p m ne = refl
before_other (w ∷ ws) zero m ne = ⊎_elim
    (λ a. absurd (ne (part_first w ws m a)))
    (λ b. (let e : min (m + 1) w ≡ min m w = omega (arith, b) in e))
    (cases_lt m w)
before_other (w ∷ ws) (suc p) m ne = ⊎_elim
    (λ a. ap (before ws p) (let e : m + 1 - w ≡ m - w = omega (arith, a) in e))
    (λ b. ap (before ws p) (let e : m + 1 - w ≡ (m - w) + 1 = omega (arith, b) in e) ∙ before_other ws p (m - w) (λ e. ne (part_other w ws m b ∙ ap suc e)))
    (cases_lt m w)

-- of the first x items
abbrev pub taken : List ℕ → ℕ → ℕ → ℕ
taken ws p x = x / cycle ws * slice_index_or ws p 0 + before ws p (x % cycle ws)

-- before the first item no port was given one
pub taken_none : (ws : List ℕ) (p : ℕ) → 0 < cycle ws → taken ws p 0 ≡ 0
taken_none ws p lt =
    let d = (zero_is (cycle ws) lt).1 in
    let m = (zero_is (cycle ws) lt).0 in
    ap (λ k. k * slice_index_or ws p 0 + before ws p (0 % cycle ws)) d ∙ ap (λ k. 0 * slice_index_or ws p 0 + before ws p k) m
    ∙ (let b = before_none ws p in omega (arith, b))

-- of the items before number x, port `branch ws x` was given as many as x has before it there
pub taken_here : (ws : List ℕ) (x : ℕ) → 0 < cycle ws → taken ws (branch ws x) x ≡ number_in_branch ws x
taken_here ws x lt = ap (λ k. x / cycle ws * slice_index_or ws (branch ws x) 0 + k) (before_here ws (x % cycle ws) (mod_below x (cycle ws) lt))

taken_next : (ws : List ℕ) (p x n : ℕ) → 0 < cycle ws → before ws p (x % cycle ws + 1) ≡ before ws p (x % cycle ws) + n → taken ws p (suc x) ≡ taken ws p x + n
taken_next ws p x n lt e = cases_cycle (cycle ws) x lt
    (λ h.
    let s = stays_in (cycle ws) x h in
    ap (λ k. k * slice_index_or ws p 0 + before ws p (suc x % cycle ws)) s.1
    ∙ ap (λ k. x / cycle ws * slice_index_or ws p 0 + before ws p k) s.0
    ∙ (omega (arith, e)))
    (λ h.
    let s = turns_over (cycle ws) x lt h in
    let a = before_all ws p in
    let b = before_none ws p in
    let c = ap (before ws p) h in
    ap (λ k. k * slice_index_or ws p 0 + before ws p (suc x % cycle ws)) s.1
    ∙ ap (λ k. (x / cycle ws + 1) * slice_index_or ws p 0 + before ws p k) s.0
    ∙ (omega (arith, e, a, b, c)))

-- item x goes to its port
pub taken_same : (ws : List ℕ) (p x : ℕ) → 0 < cycle ws → branch ws x ≡ p → taken ws p (suc x) ≡ taken ws p x + 1
taken_same ws p x lt e =
    taken_next ws p x 1 lt
    (subst (λ k. before ws k (x % cycle ws + 1) ≡ before ws k (x % cycle ws) + 1) e (before_same ws (x % cycle ws) (mod_below x (cycle ws) lt)))

-- item x goes to no other port
pub taken_other : (ws : List ℕ) (p x : ℕ) → 0 < cycle ws → branch ws x ≢ p → taken ws p (suc x) ≡ taken ws p x
taken_other ws p x lt ne =
    taken_next ws p x 0 lt (let e = before_other ws p (x % cycle ws) ne in omega (arith, e)) ∙ (let z : taken ws p x + 0 ≡ taken ws p x = omega arith in z)
