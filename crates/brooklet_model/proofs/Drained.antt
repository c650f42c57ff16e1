-- A kernel that keeps an item for its port, and then passes what it can.
use Rattle.std.proofs.Common.{◌≡◌, ◌≢◌, ℕ, zero, suc, ◌<◌, ◌≤◌, Option, Some, None, List, [], ◌++◌, refl, sym, ap, ◌∙◌, subst, arith, append_assoc}
use Rattle.std.proofs.Math.Nat.{le_refl}
use Rattle.river_base.specs.declared.item.Item as item
use Rattle.river_base.specs.Drain.{drain, pass_on}

-- what such a kernel with n ports keeps to
pub record Keeps (n : ℕ) (S : Type 0) (front : S → Option (List item.Item)) (rest : S → S) (put : ℕ → item.Item → S → S) (size : S → ℕ) : Type 0 where
  pub stuck : (s : S) → size s ≡ 0 → front s ≡ None
  pub less : (s : S) (o : List item.Item) → front s ≡ Some o → size (rest s) < size s
  pub stays : (s : S) (o : List item.Item) (q : ℕ) (y : item.Item) → front s ≡ Some o → front (put q y s) ≡ Some o
  pub moves : (s : S) (o : List item.Item) (q : ℕ) (y : item.Item) → front s ≡ Some o → rest (put q y s) ≡ put q y (rest s)
  pub swaps : (s : S) (p q : ℕ) (x y : item.Item) → p < n → q < n → p ≢ q → put q y (put p x s) ≡ put p x (put q y s)

module _ (ports : ℕ) (S : Type 0) (front : S → Option (List item.Item)) (rest : S → S) (put : ℕ → item.Item → S → S) (size : S → ℕ)
    (k : Keeps ports S front rest put size) where
  pub drain_none : (n : ℕ) (s : S) → front s ≡ None → drain front rest n s ≡ ([], s)
  drain_none zero s e = refl
  drain_none (suc n) s e = ap (pass_on rest s (drain front rest n)) e

  pub drain_some : (n : ℕ) (s : S) (o : List item.Item) → front s ≡ Some o
      → drain front rest (suc n) s ≡ (o ++ (drain front rest n (rest s)).0, (drain front rest n (rest s)).1)
  drain_some n s o e = ap (pass_on rest s (drain front rest n)) e

  -- a front is there or not
  front_cases : {B : Type 0} (s : S) → (front s ≡ None → B) → ((o : List item.Item) → front s ≡ Some o → B) → B
  front_cases {B} s on_none on_some = go (front s) refl
    where
      go : (o : Option (List item.Item)) → front s ≡ o → B
      go None e = on_none e
      go (Some o) e = on_some o e

  -- more turns than items change nothing
  pub enough : (n m : ℕ) (s : S) → size s ≤ n → size s ≤ m → drain front rest n s ≡ drain front rest m s
  enough zero m s hn hm = sym (drain_none m s (k.stuck s (omega arith)))
  enough (suc n) zero s hn hm = drain_none (suc n) s (k.stuck s (omega arith))
  enough (suc n) (suc m) s hn hm =
      front_cases s
      (λ e. drain_none (suc n) s e ∙ sym (drain_none (suc m) s e))
      (λ o e.
      let l = k.less s o e in
      drain_some n s o e ∙ ap (λ d. (o ++ d.0, d.1)) (enough n m (rest s) (omega (arith, l)) (omega (arith, l))) ∙ sym (drain_some m s o e))

  -- what was given before y was kept, and what came after, is what y kept first would give
  abbrev pub Agree : List item.Item × S → ℕ → ℕ → S → ℕ → item.Item → Type 0
  Agree d m l s q y =
      (d.0 ++ (drain front rest m (put q y d.1)).0 ≡ (drain front rest l (put q y s)).0)
      × ((drain front rest m (put q y d.1)).1 ≡ (drain front rest l (put q y s)).1)

  agree_done : (d : List item.Item × S) (m l : ℕ) (s : S) (q : ℕ) (y : item.Item) → d ≡ ([], s) → size (put q y d.1) ≤ m → size (put q y s) ≤ l
      → Agree d m l s q y
  agree_done d m l s q y e hm hl =
      let hm' : size (put q y s) ≤ m = subst (λ c. size (put q y c.1) ≤ m) e hm in
      let same = enough m l (put q y s) hm' hl in
      subst (λ c. Agree c m l s q y) (sym e) (ap (λ r. r.0) same, ap (λ r. r.1) same)

  agree_more : (d c : List item.Item × S) (o : List item.Item) (m l : ℕ) (s : S) (q : ℕ) (y : item.Item) → d ≡ (o ++ c.0, c.1) → front s ≡ Some o
      → Agree c m l (rest s) q y → Agree d m (suc l) s q y
  agree_more d c o m l s q y e f a =
      let g = drain_some l (put q y s) o (k.stays s o q y f) ∙ ap (λ u. (o ++ (drain front rest l u).0, (drain front rest l u).1)) (k.moves s o q y f) in
      subst (λ b. Agree b m (suc l) s q y) (sym e)
      (append_assoc o c.0 (drain front rest m (put q y c.1)).0 ∙ ap (λ t. o ++ t) a.0 ∙ sym (ap (λ r. r.0) g), a.1 ∙ sym (ap (λ r. r.1) g))

  -- an item that comes before or after a drain makes no difference
  pub put_drain : (n m l : ℕ) (s : S) (q : ℕ) (y : item.Item) → size s ≤ n → size (put q y (drain front rest n s).1) ≤ m → size (put q y s) ≤ l
      → Agree (drain front rest n s) m l s q y
  put_drain zero m l s q y hn hm hl = agree_done (drain front rest 0 s) m l s q y refl hm hl
  put_drain (suc n) m zero s q y hn hm hl =
      front_cases s
      (λ e. agree_done (drain front rest (suc n) s) m 0 s q y (drain_none (suc n) s e) hm hl)
      (λ o e. absurd (let b = k.less (put q y s) o (k.stays s o q y e) in omega (arith, b, hl)))
  put_drain (suc n) m (suc l) s q y hn hm hl =
      let ih = λ (h : size (rest s) ≤ n) (h2 : size (put q y (drain front rest n (rest s)).1) ≤ m) (h3 : size (put q y (rest s)) ≤ l). put_drain n m l
      (rest s) q y h h2 h3 in
      front_cases s
      (λ e. agree_done (drain front rest (suc n) s) m (suc l) s q y (drain_none (suc n) s e) hm hl)
      (λ o e.
      let d = drain_some n s o e in
      let a = k.less s o e in
      let b = k.less (put q y s) o (k.stays s o q y e) in
      let c = ap size (k.moves s o q y e) in
      let hm' : size (put q y (drain front rest n (rest s)).1) ≤ m = subst (λ r. size (put q y r.1) ≤ m) d hm in
      agree_more (drain front rest (suc n) s) (drain front rest n (rest s)) o m l s q y d e (ih (omega (arith, a)) hm' (omega (arith, b, c))))

  abbrev pub settle : S → List item.Item × S
  settle s = drain front rest (size s) s

  -- two items at different ports, in either order
  pub two_puts : (s : S) (p q : ℕ) (x y : item.Item) → p < ports → q < ports → p ≢ q
      → let d = settle (put p x s) in let e = settle (put q y d.1) in let d' = settle (put q y s) in let e' =
      settle (put p x d'.1) in (d.0 ++ e.0 ≡ d'.0 ++ e'.0) × (e.1 ≡ e'.1)
  two_puts s p q x y hp hq ne =
      let u = put p x s in let v = put q y s in
      let a = put_drain (size u) (size (put q y (drain front rest (size u) u).1)) (size (put q y u)) u q y (le_refl (size u))
      (le_refl (size (put q y (drain front rest (size u) u).1))) (le_refl (size (put q y u))) in
      let b = put_drain (size v) (size (put p x (drain front rest (size v) v).1)) (size (put p x v)) v p x (le_refl (size v))
      (le_refl (size (put p x (drain front rest (size v) v).1))) (le_refl (size (put p x v))) in
      let same = ap (λ w. drain front rest (size w) w) (k.swaps s p q x y hp hq ne) in
      (a.0 ∙ ap (λ r. r.0) same ∙ sym b.0, a.1 ∙ ap (λ r. r.1) same ∙ sym b.1)
