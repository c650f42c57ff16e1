-- Looks at ports, one after another.
use Rattle.std.proofs.Common.{◌≡◌, ℕ, ◌+◌, ◌<◌, ◌≤◌, List, [], length, refl, sym, ap, ◌∙◌, arith, subst, get_or, ⊎_elim}
use Rattle.std.proofs.lemmas.Bool.{cases_lt}
use Rattle.fire_tasks.specs.Inlet as inlet
use Rattle.fire_tasks.specs.Ports.{known_of, in_ends, received_in, AllReceived}

-- no item was there at the first ports
pub record LookedTo (port : ℕ) (ins ins' : List inlet.Inlet) : Type 0 where
  pub same : in_ends ins' ≡ in_ends ins
  pub received : received_in ins' ≡ received_in ins
  pub many : length ins' ≡ length ins
  pub none : (i : ℕ) (d : inlet.Inlet) → i < port → known_of (get_or ins' i d) ≡ []
  pub before : (i : ℕ) (d : inlet.Inlet) → i < port → known_of (get_or ins i d) ≡ []
  pub rest : (i : ℕ) (d : inlet.Inlet) → port ≤ i → get_or ins' i d ≡ get_or ins i d

-- before the first port
pub looked_first : (ins : List inlet.Inlet) → LookedTo 0 ins ins
looked_first ins = record {
  same = refl;
  received = refl;
  many = refl;
  none = λ i d lt. absurd (omega (arith, lt));
  before =
      λ i d lt. absurd (omega (arith, lt));
  rest = λ i d le. refl;
}

-- one port more, with no item
pub looked_next : (port : ℕ) (ins ins' ins'' : List inlet.Inlet) → LookedTo port ins ins' → in_ends ins'' ≡ in_ends ins' → received_in ins'' ≡ received_in ins'
    → length ins'' ≡ length ins'
    → ((i : ℕ) (d : inlet.Inlet) → (port ≡ i → ⊥) → get_or ins'' i d ≡ get_or ins' i d) → ((d : inlet.Inlet) → known_of (get_or ins'' port d) ≡ [])
    → ((d : inlet.Inlet) → known_of (get_or ins' port d) ≡ []) → LookedTo (port + 1) ins ins''
looked_next port ins ins' ins'' h s r m o z b = record {
  same = s ∙ h.same;
  received = r ∙ h.received;
  many = m ∙ h.many;
  none = λ i d lt. ⊎_elim
      (λ l. ap known_of (o i d (λ e. omega (arith, e, l))) ∙ h.none i d l)
      (λ ge. let e : port ≡ i = omega (arith, lt, ge) in subst (λ n. known_of (get_or ins'' n d) ≡ []) e (z d))
      (cases_lt i port);
  before = λ i d lt. ⊎_elim
      (λ l. h.before i d l)
      (λ ge. let e : port ≡ i = omega (arith, lt, ge) in subst (λ n. known_of (get_or ins n d) ≡ []) e (ap known_of (sym (h.rest port d (omega arith))) ∙ b d))
      (cases_lt i port);
  rest = λ i d le. o i d (λ e. omega (arith, e, le)) ∙ h.rest i d (omega (arith, le));
}

-- behind the last port none is known
pub looked_all : (port : ℕ) (ins ins' : List inlet.Inlet) → LookedTo port ins ins' → length ins ≤ port → AllReceived ins'
looked_all port ins ins' h le = λ i d lt. h.none i d (let m = h.many in omega (arith, lt, le, m))

-- and none was known before
pub looked_before : (port : ℕ) (ins ins' : List inlet.Inlet) → LookedTo port ins ins' → length ins ≤ port → AllReceived ins
looked_before port ins ins' h le = λ i d lt. h.before i d (omega (arith, lt, le))
