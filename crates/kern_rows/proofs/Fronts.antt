-- The front item of a line is taken.
use Rattle.std.proofs.Common.{◌≡◌, ℕ, zero, suc, ◌<◌, List, [], ◌∷◌, length, get_or, sym, ap, ◌∙◌, subst, arith}
use Rattle.std.proofs.Math.ListN.{set}
use Rattle.river_base.specs.declared.item.Item as item
use Rattle.kern_rows.specs.Passing.{PassesFront, IsStuck, port_after, had_after}
use Rattle.kern_rows.specs.Turns.{Turns, rest_at, rest_in}
use Rattle.kern_rows.proofs.Passed.{front_is, front_none}

abbrev pub turns : ℕ → ℕ → List (List item.Item) → Turns
turns port had lists = record { port = port; had = had; lists = lists }

line_at : (ls : List (List item.Item)) (p : ℕ) (d line : List item.Item) → p < length ls → line ≡ get_or ls p d → get_or ls p [] ≡ line
line_at [] p d line lt h = absurd (omega (arith, lt))
line_at (l ∷ ls) zero d line lt h = sym h
line_at (l ∷ ls) (suc p) d line lt h = line_at ls p d line (omega arith) h

set_same : (ls : List (List item.Item)) (p : ℕ) (line : List item.Item) → p < length ls → get_or ls p [] ≡ line → set ls p line ≡ ls
set_same [] p line lt h = absurd (omega (arith, lt))
set_same (l ∷ ls) zero line lt h = ap (λ t. t ∷ ls) (sym h)
set_same (l ∷ ls) (suc p) line lt h = ap (λ t. l ∷ t) (set_same ls p line (omega arith) h)

set_rest : (ls : List (List item.Item)) (p : ℕ) (x : item.Item) (line : List item.Item) → p < length ls → get_or ls p [] ≡ x ∷ line
    → set ls p line ≡ rest_at ls p
set_rest [] p x line lt h = absurd (omega (arith, lt))
set_rest (l ∷ ls) zero x line lt h = ap (λ t. t ∷ ls) (sym (ap rest_in h))
set_rest (l ∷ ls) (suc p) x line lt h = ap (λ t. l ∷ t) (set_rest ls p x line (omega arith) h)

-- the port whose turn it is has no item: nothing passes
pub stuck_is : (now : Turns) (port had : ℕ) (lists : List (List item.Item)) (line left : List item.Item) → turns port had lists ≡ now
    → now.port < length now.lists → line ≡ get_or lists port line → line ≡ [] → left ≡ [] → IsStuck now (turns port had (set lists port left))
stuck_is now port had lists line left v lt at none gone =
    let less : port < length lists = subst (λ s. s.port < length s.lists) (sym v) lt in
    let e : get_or lists port [] ≡ [] = line_at lists port line line less at ∙ none in
    subst (λ s. IsStuck s (turns port had (set lists port left))) v
    (record { front = λ give. front_none give lists port e; same = ap (turns port had) (set_same lists port left less (e ∙ sym gone)) })

-- the port whose turn it is has an item: it passes
pub passes_is : (now : Turns) (share port had count next next_had : ℕ) (lists : List (List item.Item)) (line left : List item.Item) (x : item.Item)
    → turns port had lists ≡ now → now.port < length now.lists → line ≡ get_or lists port line → line ≡ x ∷ left → count ≡ length lists
    → next ≡ port_after share count port had → next_had ≡ had_after share had → PassesFront share now (turns next next_had (set lists port left)) x
passes_is now share port had count next next_had lists line left x v lt at first c n h =
    let less : port < length lists = subst (λ s. s.port < length s.lists) (sym v) lt in
    let e : get_or lists port [] ≡ x ∷ left = line_at lists port line line less at ∙ first in
    subst (λ s. PassesFront share s (turns next next_had (set lists port left)) x) v (record {
      front = λ give. front_is give lists port x left less e;
      after =
          ap (λ p. turns p next_had (set lists port left)) (n ∙ ap (λ k. port_after share k port had) c)
          ∙ ap (λ q. turns (port_after share (length lists) port had) q (set lists port left)) h
          ∙ ap (turns (port_after share (length lists) port had) (had_after share had)) (set_rest lists port x left less e);
    })
