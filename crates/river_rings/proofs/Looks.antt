-- Looks at a ring one after another.
use Rattle.std.proofs.Common.{List, ◌++◌, sym, ap, ◌∙◌, append_assoc, arith}
use mathlib.Core.List.{IsPrefix}
use Rattle.river_rings.specs.Ends.{Sending, Taking, HasSeenTaken, HasSeen}

-- a prefix of a prefix is a prefix
prefix_trans : {A : Type 0} (xs ys zs : List A) → IsPrefix xs ys → IsPrefix ys zs → IsPrefix xs zs
prefix_trans xs ys zs a b = (a.0 ++ b.0, sym (append_assoc xs a.0 b.0) ∙ ap (λ l. l ++ b.0) a.1 ∙ b.1)

-- a sending end that looked twice has looked
pub looked_twice : (f g h : Sending) → HasSeenTaken f g → HasSeenTaken g h → HasSeenTaken f h
looked_twice f g h a b = record {
  same = (b.same.0 ∙ a.same.0, b.same.1 ∙ a.same.1);
  sent = b.sent ∙ a.sent;
  waiting = let x = a.waiting in let y = b.waiting in omega (arith, x, y);
}

-- and so has a taking end
pub seen_twice : (t u v : Taking) → HasSeen t u → HasSeen u v → HasSeen t v
seen_twice t u v a b = record {
  same = (b.same.0 ∙ a.same.0, b.same.1 ∙ a.same.1);
  received = b.received ∙ a.received;
  known = prefix_trans t.known u.known v.known a.known b.known;
}
