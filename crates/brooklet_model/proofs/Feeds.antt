-- A kernel of one input is fed with one list.
use Rattle.std.proofs.Common.{◌≡◌, ℕ, List, [], ◌∷◌, refl, ap, ◌∙◌}
use Rattle.std.proofs.lemmas.List.{append-nil}
use Rattle.river_base.specs.declared.item.Item as item
use Rattle.river_kernels.specs.Kern.{Kern}
use Rattle.brooklet_model.specs.Firings.{Kept, Fired, and_then, feed}
use Rattle.brooklet_model.specs.Fire.{fire, ins}
use Rattle.brooklet_model.specs.Words.{run, word_of, port_by_port, feed_all}

-- firings at one port, one after another
pub feed_word : (f : ℕ → item.Item → List Kept → Fired) (p : ℕ) (xs : List item.Item) (ss : List Kept) → run f (word_of p xs) ss ≡ feed (f p) xs ss
feed_word f p [] ss = refl
feed_word f p (x ∷ xs) ss = ap (and_then (f p x ss)) (feed_word f p xs (f p x ss).states)

-- a kernel of one port is fed with that port alone
pub one_input : (k : Kern) (h : ℕ → List item.Item) (ss : List Kept) → ins k ≡ 1 → feed_all k h ss ≡ feed (fire k 0) (h 0) ss
one_input k h ss e =
    ap (λ n. run (fire k) (port_by_port n 0 h) ss) e ∙ ap (λ w. run (fire k) w ss) (append-nil (word_of 0 (h 0))) ∙ feed_word (fire k) 0 (h 0) ss
