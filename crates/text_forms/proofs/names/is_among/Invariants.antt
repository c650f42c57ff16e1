use Rattle.std.proofs.Common.{◌≡◌, drop, map}
use Rattle.std.specs.List.{list_any}
use Rattle.std.specs.Str.{bytes_eq}
use Rattle.text_forms.proofs.names.is_among.Given as goal

abbrev pub invariant-loop-word : goal.invariant-loop-word
invariant-loop-word l =
    list_any (λ word. bytes_eq l.text word) (map (λ word. word.now) (drop l.word-index l.words)) ≡ list_any (λ word. bytes_eq l.text word)
    (map (λ word. word.now) l.words)
