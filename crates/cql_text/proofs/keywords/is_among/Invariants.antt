use Rattle.std.proofs.Common.{◌≡◌, drop, map}
use Rattle.std.specs.List.{list_any}
use Rattle.cql_text.specs.Words.{is_keyword}
use Rattle.cql_text.proofs.keywords.is_among.Given as goal

abbrev pub invariant-loop-word : goal.invariant-loop-word
invariant-loop-word l =
    list_any (λ word. is_keyword word l.text) (map (λ word. word.now) (drop l.word-index l.words)) ≡ list_any (λ word. is_keyword word l.text)
    (map (λ word. word.now) l.words)
