use Rattle.std.proofs.Common.{◌+◌, ◌-◌, ◌∙◌, length, take, drop, sym}
use Rattle.std.proofs.lemmas.Bool.{true≢false}
use Rattle.std.specs.Cmp.Lexicographic.{bytes_decides}
use Rattle.table_texts.proofs.Splits.{word-stands, word-other}
use Rattle.table_texts.proofs.split.behind.Goals as goal

pub returns-then-eq-clause-word : goal.returns-then-eq-clause-word
returns-then-eq-clause-word c =
    let word = c.args.word.now in
    let out = c.args.out.now in
    let place = c.args.place in
    word-stands word out place ((bytes_decides (take (place + length word - place) (drop place out)) word).0 (sym c.if-eq.ensures))

pub returns-else-eq-clause-none : goal.returns-else-eq-clause-none
returns-else-eq-clause-none c =
    let word = c.args.word.now in
    let out = c.args.out.now in
    let place = c.args.place in
    λ rest e. word-other word out rest place
    (λ same. true≢false (sym (c.if-eq.ensures ∙ (bytes_decides (take (place + length word - place) (drop place out)) word).1 same))) e
