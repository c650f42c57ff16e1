use Rattle.std.proofs.Common.{rules, arith, ◌≡◌, ◌<◌, ◌+◌, ◌-◌, ℕ, List, length, take, drop, inl, inr, ap, ◌∙◌}
use Rattle.std.specs.Prelude.{Some}
use Rattle.std.proofs.lemmas.List.{length-drop, take_all}
use Rattle.command_line.proofs.Cut.{cut-none, cut-some}
use Rattle.command_line.proofs.phrases.read_in_word.Goals.{then-at-eq0-via-then-at-eq0, then-at-eq0-via-else-at-eq0+then-at-word}
use Rattle.command_line.proofs.phrases.read_in_word.Goals as goal

pub returns-then-at-eq0 : goal.returns-then-at-eq0
returns-then-at-eq0 c =
    let cut = cut-none c.args.word.now c.name_len-at.result c.name_len-at.ensures.name c.name_len-at.ensures.rest in
    elim c.then-at-eq0.branch [
      | then-at-eq0-via-then-at-eq0 w ↦ cut (inl w.if-at-eq0.true)
      | then-at-eq0-via-else-at-eq0+then-at-word w ↦ cut (inr w.if-at-word.true)
    ]

pub returns : goal.returns
returns c =
    let word = c.args.word.now in
    let at = c.name_len-at.result in
    let some : 0 < at = search (rules, arith) in
    let more : at + 1 < length word = search (rules, arith) in
    let d = length-drop (at + 1) word in
    let file : c.in_ok-file.file ≡ drop (at + 1) word = c.in_ok-file.ensures ∙ take_all (length word - (at + 1)) (drop (at + 1) word) (omega (arith, d)) in
    let name : c.in_ok-name.name ≡ take at word = search rules in
    ap (λ (n : List ℕ). Some (record { name = n; file = c.in_ok-file.file })) name
    ∙ ap (λ (f : List ℕ). Some (record { name = take at word; file = f })) file
    ∙ cut-some word at c.name_len-at.ensures.name c.name_len-at.ensures.rest some more
