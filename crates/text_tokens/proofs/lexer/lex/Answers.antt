use Rattle.std.proofs.Common.{◌≡◌, ◌+◌, ◌≤◌, length, drop, is_ok, sym, ap, ◌∙◌, arith, length-drop}
use Rattle.std.proofs.ResultArms.{chosen}
use Rattle.std.proofs.lemmas.List.{map-append}
use Rattle.std.specs.Prelude.{map}
use Rattle.text_tokens.specs.Lexis.{piece_at, token, marks}
use Rattle.text_tokens.specs.Tok.{token_of, mark_of}
use Rattle.text_tokens.proofs.Marks.{after_marks, marks-token}
use Rattle.text_tokens.proofs.lexer.lex.Goals as goal

-- a token more
pub loop-at-preserved : goal.loop-at-preserved
loop-at-preserved c =
    let source = c.as_slice-source.result.now in
    let pushed = chosen _ _ _ _ c.push.ensures.items (ap is_ok c.in_ok-push-in-Token.was) in
    let back : c.split_at.result.1.now ≡ drop c.loop-at.at source = c.split_at.ensures.back in
    let piece : piece_at (drop c.loop-at.at source) ≡ token (token_of c.in-Token.token) c.in-Token.len = sym (ap piece_at back)
    ∙ sym c.in-Token.ensures.piece in
    let within : c.in-Token.len ≤ length (drop c.loop-at.at source) = omega (arith, c.in-Token.ensures.room.1, ap length back) in
    record {
      same = ap (λ items. after_marks (map mark_of items) (marks 0 (c.loop-at.at + c.in-Token.len) (drop (c.loop-at.at + c.in-Token.len) source))) pushed
          ∙ ap (λ front. after_marks front (marks 0 (c.loop-at.at + c.in-Token.len) (drop (c.loop-at.at + c.in-Token.len) source)))
          (map-append mark_of c.loop-at.lexemes.items _)
          ∙ marks-token (map mark_of c.loop-at.lexemes.items) c.loop-at.at c.in-Token.len
          (token_of c.in-Token.token) source c.loop-at-test.true piece c.in-Token.ensures.room.0 within
          ∙ c.loop-at.invariant.same;
      in_text = omega (arith, within, length-drop c.loop-at.at source);
    }
