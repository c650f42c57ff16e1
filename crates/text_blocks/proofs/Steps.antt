-- The steps by which code reads statements and blocks.
use Rattle.std.proofs.Common.{◌≡◌, ℕ, zero, suc, ◌<◌, ◌+◌, ◌-◌, List, [], ◌∷◌, ◌++◌, length, true, false, Some, None, refl, sym, ap, ◌∙◌, arith}
use Rattle.std.proofs.Common.{length-append}
use Rattle.river_base.proofs.Tests.{less-one}
use Rattle.text_tokens.specs.Tok.{Tok}
use Rattle.text_forms.specs.Parse as parse
use Rattle.text_forms.specs.Repeat.{repeated}
use Rattle.text_forms.proofs.Many.{many-shortens}
use Rattle.text_forms.proofs.Repeat.{repeated-next, repeated-stop, repeated-fail}
use Rattle.text_blocks.specs.Exact.{AreExact}
use Rattle.text_blocks.specs.Reading.{at_close, branch_of, loop_of, rest_at, stmt_at, stmts_at, block_at, branch_at, loop_at}
use Rattle.text_blocks.specs.Statements.{Style, Holes}
use Rattle.text_blocks.specs.declared.opening.Opening.TheVariants.{Branch, Loop, Plain}
use Rattle.text_blocks.proofs.Statements.{exact-stmt, listed-stmts}

module _ {E H S B : Type 0} (Y : Style E H S B) where
  -- the rest of a statement whose word opens a branch
  pub rest-branch : (nest n : ℕ) (w : List ℕ) (ts : List Tok) → Y.opening w ≡ Branch → rest_at Y nest n w ts ≡ branch_at Y nest n ts
  unfolding rest_at branch_at block_at stmts_at stmt_at
  rest-branch zero n w ts e = rw e refl
  rest-branch (suc nest) n w ts e = rw e refl

  -- and of one whose word opens a loop
  pub rest-loop : (nest n : ℕ) (w : List ℕ) (ts : List Tok) → Y.opening w ≡ Loop → rest_at Y nest n w ts ≡ loop_at Y nest n w ts
  unfolding rest_at loop_at block_at stmts_at stmt_at
  rest-loop zero n w ts e = rw e refl
  rest-loop (suc nest) n w ts e = rw e refl

  -- and of one without blocks
  pub rest-plain : (nest n : ℕ) (w : List ℕ) (ts : List Tok) → Y.opening w ≡ Plain → rest_at Y nest n w ts ≡ Y.plain n w ts
  unfolding rest_at
  rest-plain zero n w ts e = rw e refl
  rest-plain (suc nest) n w ts e = rw e refl

  -- where no more may nest there is no branch
  pub branch-none : (n : ℕ) (ts : List Tok) → branch_at Y 0 n ts ≡ None
  unfolding branch_at
  branch-none n ts = refl

  -- where more may nest, the blocks of a branch may nest one less
  pub branch-at : (nest n : ℕ) (ts : List Tok) → 0 < nest → branch_at Y nest n ts ≡ branch_of Y (block_at Y (nest - 1)) n ts
  unfolding branch_at
  branch-at zero n ts h = absurd (omega arith)
  branch-at (suc nest) n ts h = ap (λ (k : ℕ). branch_of Y (block_at Y k) n ts) (sym (less-one nest))

  -- where no more may nest there is no loop
  pub loop-none : (n : ℕ) (w : List ℕ) (ts : List Tok) → loop_at Y 0 n w ts ≡ None
  unfolding loop_at
  loop-none n w ts = refl

  -- where more may nest, the block of a loop may nest one less
  pub loop-at : (nest n : ℕ) (w : List ℕ) (ts : List Tok) → 0 < nest → loop_at Y nest n w ts ≡ loop_of Y (block_at Y (nest - 1)) n w ts
  unfolding loop_at
  loop-at zero n w ts h = absurd (omega arith)
  loop-at (suc nest) n w ts h = ap (λ (k : ℕ). loop_of Y (block_at Y k) n w ts) (sym (less-one nest))

  -- at the closing brace the statements end
  pub loop-stop : (nest n : ℕ) (done : List S) (ts : List Tok) → at_close ts ≡ true
      → repeated (parse.many_turn at_close (stmt_at Y nest n)) done ts ≡ Some (done, ts)
  loop-stop nest n done ts e = repeated-stop (parse.many_turn at_close (stmt_at Y nest n)) done ts (rw e refl)

  -- where a statement cannot be read, no list of statements can
  pub loop-bad : (nest n : ℕ) (done : List S) (ts : List Tok) → at_close ts ≡ false → stmt_at Y nest n ts ≡ None
      → repeated (parse.many_turn at_close (stmt_at Y nest n)) done ts ≡ None
  loop-bad nest n done ts e bad = repeated-fail (parse.many_turn at_close (stmt_at Y nest n)) done ts (rw (e, bad) refl)

  -- at the closing brace the statements so far are those of the block
  pub stmts-made : (nest n : ℕ) (done : List S) (start ts : List Tok)
      → repeated (parse.many_turn at_close (stmt_at Y nest n)) done ts ≡ parse.many at_close (stmt_at Y nest n) start → at_close ts ≡ true
      → stmts_at Y nest n start ≡ Some (Y.block done, ts)
  unfolding stmts_at
  stmts-made nest n done start ts same stop =
      let all : parse.many at_close (stmt_at Y nest n) start ≡ Some (done, ts) = sym same ∙ loop-stop nest n done ts stop in
      rw all refl

  -- where a statement cannot be read, no block can
  pub stmts-bad : (nest n : ℕ) (done : List S) (start ts : List Tok)
      → repeated (parse.many_turn at_close (stmt_at Y nest n)) done ts ≡ parse.many at_close (stmt_at Y nest n) start → at_close ts ≡ false
      → stmt_at Y nest n ts ≡ None → stmts_at Y nest n start ≡ None
  unfolding stmts_at
  stmts-bad nest n done start ts same on bad =
      let all : parse.many at_close (stmt_at Y nest n) start ≡ None = sym same ∙ loop-bad nest n done ts on bad in
      rw all refl

  module _ {G : Holes E H S} (x : AreExact Y G) where
    -- one statement more
    pub loop-next : (nest n : ℕ) (done : List S) (ts us : List Tok) (v : S) → at_close ts ≡ false → stmt_at Y nest n ts ≡ Some (v, us)
        → repeated (parse.many_turn at_close (stmt_at Y nest n)) (done ++ v ∷ []) us ≡ repeated (parse.many_turn at_close (stmt_at Y nest n)) done ts
    loop-next nest n done ts us v e read =
        sym (repeated-next (parse.many_turn at_close (stmt_at Y nest n)) (many-shortens at_close (exact-stmt x nest n) (listed-stmts x nest n)) done ts
        (done ++ v ∷ []) us (rw (e, read) refl))

    -- a statement has a token
    pub stmt-shortens : (nest n : ℕ) (ts us : List Tok) (v : S) → stmt_at Y nest n ts ≡ Some (v, us) → length us < length ts
    stmt-shortens nest n ts us v e =
        let f = (exact-stmt x nest n).sound ts v us e in
        let size : length ts ≡ length f.front + length us = ap length f.is ∙ length-append f.front us in
        let some : 0 < length f.front = (listed-stmts x nest n).some v f.front f.formed in
        omega arith

pub ruleset rests = (rest-branch, rest-loop, rest-plain)

pub ruleset nests = (branch-none, branch-at, loop-none, loop-at)

pub ruleset loops = (loop-stop, loop-bad, stmts-made, stmts-bad)
