-- The text and the script of `load`, read as the definitions read them.
use Rattle.std.proofs.Common.{◌≡◌, ℕ, Bool, true, false, ◌&&◌, ◌∷◌, [], Result, Ok, Err, refl, sym, ap, ◌∙◌}
use Rattle.std.specs.Prelude.{codes, if◌then◌else◌}
use Rattle.std.proofs.lemmas.Bool.{and_parts, true≢false}
use Rattle.river_plan.specs.Forms.{PlanForm}
use Rattle.river_script.specs.Reading.{named_at, counted_at, step_after, step_at, read_steps}
use Rattle.river_base.specs.Name.{is_letter, is_digit, is_word}
use Rattle.text_forms.specs.Parse.{short_name_at, comma_turn, open_at}
use Rattle.text_forms.specs.Repeat.{turns, repeated}
use Rattle.text_tokens.specs.Symbols.{short_symbol, long_symbol}
use Rattle.text_tokens.specs.Lexis.{is_blank, is_in_line, begins_with, block_end, decimal_from, number_piece, first_is, var_piece, symbol_piece, piece_at, marks}
use Rattle.text_tokens.specs.Cut.{ends_unit, braces_after, cut}
use Rattle.text_blocks.specs.Parts.{round_at, square_at, ended_at, first_value_at}
use Rattle.saw_text.specs.Reading.{named_field_at, field_after, field_at, column_at, columns_at, best_at, kind_after, kind_at, weight_field_at, in_table_at}
use Rattle.saw_text.specs.Reading.{table_at, typed_after, typed_at, unit_named, unit_after, unit_at}
use Rattle.saw_text.specs.Words.{is_plain}
use Rattle.saw_text.specs.Blocks.{user_name_at, declare_at, assign_at, indexes_at, weight_at, emit_at, named_after, plain_at}
use Rattle.saw_text.specs.Expressions.{named}
use Rattle.text_blocks.specs.Seven.{term_at}
use Rattle.text_forms.specs.ReadLevels.{chain_turn, chained, chain_level, once_level, prefix_level, base, ladder, within}
use Rattle.text_blocks.specs.Reading.{else_at, branch_of, loop_of, rest_at, stmt_at, stmts_at, block_at, branch_at, loop_at}
use Rattle.saw_front.specs.Meaning.{Accepted, compiled, plan_in}
use Rattle.saw_front.specs.declared.fault.SawFault.{SawFault}
use Rattle.river_script.specs.Meaning.{rewritten}
use Rattle.river_script.specs.declared.fault.ScriptFault.{ScriptFault}
use Rattle.river_road.specs.Text.{missing_input}
use Rattle.river_road.specs.Load.{load_program, load_script, load_records, takes_pairs}
use Rattle.river_road.specs.Points.{load_supplied, scripted_supplied, supplied_by, then_made, with_plan}
use Rattle.river_road.specs.Source.{source_or_refused}
use Rattle.river_road.specs.declared.content.FileContent.TheVariants.{Rows as Plain}
use Rattle.saw_front.specs.Words.{saw_words}
use Rattle.river_langs.specs.Sources.{saw_in, saw_source}
use Rattle.river_langs.specs.Laws.{LoadStands, loaded_source}

abbrev is_made : Result PlanForm ScriptFault → Bool
is_made (Ok plan) = true
is_made (Err fault) = false

-- a program whose plan the script takes, and whose one input has rows of two values
abbrev is_loadable : Result Accepted SawFault → Bool
is_loadable (Ok a) = is_made (rewritten (plan_in a) load_script) && takes_pairs (saw_source a).inputs
is_loadable (Err fault) = false

-- the text is such a program, as reading it shows
load_read : is_loadable (compiled load_program) ≡ true
unfolding rewritten short_name_at named_at counted_at step_after step_at read_steps is_letter is_digit is_word comma_turn open_at turns repeated
    short_symbol long_symbol is_blank is_in_line begins_with block_end decimal_from number_piece first_is var_piece symbol_piece piece_at marks
    ends_unit braces_after cut compiled round_at square_at ended_at first_value_at named_field_at field_after field_at column_at columns_at best_at
    kind_after kind_at weight_field_at in_table_at table_at typed_after typed_at unit_named unit_after unit_at is_plain user_name_at declare_at
    assign_at indexes_at weight_at emit_at named_after plain_at named term_at chain_turn chained chain_level once_level prefix_level base ladder
    within else_at branch_of loop_of rest_at stmt_at stmts_at block_at branch_at loop_at load_program load_script
load_read = refl

-- what is supplied then
supplied : (n : ℕ) (a : Accepted) (plan : PlanForm) → compiled load_program ≡ Ok a → rewritten (plan_in a) load_script ≡ Ok plan
    → takes_pairs (saw_source a).inputs ≡ true
    → load_supplied saw_in n ≡ Ok (record { source = loaded_source a plan; files = Plain (load_records n) ∷ [] })
unfolding load_supplied
supplied n a plan e f pairs =
    ap (λ r. then_made (source_or_refused saw_source saw_words r) (scripted_supplied n)) e
    ∙ ap (λ r. then_made (with_plan (saw_source a) r) (supplied_by n)) f
    ∙ ap (λ b. then_made (if b then Ok (Plain (load_records n) ∷ []) else Err (missing_input (codes "in"))) (λ files. Ok (record { source = loaded_source a plan; files = files })))
    pairs

with-plan : (a : Accepted) (r : Result PlanForm ScriptFault) → compiled load_program ≡ Ok a → rewritten (plan_in a) load_script ≡ r → is_made r ≡ true
    → takes_pairs (saw_source a).inputs ≡ true → LoadStands
with-plan a (Ok plan) e f h pairs = (a, plan, e, f, λ n. supplied n a plan e f pairs)
with-plan a (Err fault) e f h pairs = absurd (true≢false (sym h))

with-program : (r : Result Accepted SawFault) → compiled load_program ≡ r → is_loadable r ≡ true → LoadStands
with-program (Ok a) e h =
    let p = and_parts (is_made (rewritten (plan_in a) load_script)) (takes_pairs (saw_source a).inputs) h in
    with-plan a (rewritten (plan_in a) load_script) e refl p.0 p.1
with-program (Err fault) e h = absurd (true≢false (sym h))

-- `load` is never refused for its text or its script
pub load_stands : LoadStands
load_stands = with-program (compiled load_program) refl load_read
