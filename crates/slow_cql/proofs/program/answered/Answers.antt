use Rattle.slow_cql.proofs.program.answered.Goals as goal
use Rattle.slow_cql.proofs.program.answered.Goals.{in-Register+in_ok-register-in-Register, in-Query+in_ok-add_query-in-Query}
use Rattle.std.proofs.Common.{◌≡◌, ◌+◌, ◌<◌, List, [], ◌∷◌, length, drop, map, sym, ap, ◌∙◌, subst, arith}
use Rattle.river_base.specs.declared.item.Item as item
use Rattle.cql_model.specs.Meaning.{answers, other_files}
use Rattle.cql_text.specs.Tree.{Register, AQuery, Program}
use Rattle.cql_model.specs.Streams.{spread}
use Rattle.cql_text.specs.declared.tree.Unit as code_unit
use Rattle.cql_text.specs.Tree.{query_of, unit_form, unit_forms}
use Rattle.slow_cql.proofs.Run.{Rest, whole_rest, rest_register, rest_query, rest_narrow, rest_same, part_at}

pub loop-part-init : goal.loop-part-init
loop-part-init c =
    let ts = c.args.instants.now in
    let p = unit_forms c.args.units.now in
    let files = c.args.files.now in
    subst (λ (o : List (List item.Item)). Rest ts p files c.args.known.now o (map (spread ts) (answers ts [] p files))) (sym c.requires.no_output)
    (whole_rest ts p files c.args.known.now c.requires.none c.requires.columns c.requires.files)

pub add_query-requires-clause-good : goal.add_query-requires-clause-good
add_query-requires-clause-good c =
    let ts = c.args.instants.now in
    let units = c.args.units.now in
    let p = unit_forms units in
    let i = c.loop-part.part-index in
    let lt : i < length units = omega arith in
    let whole = map (spread ts) (answers ts [] p c.args.files.now) in
    let q = query_of c.in-Query.query in
    let split : drop i p ≡ AQuery q ∷ drop (i + 1) p = part_at units i c.part-item.result lt c.part-item.is
    ∙ ap (λ (y : code_unit.Unit). unit_form y ∷ drop (i + 1) p) c.in-Query.is in
    rest_narrow ts q (drop (i + 1) p) c.loop-part.rest.now c.loop-part.known c.loop-part.outs whole
    (subst (λ (ps : Program). Rest ts ps c.loop-part.rest.now c.loop-part.known c.loop-part.outs whole) split c.loop-part.invariant)

pub loop-part-preserved : goal.loop-part-preserved
loop-part-preserved c =
    let ts = c.args.instants.now in
    let units = c.args.units.now in
    let p = unit_forms units in
    let i = c.loop-part.part-index in
    let lt : i < length units = omega arith in
    let whole = map (spread ts) (answers ts [] p c.args.files.now) in
    let at = part_at units i c.part-item.result lt c.part-item.is in
    let rest = c.loop-part.rest.now in
    let known = c.loop-part.known in
    let outs = c.loop-part.outs in
    elim c.match-part.branch [
      | in-Register+in_ok-register-in-Register w ↦
          let s = w.in-Register.stream in
          let split : drop i p ≡ Register s.name s.fields.items ∷ drop (i + 1) p = at ∙ ap (λ (y : code_unit.Unit). unit_form y ∷ drop (i + 1) p) w.in-Register.is in
          let r = subst (λ (ps : Program). Rest ts ps rest known outs whole) split c.loop-part.invariant in
          rest_same ts (drop (i + 1) p) (other_files rest) c.match-part.rest.now w.register.new.known c.match-part.known outs c.match-part.outs whole
          (ap (λ b. b.now) w.rest-is ∙ w.other_files-rest.ensures) w.known-is w.outs-is
          (rest_register ts s.name s.fields.items (drop (i + 1) p) rest known w.register.new.known outs whole r w.in_ok-register-in-Register.ensures)
      | in-Query+in_ok-add_query-in-Query w ↦
          let q = query_of w.in-Query.query in
          let split : drop i p ≡ AQuery q ∷ drop (i + 1) p = at ∙ ap (λ (y : code_unit.Unit). unit_form y ∷ drop (i + 1) p) w.in-Query.is in
          let r = subst (λ (ps : Program). Rest ts ps rest known outs whole) split c.loop-part.invariant in
          rest_same ts (drop (i + 1) p) rest c.match-part.rest.now w.add_query.new.known c.match-part.known w.add_query.new.outs c.match-part.outs whole
          (ap (λ b. b.now) w.rest-is) w.known-is w.outs-is
          (rest_query ts q (drop
          (i + 1) p) rest known w.add_query.new.known outs w.add_query.new.outs whole r w.in_ok-add_query-in-Query.ensures.known w.in_ok-add_query-in-Query.ensures.outs)
    ]
