use Rattle.std.proofs.Common.{◌≡◌, ◌∙◌, ◌∷◌, [], ℕ, List, option_to_list, sym, ap, arith, rules}
use Rattle.std.proofs.lemmas.Grind.{common_steps}
use Rattle.prof_bytes.specs.Outcome.{FailsBy}
use Rattle.dwarf_line.specs.Lines.{line_tables_of}
use Rattle.dwarf_line.specs.private.Unkept.{UnkeptTable}
use Rattle.dwarf_line.proofs.UnkeptTables.{after_reads, one_more, fails_here, all_read}
use Rattle.dwarf_line.proofs.lines.read_unkept.Goals as goal

pub returns-in_err-table : goal.returns-in_err-table
returns-in_err-table c =
    let split : c.loop-offset.rest.now ≡ c.in-Some.offset.now ∷ c.in-Some.others.now = grind (arith, common_steps) in
    let failed : FailsBy c.in_err-table.field-0.0 (line_tables_of c.args.line.now c.args.texts.now c.args.segments.now c.args.offsets.now) =
    fails_here c.in_err-table.field-0.0 c.args.line.now c.args.texts.now c.args.segments.now c.loop-offset.tables.items c.in-Some.offset.now c.in-Some.others.now
    (line_tables_of c.args.line.now c.args.texts.now c.args.segments.now c.args.offsets.now) c.in_err-table.ensures
    (rw split at c.loop-offset.invariant) in
    search rules

pub loop-offset-preserved : goal.loop-offset-preserved
loop-offset-preserved c =
    let split : c.loop-offset.rest.now ≡ c.in-Some.offset.now ∷ c.in-Some.others.now = grind (arith, common_steps) in
    ap (λ (ts : List UnkeptTable). after_reads c.args.segments.now ts (line_tables_of c.args.line.now c.args.texts.now c.args.segments.now c.in-Some.others.now)) c.in_ok-push_some.ensures
    ∙ sym (one_more c.args.line.now c.args.texts.now c.args.segments.now c.loop-offset.tables.items (option_to_list c.in_ok-table.table) c.in-Some.offset.now c.in-Some.others.now c.in_ok-table.ensures)
    ∙ ap (λ (os : List ℕ). after_reads c.args.segments.now c.loop-offset.tables.items (line_tables_of c.args.line.now c.args.texts.now c.args.segments.now os)) (sym split)
    ∙ c.loop-offset.invariant

pub returns : goal.returns
returns c =
    let none : c.loop-offset.rest.now ≡ [] = grind (arith, common_steps) in
    all_read c.args.line.now c.args.texts.now c.args.segments.now c.loop-offset.tables.items
    (line_tables_of c.args.line.now c.args.texts.now c.args.segments.now c.args.offsets.now) (rw none at c.loop-offset.invariant)
