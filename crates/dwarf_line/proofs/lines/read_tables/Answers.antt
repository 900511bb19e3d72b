use Rattle.std.proofs.Common.{◌≡◌, ◌∙◌, ◌∷◌, [], ℕ, List, option_to_list, sym, ap, arith, rules}
use Rattle.std.proofs.lemmas.Grind.{common_steps}
use Rattle.prof_bytes.specs.Outcome.{FailsBy}
use Rattle.dwarf_line.specs.Lines.{TableNames, line_tables_of}
use Rattle.dwarf_line.specs.private.Tables.{added_to}
use Rattle.dwarf_line.proofs.TableLists.{one_more, fails_here}
use Rattle.dwarf_line.proofs.lines.read_tables.Goals as goal

pub returns-in_err-table-clause-fault : goal.returns-in_err-table-clause-fault
returns-in_err-table-clause-fault c =
    let split : c.loop-offset.rest.now ≡ c.in-Some.offset.now ∷ c.in-Some.others.now = grind (arith, common_steps) in
    let failed : FailsBy c.in_err-table.field-0.0 (added_to [] c.args.collector.now.sequences (line_tables_of c.args.line.now c.args.texts.now c.args.collector.now.segments c.args.offsets.now)) =
    rw (← c.loop-offset.invariant.tables, split)
    (fails_here c.in_err-table.field-0.0 c.args.line.now c.args.texts.now c.args.collector.now.segments c.loop-offset.tables.items c.loop-offset.collector.sequences c.in-Some.offset.now c.in-Some.others.now
    (rw c.loop-offset.invariant.segments at c.in_err-table.ensures.table)) in
    search rules

pub loop-offset-preserved : goal.loop-offset-preserved
loop-offset-preserved c =
    let split : c.loop-offset.rest.now ≡ c.in-Some.offset.now ∷ c.in-Some.others.now = grind (arith, common_steps) in
    record {
      segments = c.in_ok-table.ensures.segments ∙ c.loop-offset.invariant.segments;
      tables =
          ap (λ (n : List TableNames). added_to n c.read_table.new.collector.sequences (line_tables_of c.args.line.now c.args.texts.now c.args.collector.now.segments c.in-Some.others.now)) c.in_ok-push_some.ensures
          ∙ sym (one_more c.args.line.now c.args.texts.now c.args.collector.now.segments c.loop-offset.tables.items (option_to_list c.in_ok-table.table) c.loop-offset.collector.sequences c.read_table.new.collector.sequences c.in-Some.offset.now c.in-Some.others.now
          (rw c.loop-offset.invariant.segments at c.in_ok-table.ensures.table))
          ∙ ap (λ (os : List ℕ). added_to c.loop-offset.tables.items c.loop-offset.collector.sequences (line_tables_of c.args.line.now c.args.texts.now c.args.collector.now.segments os)) (sym split)
          ∙ c.loop-offset.invariant.tables;
    }

pub returns-clause-read : goal.returns-clause-read
returns-clause-read c = c.loop-offset.invariant.tables
