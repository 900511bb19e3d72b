use Rattle.std.proofs.Common.{◌∙◌, ◌+◌, [], length, length-append, sym, ap, rules, arith}
use Rattle.std.specs.Prelude.{option_to_list}
use Rattle.prof_bytes.specs.Outcome.{FailsBy}
use Rattle.dwarf_forms.specs.Runs.{before, run_from}
use Rattle.dwarf_forms.proofs.Runs.{goes_on, is_done, is_spent, fails_by}
use Rattle.dwarf_info.specs.Sections.{sections_of}
use Rattle.dwarf_info.specs.Units.{unit_from, info_input, units_of}
use Rattle.dwarf_info.proofs.Bodies.{before_none}
use Rattle.dwarf_info.proofs.Indexed.{option_few, some_number, indexed_next}
use Rattle.dwarf_info.proofs.units.read_units.Goals as goal

pub returns-then-left-eq0-clause-units : goal.returns-then-left-eq0-clause-units
returns-then-left-eq0-clause-units c =
    let step = unit_from (sections_of c.args.sections.now) in
    let room = length c.args.sections.now.info.now in
    let all = run_from step room 0 (info_input (sections_of c.args.sections.now)) in
    sym (before_none all) ∙ is_done step c.loop.units.items room c.loop.counter c.loop.index c.loop.reader (before [] all) c.loop-test.true (search rules) c.loop.invariant.read

pub returns-in_err-unit-clause-units : goal.returns-in_err-unit-clause-units
returns-in_err-unit-clause-units c =
    let step = unit_from (sections_of c.args.sections.now) in
    let room = length c.args.sections.now.info.now in
    let all = run_from step room 0 (info_input (sections_of c.args.sections.now)) in
    let failed : FailsBy c.in_err-unit.field-0.0 (units_of (sections_of c.args.sections.now)) =
    rw (← before_none all) (fails_by c.in_err-unit.field-0.0 step c.loop.units.items room c.loop.counter c.loop.index c.loop.reader (before [] all) c.loop-test.true (search rules) c.in_err-unit.ensures.read c.loop.invariant.read) in
    search rules

pub loop-preserved : goal.loop-preserved
loop-preserved c =
    let step = unit_from (sections_of c.args.sections.now) in
    let room = length c.args.sections.now.info.now in
    let all = run_from step room 0 (info_input (sections_of c.args.sections.now)) in
    record {
      read = rw (c.in_ok-push_some.ensures) (goes_on step c.loop.units.items (option_to_list c.in_ok-unit.«unit») room c.loop.counter c.loop.index c.in_ok-unit.next c.loop.reader c.read_unit.new.reader (before [] all)
          c.loop-test.true (search rules) c.in_ok-unit.ensures.read c.loop.invariant.read);
      whole = c.in_ok-unit.ensures.whole ∙ c.loop.invariant.whole;
      index = let a = c.in_ok-unit.ensures.next in let one = option_few c.in_ok-unit.«unit» in let b = c.loop.invariant.index in omega arith;
      number = c.in_ok-unit.ensures.next ∙ ap (λ n. n + length (option_to_list c.in_ok-unit.«unit»)) c.loop.invariant.number
          ∙ sym (ap length c.in_ok-push_some.ensures ∙ length-append c.loop.units.items (option_to_list c.in_ok-unit.«unit»));
      indexed = indexed_next (sections_of c.args.sections.now) c.loop.units.items c.push_some.new.items.items c.loop.starts.offsets c.read_unit.new.starts.offsets c.loop.firsts.items c.push_first.new.firsts.items
          c.in_ok-unit.«unit» c.count-first.result c.loop.invariant.indexed c.in_ok-unit.ensures.marked
          (some_number c.in_ok-unit.«unit» c.loop.index (length c.loop.units.items) c.loop.invariant.number c.in_ok-unit.ensures.number) c.count-first.ensures c.in_ok-push_some.ensures c.in_ok-push_first.ensures;
      bytes = c.in_ok-unit.ensures.bytes ∙ c.loop.invariant.bytes;
      behind = c.in_ok-unit.ensures.behind;
      are = c.in_ok-unit.ensures.are;
    }

pub returns-clause-units : goal.returns-clause-units
returns-clause-units c =
    let step = unit_from (sections_of c.args.sections.now) in
    let room = length c.args.sections.now.info.now in
    let all = run_from step room 0 (info_input (sections_of c.args.sections.now)) in
    sym (before_none all) ∙ is_spent step c.loop.units.items room c.loop.counter c.loop.index c.loop.reader (before [] all) c.loop-test.false c.loop.invariant.read
