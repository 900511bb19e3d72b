use Rattle.std.proofs.Common.{◌<◌, arith}
use Rattle.cfi_table.proofs.Walking.{at_row, has_run, past_row, next_past, from_past, last_row, from_last, faulty_row, from_fault, row_is, is_next}
use Rattle.cfi_table.proofs.rows.Rows.next_row.Goals as goal

pub invariant_of-self : goal.invariant_of-self
invariant_of-self c =
    let at = at_row _ _ _ _ _ _ _ c.in-Some.is c.self.invariant in
    let run = has_run _ _ _ _ c.run.new.self _ c.run.new.reader _ at c.in-Ok.ensures.short c.in-Ok.ensures.ended c.in-Ok.ensures.later in
    let past : c.in-Some.start < c.run.new.self.location = (let lt = c.if-start-location.true in let is = c.location-location.ensures in omega arith) in
    rw (c.row_from-self-inside.ensures, c.location-location.ensures) (next_past _ _ _ _ _ _ run past)

pub returns-then-start-location-clause-row : goal.returns-then-start-location-clause-row
returns-then-start-location-clause-row c =
    let at = at_row _ _ _ _ _ _ _ c.in-Some.is c.self.invariant in
    let run = has_run _ _ _ _ c.run.new.self _ c.run.new.reader _ at c.in-Ok.ensures.short c.in-Ok.ensures.ended c.in-Ok.ensures.later in
    let past : c.in-Some.start < c.run.new.self.location = (let lt = c.if-start-location.true in let is = c.location-location.ensures in omega arith) in
    is_next _ _ _ _ _ _ _ c.self.view_is c.in-Some.is
    (from_past c.self.inside.fde _ _ _ _ c.if-start-location.true c.row_from-self-inside.ensures c.row_end-end.ensures)
    (past_row _ _ _ _ _ _ _ run past (row_is c.self.inside.fde _ _ _ c.run.new.self c.row_end-end.ensures c.location-location.ensures))

pub returns-else-start-location-clause-row : goal.returns-else-start-location-clause-row
returns-else-start-location-clause-row c =
    let at = at_row _ _ _ _ _ _ _ c.in-Some.is c.self.invariant in
    let run = has_run _ _ _ _ c.run.new.self _ c.run.new.reader _ at c.in-Ok.ensures.short c.in-Ok.ensures.ended c.in-Ok.ensures.later in
    is_next _ _ _ _ _ _ _ c.self.view_is c.in-Some.is
    (from_last c.self.inside.fde _ _ _ c.if-start-location.false c.row_end-end.ensures)
    (last_row _ _ _ _ _ _ _ run (let le = c.if-start-location.false in let is = c.location-location.ensures in omega arith) (row_is c.self.inside.fde _ _ _ c.run.new.self c.row_end-end.ensures c.location-location.ensures))

pub returns-in-Err-Fault-clause-row : goal.returns-in-Err-Fault-clause-row
returns-in-Err-Fault-clause-row c =
    let at = at_row _ _ _ _ _ _ _ c.in-Some.is c.self.invariant in
    is_next _ _ _ _ _ _ _ c.self.view_is c.in-Some.is
    (from_fault c.self.inside.fde _ c.range.ensures)
    (faulty_row _ _ _ _ _ _ _ _ _ at c.in-Err-Fault.field-0-is c.in-Err-Fault.ensures.later c.range.ensures)
