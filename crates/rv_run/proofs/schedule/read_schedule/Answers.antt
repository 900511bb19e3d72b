use Rattle.std.proofs.Common.{◌≡◌, ℕ, ◌+◌, List, length, Result, Ok, Err, sym, ap, ◌∙◌, arith, rules}
use Rattle.rv_run.specs.declared.schedule.Slice.{Slice}
use Rattle.rv_run.specs.declared.schedule.ScheduleFault.{ScheduleFault}
use Rattle.rv_run.specs.Schedule.{lines, entries, schedule_of, slices_of}
use Rattle.rv_run.specs.private.Reading.{all_lines, to_read, numbered_line, line_told}
use Rattle.prof_bytes.specs.Outcome.{◌>>=◌}
use Rattle.rv_run.proofs.Scheduling.{none-tells, tells-no-harts, tells-harts}
use Rattle.rv_run.proofs.schedule.read_schedule.Goals as goal

pub returns-in_default : goal.returns-in_default
returns-in_default c =
    let end : length (lines c.args.bytes.now) ≡ c.done.result = omega (arith, ap length (c.next_entry.ensures.end c.in_default.is), ap all_lines c.of-lines.ensures) in
    none-tells c.args.bytes.now c.of-lines.result c.of-lines.ensures (sym (ap line_told c.in_default.is) ∙ c.next_entry.ensures.line)
    ∙ ap (λ (n : ℕ). Err (record { line = n + 1 })) end

pub returns-in_default-harts_line : goal.returns-in_default-harts_line
returns-in_default-harts_line c =
    tells-no-harts c.args.bytes.now c.of-lines.result (entries (to_read c.next_entry.new.self)) (numbered_line c.in-Some.first) c.of-lines.ensures c.in-Some.ensures.line c.next_entry.ensures.rest
    (sym c.in_default-harts_line.is ∙ c.harts_line.ensures.harts)

pub returns-in_err-slices : goal.returns-in_err-slices
returns-in_err-slices c =
    let is : schedule_of c.args.bytes.now ≡ (slices_of c.in-Some-harts_line.harts 0 (entries (to_read c.next_entry.new.self)) >>= λ slices. Ok (record { harts = c.in-Some-harts_line.harts; slices = slices })) =
    tells-harts c.args.bytes.now c.of-lines.result (entries (to_read c.next_entry.new.self)) (numbered_line c.in-Some.first) c.in-Some-harts_line.harts c.of-lines.ensures c.in-Some.ensures.line c.next_entry.ensures.rest
    c.in-Some-harts_line.ensures.harts
    in
    rw is (search rules)

pub returns : goal.returns
returns c =
    tells-harts c.args.bytes.now c.of-lines.result (entries (to_read c.next_entry.new.self)) (numbered_line c.in-Some.first) c.in-Some-harts_line.harts c.of-lines.ensures c.in-Some.ensures.line c.next_entry.ensures.rest
    c.in-Some-harts_line.ensures.harts
    ∙ ap (λ (found : Result (List Slice) ScheduleFault). found >>= λ slices. Ok (record { harts = c.in-Some-harts_line.harts; slices = slices })) (c.in_ok-slices.ensures.slices ∙ ap (λ (slices : List Slice). Ok slices) (sym c.of.ensures))
