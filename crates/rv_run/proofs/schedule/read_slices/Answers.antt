use Rattle.std.proofs.Common.{◌+◌, ℕ, List, [], ◌∷◌, Result, sym, ap, ◌∙◌}
use Rattle.rv_run.specs.declared.schedule.Slice.{Slice}
use Rattle.rv_run.specs.declared.schedule.ScheduleFault.{ScheduleFault}
use Rattle.rv_run.specs.Schedule.{slices_before, slices_of, entries, instructions, IsSlice}
use Rattle.rv_run.specs.private.Reading.{to_read, numbered_line, line_told}
use Rattle.rv_run.proofs.Lining.{before-before, read-one, read-bad, read-end, fit-more}
use Rattle.rv_run.proofs.Slices.{one-more}
use Rattle.rv_run.proofs.schedule.read_slices.Goals as goal

pub returns-in_default-slice_line-clause-slices : goal.returns-in_default-slice_line-clause-slices
returns-in_default-slice_line-clause-slices c =
    c.loop-line.invariant.so_far
    ∙ ap (slices_before c.loop-line.slices.items)
    (read-bad c.args.harts c.loop-line.used (entries (to_read c.loop-line.lines)) (numbered_line c.in-Some.line) c.in-Some.ensures.line (sym c.slice_line.ensures.slice ∙ c.in_default-slice_line.is))

pub loop-line-preserved : goal.loop-line-preserved
loop-line-preserved c =
    let rest : Result (List Slice) ScheduleFault = slices_of c.args.harts (c.loop-line.used + c.in-Some-slice_line.slice.count) (entries (to_read c.next_entry.new.self)) in
    record {
      so_far =
          c.loop-line.invariant.so_far
          ∙ ap (slices_before c.loop-line.slices.items)
          (read-one c.args.harts c.loop-line.used (entries (to_read c.loop-line.lines)) (entries (to_read c.next_entry.new.self)) (numbered_line c.in-Some.line) c.in-Some-slice_line.slice
          c.in-Some.ensures.line c.next_entry.ensures.rest (sym c.slice_line.ensures.slice ∙ c.in-Some-slice_line.is))
          ∙ before-before c.loop-line.slices.items (c.in-Some-slice_line.slice ∷ []) rest
          ∙ ap (λ (xs : List Slice). slices_before xs rest) (sym c.in_ok-push.ensures.items);
      fit = fit-more (IsSlice c.args.harts) c.loop-line.slices.items c.in-Some-slice_line.slice c.push.new.self.items c.in_ok-push.ensures.items c.loop-line.invariant.fit c.in-Some-slice_line.ensures.fits;
      sum = ap instructions c.in_ok-push.ensures.items ∙ one-more c.loop-line.slices.items c.in-Some-slice_line.slice ∙ ap (λ (n : ℕ). n + c.in-Some-slice_line.slice.count) c.loop-line.invariant.sum;
    }

pub returns-clause-slices : goal.returns-clause-slices
returns-clause-slices c =
    c.loop-line.invariant.so_far ∙ read-end c.args.harts c.loop-line.used (entries (to_read c.loop-line.lines)) c.loop-line.slices.items (sym (ap line_told c.in_default.is) ∙ c.next_entry.ensures.line)
