use Rattle.std.proofs.Common.{◌<◌, length, sym, ◌∙◌, arith}
use Rattle.trace_lines.specs.Traces.{distinct_paths, hart_in}
use Rattle.program_run.proofs.Gathered.{one_added, one_passed}
use Rattle.program_run.proofs.traced_addresses.add_hart.Goals as goal
use Rattle.program_run.proofs.traced_addresses.add_hart.Goals.{then-not-is_over+in_ok-add, else-not-is_over}

pub loop-place-preserved : goal.loop-place-preserved
loop-place-preserved c =
    let paths = distinct_paths (hart_in c.args.trace.now.harts c.args.hart).samples in
    let i = c.loop-place.place in
    let within : i < length paths = (let many = c.distinct_paths-place-end.ensures in let test = c.loop-place-test.true in omega (arith, many, test)) in
    elim c.if-not-is_over.branch [
      | then-not-is_over+in_ok-add w ↦
          w.addresses-is ∙ w.in_ok-add.ensures
          ∙ one_added c.args.addresses.now c.loop-place.addresses paths i w.distinct_path.result.now within c.loop-place.invariant w.distinct_path.ensures
      | else-not-is_over w ↦
          w.addresses-is
          ∙ one_passed c.args.addresses.now c.loop-place.addresses paths i within c.loop-place.invariant (sym c.is_over.ensures ∙ w.if-not-is_over.false) c.full_addresses_stay.ensures
    ]
