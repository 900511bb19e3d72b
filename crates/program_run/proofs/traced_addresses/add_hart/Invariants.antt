use Rattle.std.proofs.Common.{◌≡◌, take}
use Rattle.trace_lines.specs.Traces.{distinct_paths, hart_in}
use Rattle.program_run.specs.private.TracedAddresses.{gathered_paths}
use Rattle.program_run.proofs.traced_addresses.add_hart.Given as goal

abbrev pub invariant-loop-place : goal.invariant-loop-place
invariant-loop-place l =
    l.addresses ≡ gathered_paths l.fn.addresses (take l.place (distinct_paths (hart_in l.trace.harts l.hart).samples))
