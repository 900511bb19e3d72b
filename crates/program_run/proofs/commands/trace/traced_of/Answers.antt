use Rattle.std.proofs.Common.{ap, ◌∙◌}
use Rattle.trace_lines.specs.Spelling.{trace_spelling}
use Rattle.command_line.specs.declared.product.Product.{Product}
use Rattle.program_run.proofs.commands.trace.traced_of.Goals as goal

pub returns : goal.returns
returns c image period m is =
    let stored = c.in_ok-stored.ensures.spelled ∙ ap trace_spelling is.trace in
    let text = c.in_ok-text.ensures image period m is in
    λ i. (let p : Product = record { stored = stored i; text = text i } in p)
