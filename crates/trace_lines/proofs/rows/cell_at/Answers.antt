use Rattle.std.proofs.Common.{◌≡◌, ℕ, ◌/◌, ◌-◌, ◌≤◌, List, Some, length, subst, ap, ◌∙◌, arith}
use Rattle.scope_types.specs.Raw.{Raw}
use Rattle.trace_lines.specs.Traces.{distinct_paths}
use Rattle.trace_lines.specs.Reading.{path_at}
use Rattle.trace_lines.specs.Timeline.{proc_at_depth}
use Rattle.trace_lines.proofs.Known.{cell_shown, sample_before, some_of}
use Rattle.trace_lines.proofs.rows.cell_at.Goals as goal

pub overflow_cast-samples : goal.overflow_cast-samples
overflow_cast-samples g c =
    let same = ap (λ (n : ℕ). c.args.moment / n) c.from.ensures in
    let retired = c.retired.ensures in
    let test = c.if-moment-retired.false in
    let room = c.requires.few in
    let few = sample_before c.args.moment c.args.hart.now.retired c.args.sight.period (length c.args.hart.now.samples) c.requires.period (omega (arith, retired, test)) c.requires.finished in
    omega (arith, same, few, room)

pub returns-clause-cell : goal.returns-clause-cell
returns-clause-cell g c =
    let samples : List Raw = c.args.hart.now.samples in
    let same : c.args.moment / c.from.result ≡ c.args.moment / c.args.sight.period = ap (λ (n : ℕ). c.args.moment / n) c.from.ensures in
    let retired = c.retired.ensures in
    let test = c.if-moment-retired.false in
    cell_shown (λ (raw : Raw). proc_at_depth c.args.sight.depth (g.E.Expand.call_path c.args.expand.now raw)) c.args.sight.period c.args.moment c.args.hart.now (distinct_paths samples) c.place-place.result c.in_ok-proc.proc
    (omega (arith, retired, test)) (subst (λ (n : ℕ). 1 ≤ n) same (some_of (c.args.moment / c.from.result) c.if-samples-eq0.false))
    (c.place-place.ensures.path ∙ ap (λ (n : ℕ). Some (path_at samples (n - 1))) same) c.in_ok-proc.ensures.proc
