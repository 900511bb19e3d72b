use Rattle.std.proofs.Common.{All, sym, subst, ap}
use Rattle.scope_types.specs.Raw.{HasFrames, Raw}
use Rattle.trace_lines.specs.Traces.{HartTrace}
use Rattle.trace_lines.proofs.BackSamples.{each_sample}
use Rattle.trace_lines.proofs.HartSums.{read_frames}
use Rattle.trace_lines.proofs.read.read_hart.Goals as goal

pub push-requires-clause-paths : goal.push-requires-clause-paths
push-requires-clause-paths c =
    let Has : Raw → Type 0 = λ raw. HasFrames raw.frames in
    subst (λ (h : HartTrace). All Has h.samples) (sym c.of.ensures) (each_sample Has c.in_ok-read.read.paths.keys c.in_ok-places.places.items c.in_ok-read.ensures.some c.in_ok-places.ensures.places.below)

pub push-requires-clause-frames : goal.push-requires-clause-frames
push-requires-clause-frames c =
    read_frames c.args.harts.now c.of.result c.in_ok-read.read.paths.keys c.in_ok-places.places.items c.frames-before.result c.in_ok-read.read.frames c.in_ok-places.ensures.places (ap (λ (h : HartTrace). h.samples) c.of.ensures)
    c.frames-before.ensures.frames c.in_ok-read.ensures.frames
