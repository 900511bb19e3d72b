use Rattle.std.proofs.Common.{◌+◌, ◌<◌, ℕ, List, length, drop, ap, ◌∙◌, arith}
use Rattle.rv_run.specs.declared.schedule.Slice.{Slice}
use Rattle.rv_run.specs.private.Reading.{rest_of}
use Rattle.rv_run.specs.Progress.{count_of_first}
use Rattle.rv_run.specs.private.Queue.{with_left}
use Rattle.rv_run.proofs.Slices.{dropped}
use Rattle.rv_run.proofs.slice_queue.SliceQueue.drop_first.Goals as goal

pub returns-then-self-len : goal.returns-then-self-len
returns-then-self-len c =
    let slices : List Slice = c.self.inside.slices.items in
    let within : c.self.inside.index < length slices = omega arith in
    ap (λ (n : ℕ). with_left n (drop (c.self.inside.index + 1) slices)) (c.count_at-self-inside.ensures ∙ ap (λ (all : List Slice). count_of_first (drop (c.self.inside.index + 1) all)) c.as_slice.ensures.value)
    ∙ dropped slices c.self.inside.index c.self.inside.left within
    ∙ ap rest_of c.self.view_is
