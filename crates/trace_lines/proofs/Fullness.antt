-- A sample is too much just where all distinct raw paths have too many frames with it.
use Rattle.std.proofs.Common.{◌≡◌, ℕ, ◌+◌, ◌<◌, ◌≤◌, Bool, true, false, not, ◌&&◌, nat_lt, List, length, refl, sym, ap, ◌∙◌, arith}
use Rattle.std.proofs.lemmas.Bool.{le-ltb}
use Rattle.scope_types.specs.Limits.{most_frames_in_all}
use Rattle.scope_types.specs.Raw.{Raw}
use Rattle.trace_lines.specs.Traces.{HartTrace, frames_traced, hart_in, has_raw, is_too_much, sampled}
use Rattle.trace_lines.proofs.Sums.{frames_known, frames_new}

pub full_by_frames : (harts : List HartTrace) (hart : ℕ) (raw : Raw) → hart < length harts → frames_traced harts ≤ most_frames_in_all
    → is_too_much harts hart raw ≡ nat_lt most_frames_in_all (frames_traced (sampled harts hart raw))
full_by_frames harts hart raw own fits = by_there (has_raw raw (hart_in harts hart).samples) refl
  where
    by_there : (b : Bool) → has_raw raw (hart_in harts hart).samples ≡ b → is_too_much harts hart raw ≡ nat_lt most_frames_in_all (frames_traced (sampled harts hart raw))
    by_there true there =
        let same = frames_known harts hart raw own there in
        ap (λ (b : Bool). not b && nat_lt most_frames_in_all (frames_traced harts + length raw.frames)) there
        ∙ sym (le-ltb most_frames_in_all (frames_traced (sampled harts hart raw)) (omega (arith, same, fits)))
    by_there false absent =
        ap (λ (b : Bool). not b && nat_lt most_frames_in_all (frames_traced harts + length raw.frames)) absent
        ∙ ap (nat_lt most_frames_in_all) (sym (frames_new harts hart raw own absent))
