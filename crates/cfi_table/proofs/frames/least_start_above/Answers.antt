use Rattle.std.proofs.Common.{◌≡◌, ℕ, ◌+◌, ◌<◌, List, [], ◌∷◌, ◌++◌, length, get_or, take, map, sym, ap, ◌∙◌}
use Rattle.std.proofs.lemmas.List.{take_more, map_push}
use Rattle.cfi_table.specs.declared.extent.Extent.{Extent}
use Rattle.cfi_table.specs.declared.fde.Fde.{Fde}
use Rattle.cfi_table.specs.Frames.{least_above, lesser}
use Rattle.cfi_table.proofs.Least.{least_push, least_skip}
use Rattle.cfi_table.proofs.frames.least_start_above.Goals as goal
use Rattle.cfi_table.proofs.frames.least_start_above.Goals.{then-low-fde, else-low-fde}

more : (fdes : List Fde) (k : ℕ) (d : Fde) → k < length fdes → map (λ fde. fde.initial_location) (take (k + 1) fdes) ≡ map (λ fde. fde.initial_location) (take k fdes) ++ (get_or fdes k d).initial_location ∷ []
more fdes k d lt = ap (λ (fs : List Fde). map (λ fde. fde.initial_location) fs) (take_more fdes k d lt) ∙ map_push (λ (fde : Fde). fde.initial_location) (take k fdes) (get_or fdes k d)

-- any FDE
abbrev nothing : Fde
nothing =
    let none : Extent = record { offset = 0; end = 0 } in
    record {
      offset = 0;
      initial_location = 0;
      address_range = 0;
      instructions = none;
      cie = record { factors = record { code_alignment_factor = 0; data_alignment_factor = 0 }; return_address_register = 0; initial_instructions = none };
    }

pub loop-fde-preserved : goal.loop-fde-preserved
loop-fde-preserved c =
    let d : Fde = nothing in
    let list = more c.args.fdes.now c.loop-fde.fde-index d c.loop-fde-test.true in
    elim c.if-low-fde.branch [
      | then-low-fde w ↦ w.least-is ∙ w.lesser-least.ensures ∙ ap (lesser (get_or c.args.fdes.now c.loop-fde.fde-index d).initial_location) c.loop-fde.invariant ∙ sym (least_push c.args.low _ _ w.if-low-fde.true) ∙ ap (least_above c.args.low) (sym list)
      | else-low-fde w ↦ w.least-is ∙ c.loop-fde.invariant ∙ sym (least_skip c.args.low _ _ w.if-low-fde.false) ∙ ap (least_above c.args.low) (sym list)
    ]
