use Rattle.std.proofs.Common.{◌≡◌, ◌++◌, map, take}
use Rattle.scope_types.specs.declared.frame.Frame.{Frame}
use Rattle.scope_expand.proofs.addresses.put_addresses.Given as goal

abbrev pub invariant-loop-frame : goal.invariant-loop-frame
invariant-loop-frame l =
    l.addresses.items ≡ l.initial.addresses.items ++ map (λ (frame : Frame). frame.pc) (take l.frame-index l.frames)
