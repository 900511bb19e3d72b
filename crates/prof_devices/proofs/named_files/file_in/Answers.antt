use Rattle.std.proofs.Common.{◌∙◌, ap, sym, Some, List, ℕ}
use Rattle.prof_devices.proofs.Places.{found, missing}
use Rattle.prof_devices.proofs.named_files.file_in.Goals as goal

pub returns-in-Some : goal.returns-in-Some
returns-in-Some c =
    ap (λ (bytes : List ℕ). Some bytes) c.bytes.ensures ∙ sym (found c.args.files.now c.args.name.now c.in-Some.i c.index-files-i.result (sym c.in-Some.ensures))

pub returns-in-None : goal.returns-in-None
returns-in-None c = sym (missing c.args.files.now c.args.name.now (sym c.in-None.ensures))
