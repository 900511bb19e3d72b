use Rattle.std.proofs.Common.{◌≡◌, length}
use Rattle.eh_frame.specs.Cies.{application_from}
use Rattle.eh_frame.specs.declared.address.Application.TheVariants as applications
use Rattle.eh_frame.proofs.augmentation.application.Given as goal

abbrev pub invariant-loop-first : goal.invariant-loop-first
invariant-loop-first l = application_from l.left l.application l.reader ≡ application_from l.letters applications.Absolute l.initial.reader

abbrev pub decreases-loop-first : goal.decreases-loop-first
decreases-loop-first l = length l.left
