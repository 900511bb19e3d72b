-- What the tests' helpers leave of a pass.
use Rattle.std.specs.Prelude.{◌≡◌}
use Rattle.stripe_table.specs.declared.view.PassView.{PassView}

-- w is as far from being closed as v
abbrev pub KeepsDistance : PassView → PassView → Type 0
KeepsDistance v w = (w.first ≡ v.first) × (w.splits ≡ v.splits) × (w.joins ≡ v.joins)
