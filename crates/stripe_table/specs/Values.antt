-- What contracts see of the stripes and of a pass.
use Rattle.std.specs.Prelude.{◌≡◌, ℕ, List}
use Rattle.atomic_table.specs.Seated.{TableId}
use Rattle.stripe_table.specs.Limits.{Chunks}
use Rattle.stripe_table.specs.declared.view.PassView.{PassView}

-- the table and the expanded plan
pub record StripesValue : Type 0 where
  pub table : TableId
  pub plan : Chunks

-- the table that a pass is of, what it did, and the pieces that it offered, in order: a chunk and a stripe each
pub record PassValue : Type 0 where
  pub table : TableId
  pub view : PassView
  pub offered : List (ℕ × ℕ)

-- the pass is of these stripes
abbrev pub IsPassOf : StripesValue → PassValue → Type 0
IsPassOf s p = (p.table ≡ s.table) × (p.view.plan ≡ s.plan)
