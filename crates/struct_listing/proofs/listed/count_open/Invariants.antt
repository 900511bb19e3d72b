use Rattle.std.proofs.Common.{◌≡◌, ◌≤◌, take}
use Rattle.std.specs.Prelude.{count_by, nat_lt}
use Rattle.struct_listing.proofs.listed.count_open.Given as goal

abbrev pub invariant-loop-end : goal.invariant-loop-end
invariant-loop-end l = record { counted : l.count ≡ count_by (λ end. nat_lt l.number end) (take l.end-index l.ends); few : l.count ≤ l.end-index }
