use Rattle.std.proofs.Common.{◌≡◌, map, take}
use Rattle.std.specs.Prelude.{All, filter}
use Rattle.cfi_table.specs.Entries.{is_cie}
use Rattle.cfi_table.specs.private.KnownCies.{known, seen_cie, IsKnown}
use Rattle.cfi_table.proofs.known_cie.known_cies.Given as goal

abbrev pub invariant-loop-extent : goal.invariant-loop-extent
invariant-loop-extent l = record {
  each : map seen_cie l.cies.items ≡ map (known l.section) (filter (is_cie l.section) (take l.extent-index l.extents));
  are : All (IsKnown l.section) l.cies.items;
}
