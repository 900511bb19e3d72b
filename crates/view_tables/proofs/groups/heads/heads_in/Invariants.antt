use Rattle.std.proofs.Common.{◌≡◌, length}
use Rattle.view_tables.specs.private.groups.Frames.{AreHeads}
use Rattle.view_tables.proofs.groups.heads.heads_in.Given as goal

abbrev pub invariant-loop-number : goal.invariant-loop-number
invariant-loop-number l = record {
  heads : AreHeads l.view l.content l.heads.items;
  long : l.number ≡ length l.heads.items;
}
