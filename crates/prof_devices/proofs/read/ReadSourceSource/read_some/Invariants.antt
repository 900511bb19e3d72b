use Rattle.std.proofs.Common.{◌≡◌}
use Rattle.std.specs.Io.KnownBytes.{Keeps}
use Rattle.prof_devices.proofs.read.ReadSourceSource.read_some.Given as goal

abbrev pub invariant-loop : goal.invariant-loop
invariant-loop g l = record {
  kept : Keeps (g.R.Read.remaining l.fn.self.reader) (g.R.Read.remaining l.self.reader);
  well : l.self.failed ≡ l.fn.self.failed;
}
