use Rattle.std.proofs.Common.{rules}
use Rattle.scope_find.proofs.KnownPlaces.{unpainted_is}
use Rattle.scope_find.proofs.painted.unpainted.Goals as goal

pub returns : goal.returns
returns c = unpainted_is c.args.addresses.now _ (search rules) c.new.ensures.empty c.in_ok-all_places.ensures
