use Rattle.trace_lines.proofs.Kept.{place_of}
use Rattle.trace_lines.proofs.paths.HartPaths.place.Goals as goal

pub returns-clause-place : goal.returns-clause-place
returns-clause-place c = (place_of c.self.inside.paths.keys c.self.inside.places.items c.self.inside.retired c.args.self.now c.args.sample c.index.result.now c.self.invariant c.self.view_is c.requires c.index.ensures).among

pub returns-clause-path : goal.returns-clause-path
returns-clause-path c = (place_of c.self.inside.paths.keys c.self.inside.places.items c.self.inside.retired c.args.self.now c.args.sample c.index.result.now c.self.invariant c.self.view_is c.requires c.index.ensures).path
