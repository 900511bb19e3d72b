use Rattle.trace_lines.proofs.Kept.{sample_is}
use Rattle.trace_lines.proofs.paths.HartPaths.sample.Goals as goal

pub returns : goal.returns
returns c = sample_is c.args.self.now.samples c.args.sample _ c.path.result.now c.requires c.place.ensures.path c.path.ensures
