use Rattle.std.proofs.Common.{arith}
use Rattle.trace_lines.proofs.Places.{used_all}
use Rattle.trace_lines.proofs.read.read_samples.Goals as goal

pub returns-clause-places : goal.returns-clause-places
returns-clause-places c =
    let test = c.if-read-len.false in
    let count = c.len.ensures.len in
    let fits = c.in_ok-count.ensures.fits in
    let many = c.in_ok-read.ensures.many in
    used_all c.args.paths.now.keys c.in_ok-read.read.places.items c.in_ok-read.read.used c.requires.distinct c.in_ok-read.ensures.places (omega (arith, test, count)) (omega (arith, fits, many))
