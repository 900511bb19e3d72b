use Rattle.std.proofs.lemmas.Result.{err_from_is_err_and}
use Rattle.run_profile.proofs.merged.merge_samples.Goals as goal

pub returns-in_err-crew-clause-merged : goal.returns-in_err-crew-clause-merged
returns-in_err-crew-clause-merged g c samples are own =
    let p = err_from_is_err_and c.from_residual.result c.from_residual.ensures.1 in
    rw (p.1, p.2) (c.in_err-crew.ensures.merged samples are own)

pub returns-clause-merged : goal.returns-clause-merged
returns-clause-merged g c samples are own =
    c.in_ok-merged_by.ensures.merged samples (c.in_ok-crew.ensures.merged samples are own)
