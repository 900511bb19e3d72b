use Rattle.rv_run.proofs.Cutting.{cut_slice}
use Rattle.rv_run.proofs.laws.slices_can_be_cut.Goals as goal

pub returns : goal.returns
returns c = cut_slice
