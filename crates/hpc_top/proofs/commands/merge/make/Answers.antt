use Rattle.hpc_top.proofs.FewMeasured.{rest_few}
use Rattle.hpc_top.proofs.commands.merge.make.Goals as goal

pub merge_measured-requires-clause-few : goal.merge_measured-requires-clause-few
merge_measured-requires-clause-few g c κs within = (let files = c.requires.files in rest_few c.args.texts.now files.0 files.3 files.2)
