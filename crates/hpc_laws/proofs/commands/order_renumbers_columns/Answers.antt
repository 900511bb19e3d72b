use Rattle.hpc_laws.proofs.Reordered.{order_renumbers}
use Rattle.hpc_laws.proofs.commands.order_renumbers_columns.Goals as goal

pub returns : goal.returns
returns c =
    order_renumbers (record {
      measured = record {
        measurable = c.event_read_is_written.ensures.measurable;
        again = c.measurements_count_samples.ensures.distinct;
        many = c.measurements_count_samples.ensures.many;
        columns = c.measurements_count_samples.ensures.columns;
      };
      following = c.appended_samples_are_counted.ensures.each;
      dealt = c.pieces_keep_the_paths.ensures.dealt;
      tables = c.counts_decide.ensures.table;
      below = c.event_paths_are_paths.ensures.below;
    })
