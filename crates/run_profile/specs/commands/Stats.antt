-- `stats` as a function of its file: how the values of each node are spread over the profiles, each of which is a hart
-- of a run, for an event of a database; or the first rule that the database breaks, or the event that it lacks.
use Rattle.std.specs.Prelude.{ℕ, List, [], ◌∷◌, Option, Result, Ok}
use Rattle.prof_bytes.specs.Outcome.{◌>>=◌}
use Rattle.prof_stats.specs.StatsTable.{content_stats_table}
use Rattle.scope_types.specs.declared.event.Event.{Event}
use Rattle.tree_types.specs.declared.content.Kind.{Kind}
use Rattle.tree_types.specs.OfContent.{content_of_event}
use Rattle.command_line.specs.declared.status.InputFault.{InputFault}
use Rattle.command_line.specs.declared.product.Product.{Product}
use Rattle.command_line.specs.Product.{no_product}
use Rattle.run_profile.specs.commands.View.{database, shown_at}

-- the table of summaries of an event of a database, for one kind of its values; or the refusal that `view` of the
-- event gives
unfoldable pub stats_product : Kind → Option Event → List ℕ → Result Product InputFault
stats_product kind event bytes = do
  content ← database bytes
  shown_at event content.events (λ place. content_stats_table (content_of_event content place) kind)

-- the same of the contents of the command's files
abbrev pub stats_makes : Kind → Option Event → List (List ℕ) → Result Product InputFault
stats_makes kind event (database ∷ []) = stats_product kind event database
stats_makes kind event texts = Ok no_product
