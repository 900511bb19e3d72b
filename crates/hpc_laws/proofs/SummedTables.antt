-- What `stats` puts of the content of call paths.
use Rattle.std.proofs.Common.{◌≡◌, ℕ, ◌<◌, ◌≤◌, true, List, length, sum, All, Option, Result, Ok, ap, ◌∙◌, arith}
use Rattle.std.proofs.lemmas.List.Elements.{All-weaker}
use Rattle.prof_bytes.specs.Outcome.{◌>>=◌}
use Rattle.prof_db.specs.declared.fault.DbFault.{DbFault}
use Rattle.prof_db.specs.Rules.{events_in}
use Rattle.prof_db.specs.Spelling.{events_spelling}
use Rattle.prof_db.specs.Stored.{AreEventsStored, is_call_path}
use Rattle.prof_stats.specs.StatsTable.{content_stats_table, table_of_paths}
use Rattle.scope_types.specs.declared.event.Event.{Event}
use Rattle.scope_types.specs.declared.event.EventPeriod.{EventPeriod}
use Rattle.scope_types.specs.CallPaths.{ColumnPath}
use Rattle.scope_types.specs.Columns.{columns_of, paths_of_event}
use Rattle.scope_types.specs.Events.{AreEvents}
use Rattle.tree_types.specs.declared.content.Content.{Content}
use Rattle.tree_types.specs.declared.content.EventContent.{EventContent}
use Rattle.tree_types.specs.declared.content.Kind.{Kind}
use Rattle.tree_types.specs.Database.{content_of, event_content_of, period_at}
use Rattle.tree_types.specs.Naming.{Naming}
use Rattle.tree_types.specs.Nodes.{nodes, no_parent}
use Rattle.tree_types.specs.OfContent.{content_of_event}
use Rattle.command_line.specs.declared.status.InputFault.TheVariants.{Database}
use Rattle.command_line.specs.Faulted.{faulted}
use Rattle.run_profile.specs.commands.Stats.{stats_product}
use Rattle.run_profile.specs.commands.View.{place_shown, shown_at}
use Rattle.run_profile.proofs.Tables.{BelowLaw, NodesLaw, PartLaw, ReadLaw, SomeLaw, shown_same, shown_within, some_period, some_scopes}

-- what the law of summaries says
abbrev pub SummedLaw : Type 0
SummedLaw = (period columns : ℕ) (naming : Naming) (ps : List ColumnPath) (kind : Kind) → 0 < period → length (nodes ps) ≤ no_parent
    → All (λ p. 0 < length p.path) ps → All (λ p. p.column < columns) ps
    → content_stats_table (content_of period columns naming ps) kind ≡ table_of_paths period columns naming ps kind

-- the summaries of an event of call paths
summed_of_event : SummedLaw → PartLaw → SomeLaw → BelowLaw → NodesLaw → (kind : Kind) (events : List EventPeriod) (runs : List ℕ) (naming : Naming) (ps : List ColumnPath) (place : ℕ) → AreEvents events → place < length events → length (nodes ps) ≤ no_parent
    → All (λ p. 0 < length p.path) ps → All (λ p. p.column < columns_of (length events) runs) ps
    → content_stats_table (content_of_event (event_content_of events runs naming ps) place) kind ≡ table_of_paths (period_at events place) (sum runs) naming (paths_of_event (length events) place ps) kind
summed_of_event summed part some_law below_law nodes_law kind events runs naming ps place are within few some below =
    let fewer = nodes_law (length events) place ps in
    ap (λ (c : Content). content_stats_table c kind) (part events runs naming ps place are few some below)
    ∙ summed (period_at events place) (sum runs) naming (paths_of_event (length events) place ps) kind (some_period events place are.periods within) (omega (arith, fewer, few)) (some_law (length events) place ps some) (below_law (length events) place runs ps below)

-- what is put of a database that is read as a content
summed_of : (kind : Kind) (event : Option Event) (bytes : List ℕ) (content : EventContent) → events_in bytes ≡ Ok content → stats_product kind event bytes ≡ shown_at event content.events (λ place. content_stats_table (content_of_event content place) kind)
unfolding stats_product
summed_of kind event bytes content read =
    ap (λ (r : Result EventContent DbFault). faulted (λ (fault : DbFault). Database fault.offset fault.rule) r >>= λ content. shown_at event content.events (λ place. content_stats_table (content_of_event content place) kind)) read

pub summed_of_stored : SummedLaw → PartLaw → SomeLaw → BelowLaw → NodesLaw → ReadLaw → (kind : Kind) (event : Option Event) (events : List EventPeriod) (runs : List ℕ) (naming : Naming) (ps : List ColumnPath) → AreEventsStored events runs naming ps
    → stats_product kind event (events_spelling (event_content_of events runs naming ps))
    ≡ shown_at event events (λ place. table_of_paths (period_at events place) (sum runs) naming (paths_of_event (length events) place ps) kind)
unfolding event_content_of
summed_of_stored summed part some_law below_law nodes_law read kind event events runs naming ps stored =
    let few : length (nodes ps) ≤ no_parent = (let limit = stored.few_nodes in omega arith) in
    let some : All (λ p. 0 < length p.path) ps =
    All-weaker (λ (p : ColumnPath). is_call_path p.path ≡ true) (λ (p : ColumnPath). 0 < length p.path) (λ p e. some_scopes p.path e) ps stored.call_paths in
    let content : EventContent = event_content_of events runs naming ps in
    summed_of kind event (events_spelling content) content (read events runs naming ps stored)
    ∙ shown_same (place_shown event events) (λ place. content_stats_table (content_of_event content place) kind) (λ place. table_of_paths (period_at events place) (sum runs) naming (paths_of_event (length events) place ps) kind)
    (λ place is. summed_of_event summed part some_law below_law nodes_law kind events runs naming ps place stored.are_events (shown_within event events place stored.are_events is) few some stored.below)
