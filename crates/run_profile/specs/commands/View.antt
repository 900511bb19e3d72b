-- `view` as a function of its file: a table of an event of a database; or the first rule that the database breaks, or
-- the event that it lacks.
use Rattle.std.specs.Prelude.{ℕ, ◌==◌, List, [], ◌∷◌, position}
use Rattle.std.specs.Prelude.{Option, Some, None, Result, Ok, Err}
use Rattle.prof_bytes.specs.Outcome.{◌>>=◌}
use Rattle.prof_db.specs.Rules.{events_in}
use Rattle.scope_types.specs.declared.event.Event.{Event}
use Rattle.scope_types.specs.declared.event.EventPeriod.{EventPeriod}
use Rattle.scope_types.specs.CallPaths.{ColumnPath}
use Rattle.scope_types.specs.Events.{event_number}
use Rattle.tree_types.specs.declared.content.Content.{Content}
use Rattle.tree_types.specs.declared.content.EventContent.{EventContent}
use Rattle.tree_types.specs.Database.{naming_in}
use Rattle.tree_types.specs.Naming.{Naming}
use Rattle.tree_types.specs.OfContent.{content_of_event}
use Rattle.tree_types.specs.PathsOf.{paths_of}
use Rattle.tree_types.specs.TopDown.{top_down}
use Rattle.view_tables.specs.Callers.{callers}
use Rattle.view_tables.specs.Flat.{flat}
use Rattle.command_line.specs.declared.request.ViewTable.{ViewTable}
use Rattle.command_line.specs.declared.request.ViewTable.TheVariants.{Top, Callers, Flat}
use Rattle.command_line.specs.declared.status.InputFault.{InputFault}
use Rattle.command_line.specs.declared.status.InputFault.TheVariants.{Database, NoEvent}
use Rattle.command_line.specs.Faulted.{faulted}
use Rattle.command_line.specs.declared.product.Product.{Product}
use Rattle.command_line.specs.Product.{no_product, only_text}

-- ---- the tables

-- how many callers are above a procedure in a chain of the callers table, at most
abbrev pub most_callers : ℕ
most_callers = 8

-- a table of call paths, by the period, the number of columns, which are the harts of all runs, and the names
abbrev pub table_of_paths : ViewTable → ℕ → ℕ → Naming → List ColumnPath → List ℕ
table_of_paths Top period harts naming paths = top_down period harts naming paths
table_of_paths Callers period harts naming paths = callers period naming most_callers paths
table_of_paths Flat period harts naming paths = flat period naming paths

-- a table of the call paths that a content holds
abbrev pub table_of : ViewTable → Content → List ℕ
table_of table c = table_of_paths table c.period c.columns (naming_in c.names) (paths_of c)

-- ---- the event

-- the place where an event was found, or its refusal
abbrev pub place_or_none : Event → Option ℕ → Result ℕ InputFault
place_or_none event (Some place) = Ok place
place_or_none event None = Err (NoEvent event)

-- the place of an event in the list, unless it isn't there; that of the first event where none is named
abbrev pub place_shown : Option Event → List EventPeriod → Result ℕ InputFault
place_shown None events = Ok 0
place_shown (Some event) events =
    place_or_none event (position (λ e. event_number e.event == event_number event) events)

-- what is put of the event that is shown, by its place in the list; or the refusal of one that isn't there
abbrev pub shown_at : Option Event → List EventPeriod → (ℕ → List ℕ) → Result Product InputFault
shown_at event events text = do
  place ← place_shown event events
  Ok (only_text (text place))

-- ---- the database

-- the content of a database, or the first rule that it breaks
abbrev pub database : List ℕ → Result EventContent InputFault
database bytes = faulted (λ fault. Database fault.offset fault.rule) (events_in bytes)

-- a table of an event of a database; or the first rule that the database breaks, or the event that it lacks
unfoldable pub view_product : ViewTable → Option Event → List ℕ → Result Product InputFault
view_product table event bytes = do
  content ← database bytes
  shown_at event content.events (λ place. table_of table (content_of_event content place))

-- the same of the contents of the command's files
abbrev pub view_makes : ViewTable → Option Event → List (List ℕ) → Result Product InputFault
view_makes table event (database ∷ []) = view_product table event database
view_makes table event texts = Ok no_product
