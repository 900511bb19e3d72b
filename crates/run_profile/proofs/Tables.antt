-- What `view` puts of the content of call paths.
use Rattle.std.proofs.Common.{◌≡◌, ℕ, zero, suc, ◌<◌, ◌≤◌, ◌==◌, nat_lt, Bool, true, false, cond, List, [], ◌∷◌, length, position, sum, All, Option, Some, None, Result, Ok, Err, refl, ap, sym, ◌∙◌, true≢false, arith}
use Rattle.std.specs.List.{position_or_len}
use Rattle.std.proofs.lemmas.Bool.Decides.{nat_tests}
use Rattle.std.proofs.lemmas.List.Elements.{All-head, All-tail, All-weaker}
use Rattle.prof_bytes.specs.Outcome.{◌>>=◌}
use Rattle.prof_db.specs.declared.fault.DbFault.{DbFault}
use Rattle.prof_bytes.proofs.Outcomes.{ok_same}
use Rattle.prof_db.specs.Rules.{events_in}
use Rattle.prof_db.specs.Spelling.{events_spelling}
use Rattle.prof_db.specs.Stored.{AreEventsStored, is_call_path}
use Rattle.scope_types.specs.declared.scope.Scope.{Scope}
use Rattle.scope_types.specs.declared.event.Event.{Event}
use Rattle.scope_types.specs.declared.event.EventPeriod.{EventPeriod}
use Rattle.scope_types.specs.CallPaths.{ColumnPath}
use Rattle.scope_types.specs.Columns.{columns_of, paths_of_event}
use Rattle.scope_types.specs.Events.{AreEvents, event_number}
use Rattle.tree_types.specs.declared.content.Content.{Content}
use Rattle.tree_types.specs.declared.content.EventContent.{EventContent}
use Rattle.tree_types.specs.Database.{content_of, event_content_of, naming_in, period_at}
use Rattle.tree_types.specs.Naming.{Naming}
use Rattle.tree_types.specs.Nodes.{nodes, no_parent}
use Rattle.tree_types.specs.OfContent.{content_of_event, content_table}
use Rattle.tree_types.specs.PathsOf.{paths_of}
use Rattle.tree_types.specs.TopDown.{top_down}
use Rattle.view_tables.specs.Callers.{callers}
use Rattle.view_tables.specs.Flat.{flat}
use Rattle.command_line.specs.declared.status.InputFault.{InputFault}
use Rattle.command_line.specs.declared.status.InputFault.TheVariants.{Database}
use Rattle.command_line.specs.Faulted.{faulted}
use Rattle.command_line.specs.declared.product.Product.{Product}
use Rattle.command_line.specs.Product.{only_text}
use Rattle.run_profile.specs.commands.View.{database, most_callers, place_or_none, place_shown, shown_at, table_of_paths, table_of, view_product}
use Rattle.command_line.specs.declared.request.ViewTable.{ViewTable}
use Rattle.command_line.specs.declared.request.ViewTable.TheVariants.{Top, Callers, Flat}

-- what is so of the content of call paths, of which each has a node, and whose harts are below the number of harts
abbrev pub OfCallPaths : (ℕ → ℕ → Naming → List ColumnPath → Type 0) → Type 0
OfCallPaths Law = (period harts : ℕ) (naming : Naming) (ps : List ColumnPath) → 0 < period → length (nodes ps) ≤ no_parent
    → All (λ p. 0 < length p.path) ps → All (λ p. p.column < harts) ps → Law period harts naming ps

-- what the laws of the three tables say
abbrev pub TopLaw : Type 0
TopLaw = OfCallPaths (λ period harts naming ps. content_table (content_of period harts naming ps) ≡ top_down period harts naming ps)

abbrev pub CallersLaw : Type 0
CallersLaw = (period harts depth : ℕ) (naming : Naming) (ps : List ColumnPath) → 0 < period → length (nodes ps) ≤ no_parent
    → All (λ p. 0 < length p.path) ps → All (λ p. p.column < harts) ps
    → callers (content_of period harts naming ps).period (naming_in (content_of period harts naming ps).names) depth (paths_of (content_of period harts naming ps)) ≡ callers period naming depth ps

abbrev pub FlatLaw : Type 0
FlatLaw = OfCallPaths (λ period harts naming ps. flat (content_of period harts naming ps).period (naming_in (content_of period harts naming ps).names) (paths_of (content_of period harts naming ps)) ≡ flat period naming ps)

pub table_of_content : TopLaw → CallersLaw → FlatLaw → (table : ViewTable) → OfCallPaths (λ period harts naming ps. table_of table (content_of period harts naming ps) ≡ table_of_paths table period harts naming ps)
table_of_content top by_callers by_flat Top period harts naming ps positive few some below = top period harts naming ps positive few some below
table_of_content top by_callers by_flat Callers period harts naming ps positive few some below = by_callers period harts most_callers naming ps positive few some below
table_of_content top by_callers by_flat Flat period harts naming ps positive few some below = by_flat period harts naming ps positive few some below

-- ---- an event of a content of several

-- what the laws of contents of several events say
abbrev pub PartLaw : Type 0
PartLaw = (events : List EventPeriod) (runs : List ℕ) (naming : Naming) (ps : List ColumnPath) (place : ℕ) → AreEvents events → length (nodes ps) ≤ no_parent
    → All (λ p. 0 < length p.path) ps → All (λ p. p.column < columns_of (length events) runs) ps
    → content_of_event (event_content_of events runs naming ps) place ≡ content_of (period_at events place) (sum runs) naming (paths_of_event (length events) place ps)

abbrev pub SomeLaw : Type 0
SomeLaw = (events place : ℕ) (ps : List ColumnPath) → All (λ p. 0 < length p.path) ps → All (λ p. 0 < length p.path) (paths_of_event events place ps)

abbrev pub BelowLaw : Type 0
BelowLaw = (events place : ℕ) (runs : List ℕ) (ps : List ColumnPath) → All (λ p. p.column < columns_of events runs) ps → All (λ p. p.column < sum runs) (paths_of_event events place ps)

abbrev pub NodesLaw : Type 0
NodesLaw = (events place : ℕ) (ps : List ColumnPath) → length (nodes (paths_of_event events place ps)) ≤ length (nodes ps)

-- a period is above 0
pub some_period : (events : List EventPeriod) (place : ℕ) → All (λ e. 1 ≤ e.period) events → place < length events → 0 < period_at events place
some_period [] place all within = absurd (omega (arith, within))
some_period (e ∷ events) zero all within = (let some = All-head (λ (q : EventPeriod). 1 ≤ q.period) e events all in omega (arith, some))
some_period (e ∷ events) (suc place) all within = some_period events place (All-tail (λ (q : EventPeriod). 1 ≤ q.period) e events all) (omega (arith, within))

pub table_of_event : TopLaw → CallersLaw → FlatLaw → PartLaw → SomeLaw → BelowLaw → NodesLaw → (table : ViewTable) (events : List EventPeriod) (runs : List ℕ) (naming : Naming) (ps : List ColumnPath) (place : ℕ) → AreEvents events → place < length events → length (nodes ps) ≤ no_parent
    → All (λ p. 0 < length p.path) ps → All (λ p. p.column < columns_of (length events) runs) ps
    → table_of table (content_of_event (event_content_of events runs naming ps) place) ≡ table_of_paths table (period_at events place) (sum runs) naming (paths_of_event (length events) place ps)
table_of_event top by_callers by_flat part some_law below_law nodes_law table events runs naming ps place are within few some below =
    let fewer = nodes_law (length events) place ps in
    ap (table_of table) (part events runs naming ps place are few some below)
    ∙ table_of_content top by_callers by_flat table (period_at events place) (sum runs) naming (paths_of_event (length events) place ps) (some_period events place are.periods within) (omega (arith, fewer, few)) (some_law (length events) place ps some) (below_law (length events) place runs ps below)

-- ---- databases

-- what is put of a database that is read as a content
shown_of : (table : ViewTable) (event : Option Event) (bytes : List ℕ) (content : EventContent) → events_in bytes ≡ Ok content → view_product table event bytes ≡ shown_at event content.events (λ place. table_of table (content_of_event content place))
unfolding view_product
shown_of table event bytes content read =
    ap (λ (r : Result EventContent DbFault). faulted (λ (fault : DbFault). Database fault.offset fault.rule) r >>= λ content. shown_at event content.events (λ place. table_of table (content_of_event content place))) read

-- a call path has scopes
pub some_scopes : (path : List Scope) → is_call_path path ≡ true → 0 < length path
some_scopes [] e = absurd (true≢false (sym e))
some_scopes (root ∷ rest) e = omega arith

-- the place that is shown is one of the list
position_within : (test : EventPeriod → Bool) (events : List EventPeriod) (place : ℕ) → position test events ≡ Some place → place < length events
position_within test events place is =
    elim (nat_lt (position_or_len test events) (length events)) as (λ b. nat_lt (position_or_len test events) (length events) ≡ b → cond b (Some (position_or_len test events)) None ≡ Some place → place < length events) [
      | true ↦ λ less e. (let same : position_or_len test events ≡ place = cc in let lt : position_or_len test events < length events = grind (arith, nat_tests) in omega (arith, same, lt))
      | false ↦ λ less e. absurd cc
    ] refl is

pub shown_within : (event : Option Event) (events : List EventPeriod) (place : ℕ) → AreEvents events → place_shown event events ≡ Ok place → place < length events
shown_within None events place are is = (let same : 0 ≡ place = ok_same 0 place is in let some = are.some in omega (arith, same, some))
shown_within (Some event) events place are is = found (position (λ e. event_number e.event == event_number event) events) refl is
  where
    found : (o : Option ℕ) → position (λ e. event_number e.event == event_number event) events ≡ o → place_or_none event o ≡ Ok place → place < length events
    found (Some p) e is = position_within (λ e. event_number e.event == event_number event) events place (e ∙ ap Some (ok_same p place is))
    found None e is = absurd cc

-- what is put, where the tables of all places that may be shown are the same
pub shown_same : (shown : Result ℕ InputFault) (one other : ℕ → List ℕ) → ((place : ℕ) → shown ≡ Ok place → one place ≡ other place) → (shown >>= λ place. Ok (only_text (one place))) ≡ (shown >>= λ place. Ok (only_text (other place)))
shown_same (Ok place) one other same = ap (λ (text : List ℕ). (let r : Result Product InputFault = Ok (only_text text) in r)) (same place refl)
shown_same (Err fault) one other same = refl

-- what is put of an event's content
pub show_is : (table : ViewTable) (event : Option Event) (bytes : List ℕ) (c : EventContent) (place : ℕ) (own : Content) → database bytes ≡ Ok c → place_shown event c.events ≡ Ok place → own ≡ content_of_event c place → view_product table event bytes ≡ Ok (only_text (table_of table own))
unfolding view_product
show_is table event bytes c place own read shown is =
    ap (λ (r : Result EventContent InputFault). r >>= λ content. shown_at event content.events (λ place. table_of table (content_of_event content place))) read
    ∙ ap (λ (r : Result ℕ InputFault). r >>= λ place. Ok (only_text (table_of table (content_of_event c place)))) shown
    ∙ ap (λ (q : Content). (let r : Result Product InputFault = Ok (only_text (table_of table q)) in r)) (sym is)

-- what the law of stored contents says
abbrev pub ReadLaw : Type 0
ReadLaw = (events : List EventPeriod) (runs : List ℕ) (naming : Naming) (ps : List ColumnPath) → AreEventsStored events runs naming ps → events_in (events_spelling (event_content_of events runs naming ps)) ≡ Ok (event_content_of events runs naming ps)

pub shown_of_stored : TopLaw → CallersLaw → FlatLaw → PartLaw → SomeLaw → BelowLaw → NodesLaw → ReadLaw → (table : ViewTable) (event : Option Event) (events : List EventPeriod) (runs : List ℕ) (naming : Naming) (ps : List ColumnPath) → AreEventsStored events runs naming ps
    → view_product table event (events_spelling (event_content_of events runs naming ps))
    ≡ shown_at event events (λ place. table_of_paths table (period_at events place) (sum runs) naming (paths_of_event (length events) place ps))
unfolding event_content_of
shown_of_stored top by_callers by_flat part some_law below_law nodes_law read table event events runs naming ps stored =
    let few : length (nodes ps) ≤ no_parent = (let limit = stored.few_nodes in omega arith) in
    let some : All (λ p. 0 < length p.path) ps =
    All-weaker (λ (p : ColumnPath). is_call_path p.path ≡ true) (λ (p : ColumnPath). 0 < length p.path) (λ p e. some_scopes p.path e) ps stored.call_paths in
    let content : EventContent = event_content_of events runs naming ps in
    shown_of table event (events_spelling content) content (read events runs naming ps stored)
    ∙ shown_same (place_shown event events) (λ place. table_of table (content_of_event content place)) (λ place. table_of_paths table (period_at events place) (sum runs) naming (paths_of_event (length events) place ps))
    (λ place is. table_of_event top by_callers by_flat part some_law below_law nodes_law table events runs naming ps place stored.are_events (shown_within event events place stored.are_events is) few some stored.below)
