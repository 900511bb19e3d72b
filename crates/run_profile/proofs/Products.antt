-- What is made of samples that were counted, planned and merged.
use Rattle.std.proofs.Common.{◌≡◌, ℕ, ◌<◌, nat_lt, Bool, true, false, if◌then◌else◌, IsTrue, List, [], ◌++◌, length, sum, All, Result, Ok, Err, refl, sym, ap, subst, ◌∙◌, arith}
use Rattle.prof_bytes.specs.declared.fail.Fail.{Fail}
use Rattle.prof_bytes.specs.declared.fail.Fail.TheVariants as fails
use Rattle.prof_bytes.specs.Outcome.{◌>>=◌, FailsBy}
use Rattle.scope_types.specs.declared.event.EventPeriod.{EventPeriod}
use Rattle.scope_types.specs.declared.frame.Counted.{Counted}
use Rattle.scope_types.specs.Alike.{Alike}
use Rattle.scope_types.specs.declared.scope.Scope.{Scope}
use Rattle.scope_types.specs.CallPaths.{ColumnPath}
use Rattle.scope_types.specs.Columns.{columns_of, paths_of_event}
use Rattle.scope_types.specs.Raw.{Raw}
use Rattle.scope_types.specs.Expansion.{call_path}
use Rattle.scope_find.specs.Found.{ProgramScopes, found_at, naming_of}
use Rattle.scope_types.specs.Distinct.{ColumnRaw, distinct, scopes_in}
use Rattle.scope_types.specs.Limits.{most_scopes_in_all}
use Rattle.thread_cct.specs.Plan.{Planned, expanded, plan_of}
use Rattle.stripe_table.specs.Ends.{AllFit, NamesAll, SetValue, named_paths}
use Rattle.tree_join.specs.Join.{sampled_paths}
use Rattle.stripe_table.specs.Limits.{Chunks}
use Rattle.merge_crew.specs.declared.merge.Crew.{Crew}
use Rattle.merge_crew.specs.Merged.{IsOfPlan, IsWhole, NamesEach}
use Rattle.tree_types.specs.Naming.{Naming}
use Rattle.tree_types.specs.declared.content.EventContent.{EventContent}
use Rattle.tree_types.specs.Database.{event_content_of, period_at}
use Rattle.tree_types.specs.OfContent.{content_of_event, content_table}
use Rattle.tree_types.specs.TopDown.{top_down}
use Rattle.prof_db.specs.Spelling.{events_spelling}
use Rattle.command_line.specs.declared.status.InputFault.{InputFault}
use Rattle.command_line.specs.declared.status.InputFault.TheVariants.{TooManyScopes}
use Rattle.run_profile.specs.declared.merged.Merged.{Merged}
use Rattle.run_profile.specs.Attribution.{Attributed, attributed, attribution_of, call_paths_of, event_content}
use Rattle.run_profile.specs.Merging.{Merging, sample_plan}
use Rattle.command_line.specs.declared.product.Product.{Product}
use Rattle.run_profile.specs.EventTexts.{lines_of_events, tables_in}
use Rattle.run_profile.specs.Merging.{CrewMerges, HasTables, IsMergeOf, Merges, few_planned}
use Rattle.run_profile.proofs.Contents.{period_there, there_within}
use Rattle.run_profile.proofs.EventTables.{tables_are}

-- ---- what is merged of counted samples

-- what the tree's laws say of alike paths
abbrev pub ContentsAlike : Type 0
ContentsAlike = (events : List EventPeriod) (runs : List ℕ) (naming : Naming) (ps qs : List ColumnPath) → Alike ps qs → event_content_of events runs naming ps ≡ event_content_of events runs naming qs

abbrev pub TablesAlike : Type 0
TablesAlike = (period harts : ℕ) (naming : Naming) (ps qs : List ColumnPath) → Alike ps qs → top_down period harts naming ps ≡ top_down period harts naming qs

abbrev pub EventsAlike : Type 0
EventsAlike = (events place : ℕ) (ps qs : List ColumnPath) → Alike ps qs → Alike (paths_of_event events place ps) (paths_of_event events place qs)

-- the tables of alike paths
pub same_tables : TablesAlike → EventsAlike → (a : Attributed) (ps qs : List ColumnPath) → Alike ps qs → (c : EventContent) → HasTables c a ps → HasTables c a qs
same_tables tables each a ps qs alike c has place event is =
    has place event is
    ∙ tables event.period (sum a.runs) (naming_of a.scopes) (paths_of_event (length a.events) place ps) (paths_of_event (length a.events) place qs) (each (length a.events) place ps qs alike)

-- what the stripes' law says
abbrev pub SamplesHeld : Type 0
SamplesHeld = (set : SetValue) (harts : ℕ) (samples : List ColumnRaw) (call_path : Raw → List Scope) → AllFit set.view.plan set.stripes → NamesAll set
    → set.view.plan ≡ expanded (plan_of (distinct harts samples)) call_path → All (λ s. s.column < harts) samples
    → Alike (named_paths set) (sampled_paths call_path samples)

names_all : (crew : Crew) (plan : Chunks) → crew.stripes.view.plan ≡ plan → NamesEach plan crew → NamesAll crew.stripes
names_all crew plan is each c s chunk stripe = (let one = each s c stripe (subst (λ (p : Chunks). c < length p) is chunk) in omega (arith, one))

-- samples, or too many scopes
abbrev pub scopes_decide : ProgramScopes → List EventPeriod → List ℕ → List ColumnRaw → Bool → Result Attributed InputFault
scopes_decide scopes events runs samples many =
    (if many then Err TooManyScopes else Ok samples) >>= λ samples. Ok (record { scopes = scopes; events = events; runs = runs; samples = samples })

-- a plan, or too many scopes
planned : (ccts : List (List Counted)) (many : Bool) (plan : Planned) → (if many then Err TooManyScopes else Ok (plan_of ccts)) ≡ Ok plan → (many ≡ false) × (plan ≡ plan_of ccts)
planned ccts true plan e = absurd cc
planned ccts false plan e = (refl, (let same : plan ≡ plan_of ccts = cc in same))

unplanned : (ccts : List (List Counted)) (many : Bool) (fault : InputFault) → (if many then Err TooManyScopes else Ok (plan_of ccts)) ≡ Err fault → (many ≡ true) × (fault ≡ TooManyScopes)
unplanned ccts true fault e = (refl, (let same : fault ≡ TooManyScopes = cc in same))
unplanned ccts false fault e = absurd cc

-- what is attributed
pub attributed_as : (scopes : ProgramScopes) (events : List EventPeriod) (runs : List ℕ) (samples : List ColumnRaw) (a : Attributed) → attributed scopes events runs samples ≡ Ok a → a ≡ record { scopes = scopes; events = events; runs = runs; samples = samples }
attributed_as scopes events runs samples a is = tested (nat_lt most_scopes_in_all (scopes_in (call_path (found_at scopes)) (distinct (columns_of (length events) runs) samples))) is
  where
    tested : (many : Bool) → scopes_decide scopes events runs samples many ≡ Ok a → a ≡ record { scopes = scopes; events = events; runs = runs; samples = samples }
    tested true e = absurd cc
    tested false e = (let same : a ≡ record { scopes = scopes; events = events; runs = runs; samples = samples } = cc in same)

module _ (scopes : ProgramScopes) (events : List EventPeriod) (runs : List ℕ) (ccts : List (List Counted)) (samples : List ColumnRaw) (counts : ccts ≡ distinct (columns_of (length events) runs) samples) where
  abbrev expand : Raw → List Scope
  expand = call_path (found_at scopes)

  pub by_scopes : (many : Bool) → nat_lt most_scopes_in_all (scopes_in expand ccts) ≡ many → attributed scopes events runs samples ≡ scopes_decide scopes events runs samples many
  by_scopes many is = ap (scopes_decide scopes events runs samples) (ap (λ (ts : List (List Counted)). nat_lt most_scopes_in_all (scopes_in expand ts)) (sym counts) ∙ is)

  refused_plan : (fail : Fail InputFault) → FailsBy fail (few_planned expand ccts) → FailsBy fail (attributed scopes events runs samples)
  refused_plan (fails.Fault fault) refused =
      let is = unplanned ccts (nat_lt most_scopes_in_all (scopes_in expand ccts)) fault refused in
      by_scopes true is.0 ∙ ap Err (sym is.1)
  refused_plan (fails.Memory memory) refused = tt

-- the plan has as many columns as there are tables
pub plan_columns : (expand : Raw → List Scope) (ccts : List (List Counted)) (plan : Planned) → few_planned expand ccts ≡ Ok plan → plan.columns ≡ length ccts
plan_columns expand ccts plan planned_by = ap (λ (p : Planned). p.columns) (planned ccts (nat_lt most_scopes_in_all (scopes_in expand ccts)) plan planned_by).1

-- where what expands raw paths is over the same program
pub refused_of : (events : List EventPeriod) (runs : List ℕ) (ccts : List (List Counted)) (samples : List ColumnRaw) → ccts ≡ distinct (columns_of (length events) runs) samples → (expander finder : ProgramScopes) → expander ≡ finder → (fail : Fail InputFault)
    → FailsBy fail (few_planned (call_path (found_at expander)) ccts) → FailsBy fail (attributed finder events runs samples)
refused_of events runs ccts samples counts expander finder same fail refused =
    subst (λ (q : ProgramScopes). FailsBy fail (attributed q events runs samples)) same (refused_plan expander events runs ccts samples counts fail refused)

-- the samples of a merge
abbrev pub samples_as : ProgramScopes → List EventPeriod → List ℕ → List ColumnRaw → Attributed
samples_as scopes events runs samples = record { scopes = scopes; events = events; runs = runs; samples = samples }

-- the tables of all places are those of all events
pub tables_of : (scopes : ProgramScopes) (events : List EventPeriod) (runs : List ℕ) (samples : List ColumnRaw) (ps : List ColumnPath) (c : EventContent)
    → ((place : ℕ) → place < length events → content_table (content_of_event c place) ≡ top_down (period_at events place) (sum runs) (naming_of scopes) (paths_of_event (length events) place ps)) → HasTables c (samples_as scopes events runs samples) ps
tables_of scopes events runs samples ps c each place event is =
    each place (there_within events place event is)
    ∙ ap (λ (period : ℕ). top_down period (sum runs) (naming_of scopes) (paths_of_event (length events) place ps)) (period_there events place event is)

pub crew_is : (by : Merging) (scopes : ProgramScopes) (events : List EventPeriod) (runs : List ℕ) (ccts : List (List Counted)) (samples : List ColumnRaw) → ccts ≡ distinct (columns_of (length events) runs) samples → SamplesHeld → All (λ s. s.column < columns_of (length events) runs) samples → (plan : Planned) (crew : Crew) (columns : ℕ)
    → few_planned (call_path (found_at scopes)) ccts ≡ Ok plan → by.gives crew → IsOfPlan (expanded plan (call_path (found_at scopes))) crew → (IsTrue by.whole → IsWhole (expanded plan (call_path (found_at scopes))) by.workers crew)
    → CrewMerges by (Ok (crew, columns)) (attributed scopes events runs samples)
crew_is by scopes events runs ccts samples counts held own plan crew columns planned_by gives of whole =
    let expand : Raw → List Scope = call_path (found_at scopes) in
    let is = planned ccts (nat_lt most_scopes_in_all (scopes_in expand ccts)) plan planned_by in
    let a : Attributed = samples_as scopes events runs samples in
    let is_plan : expanded plan expand ≡ sample_plan a = ap (λ (p : Planned). expanded p expand) is.1 ∙ ap (λ (ts : List (List Counted)). expanded (plan_of ts) expand) counts in
    let plan_is : crew.stripes.view.plan ≡ sample_plan a = of.plan ∙ is_plan in (
      a,
      by_scopes scopes events runs ccts samples counts false is.0,
      record {
        gives = gives;
        plan = subst (λ (chunks : Chunks). IsOfPlan chunks crew) is_plan of;
        whole = λ all_merged. subst (λ (chunks : Chunks). IsWhole chunks by.workers crew) is_plan (whole all_merged);
        paths = λ all_merged.
            let fit : AllFit crew.stripes.view.plan crew.stripes.stripes = subst (λ (chunks : Chunks). AllFit chunks crew.stripes.stripes) (sym of.plan) of.fit in
            held crew.stripes (columns_of (length events) runs) samples expand fit (names_all crew (expanded plan expand) of.plan (whole all_merged).names) plan_is own;
      },
    )

-- and the content of the pieces that the crew's stripes name
pub merge_is : (by : Merging) (scopes : ProgramScopes) (events : List EventPeriod) (runs : List ℕ) (samples : List ColumnRaw) (crew : Crew) (columns : ℕ) (content : EventContent) → CrewMerges by (Ok (crew, columns)) (attributed scopes events runs samples)
    → content ≡ event_content_of events runs (naming_of scopes) (named_paths crew.stripes)
    → ((place : ℕ) → place < length events → content_table (content_of_event content place) ≡ top_down (period_at events place) (sum runs) (naming_of scopes) (paths_of_event (length events) place (named_paths crew.stripes)))
    → Merges by (Ok (record { content = content; crew = crew })) (attributed scopes events runs samples)
merge_is by scopes events runs samples crew columns content (a, is, merged) content_is tables =
    let same : samples_as scopes events runs samples ≡ a = sym (attributed_as scopes events runs samples a is) in (
      a,
      is,
      record {
        by_crew = merged;
        content = subst (λ (q : Attributed). content ≡ event_content q (named_paths crew.stripes)) same content_is;
        tables = subst (λ (q : Attributed). HasTables content q (named_paths crew.stripes)) same (tables_of scopes events runs samples (named_paths crew.stripes) content tables);
      },
    )

-- ---- what is made of it

-- a text before which there is nothing
pub text_with : (c : EventContent) (text before : List ℕ) (lines wanted : List (List ℕ)) → text ≡ before ++ tables_in lines c → before ≡ [] → lines ≡ wanted → text ≡ tables_in wanted c
text_with c text before lines wanted is none same = is ∙ (λ i. none i ++ tables_in (same i) c)

module _ (by : Merging) (contents : ContentsAlike) (tables : TablesAlike) (each : EventsAlike) where
  pub all_content : (a : Attributed) (m : Merged) → IsMergeOf by a m → IsTrue by.whole → m.content ≡ event_content a (call_paths_of a)
  all_content a m is all_merged = is.content ∙ contents a.events a.runs (naming_of a.scopes) (named_paths m.crew.stripes) (call_paths_of a) (is.by_crew.paths all_merged)

  pub all_tables : (a : Attributed) (m : Merged) → IsMergeOf by a m → IsTrue by.whole → HasTables m.content a (call_paths_of a)
  all_tables a m is all_merged = same_tables tables each a (named_paths m.crew.stripes) (call_paths_of a) (is.by_crew.paths all_merged) m.content is.tables

  -- database and tables alone
  pub attribution_is : (wanted : Result Attributed InputFault) (events : List EventPeriod) (samples : List ColumnRaw) (m : Merged) (made : Product) → Merges by (Ok m) wanted → ((a : Attributed) → wanted ≡ Ok a → (a.events ≡ events) × (a.samples ≡ samples)) → IsTrue by.whole
      → made.stored ≡ events_spelling m.content → made.text ≡ tables_in (lines_of_events events samples) m.content → (wanted >>= λ a. Ok (attribution_of a)) ≡ Ok made
  attribution_is wanted events samples m made (a, is, merged) own all_merged stored text =
      let same = own a is in
      let lines : lines_of_events events samples ≡ lines_of_events a.events a.samples = (λ i. lines_of_events (sym same.0 i) (sym same.1 i)) in
      let s = sym (stored ∙ ap events_spelling (all_content a m merged all_merged)) in
      let t = sym (text ∙ ap (λ (ls : List (List ℕ)). tables_in ls m.content) lines ∙ tables_are a (call_paths_of a) m.content (all_tables a m merged all_merged)) in
      let product : attribution_of a ≡ made = (λ i. record { stored = s i; text = t i }) in
      ap (λ (r : Result Attributed InputFault). r >>= λ a. Ok (attribution_of a)) is ∙ ap Ok product
