-- A run that is merged while it goes on is the profiled one.
use Rattle.std.proofs.Common.{◌≡◌, ℕ, ◌<◌, ◌≤◌, nat_lt, Bool, true, false, IfOk, List, [], ◌∷◌, ◌++◌, length, map, sum, take, All, Result, Ok, Err, refl, sym, ap, subst, ◌∙◌, arith}
use Rattle.std.proofs.lemmas.List.{length-map}
use Rattle.std.proofs.lemmas.List.Elements.{All-map}
use Rattle.prof_bytes.specs.declared.fail.Fail.{Fail}
use Rattle.prof_bytes.specs.declared.fail.Fail.TheVariants as fails
use Rattle.prof_bytes.specs.Outcome.{◌>>=◌, FailsBy}
use Rattle.rv_run.specs.Progress.{to_come}
use Rattle.sample_clock.specs.Clock.{Sampling}
use Rattle.sample_clock.specs.Samples.{Paths}
use Rattle.scope_find.specs.Found.{ProgramScopes, found_at, naming_of}
use Rattle.scope_types.specs.declared.event.EventPeriod.{EventPeriod}
use Rattle.scope_types.specs.declared.frame.Counted.{Counted}
use Rattle.scope_types.specs.declared.scope.Scope.{Scope}
use Rattle.scope_types.specs.Alike.{Alike}
use Rattle.scope_types.specs.CallPaths.{ColumnPath}
use Rattle.scope_types.specs.Columns.{columns_of, paths_of_event}
use Rattle.scope_types.specs.Distinct.{ColumnRaw, distinct, each_sample, frames_in, samples_in, scopes_in}
use Rattle.scope_types.specs.Expansion.{call_path}
use Rattle.scope_types.specs.Limits.{most_frames_in_all, most_harts, most_samples, most_scopes_in_all}
use Rattle.scope_types.specs.Raw.{Raw}
use Rattle.prof_db.specs.Spelling.{events_spelling}
use Rattle.tree_types.specs.Database.{event_content_of, node_list, period_at}
use Rattle.tree_types.specs.Nodes.{nodes, no_parent}
use Rattle.tree_types.specs.Tree.{CountedTree, IsTree, paths_in}
use Rattle.tree_types.specs.OfContent.{content_of_event, content_table}
use Rattle.tree_types.specs.TopDown.{top_down}
use Rattle.tree_types.specs.declared.content.EventContent.{EventContent}
use Rattle.tree_types.specs.declared.content.Node.{Node}
use Rattle.tree_join.specs.Join.{sampled_paths}
use Rattle.live_merge.specs.declared.fault.LiveFault.{LiveFault}
use Rattle.live_merge.specs.declared.fault.LiveFault.TheVariants as limits
use Rattle.live_merge.specs.declared.run.Live.{Live}
use Rattle.live_merge.specs.Live.{AnswersLive, IsWhole, coming, within_limits}
use Rattle.live_merge.specs.Sum.{HasPaths}
use Rattle.command_line.specs.declared.status.InputFault.{InputFault}
use Rattle.command_line.specs.declared.status.InputFault.TheVariants.{TooManySamples, TooManyFrames, TooManyScopes}
use Rattle.program_run.specs.declared.counting.CountedRun.{CountedRun}
use Rattle.hpc_top.specs.declared.live_runs.LiveRun.{LiveRun}
use Rattle.run_profile.specs.Attribution.{Attributed, call_paths_of, event_content}
use Rattle.command_line.specs.Faulted.{faulted}
use Rattle.program_run.specs.Measured.{Measured, lines_of, measured_run}
use Rattle.command_line.specs.declared.product.Product.{Product}
use Rattle.program_run.specs.Samples.{few_samples, run_columns}
use Rattle.run_profile.specs.Attribution.{within_scopes}
use Rattle.hpc_top.specs.commands.Profile.{Profiled, product_of, profiled}
use Rattle.program_run.specs.Collecting.{IsStart}
use Rattle.program_run.specs.Counting.{IsCount}
use Rattle.hpc_top.specs.private.LiveRuns.{IsAnswer, IsLiveRun, RunsLive, live_fault, measured_live, product_or, run_attributed, samples_attributed}
use Rattle.run_profile.specs.Merging.{HasTables, IsTreeOf}
use Rattle.hpc_top.specs.private.Profiling.{IsReportOf}
use Rattle.program_run.proofs.Collecting.{at_most, tested}
use Rattle.run_profile.proofs.Contents.{long_alike}
use Rattle.program_run.proofs.Counted.{all_to_come}
use Rattle.run_profile.proofs.EventTables.{tables_are}
use Rattle.command_line.proofs.Faults.{fails_next}
use Rattle.program_run.proofs.RunColumns.{own_columns}
use Rattle.run_profile.proofs.Products.{tables_of}

-- ---- the limits

-- two tests, and a third of what they give
abbrev limited_by : {F : Type 0} → F → F → F → Bool → Bool → List (List Counted) → List ColumnRaw → (List ColumnRaw → Bool) → Result (List ColumnRaw) F
limited_by frames samples scopes many_frames many_samples tables all many_scopes =
    (tested many_frames frames tables >>= λ _. tested many_samples samples all) >>= λ few. tested (many_scopes few) scopes few

decided : (many_frames many_samples : Bool) (tables : List (List Counted)) (all : List ColumnRaw) (many_scopes : List ColumnRaw → Bool)
    → faulted live_fault (limited_by limits.TooManyFrames limits.TooManySamples limits.TooManyScopes many_frames many_samples tables all many_scopes)
    ≡ limited_by TooManyFrames TooManySamples TooManyScopes many_frames many_samples tables all many_scopes
decided true many_samples tables all many_scopes = refl
decided false true tables all many_scopes = refl
decided false false tables all many_scopes = last (many_scopes all)
  where
    last : (many : Bool) → faulted live_fault (tested many limits.TooManyScopes all) ≡ tested many TooManyScopes all
    last true = refl
    last false = refl

few_by : (many_frames many_samples : Bool) (tables : List (List Counted)) (all out : List ColumnRaw) (many_scopes : List ColumnRaw → Bool)
    → limited_by limits.TooManyFrames limits.TooManySamples limits.TooManyScopes many_frames many_samples tables all many_scopes ≡ Ok out → many_samples ≡ false
few_by true many_samples tables all out many_scopes e = absurd cc
few_by false true tables all out many_scopes e = absurd cc
few_by false false tables all out many_scopes e = refl

-- the limits of a run that is merged while it goes on are those of one that is profiled
limits_same : (expand : Raw → List Scope) (columns : ℕ) (all : List ColumnRaw) → faulted live_fault (within_limits expand columns all) ≡ (few_samples columns all >>= within_scopes expand columns)
limits_same expand columns all =
    decided (nat_lt most_frames_in_all (frames_in (distinct columns (take most_samples all)))) (nat_lt most_samples (length all)) (distinct columns (take most_samples all)) all
    (λ few. nat_lt most_scopes_in_all (scopes_in expand (distinct columns few)))

few_samples_of : (expand : Raw → List Scope) (columns : ℕ) (all out : List ColumnRaw) → within_limits expand columns all ≡ Ok out → length all ≤ most_samples
few_samples_of expand columns all out e =
    at_most most_samples (length all)
    (few_by (nat_lt most_frames_in_all (frames_in (distinct columns (take most_samples all)))) (nat_lt most_samples (length all)) (distinct columns (take most_samples all)) all out
    (λ few. nat_lt most_scopes_in_all (scopes_in expand (distinct columns few))) e)

-- ---- what lower laws say

-- of counted samples, and of trees that hold call paths
pub record LiveLaws : Type 0 where
  pub columns : (columns : ℕ) (samples : List ColumnRaw) → length (distinct columns samples) ≡ columns
  pub alike : (columns : ℕ) (samples : List ColumnRaw) (call_path : ColumnRaw → ColumnPath) → All (λ s. s.column < columns) samples → Alike (map call_path (each_sample (distinct columns samples))) (map call_path samples)
  pub many : (tables : List (List Counted)) → length (each_sample tables) ≡ samples_in tables
  pub long : (ps : List ColumnPath) → length (node_list ps) ≡ length (nodes ps)
  pub nodes_are : (call_path : Raw → List Scope) (samples : List ColumnRaw) (tree : CountedTree) → IsTree tree → within_limits call_path tree.columns samples ≡ Ok samples → All (λ s. s.column < tree.columns) samples → HasPaths (sampled_paths call_path samples) tree
      → tree.nodes ≡ node_list (sampled_paths call_path samples)
  pub paths : (call_path : Raw → List Scope) (samples : List ColumnRaw) (tree : CountedTree) → IsTree tree → within_limits call_path tree.columns samples ≡ Ok samples → All (λ s. s.column < tree.columns) samples → HasPaths (sampled_paths call_path samples) tree
      → ((raw : Raw) → 0 < length (call_path raw)) → Alike (paths_in tree) (sampled_paths call_path samples)

-- ---- the tree

module _ (laws : LiveLaws) (expand : Raw → List Scope) (roots : (raw : Raw) → 0 < length (expand raw)) (columns : ℕ) (all : List ColumnRaw) (own : All (λ s. s.column < columns) all) where
  abbrev path_of_sample : ColumnRaw → ColumnPath
  path_of_sample s = record { column = s.column; path = expand s.raw }

  count_all : samples_in (distinct columns all) ≡ length all
  count_all =
      sym (laws.many (distinct columns all)) ∙ sym (length-map (each_sample (distinct columns all)) path_of_sample)
      ∙ long_alike (map path_of_sample (each_sample (distinct columns all))) (map path_of_sample all) (laws.alike columns all path_of_sample own) ∙ length-map all path_of_sample

  tree_has : (tree : CountedTree) → IsTree tree → tree.columns ≡ columns → within_limits expand columns all ≡ Ok all → HasPaths (sampled_paths expand all) tree → IsTreeOf columns (sampled_paths expand all) tree
  tree_has tree is same within has =
      let within_here : within_limits expand tree.columns all ≡ Ok all = subst (λ (n : ℕ). within_limits expand n all ≡ Ok all) (sym same) within in
      let own_here : All (λ s. s.column < tree.columns) all = subst (λ (n : ℕ). All (λ (s : ColumnRaw). s.column < n) all) (sym same) own in
      let listed : tree.nodes ≡ node_list (sampled_paths expand all) = laws.nodes_are expand all tree is within_here own_here has in
      record {
        columns = same;
        nodes = listed;
        few = (let long = laws.long (sampled_paths expand all) in let size = ap (λ (ns : List Node). length ns) listed in let few = is.few in omega (arith, long, size, few));
        paths = laws.paths expand all tree is within_here own_here has roots;
        samples = (let size = length-map all path_of_sample in let few = few_samples_of expand columns all all within in omega (arith, size, few));
        some = All-map (λ (p : ColumnPath). 0 < length p.path) path_of_sample all (λ i d lt. roots _);
        below = All-map (λ (p : ColumnPath). p.column < columns) path_of_sample all own;
      }

-- ---- the run

module _ (path_of : Paths) (events : List EventPeriod) (harts : ℕ) (start : Sampling) (is : IsStart events start) (scopes : ProgramScopes) where
  abbrev expand_by : Raw → List Scope
  expand_by = call_path (found_at scopes)

  abbrev run_with : List ColumnRaw → Measured
  run_with samples = record { events = events; harts = harts; samples = samples; final = (to_come start.machine).final }

  abbrev attributed_with : List ColumnRaw → Attributed
  attributed_with samples = record { scopes = scopes; events = events; runs = harts ∷ []; samples = samples }

  abbrev profiled_with : List ColumnRaw → Attributed → Profiled
  profiled_with samples a = record { measured = run_with samples; attributed = a }

  one_test : (samples : List ColumnRaw) (many : Bool) → ((tested many TooManyScopes samples >>= λ l. Ok (attributed_with l)) >>= λ a. Ok (profiled_with samples a)) ≡ (tested many TooManyScopes samples >>= λ l. Ok (run_attributed scopes (run_with l)))
  one_test samples true = refl
  one_test samples false = refl

  chained : (few : Result (List ColumnRaw) InputFault) → ((few >>= λ samples. Ok (run_with samples)) >>= λ m. profiled scopes m) ≡ ((few >>= within_scopes expand_by (run_columns events harts)) >>= λ l. Ok (run_attributed scopes (run_with l)))
  chained (Err fault) = refl
  chained (Ok samples) =
      ap (λ (n : ℕ). (within_scopes expand_by n samples >>= λ l. Ok (attributed_with l)) >>= λ a. Ok (profiled_with samples a)) (own_columns events harts)
      ∙ one_test samples (nat_lt most_scopes_in_all (scopes_in expand_by (distinct (run_columns events harts) samples)))

  wanted_is : measured_live scopes (measured_run path_of events harts (to_come start.machine))
      ≡ ((few_samples (run_columns events harts) (coming path_of start) >>= within_scopes expand_by (run_columns events harts)) >>= λ l. Ok (run_attributed scopes (run_with l)))
  unfolding measured_run
  wanted_is =
      ap (λ (l : List ColumnRaw). (few_samples (run_columns events harts) l >>= λ samples. Ok (run_with samples)) >>= λ m. profiled scopes m) (sym (all_to_come path_of events harts start is))
      ∙ chained (few_samples (run_columns events harts) (coming path_of start))

  -- where the limits give this
  wanted_of : (r : Result (List ColumnRaw) LiveFault) → within_limits expand_by (run_columns events harts) (coming path_of start) ≡ r
      → measured_live scopes (measured_run path_of events harts (to_come start.machine)) ≡ (faulted live_fault r >>= λ l. Ok (run_attributed scopes (run_with l)))
  wanted_of r e =
      wanted_is
      ∙ ap (λ (q : Result (List ColumnRaw) InputFault). q >>= λ l. Ok (run_attributed scopes (run_with l)))
      (sym (limits_same expand_by (run_columns events harts) (coming path_of start)) ∙ ap (faulted live_fault) e)

  module _ (laws : LiveLaws) (roots : (raw : Raw) → 0 < length (expand_by raw)) (own : All (λ s. s.column < run_columns events harts) (coming path_of start)) (some : 0 < harts) (few : harts ≤ most_harts) (ends : harts ≡ length (to_come start.machine).final.harts) where
    counted : (live : Live) (new : Sampling) → IsWhole path_of expand_by (run_columns events harts) live start new → IsCount events (run_with (coming path_of start)) (record { harts = harts; ccts = live.ccts; samples = new })
    counted live new whole = record {
      same = refl;
      some = some;
      few = few;
      harts = refl;
      columns = ap (λ (ts : List (List Counted)). length ts) whole.counted ∙ laws.columns (run_columns events harts) (coming path_of start);
      counts = whole.counted;
      all = ap samples_in whole.counted ∙ count_all laws expand_by roots (run_columns events harts) (coming path_of start) own;
      own = own;
      final = whole.ended;
      ends = ends;
    }

    pub runs_live : (answer : Result Live (Fail LiveFault)) (new : Sampling) (result : Result LiveRun (Fail InputFault)) → AnswersLive path_of expand_by (run_columns events harts) answer start new → IsAnswer harts new answer result → IfOk result (λ live. IsTree live.tree)
        → RunsLive scopes events result (measured_live scopes (measured_run path_of events harts (to_come start.machine)))
    runs_live (Ok live) new result whole is_result tree =
        let made : LiveRun = record { run = record { harts = harts; ccts = live.ccts; samples = new }; tree = live.tree } in
        let sound : IsTree live.tree = subst (λ (r : Result LiveRun (Fail InputFault)). IfOk r (λ live. IsTree live.tree)) is_result tree in
        subst (λ (r : Result LiveRun (Fail InputFault)). RunsLive scopes events r (measured_live scopes (measured_run path_of events harts (to_come start.machine)))) (sym is_result) (
          run_with (coming path_of start),
          wanted_of (Ok (coming path_of start)) whole.limits,
          record {
            count = counted live new whole;
            tree_of = tree_has laws expand_by roots (run_columns events harts) (coming path_of start) own live.tree sound whole.columns_are whole.limits whole.paths;
          },
        )
    runs_live (Err (fails.Fault fault)) new result limit is_result tree =
        subst (λ (r : Result LiveRun (Fail InputFault)). RunsLive scopes events r (measured_live scopes (measured_run path_of events harts (to_come start.machine)))) (sym is_result) (wanted_of (Err fault) limit)
    runs_live (Err (fails.Memory memory)) new result limit is_result tree =
        subst (λ (r : Result LiveRun (Fail InputFault)). RunsLive scopes events r (measured_live scopes (measured_run path_of events harts (to_come start.machine)))) (sym is_result) tt

-- ---- what is made of it

module _ (scopes : ProgramScopes) (events : List EventPeriod) (m : Measured) (run : CountedRun) (count : IsCount events m run) (runs : List ℕ) (are : runs ≡ run.harts ∷ []) where
  abbrev paths_of_run : List ColumnPath
  paths_of_run = call_paths_of (samples_attributed scopes m)

  abbrev attributed_here : Attributed
  attributed_here = record { scopes = scopes; events = events; runs = runs; samples = m.samples }

  same_attributed : attributed_here ≡ samples_attributed scopes m
  same_attributed =
      let runs_are : runs ≡ m.harts ∷ [] = are ∙ ap (λ (n : ℕ). n ∷ []) count.harts in
      λ i. record { scopes = scopes; events = sym count.same i; runs = runs_are i; samples = m.samples }

  pub tree_here : (tree : CountedTree) → IsTreeOf (run_columns events m.harts) paths_of_run tree → IsTreeOf (columns_of (length events) runs) paths_of_run tree
  tree_here tree of =
      let harts : run_columns events m.harts ≡ run_columns events run.harts = ap (run_columns events) (sym count.harts) in
      subst (λ (n : ℕ). IsTreeOf n paths_of_run tree) (harts ∙ sym (own_columns events run.harts) ∙ ap (columns_of (length events)) (sym are)) of

  product_is : (content : EventContent) (made : Product) → content ≡ event_content_of events runs (naming_of scopes) paths_of_run
      → ((place : ℕ) → place < length events → content_table (content_of_event content place) ≡ top_down (period_at events place) (sum runs) (naming_of scopes) (paths_of_event (length events) place paths_of_run))
      → IsReportOf m content made → made ≡ product_of (run_attributed scopes m)
  product_is content made is each report =
      let whole : content ≡ event_content (samples_attributed scopes m) paths_of_run = is ∙ ap (λ (a : Attributed). event_content a paths_of_run) same_attributed in
      let has : HasTables content (samples_attributed scopes m) paths_of_run =
      subst (λ (a : Attributed). HasTables content a paths_of_run) same_attributed (tables_of scopes events runs m.samples paths_of_run content each) in
      let s = report.database ∙ ap events_spelling whole in
      let t = report.report ∙ ap (λ (text : List ℕ). lines_of m ++ text) (tables_are (samples_attributed scopes m) paths_of_run content has) in
      λ i. record { stored = s i; text = t i }

  pub products_are : {F : Type 0} (content : EventContent) (r : Result Product F) → content ≡ event_content_of events runs (naming_of scopes) paths_of_run
      → ((place : ℕ) → place < length events → content_table (content_of_event content place) ≡ top_down (period_at events place) (sum runs) (naming_of scopes) (paths_of_event (length events) place paths_of_run))
      → IfOk r (λ made. IsReportOf m content made) → IfOk r (λ made. made ≡ product_of (run_attributed scopes m))
  products_are content (Ok made) is each report = product_is content made is each report
  products_are content (Err fault) is each report = tt

-- the product of a run that is profiled
product_from_run : (wanted : Result Profiled InputFault) (p : Profiled) (made : Product) → wanted ≡ Ok p → made ≡ product_of p → product_or wanted ≡ Ok made
product_from_run wanted p made is same = ap product_or is ∙ ap Ok (sym same)

-- ---- by an expander over the same scopes

module _ (expander finder : ProgramScopes) (same : expander ≡ finder) (wanted : Result Measured InputFault) where
  pub refused_live : (fail : Fail InputFault) → FailsBy fail (measured_live expander wanted) → FailsBy fail (product_or (measured_live finder wanted))
  refused_live fail refused =
      subst (λ (q : ProgramScopes). FailsBy fail (product_or (measured_live q wanted))) same (fails_next (λ p. Ok (product_of p)) fail (measured_live expander wanted) refused)

  pub product_live : (m : Measured) (made : Product) → measured_live expander wanted ≡ Ok (run_attributed expander m) → made ≡ product_of (run_attributed expander m) → product_or (measured_live finder wanted) ≡ Ok made
  product_live m made is made_is =
      subst (λ (q : ProgramScopes). product_or (measured_live q wanted) ≡ Ok made) same (product_from_run (measured_live expander wanted) (run_attributed expander m) made is made_is)
