-- The content of call paths is one that is read as it was written.
use Rattle.std.proofs.Common.{◌≡◌, ℕ, ◌+◌, ◌*◌, ◌<◌, ◌≤◌, ◌==◌, not, Bool, true, false, List, [], ◌∷◌, ◌++◌, length, get_or, map, reverse, count_by, sum, All, Ok, IfOk, true≢false, refl, sym, ap, subst, ◌∙◌, arith, append_assoc}
use Rattle.std.specs.List.{enumerate_from, flat_map}
use Rattle.std.proofs.lemmas.Bool.{and_from}
use Rattle.std.proofs.lemmas.List.{length-append, length-map}
use Rattle.std.proofs.lemmas.List.Elements.{All-contains, All-cons, All-head, All-map, All-nil, All-tail, All-weaker, Contains-get_or}
use Rattle.std.proofs.lemmas.List.Sums.{count_by-le-length, length-filter}
use Rattle.scope_types.specs.Alike.{Alike}
use Rattle.scope_types.specs.CallPaths.{ColumnPath}
use Rattle.scope_types.specs.Columns.{columns_of, paths_of_event, period_of_column}
use Rattle.scope_types.specs.Events.{periods_of}
use Rattle.scope_types.specs.Limits.{most_harts}
use Rattle.scope_types.specs.Expansion.{FoundAt, call_path, expansion, frame_scopes, pc_of, root_of}
use Rattle.scope_types.specs.Raw.{Raw}
use Rattle.scope_types.specs.declared.event.Event.TheVariants.{Retired}
use Rattle.scope_types.specs.declared.event.EventPeriod.{EventPeriod}
use Rattle.scope_types.specs.declared.scope.LineId.{LineId}
use Rattle.scope_types.specs.declared.scope.ProcId.{ProcId}
use Rattle.scope_types.specs.declared.scope.RootKind.{RootKind}
use Rattle.scope_types.specs.declared.scope.Scope.{Scope}
use Rattle.scope_types.specs.declared.scope.Scope.TheVariants.{Root, Proc, Inline, Call, Stmt}
use Rattle.tree_types.specs.Database.{content_of, event_content_of, period_at}
use Rattle.tree_types.specs.Naming.{Naming, files_used, procs_used}
use Rattle.tree_types.specs.Nodes.{no_parent, nodes, own_scope}
use Rattle.tree_types.specs.OfContent.{IsEventProfile, content_of_event, content_table, single_content}
use Rattle.tree_types.specs.Paths.{Path}
use Rattle.tree_types.specs.PathsOf.{event_paths_of}
use Rattle.tree_types.specs.Planes.{profile_entries, node_values}
use Rattle.tree_types.specs.TopDown.{top_down}
use Rattle.tree_types.specs.Values.{columns_below}
use Rattle.tree_types.specs.declared.content.EventContent.{EventContent}
use Rattle.tree_types.specs.declared.content.FileName.{FileName}
use Rattle.tree_types.specs.declared.content.Node.{Node}
use Rattle.tree_types.specs.declared.content.ProfileEntry.{ProfileEntry}
use Rattle.tree_types.proofs.Counting.{count_by-cons, one}
use Rattle.tree_types.proofs.EventParts.{event_table, profile_of_event_paths}
use Rattle.tree_types.proofs.NamesAgain.{table_is}
use Rattle.tree_types.proofs.NodeLaws.{node_is_prefix}
use Rattle.tree_types.proofs.OneEvent.{single_made}
use Rattle.tree_types.proofs.PathsAgain.{event_paths_alike}
use Rattle.tree_types.proofs.TreeLaws.{nodes_listed}
use Rattle.prof_db.specs.NodeRules.{stands_under}
use Rattle.prof_db.specs.Rules.{database_in, events_in}
use Rattle.prof_db.specs.Spelling.{database_spelling, events_spelling}
use Rattle.prof_db.specs.Stored.{AreEventsStored, AreStored, HasWordNumbers, IsEventStored, IsNamed, IsShort, IsStored, IsWord, is_call_path, leads_to_statement}
use Rattle.prof_db.proofs.Heads.{few_columns, few_events}
use Rattle.prof_db.proofs.StoredRules.{stored_read}
use Rattle.prof_db.proofs.VersionOne.{stored_one_read, stored_single}

-- ---- the paths that expansion makes

inlines_lead : (p : ProcId) (line : LineId) (inlines : List (ProcId × LineId)) (last : Scope) (behind : Path)
    → ((q : ProcId) → stands_under (Proc q) last ≡ true) → ((q : ProcId) (l : LineId) → stands_under (Inline q l) last ≡ true)
    → leads_to_statement last behind ≡ true → leads_to_statement (Inline p line) (map (λ i. Inline i.0 i.1) inlines ++ last ∷ behind) ≡ true
inlines_lead p line [] last behind under below e = and_from (stands_under (Inline p line) last) (leads_to_statement last behind) (below p line) e
inlines_lead p line (i ∷ inlines) last behind under below e = inlines_lead i.0 i.1 inlines last behind under below e

frame_leads : (p : ProcId) (inlines : List (ProcId × LineId)) (last : Scope) (behind : Path)
    → ((q : ProcId) → stands_under (Proc q) last ≡ true) → ((q : ProcId) (l : LineId) → stands_under (Inline q l) last ≡ true)
    → leads_to_statement last behind ≡ true → leads_to_statement (Proc p) (map (λ i. Inline i.0 i.1) inlines ++ last ∷ behind) ≡ true
frame_leads p [] last behind under below e = and_from (stands_under (Proc p) last) (leads_to_statement last behind) (under p) e
frame_leads p (i ∷ inlines) last behind under below e = inlines_lead i.0 i.1 inlines last behind under below e

module _ (found_at : ℕ → FoundAt) where
  innermost : (above : Scope) (pc : ℕ) → ((p : ProcId) → stands_under above (Proc p) ≡ true) → leads_to_statement above (frame_scopes Stmt (found_at pc)) ≡ true
  innermost above pc under =
      let f : FoundAt = found_at pc in
      and_from (stands_under above (Proc f.procedure)) _ (under f.procedure) (frame_leads f.procedure f.inlines (Stmt f.line) [] (λ q. refl) (λ q l. refl) refl)

  calls_lead : (above : Scope) (callers : List ℕ) (pc : ℕ) → ((p : ProcId) → stands_under above (Proc p) ≡ true)
      → leads_to_statement above (flat_map (λ caller. frame_scopes Call (found_at caller)) callers ++ frame_scopes Stmt (found_at pc)) ≡ true
  calls_lead above [] pc under = innermost above pc under
  calls_lead above (caller ∷ callers) pc under =
      let f : FoundAt = found_at caller in
      let calls : Path = flat_map (λ caller. frame_scopes Call (found_at caller)) callers in
      let stmt : Path = frame_scopes Stmt (found_at pc) in
      let rest : leads_to_statement (Call f.line) (calls ++ stmt) ≡ true = calls_lead (Call f.line) callers pc (λ p. refl) in
      let parts : (frame_scopes Call f ++ calls) ++ stmt ≡ Proc f.procedure ∷ (map (λ i. Inline i.0 i.1) f.inlines ++ Call f.line ∷ (calls ++ stmt)) =
      append_assoc (frame_scopes Call f) calls stmt ∙ ap (λ (p : Path). Proc f.procedure ∷ p) (append_assoc (map (λ i. Inline i.0 i.1) f.inlines) (Call f.line ∷ []) (calls ++ stmt)) in
      ap (leads_to_statement above) parts
      ∙ and_from (stands_under above (Proc f.procedure)) _ (under f.procedure) (frame_leads f.procedure f.inlines (Call f.line) (calls ++ stmt) (λ q. refl) (λ q l. refl) rest)

  pcs_lead : (root : RootKind) (pcs : List ℕ) → 0 < length pcs → is_call_path (expansion found_at root pcs) ≡ true
  pcs_lead root [] some = absurd (omega arith)
  pcs_lead root (pc ∷ callers) some = calls_lead (Root root) (reverse callers) pc (λ p. refl)

  pub expanded : (raw : Raw) → 0 < length raw.frames → is_call_path (call_path found_at raw) ≡ true
  expanded raw some = (let long = length-map raw.frames pc_of in pcs_lead (root_of raw.end) (map pc_of raw.frames) (omega (arith, long, some)))

-- ---- what holds of paths holds of those that a content of them has

none_counted : {X : Type 0} (test : X → Bool) (xs : List X) → All (λ x. test x ≡ true) xs → count_by (λ x. not (test x)) xs ≡ 0
none_counted test [] all = refl
none_counted {X} test (x ∷ xs) all =
    let first = count_by-cons (λ (y : X). not (test y)) x xs in
    let here : one (not (test x)) ≡ 0 = ap (λ b. one (not b)) (All-head (λ (y : X). test y ≡ true) x xs all) in
    let rest = none_counted test xs (All-tail (λ (y : X). test y ≡ true) x xs all) in
    omega (arith, first, here, rest)

all_pass : {X : Type 0} (test : X → Bool) (xs : List X) → count_by (λ x. not (test x)) xs ≡ 0 → All (λ x. test x ≡ true) xs
all_pass {X} test [] none = All-nil (λ (y : X). test y ≡ true)
all_pass {X} test (x ∷ xs) none =
    let first = count_by-cons (λ (y : X). not (test y)) x xs in
    let here : one (not (test x)) ≡ 0 = omega (arith, first, none) in
    let rest : count_by (λ (y : X). not (test y)) xs ≡ 0 = omega (arith, first, none) in
    All-cons (λ (y : X). test y ≡ true) x xs (passes (test x) here) (all_pass test xs rest)
  where
    passes : (b : Bool) → one (not b) ≡ 0 → b ≡ true
    passes true e = refl
    passes false e = absurd (omega arith)

all_alike : {X : Type 0} (test : X → Bool) (xs ys : List X) → Alike xs ys → All (λ x. test x ≡ true) ys → All (λ x. test x ≡ true) xs
all_alike test xs ys alike all = all_pass test xs (alike.same (λ x. not (test x)) ∙ none_counted test ys all)

-- ---- the content

three_each : {X Y : Type 0} (f : X → List Y) → ((x : X) → length (f x) ≡ 3) → (xs : List X) → length (flat_map f xs) ≡ 3 * length xs
three_each f long [] = omega arith
three_each f long (x ∷ xs) =
    let first = long x in
    let rest = three_each f long xs in
    let both = length-append (f x) (flat_map f xs) in
    omega (arith, first, rest, both)

numbered_length : {X : Type 0} (a : ℕ) (xs : List X) → length (enumerate_from a xs) ≡ length xs
numbered_length a [] = refl
numbered_length a (x ∷ xs) = (let rest = numbered_length (a + 1) xs in omega (arith, rest))

list_short : (period : ℕ → ℕ) (ps : List ColumnPath) (column : ℕ) → length (profile_entries period ps column) ≤ 3 * length (nodes ps)
unfolding profile_entries
list_short period ps column =
    let all : List ProfileEntry = flat_map (node_values period ps column) (enumerate_from 0 (nodes ps)) in
    let kept = length-filter (λ (e : ProfileEntry). not (e.value == 0)) all in
    let few = count_by-le-length (λ (e : ProfileEntry). not (e.value == 0)) all in
    let three = three_each (node_values period ps column) (λ n. refl) (enumerate_from 0 (nodes ps)) in
    let many = numbered_length 0 (nodes ps) in
    omega (arith, kept, few, three, many)

-- the last scope of a path's part is among the path's
last_there : (P : Scope → Type 0) (n : Path) (rest : Path) → 0 < length n → All P (n ++ rest) → P (own_scope n)
last_there P [] rest some all = absurd (omega arith)
last_there P (s ∷ []) rest some all = All-head P s rest all
last_there P (s ∷ t ∷ n) rest some all = last_there P (t ∷ n) rest (omega arith) (All-tail P s (t ∷ n ++ rest) all)

module _ (events : List EventPeriod) (runs : List ℕ) (naming : Naming) (ps : List ColumnPath) (s : AreEventsStored events runs naming ps) where
  few : length (nodes ps) ≤ no_parent
  few = (let nodes = s.few_nodes in omega (arith, nodes))

  some_path : (p : Path) → is_call_path p ≡ true → 0 < length p
  some_path [] e = absurd (true≢false (sym e))
  some_path (s ∷ p) e = omega arith

  some : All (λ p. 0 < length p.path) ps
  some = All-weaker (λ (p : ColumnPath). is_call_path p.path ≡ true) (λ p. 0 < length p.path) (λ p e. some_path p.path e) ps s.call_paths

  scopes_few : All (λ n. HasWordNumbers (own_scope n)) (nodes ps)
  scopes_few i d lt =
      let n : Path = get_or (nodes ps) i d in
      let p = node_is_prefix ps n (Contains-get_or (nodes ps) i d lt) in
      last_there HasWordNumbers n p.2.rest p.2.some (subst (All HasWordNumbers) p.2.parts (All-contains (λ (p : ColumnPath). All HasWordNumbers p.path) ps p.0 s.scopes p.1))

  abbrev made : EventContent
  made = event_content_of events runs naming ps

  profile : IsEventProfile made
  profile =
      let small = few_columns (length events) runs (few_events events s.are_events) s.few_runs (λ i d lt. (s.harts i d lt).1) in
      profile_of_event_paths events runs naming ps s.are_events s.some_runs s.harts (omega (arith, small)) few some s.below s.few_samples

  pub event_content_stored : IsEventStored made
  unfolding event_content_of
  event_content_stored =
      let nodes_few = s.few_nodes in
      let long = nodes_listed ps in
      let period : ℕ → ℕ = period_of_column (periods_of events) in
      let columns : ℕ = columns_of (length events) runs in
      record {
        profile = profile;
        few_runs = s.few_runs;
        periods = s.small_periods;
        nodes = omega (arith, long, nodes_few);
        lists = All-map (λ (list : List ProfileEntry). IsWord (length list)) (profile_entries period ps) (columns_below columns)
            (λ i d lt. (let short = list_short period ps (get_or (columns_below columns) i d) in omega (arith, short, nodes_few)));
        paths = all_alike (λ (p : ColumnPath). is_call_path p.path) (event_paths_of made) ps (event_paths_alike events runs naming ps s.are_events few some s.below) s.call_paths;
        scopes = All-map (λ (n : Node). HasWordNumbers n.scope) _ (nodes ps) scopes_few;
        procs = All-map IsNamed _ (procs_used (nodes ps)) (λ i d lt. record { short = s.procs (get_or (procs_used (nodes ps)) i d); nameless = λ e. ap naming.proc_name e ∙ s.nameless });
        files = All-map (λ (f : FileName). IsShort f.name) _ (files_used (nodes ps)) (λ i d lt. s.files (get_or (files_used (nodes ps)) i d).0 (get_or (files_used (nodes ps)) i d).1);
      }

  -- it is read as it was written, and has each event's table
  pub event_content_read : events_in (events_spelling made) ≡ Ok made
  event_content_read = stored_read made event_content_stored

  pub event_content_tabled : (place : ℕ) → place < length events → IfOk (events_in (events_spelling made)) (λ c. content_table (content_of_event c place)
      ≡ top_down (period_at events place) (sum runs) naming (paths_of_event (length events) place ps))
  event_content_tabled place inside =
      subst (λ r. IfOk r (λ c. content_table (content_of_event c place) ≡ top_down (period_at events place) (sum runs) naming (paths_of_event (length events) place ps))) (sym event_content_read)
      (event_table events runs naming ps s.are_events few some s.below place inside)

-- ---- of retired alone

module _ (period columns : ℕ) (naming : Naming) (ps : List ColumnPath) (s : AreStored period columns naming ps) where
  abbrev retired : EventPeriod
  retired = record { event = Retired; period = period }

  abbrev one_run : List ℕ
  one_run = columns ∷ []

  all_columns : columns ≡ columns_of 1 one_run
  all_columns = omega arith

  as_events : AreEventsStored (retired ∷ []) one_run naming ps
  as_events = record {
    are_events = record {
      some = omega arith;
      ascending = tt;
      periods = All-cons (λ (e : EventPeriod). 1 ≤ e.period) retired [] s.some_period (All-nil (λ (e : EventPeriod). 1 ≤ e.period));
    };
    small_periods = All-cons (λ (e : EventPeriod). IsWord e.period) retired [] s.small_period (All-nil (λ (e : EventPeriod). IsWord e.period));
    some_runs = omega arith;
    few_runs = omega arith;
    harts = All-cons (λ (h : ℕ). (0 < h) × (h ≤ most_harts)) columns [] (s.some_columns, s.most_harts) (All-nil (λ (h : ℕ). (0 < h) × (h ≤ most_harts)));
    below = subst (λ (n : ℕ). All (λ p. p.column < n) ps) all_columns s.below;
    few_samples = s.few_samples;
    few_nodes = s.few_nodes;
    call_paths = s.call_paths;
    scopes = s.scopes;
    procs = s.procs;
    nameless = s.nameless;
    files = s.files;
  }

  single_same : single_content (made (retired ∷ []) one_run naming ps as_events) ≡ content_of period columns naming ps
  single_same =
      let all : sum one_run ≡ columns = omega arith in
      single_made retired one_run naming ps ∙ ap (λ (n : ℕ). content_of period n naming ps) all

  retired_alone : (made (retired ∷ []) one_run naming ps as_events).events ≡ retired ∷ []
  unfolding event_content_of
  retired_alone = refl

  one_run_alone : length (made (retired ∷ []) one_run naming ps as_events).runs ≡ 1
  unfolding event_content_of
  one_run_alone = refl

  pub content_stored : IsStored (content_of period columns naming ps)
  content_stored =
      subst IsStored single_same
      (stored_single (made (retired ∷ []) one_run naming ps as_events) period retired_alone one_run_alone (event_content_stored (retired ∷ []) one_run naming ps as_events))

  -- it is read as it was written, and has the paths' table
  pub content_read : database_in (database_spelling (content_of period columns naming ps)) ≡ Ok (content_of period columns naming ps)
  content_read = stored_one_read (content_of period columns naming ps) content_stored

  pub content_tabled : IfOk (database_in (database_spelling (content_of period columns naming ps))) (λ c. content_table c ≡ top_down period columns naming ps)
  content_tabled =
      let e = as_events in
      subst (λ r. IfOk r (λ c. content_table c ≡ top_down period columns naming ps)) (sym content_read)
      (table_is period columns naming ps s.some_period (few (retired ∷ []) one_run naming ps e) (some (retired ∷ []) one_run naming ps e) s.below)
