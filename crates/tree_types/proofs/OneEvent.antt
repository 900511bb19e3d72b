-- Contents of one event.
use Rattle.std.proofs.Common.{◌≡◌, ◌<◌, ◌≤◌, ◌==◌, ◌%◌, ◌/◌, ◌*◌, ℕ, cond, List, [], ◌∷◌, length, map, filter, get_or, sum, refl, sym, ap, subst, ◌∙◌, arith}
use Rattle.std.proofs.lemmas.Bool.{eq-eqb}
use Rattle.std.proofs.lemmas.List.Elements.{All-cons, All-nil}
use Rattle.std.proofs.lemmas.Nat.{mod_below}
use Rattle.scope_types.specs.CallPaths.{ColumnPath}
use Rattle.scope_types.specs.Columns.{columns_of, hart_of_column, paths_of_event, period_of_column, place_of_column}
use Rattle.scope_types.specs.Events.{periods_of}
use Rattle.scope_types.specs.Limits.{most_harts, most_samples}
use Rattle.scope_types.specs.declared.event.Event.{Event}
use Rattle.scope_types.specs.declared.event.EventPeriod.{EventPeriod}
use Rattle.tree_types.specs.Database.{content_of, event_content_of, names_used, naming_in, node_list, period_at}
use Rattle.tree_types.specs.Naming.{Naming}
use Rattle.tree_types.specs.OfContent.{IsEventProfile, IsOfEventPaths, IsOfPaths, IsProfile, content_of_event, single_content, with_event}
use Rattle.tree_types.specs.PathsOf.{event_paths_of, paths_of, plane_paths}
use Rattle.tree_types.specs.Planes.{context_plane, profile_plane}
use Rattle.tree_types.specs.declared.content.Content.{Content}
use Rattle.tree_types.specs.declared.content.EventContent.{EventContent}
use Rattle.tree_types.proofs.EventParts.{own_nodes, own_profiles, own_contexts, own_names}

-- ---- columns

first_place : (column : ℕ) → column % 1 ≡ 0
first_place column = let below = mod_below column 1 (omega arith) in omega (arith, below)

pub one_period : (period : ℕ) → period_of_column (period ∷ []) ≡ (λ column. period)
one_period period = λ i column. ap (λ (k : ℕ). get_or (period ∷ []) k 0) (first_place column) i

pub one_paths : (ps : List ColumnPath) → paths_of_event 1 0 ps ≡ ps
one_paths [] = refl
one_paths (p ∷ ps) =
    let kept : List ColumnPath = filter (λ p. place_of_column 1 p.column == 0) ps in
    let hart : p.column / 1 ≡ p.column = omega arith in
    ap (λ b. map (λ (p : ColumnPath). record { column = hart_of_column 1 p.column; path = p.path }) (cond b (p ∷ kept) kept)) (eq-eqb (p.column % 1) 0 (first_place p.column))
    ∙ (λ i. record { column = hart i; path = p.path } ∷ one_paths ps i)

alone_period : (events : List EventPeriod) → length events ≡ 1 → period_of_column (periods_of events) ≡ (λ column. period_at events 0)
alone_period [] one = absurd (omega arith)
alone_period (e ∷ []) one = one_period e.period
alone_period (e ∷ f ∷ events) one = absurd (omega arith)

alone_columns : (events : ℕ) (runs : List ℕ) → events ≡ 1 → columns_of events runs ≡ sum runs
alone_columns events runs one = ap (λ (n : ℕ). sum runs * n) one ∙ omega arith

one_run : (harts : ℕ) → sum (harts ∷ []) ≡ harts
one_run harts = omega arith

-- ---- contents

pub single_is : (c : EventContent) → IsOfEventPaths c → length c.events ≡ 1 → content_of_event c 0 ≡ single_content c
unfolding content_of
single_is c own one =
    let paths : paths_of_event (length c.events) 0 (event_paths_of c) ≡ event_paths_of c = ap (λ (n : ℕ). paths_of_event n 0 (event_paths_of c)) one ∙ one_paths (event_paths_of c) in
    let profiles : profile_plane (λ column. period_at c.events 0) (sum c.runs) (event_paths_of c) ≡ c.profiles =
    (λ i. profile_plane (sym (alone_period c.events one) i) (sym (alone_columns (length c.events) c.runs one) i) (event_paths_of c)) ∙ sym (own_profiles c own) in
    let contexts : context_plane (λ column. period_at c.events 0) (sum c.runs) (event_paths_of c) ≡ c.contexts =
    (λ i. context_plane (sym (alone_period c.events one) i) (sym (alone_columns (length c.events) c.runs one) i) (event_paths_of c)) ∙ sym (own_contexts c own) in
    ap (content_of (period_at c.events 0) (sum c.runs) (naming_in c.names)) paths
    ∙ (λ i. record {
      period = period_at c.events 0;
      columns = sum c.runs;
      names = own_names c own i;
      nodes = sym (own_nodes c own) i;
      profiles = profiles i;
      contexts = contexts i;
    })

pub single_made : (e : EventPeriod) (runs : List ℕ) (naming : Naming) (ps : List ColumnPath) → single_content (event_content_of (e ∷ []) runs naming ps) ≡ content_of e.period (sum runs) naming ps
unfolding content_of event_content_of
single_made e runs naming ps = λ i. record {
  period = e.period;
  columns = sum runs;
  names = names_used naming ps;
  nodes = node_list ps;
  profiles = profile_plane (one_period e.period i) (alone_columns 1 runs refl i) ps;
  contexts = context_plane (one_period e.period i) (alone_columns 1 runs refl i) ps;
}

-- ---- a content as that of one event

pub with_paths : (event : Event) (c : Content) → event_paths_of (with_event event c) ≡ paths_of c
unfolding event_paths_of paths_of
with_paths event c = ap (λ (f : ℕ → ℕ). plane_paths f c.nodes c.profiles) (one_period c.period)

pub with_own : (event : Event) (c : Content) → IsOfPaths c → IsOfEventPaths (with_event event c)
unfolding content_of event_content_of
with_own event c own =
    let columns : columns_of 1 (c.columns ∷ []) ≡ c.columns = alone_columns 1 (c.columns ∷ []) refl ∙ one_run c.columns in
    let profiles : profile_plane (period_of_column (c.period ∷ [])) (columns_of 1 (c.columns ∷ [])) (paths_of c) ≡ c.profiles =
    (λ i. profile_plane (one_period c.period i) (columns i) (paths_of c)) ∙ ap (λ (x : Content). x.profiles) own in
    let contexts : context_plane (period_of_column (c.period ∷ [])) (columns_of 1 (c.columns ∷ [])) (paths_of c) ≡ c.contexts =
    (λ i. context_plane (one_period c.period i) (columns i) (paths_of c)) ∙ ap (λ (x : Content). x.contexts) own in
    ap (event_content_of (record { event = event; period = c.period } ∷ []) (c.columns ∷ []) (naming_in c.names)) (with_paths event c)
    ∙ (λ i. record {
      events = record { event = event; period = c.period } ∷ [];
      runs = c.columns ∷ [];
      names = ap (λ (x : Content). x.names) own i;
      nodes = ap (λ (x : Content). x.nodes) own i;
      profiles = profiles i;
      contexts = contexts i;
    })

pub with_profile : (event : Event) (c : Content) → IsProfile c → 0 < c.columns → c.columns ≤ most_harts → IsEventProfile (with_event event c)
with_profile event c profile some few = record {
  events = record {
    some = omega arith;
    ascending = tt;
    periods = All-cons (λ (e : EventPeriod). 1 ≤ e.period) (record { event = event; period = c.period }) [] (let positive = profile.period in omega (arith, positive)) (All-nil (λ (e : EventPeriod). 1 ≤ e.period));
  };
  some = omega arith;
  harts = All-cons (λ (h : ℕ). (0 < h) × (h ≤ most_harts)) c.columns [] (some, few) (All-nil (λ (h : ℕ). (0 < h) × (h ≤ most_harts)));
  columns = (let same = alone_columns 1 (c.columns ∷ []) refl in let one = one_run c.columns in omega (arith, same, one, few));
  own = with_own event c profile.own;
  samples = subst (λ (ps : List ColumnPath). length ps ≤ most_samples) (sym (with_paths event c)) profile.samples;
  nodes = profile.nodes;
}

pub with_itself : (event : Event) (c : Content) → IsOfPaths c → content_of_event (with_event event c) 0 ≡ c
with_itself event c own =
    single_is (with_event event c) (with_own event c own) refl
    ∙ (λ i. record { period = c.period; columns = one_run c.columns i; names = c.names; nodes = c.nodes; profiles = c.profiles; contexts = c.contexts })

pub ruleset one_laws = (one_period, one_paths, single_is, single_made)

pub ruleset content_laws = (with_paths, with_own, with_profile, with_itself)
