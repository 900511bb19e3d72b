-- The parts of a content of several events that is that of its own paths, and the content of each event.
use Rattle.std.proofs.Common.{◌≡◌, ◌<◌, ◌≤◌, ◌==◌, ◌*◌, ◌^◌, ℕ, zero, suc, Bool, true, false, not, All, List, [], ◌∷◌, length, count_by, sum, sum_by, refl, sym, ap, subst, ◌∙◌, arith, true≢false, nat_lt}
use Rattle.std.specs.List.{AllByRecursion}
use Rattle.std.proofs.lemmas.Bool.{lt-ltb, ltb-true, ne_eqb}
use Rattle.std.proofs.lemmas.List.{length-map}
use Rattle.std.proofs.lemmas.List.Elements.{All-cons, All-nil}
use Rattle.std.proofs.lemmas.List.FromFn.{length-map-range_with_len}
use Rattle.std.proofs.lemmas.List.Sums.{sum_by-cons}
use Rattle.scope_types.specs.Alike.{Alike}
use Rattle.scope_types.specs.CallPaths.{ColumnPath}
use Rattle.scope_types.specs.Columns.{columns_of, paths_of_event, period_of_column}
use Rattle.scope_types.specs.Events.{AreEvents, periods_of}
use Rattle.scope_types.specs.Limits.{most_harts, most_samples}
use Rattle.scope_types.specs.declared.event.EventPeriod.{EventPeriod}
use Rattle.tree_types.specs.Database.{content_of, event_content_of, names_used, naming_in, node_list, period_at}
use Rattle.tree_types.specs.Naming.{Naming}
use Rattle.tree_types.specs.NamesAscend.{NamesAscend}
use Rattle.tree_types.specs.Nodes.{nodes, no_parent}
use Rattle.tree_types.specs.OfContent.{IsEventProfile, IsOfEventPaths, IsProfile, content_of_event, content_table}
use Rattle.tree_types.specs.Paths.{Path}
use Rattle.tree_types.specs.PathsOf.{event_paths_of, paths_of, plane_paths}
use Rattle.tree_types.specs.Planes.{context_entries, context_plane, profile_entries, profile_plane}
use Rattle.tree_types.specs.TopDown.{top_down}
use Rattle.tree_types.specs.Values.{columns_below, count_below, ends_here}
use Rattle.tree_types.specs.declared.content.EventContent.{EventContent}
use Rattle.tree_types.specs.declared.content.Names.{Names}
use Rattle.tree_types.proofs.ContentParts.{as_long, profile_of_paths, used_names_ascend}
use Rattle.tree_types.proofs.Counting.{one, count_by-cons, sum_by-zero}
use Rattle.tree_types.proofs.EventPaths.{event_alike, event_below, event_count, event_nodes, event_some, event_within}
use Rattle.tree_types.proofs.NamesAgain.{content_within, each, names_again, table_is}
use Rattle.tree_types.proofs.NodeLaws.{node_is_prefix}
use Rattle.tree_types.proofs.PathsAgain.{at_column, content_alike, event_content_alike, event_paths_alike, from_all, paths_alike, period_positive, periods_positive}
use Rattle.tree_types.proofs.TreeLaws.{nodes_listed}
use Rattle.tree_types.proofs.TreeValues.{sum_same}

-- ---- the parts

abbrev period_in : EventContent → ℕ → ℕ
period_in c = period_of_column (periods_of c.events)

abbrev columns_in : EventContent → ℕ
columns_in c = columns_of (length c.events) c.runs

pub own_nodes : (c : EventContent) → IsOfEventPaths c → c.nodes ≡ node_list (event_paths_of c)
unfolding event_content_of
own_nodes c own = sym (ap (λ (x : EventContent). x.nodes) own)

pub own_profiles : (c : EventContent) → IsOfEventPaths c → c.profiles ≡ profile_plane (period_in c) (columns_in c) (event_paths_of c)
unfolding event_content_of
own_profiles c own = sym (ap (λ (x : EventContent). x.profiles) own)

pub own_contexts : (c : EventContent) → IsOfEventPaths c → c.contexts ≡ context_plane (period_in c) (columns_in c) (event_paths_of c)
unfolding event_content_of
own_contexts c own = sym (ap (λ (x : EventContent). x.contexts) own)

pub own_names : (c : EventContent) → IsOfEventPaths c → names_used (naming_in c.names) (event_paths_of c) ≡ c.names
unfolding event_content_of
own_names c own = ap (λ (x : EventContent). x.names) own

own_node_count : (c : EventContent) → IsOfEventPaths c → length c.nodes ≡ length (nodes (event_paths_of c))
own_node_count c own = ap length (own_nodes c own) ∙ nodes_listed (event_paths_of c)

pub own_list_count : (c : EventContent) → IsOfEventPaths c → length c.contexts ≡ length c.nodes
own_list_count c own =
    ap length (own_contexts c own) ∙ length-map (nodes (event_paths_of c)) (context_entries (period_in c) (columns_in c) (event_paths_of c)) ∙ sym (own_node_count c own)

pub own_column_count : (c : EventContent) → IsOfEventPaths c → length c.profiles ≡ columns_in c
own_column_count c own = ap length (own_profiles c own) ∙ length-map-range_with_len (profile_entries (period_in c) (event_paths_of c)) 0 (columns_in c)

pub own_names_ascend : (c : EventContent) → IsOfEventPaths c → NamesAscend c.names
own_names_ascend c own = subst (λ (names : Names). NamesAscend names) (own_names c own) (used_names_ascend (naming_in c.names) (event_paths_of c))

-- ---- the paths are nodes, and of the columns

none_counted : {X : Type 0} (P : X → Type 0) (bad : X → Bool) → ((x : X) → bad x ≡ false → P x) → (xs : List X) → count_by bad xs ≡ 0 → All P xs
none_counted P bad good [] none = All-nil P
none_counted {X} P bad good (x ∷ xs) none =
    let parts = count_by-cons bad x xs in
    All-cons P x xs
    (good x (not_one (bad x) (omega (arith, parts, none))))
    (none_counted P bad good xs (omega (arith, parts, none)))
  where
    not_one : (b : Bool) → one b ≡ 0 → b ≡ false
    not_one true e = absurd (omega (arith, e))
    not_one false e = refl

no_sum : {X : Type 0} (f : X → ℕ) (xs : List X) → AllByRecursion (λ x. f x ≡ 0) xs → sum_by f xs ≡ 0
no_sum f [] all = refl
no_sum f (x ∷ xs) all =
    let first = sum_by-cons f x xs in
    let here = all.0 in
    let rest = no_sum f xs all.1 in
    omega (arith, first, here, rest)

no_times : (n : ℕ) → 0 * n ≡ 0
no_times n = omega arith

-- of the paths that nodes and a plane have, none is what no node of no column is
none_bad : (period : ℕ → ℕ) (columns : ℕ) (ps : List ColumnPath) (bad : ColumnPath → Bool) → ((column : ℕ) → 0 < period column) → length (nodes ps) ≤ no_parent
    → ((column : ℕ) (n : Path) → column < columns → 0 < length n → bad (at_column column n) ≡ false) → count_by bad (plane_paths period (node_list ps) (profile_plane period columns ps)) ≡ 0
none_bad period columns ps bad positive few good =
    from_all period ps positive bad columns few
    ∙ sum_same (λ h. sum_by (λ m. one (bad (at_column h m)) * count_below ends_here ps h m) (nodes ps)) (λ h. 0) 0 columns (λ h le lt.
    no_sum (λ m. one (bad (at_column h m)) * count_below ends_here ps h m) (nodes ps)
    (each (λ m. one (bad (at_column h m)) * count_below ends_here ps h m ≡ 0) (nodes ps) (λ m there.
    ap (λ b. one b * count_below ends_here ps h m) (good h m (omega (arith, lt)) (node_is_prefix ps m there).2.some) ∙ no_times (count_below ends_here ps h m))))
    ∙ sum_by-zero (columns_below columns)

held_paths : (c : EventContent) → plane_paths (period_in c) c.nodes c.profiles ≡ event_paths_of c
unfolding event_paths_of
held_paths c = refl

own_paths : (c : EventContent) → IsOfEventPaths c → plane_paths (period_in c) (node_list (event_paths_of c)) (profile_plane (period_in c) (columns_in c) (event_paths_of c)) ≡ event_paths_of c
own_paths c own = (λ i. plane_paths (period_in c) (sym (own_nodes c own) i) (sym (own_profiles c own) i)) ∙ held_paths c

module _ (c : EventContent) (profile : IsEventProfile c) where
  few_nodes : length (nodes (event_paths_of c)) ≤ no_parent
  few_nodes = let few = profile.nodes in let same = own_node_count c profile.own in omega (arith, few, same)

  none_of : (bad : ColumnPath → Bool) → ((column : ℕ) (n : Path) → column < columns_in c → 0 < length n → bad (at_column column n) ≡ false) → count_by bad (event_paths_of c) ≡ 0
  none_of bad good =
      ap (count_by bad) (sym (own_paths c profile.own))
      ∙ none_bad (period_in c) (columns_in c) (event_paths_of c) bad (periods_positive c.events profile.events) few_nodes good

  pub own_some : All (λ p. 0 < length p.path) (event_paths_of c)
  own_some = none_counted (λ (p : ColumnPath). 0 < length p.path) (λ p. length p.path == 0) (λ p no. above (length p.path) no) (event_paths_of c) (none_of (λ p. length p.path == 0) (λ column n lt some. empty_not (length n) some))
    where
      above : (n : ℕ) → (n == 0) ≡ false → 0 < n
      above zero e = absurd (true≢false e)
      above (suc n) e = omega arith

      empty_not : (n : ℕ) → 0 < n → (n == 0) ≡ false
      empty_not n lt = ne_eqb n 0 (λ e. absurd (omega (arith, lt, e)))

  pub own_below : All (λ p. p.column < columns_in c) (event_paths_of c)
  own_below =
      none_counted (λ (p : ColumnPath). p.column < columns_in c) (λ p. not (nat_lt p.column (columns_in c))) (λ p no. inside p.column (columns_in c) no) (event_paths_of c)
      (none_of (λ p. not (nat_lt p.column (columns_in c))) (λ column n lt some. ap not (lt-ltb column (columns_in c) lt)))
    where
      not_not : (b : Bool) → not b ≡ false → b ≡ true
      not_not true e = refl
      not_not false e = absurd (true≢false e)

      inside : (m n : ℕ) → not (nat_lt m n) ≡ false → m < n
      inside m n e = ltb-true m n (not_not (nat_lt m n) e)

  -- ---- the content of an event

  module _ (place : ℕ) (inside : place < length c.events) where
    abbrev mine : List ColumnPath
    mine = paths_of_event (length c.events) place (event_paths_of c)

    mine_few : length (nodes mine) ≤ no_parent
    mine_few = let part = event_nodes (length c.events) place (event_paths_of c) in let all = few_nodes in omega (arith, part, all)

    pub event_is_profile : IsProfile (content_of_event c place)
    event_is_profile =
        let count = event_count (length c.events) place (event_paths_of c) in
        let all = profile.samples in
        profile_of_paths (period_at c.events place) (sum c.runs) (naming_in c.names) mine (period_positive c.events place profile.events inside) mine_few
        (event_some (length c.events) place (event_paths_of c) own_some) (event_below (length c.events) place c.runs (event_paths_of c) own_below) (omega (arith, count, all))

    pub event_holds_paths : Alike (paths_of (content_of_event c place)) mine
    event_holds_paths =
        paths_alike (period_at c.events place) (sum c.runs) (naming_in c.names) mine (period_positive c.events place profile.events inside) mine_few
        (event_some (length c.events) place (event_paths_of c) own_some) (event_below (length c.events) place c.runs (event_paths_of c) own_below)

pub ruleset part_laws = (own_nodes, own_profiles, own_contexts, own_list_count, own_column_count, own_names_ascend, own_some, own_below)

-- ---- the content of paths

module _ (events : List EventPeriod) (runs : List ℕ) (naming : Naming) (ps : List ColumnPath) (are : AreEvents events) (few : length (nodes ps) ≤ no_parent)
    (some : All (λ p. 0 < length p.path) ps) (below : All (λ p. p.column < columns_of (length events) runs) ps) where
  abbrev made : EventContent
  made = event_content_of events runs naming ps

  alike : Alike (event_paths_of made) ps
  alike = event_paths_alike events runs naming ps are few some below

  pub event_own : IsOfEventPaths made
  unfolding event_content_of
  event_own =
      event_content_alike events runs (naming_in (names_used naming ps)) (event_paths_of made) ps alike
      ∙ ap (λ (x : Names). record (event_content_of events runs naming ps) { names = x }) (names_again naming ps)

  pub event_profile : 0 < length runs → All (λ h. (0 < h) × (h ≤ most_harts)) runs → columns_of (length events) runs < 2 ^ 32 → length ps ≤ most_samples → IsEventProfile made
  unfolding event_content_of
  event_profile some_run harts columns samples = record {
    events = are;
    some = some_run;
    harts = harts;
    columns = columns;
    own = event_own;
    samples = (let long = as_long (event_paths_of made) ps alike in omega (arith, long, samples));
    nodes = (let long = nodes_listed ps in omega (arith, long, few));
  }

  pub event_part : (place : ℕ) → content_of_event made place ≡ content_of (period_at events place) (sum runs) naming (paths_of_event (length events) place ps)
  unfolding event_content_of
  event_part place =
      (λ i. content_alike (period_at events place) (sum runs) (naming_in (names_used naming ps)) (paths_of_event (length events) place (event_paths_of made)) (paths_of_event (length events) place ps)
      (event_alike (length events) place (event_paths_of made) ps alike) i)
      ∙ content_within (period_at events place) (sum runs) naming ps (paths_of_event (length events) place ps) (event_within (length events) place ps)

  pub event_table : (place : ℕ) → place < length events → content_table (content_of_event made place) ≡ top_down (period_at events place) (sum runs) naming (paths_of_event (length events) place ps)
  event_table place inside =
      let fewer = event_nodes (length events) place ps in
      ap content_table (event_part place)
      ∙ table_is (period_at events place) (sum runs) naming (paths_of_event (length events) place ps) (period_positive events place are inside) (omega (arith, fewer, few))
      (event_some (length events) place ps some) (event_below (length events) place runs ps below)

pub profile_of_event_paths : (events : List EventPeriod) (runs : List ℕ) (naming : Naming) (ps : List ColumnPath) → AreEvents events → 0 < length runs → All (λ h. (0 < h) × (h ≤ most_harts)) runs → columns_of (length events) runs < 2 ^ 32
    → length (nodes ps) ≤ no_parent
    → All (λ p. 0 < length p.path) ps → All (λ p. p.column < columns_of (length events) runs) ps → length ps ≤ most_samples → IsEventProfile (event_content_of events runs naming ps)
profile_of_event_paths events runs naming ps are some_run harts columns few some below samples = event_profile events runs naming ps are few some below some_run harts columns samples

pub ruleset own_laws = (event_paths_alike, event_own, event_content_alike)

pub ruleset event_laws = (event_part, event_table, event_is_profile, event_holds_paths)
