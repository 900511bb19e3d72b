-- How many profiles a database may have.
use Rattle.std.proofs.Common.{◌≡◌, ℕ, ◌<◌, ◌≤◌, List, All, length, sum, refl, ap, ◌∙◌, arith}
use Rattle.scope_types.specs.Limits.{most_harts, most_runs}
use Rattle.tree_types.specs.declared.content.Content.{Content}
use Rattle.tree_types.specs.declared.content.EventContent.{EventContent}
use Rattle.tree_types.specs.OfContent.{content_of_event}
use Rattle.tree_types.specs.Database.{content_of}
use Rattle.prof_stats.specs.Stats.{most_profiles}
use Rattle.run_profile.proofs.FewRuns.{harts_few}

-- the harts of all runs
few_profiles : (runs : List ℕ) → All (λ h. (0 < h) × (h ≤ most_harts)) runs → length runs ≤ most_runs → sum runs ≤ most_profiles
few_profiles runs each few = let harts = harts_few runs each in omega (arith, harts, few)

-- the content of an event has a column for each of them
columns_are : (c : EventContent) (place : ℕ) → (content_of_event c place).columns ≡ sum c.runs
unfolding content_of
columns_are c place = refl

pub few_columns_of : (c : EventContent) (place : ℕ) → All (λ h. (0 < h) × (h ≤ most_harts)) c.runs → length c.runs ≤ most_runs → (own : Content) → own ≡ content_of_event c place → own.columns ≤ most_profiles
few_columns_of c place each few own is =
    let columns : own.columns ≡ sum c.runs = ap (λ (q : Content). q.columns) is ∙ columns_are c place in
    let most = few_profiles c.runs each few in
    omega (arith, columns, most)
