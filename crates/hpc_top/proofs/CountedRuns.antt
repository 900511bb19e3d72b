-- A run whose samples were counted, as the only one of a profile.
use Rattle.std.proofs.Common.{◌≡◌, ℕ, List, [], ◌∷◌, length, sym, ap, subst, ◌∙◌}
use Rattle.scope_types.specs.declared.event.EventPeriod.{EventPeriod}
use Rattle.scope_types.specs.Columns.{columns_of}
use Rattle.program_run.specs.declared.counting.CountedRun.{CountedRun}
use Rattle.program_run.specs.Measured.{Measured}
use Rattle.program_run.specs.Counting.{IsCount}
use Rattle.program_run.proofs.RunColumns.{own_columns}
use Rattle.run_profile.specs.Merging.{AreRuns}
use Rattle.run_profile.proofs.FewRuns.{one_of_runs}

module _ (events : List EventPeriod) (m : Measured) (run : CountedRun) (count : IsCount events m run) (runs : List ℕ) (are : runs ≡ run.harts ∷ []) where
  pub runs_here : AreRuns runs
  runs_here = subst AreRuns (sym (are ∙ ap (λ (n : ℕ). n ∷ []) count.harts)) (one_of_runs m.harts count.some count.few)

  pub columns_here : length run.ccts ≡ columns_of (length events) runs
  columns_here =
      count.columns ∙ sym (own_columns m.events m.harts) ∙ (λ i. columns_of (length (count.same i)) (sym (are ∙ ap (λ (n : ℕ). n ∷ []) count.harts) i))
