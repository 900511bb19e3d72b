-- What is made of a run's samples that were counted, planned and merged.
use Rattle.std.proofs.Common.{◌≡◌, ℕ, IsTrue, List, [], ◌∷◌, ◌++◌, length, Result, Ok, sym, ap, subst, ◌∙◌}
use Rattle.prof_bytes.specs.declared.fail.Fail.{Fail}
use Rattle.prof_bytes.specs.Outcome.{◌>>=◌, FailsBy}
use Rattle.scope_types.specs.declared.event.EventPeriod.{EventPeriod}
use Rattle.scope_find.specs.Found.{ProgramScopes}
use Rattle.stripe_table.specs.Ends.{named_paths}
use Rattle.merge_crew.specs.declared.merge.Crew.{Crew}
use Rattle.tree_types.specs.declared.content.EventContent.{EventContent}
use Rattle.tree_types.specs.OfContent.{IsEventProfile}
use Rattle.prof_db.specs.Spelling.{events_spelling}
use Rattle.command_line.specs.declared.status.InputFault.{InputFault}
use Rattle.program_run.specs.declared.counting.CountedRun.{CountedRun}
use Rattle.run_profile.specs.declared.merged.Merged.{Merged}
use Rattle.hpc_top.specs.declared.profiling.ProfiledRun.{ProfiledRun}
use Rattle.hpc_top.specs.declared.status.Made.{Made}
use Rattle.hpc_top.specs.declared.summary.RunSummary.{RunSummary}
use Rattle.run_profile.specs.Attribution.{Attributed, attributed, call_paths_of}
use Rattle.hpc_top.specs.Made.{product_in}
use Rattle.program_run.specs.Measured.{Measured, lines_of}
use Rattle.hpc_top.specs.Merged.{IsMadeOf, MakesBy}
use Rattle.run_profile.specs.Merging.{Merging}
use Rattle.command_line.specs.declared.product.Product.{Product}
use Rattle.hpc_top.specs.commands.Profile.{Profiled, product_of, profile_of, profiled, profiled_of}
use Rattle.program_run.specs.Counting.{IsCount}
use Rattle.run_profile.specs.EventTexts.{lines_of_events, tables_in}
use Rattle.run_profile.specs.Merging.{IsMergeOf, Merges}
use Rattle.hpc_top.specs.private.Profiling.{IsMadeBy, IsProfileOf, IsReportOf, IsSummaryOf, Profiles}
use Rattle.run_profile.proofs.EventTables.{tables_are}
use Rattle.run_profile.proofs.Products.{ContentsAlike, EventsAlike, TablesAlike, all_content, all_tables, attributed_as, samples_as}
use Rattle.command_line.proofs.Faults.{fails_next}

-- ---- where crews merge all

pub whole_product : (merging : Merging) (events : List EventPeriod) (made : Made) (elf input schedule : List ℕ) → IsTrue merging.whole → MakesBy merging (Ok made) (profiled_of elf input schedule events) → profile_of elf input schedule events ≡ Ok (product_in made)
unfolding profile_of
whole_product merging events made elf input schedule whole (p, is, made_of) =
    ap (λ (r : Result Profiled InputFault). r >>= λ p. Ok (product_of p)) is ∙ ap Ok (sym (made_of.whole whole))

pub refused_product : (elf input schedule : List ℕ) (events : List EventPeriod) (fail : Fail InputFault) → FailsBy fail (profiled_of elf input schedule events) → FailsBy fail (profile_of elf input schedule events)
unfolding profile_of
refused_product elf input schedule events fail refused = fails_next (λ p. Ok (product_of p)) fail (profiled_of elf input schedule events) refused

-- ---- a run's profile

module _ (scopes : ProgramScopes) (events : List EventPeriod) (m : Measured) (run : CountedRun) (count : IsCount events m run) (runs : List ℕ) (are : runs ≡ run.harts ∷ []) where
  -- what is attributed of the run, by the events and harts that are known of it
  own_attributed : attributed scopes events runs m.samples ≡ attributed scopes m.events (m.harts ∷ []) m.samples
  own_attributed = (λ i. attributed scopes (sym count.same i) ((are ∙ ap (λ (n : ℕ). n ∷ []) count.harts) i) m.samples)

  pub refused_merge : (fail : Fail InputFault) → FailsBy fail (attributed scopes events runs m.samples) → FailsBy fail (profiled scopes m)
  refused_merge fail refused =
      fails_next (λ a. Ok (record { measured = m; attributed = a })) fail (attributed scopes m.events (m.harts ∷ []) m.samples)
      (subst (FailsBy fail) own_attributed refused)

  pub profiled_is : (by : Merging) (summary : RunSummary) (r : Merged) → IsSummaryOf m summary → Merges by (Ok r) (attributed scopes events runs m.samples) → IsEventProfile r.content → length r.content.runs ≡ 1 → r.content.events ≡ events → Profiles by (Ok (record { summary = summary; merged = r })) (profiled scopes m)
  profiled_is by summary r told (a, is, merged) profile run_is events_is =
      let here : attributed scopes m.events (m.harts ∷ []) m.samples ≡ Ok a = sym own_attributed ∙ is in
      let same : a ≡ samples_as scopes m.events (m.harts ∷ []) m.samples = attributed_as scopes m.events (m.harts ∷ []) m.samples a here in (
        record { measured = m; attributed = a },
        ap (λ (r : Result Attributed InputFault). r >>= λ a. Ok (record { measured = m; attributed = a })) here,
        record {
          summary = told;
          merged = merged;
          profile = profile;
          run = run_is;
          events = events_is ∙ sym count.same;
          same_events = ap (λ (q : Attributed). q.events) same;
          same_samples = ap (λ (q : Attributed). q.samples) same;
        },
      )

-- ---- what is made of it

-- database and report of a content
pub report_is : (m : Measured) (content : EventContent) (made : Product) → made.stored ≡ events_spelling content → {before : List ℕ} {lines : List (List ℕ)} → made.text ≡ before ++ tables_in lines content → before ≡ lines_of m → lines ≡ lines_of_events m.events m.samples → IsReportOf m content made
report_is m content made database report text lines = record { database = database; report = report ∙ (λ i. text i ++ tables_in (lines i) content) }

module _ (by : Merging) (contents : ContentsAlike) (tables : TablesAlike) (each : EventsAlike) where
  -- and the lines on the run before the tables
  made_is : (p : Profiled) (r : ProfiledRun) (made : Made) → IsProfileOf by p r → IsMadeBy p.measured r.merged made → IsMadeOf by p made
  made_is p r made is parts =
      let a : Attributed = p.attributed in
      let m : Merged = record { content = r.merged.content; crew = made.crew } in
      let here : IsMergeOf by a m = subst (λ (c : Crew). IsMergeOf by a (record { content = r.merged.content; crew = c })) (sym parts.crew) is.merged in
      let lines : lines_of_events p.measured.events p.measured.samples ≡ lines_of_events a.events a.samples = (λ i. lines_of_events (sym is.same_events i) (sym is.same_samples i)) in
      let report : made.report ≡ lines_of p.measured ++ tables_in (lines_of_events a.events a.samples) m.content = parts.made_of.report ∙ ap (λ (ls : List (List ℕ)). lines_of p.measured ++ tables_in ls m.content) lines in
      record {
        gives = here.by_crew.gives;
        plan = here.by_crew.plan;
        product =
            let s = parts.made_of.database ∙ ap events_spelling here.content in
            let t = report ∙ ap (λ (text : List ℕ). lines_of p.measured ++ text) (tables_are a (named_paths made.crew.stripes) m.content here.tables) in
            λ i. record { stored = s i; text = t i };
        crew = here.by_crew.whole;
        whole = λ all_merged.
            let s = parts.made_of.database ∙ ap events_spelling (all_content by contents tables each a m here all_merged) in
            let t = report ∙ ap (λ (text : List ℕ). lines_of p.measured ++ text) (tables_are a (call_paths_of a) m.content (all_tables by contents tables each a m here all_merged)) in
            λ i. record { stored = s i; text = t i };
      }

  pub makes : (wanted : Result Profiled InputFault) (r : ProfiledRun) (made : Made) → Profiles by (Ok r) wanted → ((m : Measured) → IsSummaryOf m r.summary → IsMadeBy m r.merged made) → MakesBy by (Ok made) wanted
  makes wanted r made (p, is, profile) parts = (p, is, made_is p r made profile (parts p.measured profile.summary))
