use Rattle.std.proofs.Common.{◌≡◌, ◌≤◌}
use Rattle.std.proofs.lemmas.Result.{IfOk-weaker}
use Rattle.prof_stats.specs.Stats.{most_profiles}
use Rattle.tree_types.specs.declared.content.Content.{Content}
use Rattle.tree_types.specs.OfContent.{content_of_event}
use Rattle.run_profile.proofs.FewProfiles.{few_columns_of}
use Rattle.run_profile.proofs.commands.stats.profiles_of.Goals as goal

pub returns-clause-columns : goal.returns-clause-columns
returns-clause-columns c =
    IfOk-weaker c.event_at.result (λ (own : Content). own ≡ content_of_event c.args.content c.args.place) (λ (own : Content). own.columns ≤ most_profiles)
    (few_columns_of c.args.content c.args.place c.requires.profile.harts c.requires.runs) c.event_at.ensures.event
