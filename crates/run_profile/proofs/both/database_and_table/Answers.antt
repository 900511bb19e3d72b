use Rattle.std.proofs.Common.{◌≡◌, ℕ, List, length, ap, arith}
use Rattle.run_profile.proofs.Alone.{alone_both, one_alone}
use Rattle.run_profile.proofs.both.database_and_table.Goals as goal

pub into_content-content-requires-clause-one : goal.into_content-content-requires-clause-one
into_content-content-requires-clause-one g c = one_alone c.args.content.events c.requires.alone

pub returns-then-items-eq1 : goal.returns-then-items-eq1
returns-then-items-eq1 g c =
    let test = c.if-items-eq1.true in
    let same = ap (λ (l : List ℕ). length l) c.items.ensures in
    let one : length c.args.content.runs ≡ 1 = omega (arith, test, same) in
    alone_both c.args.content c.into_content-content.result c.args.text c.database_and_report.result c.requires.alone one
    (c.one_event_is_the_whole.ensures.content c.args.content c.requires.profile.own (one_alone c.args.content.events c.requires.alone)) c.into_content-content.ensures.content c.database_and_report.ensures
