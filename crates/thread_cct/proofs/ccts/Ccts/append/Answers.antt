use Rattle.std.proofs.Common.{◌+◌, ◌<◌, ◌≤◌, arith}
use Rattle.scope_types.specs.Limits.{most_frames_in_all}
use Rattle.thread_cct.proofs.Appended.{appended_fit, appended_few, appended_many, appended_long, appended_samples, appended_frames}
use Rattle.thread_cct.proofs.ccts.Ccts.append.Goals as goal

pub invariant_of-self-2 : goal.invariant_of-self-2
invariant_of-self-2 c =
    let fits : c.self.inside.frames + c.other.inside.frames ≤ most_frames_in_all = (let test = c.if-frames-from.false in omega (arith, test)) in
    appended_fit c.self.inside.tables.items c.other.inside.tables.items _ _ _ c.self.inside.frames c.other.inside.frames c.self.view_is c.other.view_is c.self.invariant c.other.invariant c.requires.columns c.requires.few fits
    c.in_ok-append.ensures.items

pub returns-then-frames-from-clause-answer : goal.returns-then-frames-from-clause-answer
returns-then-frames-from-clause-answer c =
    let many : most_frames_in_all < c.self.inside.frames + c.other.inside.frames = (let test = c.if-frames-from.true in omega (arith, test)) in
    appended_many c.self.inside.tables.items c.other.inside.tables.items _ _ c.self.inside.tables.items c.self.inside.frames c.other.inside.frames c.self.view_is c.other.view_is c.self.invariant c.other.invariant many

pub returns-clause-answer : goal.returns-clause-answer
returns-clause-answer c =
    let fits : c.self.inside.frames + c.other.inside.frames ≤ most_frames_in_all = (let test = c.if-frames-from.false in omega (arith, test)) in
    appended_few c.self.inside.tables.items c.other.inside.tables.items _ _ _ c.self.inside.frames c.other.inside.frames c.self.view_is c.other.view_is c.self.invariant c.other.invariant fits
    c.in_ok-append.ensures.items

pub returns-clause-columns : goal.returns-clause-columns
returns-clause-columns c =
    appended_long c.self.inside.tables.items c.other.inside.tables.items _ _ _ c.self.inside.frames c.other.inside.frames c.self.view_is c.other.view_is c.self.invariant c.other.invariant
    c.in_ok-append.ensures.items

pub returns-clause-samples : goal.returns-clause-samples
returns-clause-samples c =
    appended_samples c.self.inside.tables.items c.other.inside.tables.items _ _ _ c.self.inside.frames c.other.inside.frames c.self.view_is c.other.view_is c.self.invariant c.other.invariant
    c.in_ok-append.ensures.items

pub returns-clause-frames : goal.returns-clause-frames
returns-clause-frames c =
    appended_frames c.self.inside.tables.items c.other.inside.tables.items _ _ _ c.self.inside.frames c.other.inside.frames c.self.view_is c.other.view_is c.self.invariant c.other.invariant
    c.in_ok-append.ensures.items
