use Rattle.std.proofs.Common.{◌≡◌, ◌++◌, subst}
use Rattle.std.specs.Prelude.{OnOk}
use Rattle.scope_types.specs.Expansion.{FoundAt, frame_scopes}
use Rattle.scope_expand.specs.private.Frames.{last_scope}
use Rattle.scope_expand.proofs.Keeping.{found_hit}
use Rattle.scope_expand.proofs.expander.put_frame.Goals as goal

pub returns-in-Some-clause-scopes : goal.returns-in-Some-clause-scopes
returns-in-Some-clause-scopes c =
    let hit = found_hit c.args.finder.now c.args.cache.now.kept.items c.args.pc c.in-Some.found.now c.requires c.in-Some.ensures.kept in
    subst (λ (found : FoundAt). OnOk c.put_found.result (c.put_found.new.scopes.items ≡ c.args.scopes.now.items ++ frame_scopes (last_scope c.args.kind) found)) hit c.put_found.ensures
