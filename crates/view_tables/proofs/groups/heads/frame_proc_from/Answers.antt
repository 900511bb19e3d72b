use Rattle.std.proofs.Common.{inl, inr, refl}
use Rattle.scope_types.specs.declared.scope.Scope.TheVariants.{Root, Inline, Call, Stmt}
use Rattle.view_tables.proofs.grouping.Searches.{frame_plain, frame_proc_is, frame_stops}
use Rattle.view_tables.proofs.groups.heads.frame_proc_from.Goals as goal

pub returns-in-Proc : goal.returns-in-Proc
returns-in-Proc c =
    frame_proc_is c.args.content.now c.args.heads.now c.args.number c.in_ok-here.here.now c.requires.profile c.requires.long c.in_ok-here.ensures.0 c.in_ok-here.ensures.1 c.in-Proc.id c.requires.heads c.in-Proc.is

pub returns-in-Call : goal.returns-in-Call
returns-in-Call c =
    let stopped = frame_stops c.args.content.now c.args.heads.now c.args.number c.in_ok-here.here.now c.requires.profile c.requires.long c.in_ok-here.ensures.0 c.in_ok-here.ensures.1 in
    let plain = frame_plain c.args.content.now c.args.heads.now c.args.number c.in_ok-here.here.now c.requires.profile c.requires.long c.in_ok-here.ensures.0 c.in_ok-here.ensures.1 in
    elim c.in-Call.is [
      | inl call ↦ stopped (Call call.0) c.requires.heads call.1 refl
      | inr (inl stmt) ↦ stopped (Stmt stmt.0) c.requires.heads stmt.1 refl
      | inr (inr (inl root)) ↦ plain (Root root.0) c.requires.heads root.1 refl
      | inr (inr (inr inlined)) ↦ plain (Inline inlined.0 inlined.1) c.requires.heads inlined.2 refl
    ]
