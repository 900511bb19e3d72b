use Rattle.std.proofs.Common.{◌∙◌, refl, sym}
use Rattle.std.proofs.lemmas.List.{get_or_read}
use Rattle.scope_find.proofs.CallsKept.{put_same, put_new}
use Rattle.scope_find.proofs.calls.put_next.Goals as goal

pub returns-then-index-next : goal.returns-then-index-next
returns-then-index-next c =
    put_same c.args.next c.args.calls.now.all.items c.args.calls.now.latest.items c.requires.latest c.requires.before
    (sym (get_or_read c.args.calls.now.latest.items c.args.next.item c.index.result.now c.requires.there c.index.ensures 0) ∙ c.if-index-next.true)

pub returns : goal.returns
returns c = put_new c.args.next c.args.calls.now.all.items c.push.new.self.items c.args.calls.now.latest.items _ c.requires.there c.requires.latest c.requires.before c.in_ok-push.ensures.items refl
