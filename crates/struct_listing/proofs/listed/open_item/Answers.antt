use Rattle.struct_listing.proofs.Opened.{opened}
use Rattle.struct_listing.proofs.listed.open_item.Goals as goal

pub returns-in_ok-push : goal.returns-in_ok-push
returns-in_ok-push c =
    opened c.args.number c.args.item c.args.ends.now.items c.close_ended.new.ends.items c.push.new.self.items c.if-item.true c.close_ended.ensures c.in_ok-push.ensures.items
