use Rattle.std.proofs.Common.{◌≡◌, ◌-◌, ◌<◌, ℕ, Some, length, sym, subst, arith}
use Rattle.std.specs.Prelude.{slice_get}
use Rattle.std.proofs.lemmas.Option.{slice_get_within, get_or_from_slice_get}
use Rattle.scope_find.specs.private.Spans.{item_at, no_item}
use Rattle.scope_find.specs.private.KnownPlaces.{IsReadOut}
use Rattle.scope_find.proofs.ReadingOut.{read_first, next_out, node_read, read_all}
use Rattle.scope_find.proofs.places.inlines_out.Goals as goal

pub loop-left-init : goal.loop-left-init
loop-left-init c = read_first c.args.structure.now c.args.calls.now c.args.call c.args.levels c.new-inlines.result.items c.requires c.new-inlines.ensures.items

pub node_at-node-requires-clause-some : goal.node_at-node-requires-clause-some
node_at-node-requires-clause-some c = (next_out c.args.structure.now c.args.calls.now c.args.call c.loop-left.at c.loop-left.left c.loop-left.inlines.items c.loop-left-test.true c.loop-left.invariant).node.some

pub node_at-node-requires-clause-there : goal.node_at-node-requires-clause-there
node_at-node-requires-clause-there c =
    let n = next_out c.args.structure.now c.args.calls.now c.args.call c.loop-left.at c.loop-left.left c.loop-left.inlines.items c.loop-left-test.true c.loop-left.invariant in
    let lt : c.loop-left.at - 1 < length c.args.calls.now = slice_get_within c.args.calls.now (c.loop-left.at - 1) _ n.node.there in
    omega arith

pub subroutine-requires : goal.subroutine-requires
subroutine-requires c =
    let n = next_out c.args.structure.now c.args.calls.now c.args.call c.loop-left.at c.loop-left.left c.loop-left.inlines.items c.loop-left-test.true c.loop-left.invariant in
    let r = node_read c.args.calls.now c.loop-left.at n.number n.outer c.node_at-node.result n.node c.node_at-node.ensures in
    subst (λ (k : ℕ). k < length c.args.structure.now.items) r.0 n.within

pub loop-left-preserved : goal.loop-left-preserved
loop-left-preserved c =
    let s = c.args.structure.now in
    let n = next_out s c.args.calls.now c.args.call c.loop-left.at c.loop-left.left c.loop-left.inlines.items c.loop-left-test.true c.loop-left.invariant in
    let r = node_read c.args.calls.now c.loop-left.at n.number n.outer c.node_at-node.result n.node c.node_at-node.ensures in
    let there : slice_get s.items n.number ≡ Some c.subroutine.result = subst (λ (k : ℕ). slice_get s.items k ≡ Some c.subroutine.result) (sym r.0) c.subroutine.ensures in
    let is : item_at s n.number ≡ c.subroutine.result = get_or_from_slice_get s.items n.number c.subroutine.result no_item there in
    subst (λ (o : ℕ). IsReadOut s c.args.calls.now c.args.call o (c.loop-left.left - 1) c.push.new.self.items) r.1 (n.then c.subroutine.result c.inline_of.result c.push.new.self.items is c.inline_of.ensures c.in_ok-push.ensures.items)

pub returns : goal.returns
returns c =
    let left : c.loop-left.left ≡ 0 = (let none = c.loop-left-test.false in omega arith) in
    read_all c.args.structure.now c.args.calls.now c.args.call c.loop-left.at c.loop-left.left c.loop-left.inlines.items c.reverse.new.self.items left c.reverse.ensures.items c.loop-left.invariant
