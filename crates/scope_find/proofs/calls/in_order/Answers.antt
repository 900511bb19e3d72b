use Rattle.std.proofs.Common.{rules, ℕ}
use Rattle.std.proofs.lemmas.List.Sorted.{answers_always}
use Rattle.scope_find.specs.declared.calls.NextCall.{NextCall}
use Rattle.scope_find.proofs.CallsFound.{sorted_calls}
use Rattle.scope_find.proofs.calls.in_order.Goals as goal

pub returns : goal.returns
returns c =
    let key : NextCall → ℕ × ℕ = λ n. (n.item, n.start) in
    record {
      moved = c.sort_unstable_by_key.ensures.permutation;
      in_order = sorted_calls c.sort_unstable_by_key.new.self.items (c.sort_unstable_by_key.ensures.sorted key (answers_always _ _ _ (λ f a r g called. search rules)));
    }
