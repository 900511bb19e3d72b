use Rattle.std.proofs.Common.{rules, ◌≡◌, ◌+◌, ◌++◌, ◌∷◌, [], ℕ, List, take, ap, sym, ◌∙◌, arith}
use Rattle.core.specs.Mem.Slots.{slots_items}
use Rattle.stripe_table.specs.declared.stripe.Stripe.{Stripe}
use Rattle.stripe_table.proofs.Sums.{take_there}
use Rattle.stripe_table.proofs.ends.gather.Goals as goal

pub loop-i-preserved : goal.loop-i-preserved
loop-i-preserved c = let o = c.take.ensures.others in let inv = c.loop-i.invariant in let p = c.push_reserved.ensures in let i : ℕ = c.loop-i.i in
    let xs : List Stripe = slots_items c.loop-i.closed.slots in let same : slots_items c.take.new.self.slots ≡ xs = o.0 in let more = take_there xs i c.take.result c.take.ensures.value in (
      search rules,
      search rules,
      o.2 ∙ inv.2,
      same ∙ inv.3,
      p.items ∙ (ap (λ (l : List Stripe). l ++ c.take.result ∷ []) inv.4 ∙ (sym more ∙ ap (take (i + 1)) (sym same))),
      search rules,
      (let t = c.loop-i-test.true in let n = inv.2 in omega arith),
    )
