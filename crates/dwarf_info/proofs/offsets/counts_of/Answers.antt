use Rattle.std.proofs.Common.{rules, ◌++◌, ◌∷◌, [], Bool, List, length-take, ◌≡◌, ◌∙◌, ◌<◌, ◌+◌, ◌*◌, ℕ, sym, ap, length, take, drop, min, arith, refl, length-drop, length-append}
use Rattle.std.specs.List.{filter}
use Rattle.std.proofs.lemmas.Grind.{common_steps}
use Rattle.dwarf_info.specs.private.Starts.{set_from}
use Rattle.dwarf_info.proofs.SetFlags.{set_few, block_counted, block_left, all_pushed, started}
use Rattle.dwarf_info.proofs.offsets.counts_of.Goals as goal

pub loop-rest-init : goal.loop-rest-init
unfolding set_from
loop-rest-init c = rw c.new-counts.ensures.items (record { rest = refl; count = refl; counted = λ block count e. absurd cc; starts = λ block lt. absurd (omega arith) })

pub overflow_add-count : goal.overflow_add-count
overflow_add-count c =
    let some : 0 < length c.loop-rest.rest.now = grind (arith, common_steps) in
    let front : c.split_at.result.0.now ≡ take (min 32 (length c.loop-rest.rest.now)) c.loop-rest.rest.now = search rules in
    let sum = block_counted c.args.flags.now c.loop-rest.rest.now (length c.loop-rest.counts.items) c.loop-rest.count c.count_set-count.result c.loop-rest.invariant.rest c.loop-rest.invariant.count some
    (c.count_set-count.ensures ∙ ap (λ (fs : List Bool). length (filter (λ flag. flag) fs)) front) in
    let few = set_few 0 (take (32 * (length c.loop-rest.counts.items + 1)) c.args.flags.now) in
    let long = length-take (32 * (length c.loop-rest.counts.items + 1)) c.args.flags.now in
    let most = c.requires in
    omega arith

pub loop-rest-preserved : goal.loop-rest-preserved
loop-rest-preserved c =
    let some : 0 < length c.loop-rest.rest.now = grind (arith, common_steps) in
    let front : c.split_at.result.0.now ≡ take (min 32 (length c.loop-rest.rest.now)) c.loop-rest.rest.now = search rules in
    let back : c.split_at.result.1.now ≡ drop (min 32 (length c.loop-rest.rest.now)) c.loop-rest.rest.now = search rules in
    let long = ap length c.loop-rest.invariant.rest ∙ length-drop (32 * length c.loop-rest.counts.items) c.args.flags.now in
    let pushed : c.push.new.self.items ≡ c.loop-rest.counts.items ++ c.loop-rest.count ∷ [] = grind (arith, common_steps) in
    let more : length c.push.new.self.items ≡ length c.loop-rest.counts.items + 1 = ap length pushed ∙ length-append c.loop-rest.counts.items (c.loop-rest.count ∷ []) in
    record {
      rest = back ∙ block_left c.args.flags.now c.loop-rest.rest.now (length c.loop-rest.counts.items) c.loop-rest.invariant.rest ∙ ap (λ (n : ℕ). drop (32 * n) c.args.flags.now) (sym more);
      count = block_counted c.args.flags.now c.loop-rest.rest.now (length c.loop-rest.counts.items) c.loop-rest.count c.count_set-count.result c.loop-rest.invariant.rest c.loop-rest.invariant.count some
          (c.count_set-count.ensures ∙ ap (λ (fs : List Bool). length (filter (λ flag. flag) fs)) front) ∙ ap (λ (n : ℕ). length (set_from 0 (take (32 * n) c.args.flags.now))) (sym more);
      counted = rw pushed (all_pushed (λ block count. count ≡ length (set_from 0 (take (32 * block) c.args.flags.now))) c.loop-rest.counts.items c.loop-rest.count c.loop-rest.invariant.counted c.loop-rest.invariant.count);
      starts = λ block lt. started c.args.flags.now (length c.loop-rest.counts.items) block c.loop-rest.invariant.starts (omega arith) (omega arith);
    }

pub returns : goal.returns
returns c =
    let none : length c.loop-rest.rest.now ≡ 0 = grind (arith, common_steps) in
    let long = ap length c.loop-rest.invariant.rest ∙ length-drop (32 * length c.loop-rest.counts.items) c.args.flags.now in
    record {
      counted = c.loop-rest.invariant.counted;
      starts = c.loop-rest.invariant.starts;
      blocks = omega arith;
      few = c.requires;
    }
