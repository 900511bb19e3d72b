use Rattle.std.proofs.Common.{◌≡◌, ◌≤◌, ◌++◌, All, map, option_map, drop, length}
use Rattle.command_line.specs.Words.{all_there, item_in}
use Rattle.command_line.proofs.events.all_of.Given as goal

abbrev pub invariant-loop-item : goal.invariant-loop-item
invariant-loop-item l =
    (option_map (λ rest. l.events.items ++ rest) (all_there (map item_in (map (λ item. item.now) (drop l.item-index l.items)))) ≡ all_there (map item_in (map (λ item. item.now) l.items)))
    × (length l.events.items ≡ l.item-index)
    × All (λ e. 1 ≤ e.period) l.events.items
