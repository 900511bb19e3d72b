-- The items of a list of events, and the order of events.
use Rattle.std.proofs.Common.{◌≡◌, ℕ, ◌==◌, ◌≤◌, Bool, true, false, ◌&&◌, List, [], ◌∷◌, length, map, refl, sym, ap, ◌∙◌, arith}
use Rattle.std.proofs.lemmas.List.{length-map}
use Rattle.std.proofs.lemmas.List.Splits.{length-slice_split}
use Rattle.std.proofs.lemmas.Bool.{ltb-true}
use Rattle.scope_types.specs.declared.event.EventPeriod.{EventPeriod}
use Rattle.scope_types.specs.Events.{AreAscending, event_number}
use Rattle.command_line.specs.Words.{are_ascending, items_of}

-- a word has at least one item
pub some_items : (word : List ℕ) {A : Type 0} (read : A → List ℕ) (items : List A) → map read items ≡ items_of word → 1 ≤ length items
some_items word read items are =
    let count = sym (length-map items read) ∙ ap length are ∙ length-slice_split (λ byte. byte == 44) word in omega (arith, count)

-- events that are tested to ascend do so
pub ascend : (events : List EventPeriod) → are_ascending events ≡ true → AreAscending events
ascend [] e = tt
ascend (a ∷ []) e = tt
ascend (a ∷ b ∷ rest) e = let parts = both _ _ e in (ltb-true (event_number a.event) (event_number b.event) parts.0, ascend (b ∷ rest) parts.1)
  where
    both : (s t : Bool) → (s && t) ≡ true → (s ≡ true) × (t ≡ true)
    both true t e = (refl, e)
    both false t e = absurd cc
