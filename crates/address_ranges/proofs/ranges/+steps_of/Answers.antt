use Rattle.std.proofs.Common.{◌≡◌, ℕ, ◌+◌, ◌/◌, ◌++◌, List, length, Option, None, Result, Ok, Err, ap, ◌∙◌, sym, take-append-drop}
use Rattle.std.proofs.lemmas.List.{length-map, map-append}
use Rattle.std.specs.Prelude.{IfOk, map}
use Rattle.std.specs.Global.{Vec}
use Rattle.std.specs.Option.{option_or}
use Rattle.std.specs.List.{position_from}
use Rattle.address_ranges.specs.declared.ranges.AddressRange.{AddressRange}
use Rattle.address_ranges.specs.declared.ranges.Step.{Step}
use Rattle.address_ranges.specs.Ranges.{holds}
use Rattle.address_ranges.specs.private.Steps.{holder_from}
use Rattle.address_ranges.proofs.Steps.{position_append}
use Rattle.address_ranges.proofs.ranges.+steps_of.Goals as goal

-- two halves of a list of ranges, laid over one another
halves : {E : Type 0} (r : Result (Vec Step) E) (upper lower : List Step) (number : ℕ) (front back whole : List AddressRange)
    → ((address : ℕ) → holder_from None upper address ≡ position_from (holds address) number front)
    → ((address : ℕ) → holder_from None lower address ≡ position_from (holds address) (number + length front) back)
    → front ++ back ≡ whole
    → IfOk r (λ steps. (address : ℕ) → holder_from None steps.items address ≡ option_or (holder_from None upper address) (holder_from None lower address))
    → IfOk r (λ steps. (address : ℕ) → holder_from None steps.items address ≡ position_from (holds address) number whole)
halves (Ok steps) upper lower number front back whole u l parts laid = λ address.
    laid address
    ∙ ap (λ (o : Option ℕ). option_or o (holder_from None lower address)) (u address)
    ∙ ap (λ (o : Option ℕ). option_or (position_from (holds address) number front) o) (l address)
    ∙ sym (position_append (holds address) number front back)
    ∙ ap (λ (rs : List AddressRange). position_from (holds address) number rs) parts
halves (Err e) upper lower number front back whole u l parts laid = tt

pub returns-in_ok-lower-in_default-clause-holders : goal.returns-in_ok-lower-in_default-clause-holders
returns-in_ok-lower-in_default-clause-holders g t c =
    halves c.overlay.result c.deref.result.now c.deref-in_default.result.now c.args.number
    (map g.T.HasRange.range_of c.split_at.result.0.now) (map g.T.HasRange.range_of c.split_at.result.1.now) (map g.T.HasRange.range_of c.args.items.now)
    (rw c.deref.ensures.value c.in_ok-upper-in_default.ensures.holders)
    (rw (c.deref-in_default.ensures.value, length-map) c.in_ok-lower-in_default.ensures.holders)
    (sym (map-append g.T.HasRange.range_of c.split_at.result.0.now c.split_at.result.1.now)
    ∙ ap (map g.T.HasRange.range_of) (rw (c.split_at.ensures.front, c.split_at.ensures.back) (take-append-drop (length c.args.items.now / 2) c.args.items.now)))
    c.overlay.ensures.holders
