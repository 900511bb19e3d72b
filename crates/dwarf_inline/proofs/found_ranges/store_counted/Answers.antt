use Rattle.std.proofs.Common.{◌≡◌, ℕ, ◌<◌, ◌^◌, List, ◌++◌, length, take, drop, ◌-◌, sym, ap, ◌∙◌, arith}
use Rattle.std.specs.Prelude.{filter}
use Rattle.elf_image.specs.Image.{counts}
use Rattle.dwarf_inline.specs.declared.found_ranges.FoundRanges.{FoundRanges}
use Rattle.dwarf_inline.specs.private.Found.{first_start}
use Rattle.dwarf_inline.proofs.FoundRanges.{filter_few, kept_new, tail_is}
use Rattle.dwarf_inline.proofs.found_ranges.store_counted.Goals as goal

pub overflow_cast-result-then-all-saturating_sub : goal.overflow_cast-result-then-all-saturating_sub
overflow_cast-result-then-all-saturating_sub c =
    let own : List (ℕ × ℕ) = filter (λ r. counts c.args.image.now.segments r.0 r.1) c.args.all.now in
    let at : c.len-at.result ≡ length c.args.ranges.now.items = (let is = c.len-at.ensures in omega arith) in
    let tail = tail_is c.args.ranges.now.items own c.deref.result.now c.len-at.result (c.deref.ensures.value ∙ c.in_ok-push_counted.ensures) at in
    let few = filter_few (λ (r : ℕ × ℕ). counts c.args.image.now.segments r.0 r.1) c.args.all.now in
    let most = c.requires.count in
    rw tail (omega arith)

pub returns-then-all-saturating_sub-clause-stored : goal.returns-then-all-saturating_sub-clause-stored
returns-then-all-saturating_sub-clause-stored c = λ sections gives.
    let own : List (ℕ × ℕ) = filter (λ r. counts c.args.image.now.segments r.0 r.1) c.args.all.now in
    let at : c.len-at.result ≡ length c.args.ranges.now.items = (let is = c.len-at.ensures in omega arith) in
    let tail : take (length c.deref.result.now - c.len-at.result) (drop c.len-at.result c.deref.result.now) ≡ own = tail_is c.args.ranges.now.items own c.deref.result.now c.len-at.result (c.deref.ensures.value ∙ c.in_ok-push_counted.ensures) at in
    let f : FoundRanges = record { at = c.len-at.result; count = length (take (length c.deref.result.now - c.len-at.result) (drop c.len-at.result c.deref.result.now)); first = c.first_start.result } in
    let most = c.requires.count in
    let bound = filter_few (λ (r : ℕ × ℕ). counts c.args.image.now.segments r.0 r.1) c.args.all.now in
    let few : f.count < 2 ^ 31 = omega (arith, ap length tail) in
    rw c.in_ok-push_counted.ensures (kept_new sections c.args.image.now.segments c.args.ranges.now.items own c.args.sources.now.items f at c.if-at.true (ap length tail) (c.first_start.ensures ∙ ap first_start tail) few)

pub store_ranges-requires-clause-count : goal.store_ranges-requires-clause-count
store_ranges-requires-clause-count c =
    let few = filter_few (λ (r : ℕ × ℕ). counts c.args.image.now.segments r.0 r.1) c.args.all.now in
    let most = c.requires.count in
    rw (c.as_slice.ensures.value, c.in_ok-push_counted-2.ensures, c.new-own.ensures.items) (omega arith)

pub returns-clause-stored : goal.returns-clause-stored
returns-clause-stored c = λ sections gives.
    let own : List (ℕ × ℕ) = filter (λ r. counts c.args.image.now.segments r.0 r.1) c.args.all.now in
    let is : c.as_slice.result.now ≡ own = c.as_slice.ensures.value ∙ c.in_ok-push_counted-2.ensures ∙ ap (λ (rs : List (ℕ × ℕ)). rs ++ own) c.new-own.ensures.items in
    let st = c.store_ranges.ensures.stored sections c.args.image.now.segments (ap (filter (λ (r : ℕ × ℕ). counts c.args.image.now.segments r.0 r.1)) gives ∙ sym is) in
    rw is at st
