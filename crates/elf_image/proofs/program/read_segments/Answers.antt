use Rattle.std.proofs.Common.{◌≡◌, Ok, ap, refl, sym, ◌∙◌}
use Rattle.elf_image.specs.declared.fault.ElfRule.TheVariants.{SegmentPlace}
use Rattle.elf_image.specs.Headers.{load_headers, segments}
use Rattle.elf_image.specs.Refusals.{shared}
use Rattle.elf_image.specs.Reading.{refused_at, checked_all_segments}
use Rattle.elf_image.proofs.LoadHeaders.{loads_low, loads_take, loads_in_order, segments_few, both_checked, segments_are, all_within, all_apart}
use Rattle.elf_image.proofs.program.read_segments.Goals as goal

pub segments_of-requires : goal.segments_of-requires
segments_of-requires c = rw (c.deref-2.ensures.value, c.in_ok-headers.ensures) (loads_low c.args.file.now c.in_ok-check_each.ensures)

pub shared-requires-clause-low : goal.shared-requires-clause-low
shared-requires-clause-low c = rw (c.deref-3.ensures.value, c.in_ok-headers.ensures) (loads_low c.args.file.now c.in_ok-check_each.ensures)

pub shared-requires-clause-some : goal.shared-requires-clause-some
shared-requires-clause-some c = rw (c.deref-3.ensures.value, c.in_ok-headers.ensures) (loads_take c.args.file.now)

pub shared-requires-clause-ascending : goal.shared-requires-clause-ascending
shared-requires-clause-ascending c = rw (c.deref-3.ensures.value, c.in_ok-headers.ensures) (loads_in_order c.args.file.now)

-- nothing was refused
checked : (c : goal.After-drop-headers-2) → checked_all_segments c.args.file.now ≡ Ok tt
checked c =
    let is : c.shared.result ≡ shared (load_headers c.args.file.now) = c.shared.ensures ∙ rw (c.deref-3.ensures.value, c.in_ok-headers.ensures) refl in
    both_checked c.args.file.now c.in_ok-check_each.ensures (sym (ap (refused_at SegmentPlace) is) ∙ c.in_ok-refuse.ensures)

-- what was made
made : (c : goal.After-drop-headers-2) → c.in_ok-segments.segments ≡ segments c.args.file.now
made c = rw (c.in_ok-segments.ensures, c.in_ok-segments_of.ensures, c.deref-2.ensures.value, c.in_ok-headers.ensures) (segments_are c.args.file.now)

pub returns-clause-value : goal.returns-clause-value
returns-clause-value c = rw (checked c, made c) refl

pub returns-clause-within : goal.returns-clause-within
returns-clause-within c = rw (made c) (all_within c.args.file.now (checked c))

pub returns-clause-apart : goal.returns-clause-apart
returns-clause-apart c = rw (made c) (all_apart c.args.file.now (checked c))

pub returns-clause-few : goal.returns-clause-few
returns-clause-few c = rw (made c) (segments_few c.args.file.now c.requires.checked c.requires.small)
