use Rattle.std.proofs.Common.{refl}
use Rattle.dwarf_inline.specs.private.Found.{store_of}
use Rattle.dwarf_inline.proofs.FoundRanges.{known_found}
use Rattle.dwarf_inline.proofs.details.find_ranges.Goals as goal

pub returns-in-Some-known_list : goal.returns-in-Some-known_list
returns-in-Some-known_list c =
    let info = c.args.entry.now.info in
    let image = c.args.image.now in
    record {
      found = known_found info image c.args.entry.now.index c.args.store.now c.in-Some.place c.in-Some-known_list.found c.requires.known
          (c.in-Some-known_list.ensures (store_of info.sections image.segments c.args.store.now) c.requires.known)
          (λ ranges read. c.in-Some.ensures.ranges c.in-Some.place ranges refl read);
    }
