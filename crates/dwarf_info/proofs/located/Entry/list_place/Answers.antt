use Rattle.std.proofs.Common.{◌≡◌, ℕ, List, Some, subst}
use Rattle.dwarf_info.specs.declared.range_source.ListPlace.{ListPlace}
use Rattle.dwarf_info.specs.Queries.{EntryAt, unit_entry}
use Rattle.dwarf_info.specs.Ranges.{place_ranges, ranges_of}
use Rattle.dwarf_info.proofs.ListedRanges.{place_listed}
use Rattle.dwarf_info.proofs.located.Entry.list_place.Goals as goal

pub returns-clause-ranges : goal.returns-clause-ranges
returns-clause-ranges c =
    subst (λ (e : EntryAt). (place : ListPlace) (ranges : List (ℕ × ℕ)) → c.list_place.result ≡ Some place → place_ranges e.info.sections place ≡ Some ranges → ranges_of e.info e.index ≡ ranges)
    c.self.view_is (λ place ranges is read. place_listed c.self.inside.info.now (unit_entry c.self.inside.info.now c.self.inside.at.index) c.list_place.result place ranges c.list_place.ensures is read)
