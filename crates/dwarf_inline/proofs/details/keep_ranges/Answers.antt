use Rattle.std.proofs.Common.{◌≡◌, ℕ, List, refl, sym, ◌∙◌, subst}
use Rattle.std.specs.Prelude.{filter}
use Rattle.elf_image.specs.Image.{counts}
use Rattle.dwarf_info.specs.Ranges.{ranges_of, source_ranges}
use Rattle.dwarf_inline.specs.Structure.{counted_ranges}
use Rattle.dwarf_inline.specs.private.Found.{AreKnown, IsStored, Store, store_of, stored}
use Rattle.dwarf_inline.proofs.FoundRanges.{known_stay, read_known}
use Rattle.dwarf_inline.proofs.details.keep_ranges.Goals.{in-Listed+in_ok-note_list, in_default}
use Rattle.dwarf_inline.proofs.details.keep_ranges.Goals as goal

pub returns : goal.returns
returns c =
    let info = c.args.entry.now.info in
    let image = c.args.image.now in
    let s : Store = store_of info.sections image.segments c.args.store.now in
    let t : Store = stored info.sections image.segments c.store_counted.new.ranges.items c.store_counted.new.sources.items in
    let all : c.pairs.result.now ≡ ranges_of info c.args.entry.now.index = c.pairs.ensures ∙ c.in_ok-all.ensures.ranges in
    let gives : source_ranges info.sections c.in_ok-all.source ≡ c.pairs.result.now = c.in_ok-all.ensures.source ∙ sym all in
    let st : IsStored s c.in_ok-found.found (counted_ranges info image c.args.entry.now.index) t =
    subst (λ (rs : List (ℕ × ℕ)). IsStored s c.in_ok-found.found (filter (λ r. counts image.segments r.0 r.1) rs) t) all (c.in_ok-found.ensures.stored info.sections gives) in
    let known : AreKnown t c.args.store.now.known.lists.items = known_stay s t c.args.store.now.known.lists.items st.grows c.requires.known in
    elim c.match-source.branch [
      | in-Listed+in_ok-note_list w ↦
          rw w.store-is (record {
            found = record {
              found = st;
              known = w.in_ok-note_list.ensures t known (read_known info image c.args.entry.now.index t w.in-Listed.place c.in_ok-found.found refl refl (c.in_ok-all.ensures.list w.in-Listed.place w.in-Listed.is) st.own);
              few = c.in_ok-found.ensures.few;
            };
          })
      | in_default w ↦ rw w.store-is (record { found = record { found = st; known = known; few = c.in_ok-found.ensures.few } })
    ]
