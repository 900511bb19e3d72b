use Rattle.std.proofs.Common.{rules, ◌≡◌, ℕ, ◌<◌, length, List, get_or, take, map, sym, ap, ◌∙◌}
use Rattle.std.specs.Prelude.{filter, option_map}
use Rattle.std.specs.List.{flat_map}
use Rattle.std.proofs.lemmas.List.Elements.{All-push}
use Rattle.prof_bytes.specs.Outcome.{FailsBy, viewed}
use Rattle.cfi_table.specs.declared.extent.Extent.{Extent}
use Rattle.cfi_table.specs.Frames.{all_ok}
use Rattle.eh_frame.specs.declared.known_eh_cie.KnownEhCie.{KnownEhCie}
use Rattle.eh_frame.specs.Entries.{is_eh_cie, is_cie_before, entry_of}
use Rattle.eh_frame.specs.Translation.{block_of}
use Rattle.eh_frame.specs.private.Adjoining.{AreAdjoining}
use Rattle.eh_frame.specs.private.Checked.{known_eh, seen_eh_cie, IsKnownEh}
use Rattle.eh_frame.proofs.Entries.{cies_rise, before_it, block_more, block_fault}
use Rattle.cfi_table.proofs.Seen.{seen_more, seen_none}
use Rattle.eh_frame.proofs.section.put_entries.Goals as goal
use Rattle.eh_frame.proofs.section.put_entries.Goals.{in-Some+in_ok-push, in_default}

abbrev none : Extent
none = record { offset = 0; end = 0 }

-- those before an entry are those that are kept
kept_before : (section : List ℕ) (extents : List Extent) (k : ℕ) (cies : List KnownEhCie) → k < length extents → AreAdjoining 0 extents
    → map seen_eh_cie cies ≡ map (known_eh section) (filter (is_eh_cie section) (take k extents)) → map seen_eh_cie cies ≡ map (known_eh section) (filter (is_cie_before section (get_or extents k none)) extents)
kept_before section extents k cies lt order each = each ∙ ap (λ (es : List Extent). map (known_eh section) es) (sym (before_it 0 extents k none (is_eh_cie section) order lt))

pub read_entry-requires-clause-rising : goal.read_entry-requires-clause-rising
read_entry-requires-clause-rising c = rw c.deref.ensures.value (cies_rise c.args.section.now c.args.extents.now c.loop-extent.extent-index c.loop-extent.cies.items c.loop-extent.invariant.each c.requires.order)

pub returns-in_err-body : goal.returns-in_err-body
returns-in_err-body c =
    let each = kept_before c.args.section.now c.args.extents.now c.loop-extent.extent-index c.loop-extent.cies.items c.loop-extent-test.true c.requires.order c.loop-extent.invariant.each in
    let failed : FailsBy c.in_err-body.field-0.0 (viewed (flat_map (block_of c.args.base)) (all_ok (map (entry_of c.args.section.now c.args.address c.args.extents.now) c.args.extents.now))) =
    block_fault c.args.section.now c.args.address c.args.base c.args.extents.now c.loop-extent.extent-index none c.in_err-body.field-0.0 c.loop-extent.out.items c.loop-extent-test.true
    (c.in_err-body.ensures.content c.args.extents.now (rw c.deref.ensures.value each)) c.loop-extent.invariant.reads in
    search rules

pub loop-extent-preserved : goal.loop-extent-preserved
loop-extent-preserved c =
    let each = kept_before c.args.section.now c.args.extents.now c.loop-extent.extent-index c.loop-extent.cies.items c.loop-extent-test.true c.requires.order c.loop-extent.invariant.each in
    let is = c.in_ok-body.ensures.content c.args.extents.now (rw c.deref.ensures.value each) in
    let reads = block_more c.args.section.now c.args.address c.args.base c.args.extents.now c.loop-extent.extent-index none c.in_ok-body.field-0.body.items c.loop-extent.out.items c.put_block.new.out.items c.loop-extent-test.true is
    (rw (c.size_of.ensures.size, c.deref-in-loop-extent.ensures.value) at c.in_ok-put_block.ensures) c.loop-extent.invariant.reads in
    elim c.match-cie-2.branch [
      | in-Some+in_ok-push w ↦ rw w.cies-is (record {
        reads = reads;
        each = seen_more (is_eh_cie c.args.section.now) seen_eh_cie (known_eh c.args.section.now) c.args.extents.now c.loop-extent.extent-index none c.loop-extent.cies.items _ w.in-Some.cie c.loop-extent-test.true w.in_ok-push.ensures.items
            (sym (ap (option_map seen_eh_cie) w.in-Some.is) ∙ c.in_ok-body.ensures.cie) c.loop-extent.invariant.each;
        are = rw w.in_ok-push.ensures.items (All-push (IsKnownEh c.args.section.now c.args.address) c.loop-extent.cies.items w.in-Some.cie c.loop-extent.invariant.are (rw w.in-Some.is at c.in_ok-body.ensures.is));
      })
      | in_default w ↦ rw w.cies-is (record {
        reads = reads;
        each = seen_none (is_eh_cie c.args.section.now) seen_eh_cie (known_eh c.args.section.now) c.args.extents.now c.loop-extent.extent-index none c.loop-extent.cies.items c.loop-extent-test.true
            (sym (ap (option_map seen_eh_cie) w.in_default.is) ∙ c.in_ok-body.ensures.cie) c.loop-extent.invariant.each;
        are = c.loop-extent.invariant.are;
      })
    ]
