use Rattle.std.proofs.Common.{rules, ℕ, ◌<◌, List, [], ◌++◌, length, get_or, map, Option, refl, sym, ap, ◌∙◌, arith}
use Rattle.std.specs.List.{filter_map, cons_option}
use Rattle.std.proofs.lemmas.List.{append-nil}
use Rattle.std.proofs.lemmas.List.Elements.{All-push, filter_map-append}
use Rattle.prof_bytes.specs.Outcome.{FailsBy, viewed}
use Rattle.prof_bytes.specs.declared.fail.Fail.{Fail}
use Rattle.prof_bytes.specs.declared.fail.Fail.TheVariants as fails
use Rattle.elf_image.specs.declared.part.Segment.{Segment}
use Rattle.cfi_table.specs.declared.extent.Extent.{Extent}
use Rattle.cfi_table.specs.declared.fault.FrameFault.{FrameFault}
use Rattle.cfi_table.specs.declared.fde.Fde.{Fde}
use Rattle.cfi_table.specs.Entries.{read_entry}
use Rattle.cfi_table.specs.Frames.{all_ok, counted_fde}
use Rattle.cfi_table.specs.private.Placed.{IsFdeIn}
use Rattle.cfi_table.proofs.AllOk.{Reads, reads_more, reads_fault, reads_all}
use Rattle.cfi_table.proofs.Entries.{counted_in}
use Rattle.cfi_table.proofs.Rising.{find_there}
use Rattle.cfi_table.proofs.entry.counted_fdes.Goals as goal
use Rattle.cfi_table.proofs.entry.counted_fdes.Goals.{in-Some+in_ok-push, in_default}

abbrev none : Extent
none = record { offset = 0; end = 0 }

fails_at : (section : List ℕ) (extents : List Extent) (segments : List Segment) (k : ℕ) (fail : Fail FrameFault) (fdes : List Fde) → k < length extents
    → FailsBy fail (read_entry section extents (get_or extents k none)) → Reads (read_entry section extents) (filter_map (counted_fde segments)) extents k fdes
    → FailsBy fail (viewed (filter_map (counted_fde segments)) (all_ok (map (read_entry section extents) extents)))
fails_at section extents segments k (fails.Memory memory) fdes lt is kept = tt
fails_at section extents segments k (fails.Fault fault) fdes lt is kept = reads_fault (read_entry section extents) (filter_map (counted_fde segments)) extents k none fault fdes lt is kept

pub loop-extent-init : goal.loop-extent-init
loop-extent-init c = record {
  reads = record { found = []; read = refl; made = c.new-fdes.ensures.items };
  within = rw c.new-fdes.ensures.items (λ k d lt. absurd (omega arith));
}

pub loop-extent-preserved : goal.loop-extent-preserved
loop-extent-preserved c =
    let segments = c.args.image.now.segments in
    let own = find_there (λ (e : Extent). e.offset) 0 c.args.extents.now c.loop-extent.extent-index none _ c.requires.order c.loop-extent-test.true refl in
    let is = c.in_ok-entry.ensures.entry c.args.extents.now own c.requires.cies in
    let more = reads_more (read_entry c.args.section.now c.args.extents.now) (filter_map (counted_fde segments)) c.args.extents.now c.loop-extent.extent-index none c.in_ok-entry.entry c.loop-extent.fdes.items in
    elim c.match-counted.branch [
      | in-Some+in_ok-push w ↦ rw w.fdes-is (record {
        reads = more _ (filter_map-append (counted_fde segments)) c.loop-extent-test.true is
            (w.in_ok-push.ensures.items ∙ ap (λ (o : Option Fde). c.loop-extent.fdes.items ++ cons_option o []) w.in-Some.ensures) c.loop-extent.invariant.reads;
        within = rw w.in_ok-push.ensures.items (All-push (IsFdeIn c.args.section.now) c.loop-extent.fdes.items w.in-Some.fde c.loop-extent.invariant.within (counted_in c.args.section.now segments c.in_ok-entry.entry w.in-Some.fde w.in-Some.ensures c.in_ok-entry.ensures.within));
      })
      | in_default w ↦ rw w.fdes-is (record {
        reads = more c.loop-extent.fdes.items (filter_map-append (counted_fde segments)) c.loop-extent-test.true is
            (sym (append-nil c.loop-extent.fdes.items) ∙ ap (λ (o : Option Fde). c.loop-extent.fdes.items ++ cons_option o []) w.in_default.ensures) c.loop-extent.invariant.reads;
        within = c.loop-extent.invariant.within;
      })
    ]

pub returns-in_err-entry-clause-fdes : goal.returns-in_err-entry-clause-fdes
returns-in_err-entry-clause-fdes c =
    let own = find_there (λ (e : Extent). e.offset) 0 c.args.extents.now c.loop-extent.extent-index none _ c.requires.order c.loop-extent-test.true refl in
    let failed : FailsBy c.in_err-entry.field-0.0 (viewed (filter_map (counted_fde c.args.image.now.segments)) (all_ok (map (read_entry c.args.section.now c.args.extents.now) c.args.extents.now))) =
    fails_at c.args.section.now c.args.extents.now c.args.image.now.segments c.loop-extent.extent-index c.in_err-entry.field-0.0 c.loop-extent.fdes.items c.loop-extent-test.true
    (c.in_err-entry.ensures.entry c.args.extents.now own c.requires.cies) c.loop-extent.invariant.reads in
    search rules

pub returns-clause-fdes : goal.returns-clause-fdes
returns-clause-fdes c = reads_all (read_entry c.args.section.now c.args.extents.now) (filter_map (counted_fde c.args.image.now.segments)) c.args.extents.now c.loop-extent.extent-index c.loop-extent.fdes.items c.loop-extent-test.false c.loop-extent.invariant.reads
