use Rattle.std.proofs.Common.{◌≡◌, take, Some, refl, sym, ap, ◌∙◌}
use Rattle.std.specs.Prelude.{filter}
use Rattle.std.proofs.lemmas.List.{take_all}
use Rattle.std.proofs.lemmas.List.Elements.{All-push}
use Rattle.cfi_table.specs.declared.extent.Extent.{Extent}
use Rattle.cfi_table.specs.Entries.{is_cie}
use Rattle.cfi_table.specs.private.KnownCies.{Known, known, seen_cie, IsKnown}
use Rattle.cfi_table.proofs.Rising.{filter_rises}
use Rattle.cfi_table.proofs.Seen.{seen_more, seen_none, seen_rise}
use Rattle.cfi_table.proofs.known_cie.known_cies.Goals as goal
use Rattle.cfi_table.proofs.known_cie.known_cies.Goals.{then-is_cie+in_ok-cie+in_ok-push, else-is_cie}

pub loop-extent-preserved : goal.loop-extent-preserved
loop-extent-preserved c =
    let d : Extent = record { offset = 0; end = 0 } in
    elim c.if-is_cie.branch [
      | then-is_cie+in_ok-cie+in_ok-push w ↦ rw w.cies-is (record {
        each = seen_more (is_cie c.args.section.now) seen_cie (known c.args.section.now) c.args.extents.now c.loop-extent.extent-index d c.loop-extent.cies.items _ w.in_ok-cie.cie c.loop-extent-test.true w.in_ok-push.ensures.items
            (rw (sym c.is_cie.ensures ∙ w.if-is_cie.true) (ap (λ (k : Known). Some k) w.in_ok-cie.ensures.known)) c.loop-extent.invariant.each;
        are = rw w.in_ok-push.ensures.items (All-push (IsKnown c.args.section.now) c.loop-extent.cies.items w.in_ok-cie.cie c.loop-extent.invariant.are w.in_ok-cie.ensures.is);
      })
      | else-is_cie w ↦ rw w.cies-is (record {
        each = seen_none (is_cie c.args.section.now) seen_cie (known c.args.section.now) c.args.extents.now c.loop-extent.extent-index d c.loop-extent.cies.items c.loop-extent-test.true (rw (sym c.is_cie.ensures ∙ w.if-is_cie.false) refl) c.loop-extent.invariant.each;
        are = c.loop-extent.invariant.are;
      })
    ]

pub returns-clause-order : goal.returns-clause-order
returns-clause-order c =
    let all : take c.loop-extent.extent-index c.args.extents.now ≡ c.args.extents.now = take_all _ _ c.loop-extent-test.false in
    seen_rise (λ (k : Known). k.offset) seen_cie (known c.args.section.now) c.loop-extent.cies.items (filter (is_cie c.args.section.now) c.args.extents.now) (rw all at c.loop-extent.invariant.each)
    (filter_rises (λ (e : Extent). e.offset) (is_cie c.args.section.now) 0 c.args.extents.now c.requires.order)
