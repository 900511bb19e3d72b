-- The frames of both sections as one are the frame descriptions of both.
use Rattle.std.proofs.Common.{◌≡◌, ℕ, zero, suc, ◌+◌, ◌*◌, ◌≤◌, ◌<◌, ◌^◌, Bool, true, false, cond, List, [], ◌∷◌, ◌++◌, length, length-append, drop, map, Option, Some, None, Result, Ok, Err, inl, inr, refl, sym, ap, ap₂, subst, ◌∙◌, arith}
use Rattle.std.specs.Prelude.{All}
use Rattle.std.specs.List.{filter_map, flat_map}
use Rattle.std.proofs.lemmas.List.{append-nil, map-append}
use Rattle.std.proofs.lemmas.List.Elements.{filter_map-append}
use Rattle.std.proofs.Math.Path.{fun_ext}
use Rattle.std.proofs.Math.Seq.{drop-append_seam}
use Rattle.prof_bytes.specs.Outcome.{viewed}
use Rattle.prof_bytes.specs.Number.{IsBytes}
use Rattle.address_ranges.specs.declared.ranges.AddressRange.{AddressRange}
use Rattle.elf_image.specs.declared.part.Segment.{Segment}
use Rattle.cfi_table.specs.declared.fault.FrameFault.{FrameFault}
use Rattle.cfi_table.specs.declared.extent.Extent.{Extent}
use Rattle.cfi_table.specs.declared.extent.ZeroLength.TheVariants.{PassedOver}
use Rattle.cfi_table.specs.declared.fde.Fde.{Fde}
use Rattle.cfi_table.specs.declared.rules.Rules.{Rules}
use Rattle.cfi_table.specs.Entries.{extents_of, at_end, read_entry, entries_of}
use Rattle.cfi_table.specs.Frames.{Frames, FrameDescription, all_ok, counted_fde, described, descriptions, frames_of, fde_range}
use Rattle.cfi_table.specs.private.Placed.{IsPlaced, AreRising}
use Rattle.cfi_table.proofs.Chains.{in_order}
use Rattle.eh_frame.specs.Entries.{EhFde, EhEntry, eh_extents, entry_of, eh_entries}
use Rattle.eh_frame.specs.Descriptions.{described_entries, eh_described, eh_counted, descriptions_of_both}
use Rattle.eh_frame.specs.Translation.{translated_offset, block_of, translated, translation, frames_with_eh}
use Rattle.eh_frame.specs.private.Adjoining.{AreAdjoining}
use Rattle.eh_frame.specs.Laws.{FramesAreOfBoth}
use Rattle.prof_bytes.proofs.Outcomes.{bind_ok, ok_same}
use Rattle.cfi_table.proofs.AllOk.{ok_append, ok_parts}
use Rattle.eh_frame.proofs.Members.{IsIn, in_back, ok_of, in_filtered}
use Rattle.eh_frame.proofs.Offsets.{Chain, chain_moved, chain_joined, chain_whole, ends_within}
use Rattle.eh_frame.proofs.Adjoining.{adjoin, eh_placed}
use Rattle.eh_frame.proofs.Kept.{Entry, FdeIn, rules_joined, entry_kept, all_kept}
use Rattle.eh_frame.proofs.Described.{Facts, FitsIn, facts_of}
use Rattle.eh_frame.proofs.Blocks.{extents_in, Laid, blocks_laid, extents_same, WasRead, was_read, few_bytes}
use Rattle.eh_frame.proofs.JoinedReads.{Same, Matches, Joined, Read, all_read}

-- ---- each section that was read

none_broken : {X : Type 0} (b : Option FrameFault) (ys : List X) → all_ok (at_end b) ≡ Ok ys → (b ≡ None) × ([] ≡ ys)
none_broken None ys e = (refl, ok_same {F = FrameFault} [] ys e)
none_broken (Some fault) ys e = absurd cc

pub record Front (section : List ℕ) (segments : List Segment) (own : Frames) : Type 0 where
  pub same : own.section ≡ section
  pub extents : List Extent
  pub is : extents_of section ≡ (extents, None)
  pub reads : List Entry
  pub read : all_ok (map (read_entry section extents) extents) ≡ Ok reads
  pub fdes : own.fdes ≡ filter_map (counted_fde segments) reads
  pub within : (x : Extent) → IsIn x extents → x.end ≤ length section

front_of : (section : List ℕ) (segments : List Segment) (own : Frames) → frames_of section segments ≡ Ok own → Front section segments own
unfolding frames_of entries_of
front_of section segments own is =
    let X : List Extent = (extents_of section).0 in
    let found = bind_ok (all_ok (map (read_entry section X) X ++ at_end (extents_of section).1)) (λ r. (let u : Result Frames FrameFault = Ok (record { section = section; fdes = filter_map (counted_fde segments) r }) in u)) own is in
    let parts = ok_parts (map (read_entry section X) X) (at_end (extents_of section).1) found.0 found.1 in
    let whole = none_broken (extents_of section).1 parts.1 parts.3 in
    let all : found.0 ≡ parts.0 = parts.4 ∙ ap (λ (ys : List Entry). parts.0 ++ ys) (sym whole.1) ∙ append-nil parts.0 in
    record {
      same = sym (ap (λ (f : Frames). f.section) (ok_same {F = FrameFault} (record { section = section; fdes = filter_map (counted_fde segments) found.0 }) own found.2));
      extents = X;
      is = ap (λ (b : Option FrameFault). (X, b)) whole.0;
      reads = parts.0;
      read = parts.2;
      fdes = sym (ap (λ (f : Frames). f.fdes) (ok_same {F = FrameFault} (record { section = section; fdes = filter_map (counted_fde segments) found.0 }) own found.2)) ∙ ap (λ (rs : List Entry). filter_map (counted_fde segments) rs) all;
      within = λ x there. ends_within PassedOver (length section) section 0 (record { offset = 0 }) x (omega arith) there;
    }

eh_front_of : (eh : List ℕ) (address : ℕ) (all : List EhEntry) → eh_entries eh address ≡ Ok all → all_ok (map (entry_of eh address (eh_extents eh).0) (eh_extents eh).0) ≡ Ok all
unfolding eh_entries
eh_front_of eh address all is =
    let X : List Extent = (eh_extents eh).0 in
    let parts = ok_parts (map (entry_of eh address X) X) (at_end (eh_extents eh).1) all is in
    let same : parts.0 ≡ all = sym (parts.4 ∙ ap (λ (ys : List EhEntry). parts.0 ++ ys) (sym (none_broken (eh_extents eh).1 parts.1 parts.3).1) ∙ append-nil parts.0) in
    parts.2 ∙ ap (λ (xs : List EhEntry). Ok xs) same

all_of : {X : Type 0} (P : X → Type 0) (xs : List X) → ((x : X) → IsIn x xs → P x) → All P xs
all_of P [] holds k d lt = absurd (omega arith)
all_of P (x ∷ xs) holds zero d lt = holds x (inl refl)
all_of P (x ∷ xs) holds (suc k) d lt = all_of P xs (λ y there. holds y (inr there)) k d (omega arith)

-- ---- both as one section

pub record Whole (section eh : List ℕ) (base : ℕ) (segments : List Segment) (own : Frames) (all : List EhEntry) : Type 0 where
  pub back : List Fde
  pub is : frames_of (section ++ flat_map (block_of base) all) segments ≡ Ok (record { section = section ++ flat_map (block_of base) all; fdes = own.fdes ++ back })
  pub matches : Matches (section ++ flat_map (block_of base) all) back (filter_map (eh_counted segments) all)

joined_reads : (joined : List ℕ) (segments : List Segment) (front back : List Extent) (reads others : List Entry) → extents_of joined ≡ (front ++ back, None) → all_ok (map (read_entry joined (front ++ back)) front) ≡ Ok reads
    → all_ok (map (read_entry joined (front ++ back)) back) ≡ Ok others
    → frames_of joined segments ≡ Ok (record { section = joined; fdes = filter_map (counted_fde segments) reads ++ filter_map (counted_fde segments) others })
unfolding frames_of entries_of
joined_reads joined segments front back reads others is read more =
    let X : List Extent = front ++ back in
    let g = read_entry joined (front ++ back) in
    let listed : all_ok (map g (front ++ back)) ≡ Ok (reads ++ others) = ap (λ (rs : List (Result Entry FrameFault)). all_ok rs) (map-append g front back) ∙ ok_append (map g front) (map g back) reads others read more in
    let whole : all_ok (map g (front ++ back) ++ []) ≡ Ok (reads ++ others) = ap (λ (rs : List (Result Entry FrameFault)). all_ok rs) (append-nil (map g (front ++ back))) ∙ listed in
    rw (is, whole, filter_map-append (counted_fde segments) reads others) refl

translated_few : (eh : List ℕ) (address base : ℕ) (all : List EhEntry) → IsBytes eh → eh_entries eh address ≡ Ok all → length (flat_map (block_of base) all) ≤ 8 * length eh
translated_few eh address base all bytes is =
    let X : List Extent = (eh_extents eh).0 in
    few_bytes eh address base (eh_extents eh).0 (flat_map (block_of base) all) bytes (adjoin eh (eh_extents eh) refl) (all_of (IsPlaced eh) (eh_extents eh).0 (λ x there. eh_placed eh x there))
    (ap (λ (r : Result (List EhEntry) FrameFault). viewed (flat_map (block_of base)) r) (eh_front_of eh address all is))

whole_of : (section eh : List ℕ) (address : ℕ) (segments : List Segment) (own : Frames) (all : List EhEntry) → length section + 8 * length eh < 2 ^ 31 → IsBytes eh → frames_of section segments ≡ Ok own → eh_entries eh address ≡ Ok all
    → Whole section eh (length section) segments own all
whole_of section eh address segments own all small bytes own_read all_are = record {
  back = filter_map (counted_fde segments) read.reads;
  is =
      joined_reads joined segments front.extents later front.reads read.reads extents_are
      (all_kept section blocks front.extents later front.extents front.reads front.within front.within front.read) read.is
      ∙ ap (λ (fs : List Fde). Ok (record { section = joined; fdes = fs ++ filter_map (counted_fde segments) read.reads })) (sym front.fdes);
  matches = read.matches;
}
  where
    base : ℕ
    base = length section

    blocks : List ℕ
    blocks = flat_map (block_of (length section)) all

    joined : List ℕ
    joined = section ++ flat_map (block_of (length section)) all

    X : List Extent
    X = (eh_extents eh).0

    front : Front section segments own
    front = front_of section segments own own_read

    listed : all_ok (map (entry_of eh address (eh_extents eh).0) (eh_extents eh).0) ≡ Ok all
    listed = eh_front_of eh address all all_are

    later : List Extent
    later = flat_map (extents_in (length section)) all

    short : length (section ++ flat_map (block_of (length section)) all) < 2 ^ 31
    short =
        let both = length-append section (flat_map (block_of (length section)) all) in
        let few = translated_few eh address (length section) all bytes all_are in
        omega arith

    adjoining : AreAdjoining 0 (map (λ (x : EhEntry). x.extent) all)
    adjoining = rw (extents_same eh address (eh_extents eh).0 (eh_extents eh).0 all listed) (adjoin eh (eh_extents eh) refl)

    was : (x : EhEntry) → IsIn x all → WasRead eh address (eh_extents eh).0 x
    was x there = was_read eh address (eh_extents eh).0 all x listed there

    facts : (x : EhEntry) → IsIn x all → Facts eh address (eh_extents eh).0 x.content × FitsIn x.extent x.content
    facts x there = facts_of eh address (eh_extents eh).0 x.extent x.content bytes (eh_placed eh x.extent (was x there).there) (was x there).content

    begins : drop (translated_offset (length section) 0) (section ++ flat_map (block_of (length section)) all) ≡ flat_map (block_of (length section)) all
    begins =
        ap (λ (n : ℕ). drop n (section ++ flat_map (block_of (length section)) all)) (let e : length section + 8 * 0 ≡ length section = omega arith in e)
        ∙ drop-append_seam section (flat_map (block_of (length section)) all)

    laid : Laid (section ++ flat_map (block_of (length section)) all) (length section) 0 all
    laid = blocks_laid (section ++ flat_map (block_of (length section)) all) (length section) 0 all short adjoining (λ x there. (facts x there).1) begins

    chain : Chain (section ++ flat_map (block_of (length section)) all) 0 (front.extents ++ flat_map (extents_in (length section)) all)
    chain =
        chain_joined (length section) section (flat_map (block_of (length section)) all) 0 (record { offset = 0 }) front.extents (flat_map (extents_in (length section)) all) (omega arith) (omega arith) front.is
        (chain_moved (section ++ flat_map (block_of (length section)) all) (translated_offset (length section) 0) (length section) (flat_map (extents_in (length section)) all) (omega arith) laid.chain)

    extents_are : extents_of (section ++ flat_map (block_of (length section)) all) ≡ (front.extents ++ flat_map (extents_in (length section)) all, None)
    extents_are = chain_whole (section ++ flat_map (block_of (length section)) all) (front.extents ++ flat_map (extents_in (length section)) all) chain

    rising : AreRising 0 (map (λ (e : Extent). e.offset) (front.extents ++ flat_map (extents_in (length section)) all))
    rising = in_order PassedOver (section ++ flat_map (block_of (length section)) all) (front.extents ++ flat_map (extents_in (length section)) all, None) (sym extents_are)

    j : Joined (section ++ flat_map (block_of (length section)) all) eh address (length section) all (eh_extents eh).0 (front.extents ++ flat_map (extents_in (length section)) all)
    j = record {
      small = small;
      bytes = bytes;
      rising = rising;
      there = λ e is. in_back e front.extents (flat_map (extents_in (length section)) all) is;
      read = listed;
      facts = λ x is. (facts x is).0;
      within = λ x is. (let p = eh_placed eh x.extent (was x is).there in let order = p.order in let inside = p.within in omega arith);
      lies = laid.lies;
    }

    read : Read (section ++ flat_map (block_of (length section)) all) segments (front.extents ++ flat_map (extents_in (length section)) all) (flat_map (extents_in (length section)) all) all
    read = all_read (section ++ flat_map (block_of (length section)) all) segments eh address (length section) all (eh_extents eh).0 (front.extents ++ flat_map (extents_in (length section)) all) all j (λ x is. is)

-- ---- the FDEs of the front have the same rules

fdes_inside : (section : List ℕ) (segments : List Segment) (own : Frames) → Front section segments own → (f : Fde) → IsIn f own.fdes → FdeIn section f
fdes_inside section segments own front f is =
    let P : List Fde → Type 0 = λ fs. IsIn f fs in
    let there = in_filtered (counted_fde segments) f front.reads (subst P front.fdes is) in
    let from = ok_of (read_entry section front.extents) front.extents front.reads there.0 front.read there.1 in
    (entry_kept section [] front.extents [] from.0 there.0 front.within (front.within from.0 from.1) from.2).1 segments f there.2

-- ---- the frame descriptions

same_description : (joined : List ℕ) (f : Fde) (g : EhFde) → Same joined f g → described joined f ≡ eh_described g
same_description joined f g same = ap₂ (λ (range : AddressRange) (rules : ℕ → Option Rules). (let d : FrameDescription = record { range = range; rules = rules } in d)) same.range (fun_ext same.rules)

back_described : (joined : List ℕ) (fs : List Fde) (gs : List EhFde) → Matches joined fs gs → map (described joined) fs ≡ map eh_described gs
back_described joined [] [] same = refl
back_described joined [] (g ∷ gs) same = absurd same
back_described joined (f ∷ fs) [] same = absurd same
back_described joined (f ∷ fs) (g ∷ gs) same = ap₂ (λ (d : FrameDescription) (ds : List FrameDescription). d ∷ ds) (same_description joined f g same.0) (back_described joined fs gs same.1)

own_described : (section behind : List ℕ) (own : List Fde) → ((f : Fde) → IsIn f own → FdeIn section f) → map (described (section ++ behind)) own ≡ map (described section) own
own_described section behind [] inside = refl
own_described section behind (f ∷ own) inside =
    ap₂ (λ (d : FrameDescription) (ds : List FrameDescription). d ∷ ds)
    (ap (λ (rules : ℕ → Option Rules). (let d : FrameDescription = record { range = fde_range f; rules = rules } in d)) (fun_ext (λ pc. rules_joined section behind pc f (inside f (inl refl)))))
    (own_described section behind own (λ g there. inside g (inr there)))

-- ---- both definitions, or their faults

pub frames_are_of_both : FramesAreOfBoth
unfolding frames_with_eh descriptions_of_both translation translated
frames_are_of_both section eh address segments small bytes = go (frames_of section segments) refl (eh_entries eh address) refl
  where
    go : (r : Result Frames FrameFault) → frames_of section segments ≡ r → (q : Result (List EhEntry) FrameFault) → eh_entries eh address ≡ q → viewed descriptions (frames_with_eh section eh address segments) ≡ descriptions_of_both section eh address segments
    go (Err fault) is q are = rw is refl
    go (Ok own) is (Err fault) are = rw (is, are) refl
    go (Ok own) is (Ok all) are =
        let whole = whole_of section eh address segments own all small bytes is are in
        let front = front_of section segments own is in
        let behind = flat_map (block_of (length section)) all in
        rw (is, are, whole.is)
        (ap (λ (ds : List FrameDescription). Ok ds) (
        map-append (described (section ++ behind)) own.fdes whole.back
        ∙ ap₂ (λ (ds es : List FrameDescription). ds ++ es) (own_described section behind own.fdes (fdes_inside section segments own front)) (back_described (section ++ behind) whole.back (filter_map (eh_counted segments) all) whole.matches)
        ∙ ap (λ (s : List ℕ). map (described s) own.fdes ++ described_entries segments all) (sym front.same)))
