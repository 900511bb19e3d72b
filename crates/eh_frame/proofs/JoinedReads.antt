-- The entries of a translation, read where it follows a section's bytes.
use Rattle.std.proofs.Common.{◌≡◌, ℕ, ◌+◌, ◌*◌, ◌≤◌, ◌<◌, ◌^◌, Bool, true, false, cond, List, [], ◌∷◌, length, map, Option, Some, None, Result, Ok, Err, inl, inr, refl, sym, ap, subst, ◌∙◌, arith}
use Rattle.std.specs.Prelude.{All, option_map}
use Rattle.std.specs.List.{filter_map, cons_option, flat_map}
use Rattle.std.specs.Option.{option_and_then}
use Rattle.prof_bytes.specs.Outcome.{◌>>=◌}
use Rattle.prof_bytes.specs.Number.{IsBytes}
use Rattle.address_ranges.specs.declared.ranges.AddressRange.{AddressRange}
use Rattle.elf_image.specs.declared.part.Segment.{Segment}
use Rattle.elf_image.specs.Image.{counts}
use Rattle.cfi_table.specs.declared.fault.FrameFault.{FrameFault}
use Rattle.cfi_table.specs.declared.extent.Extent.{Extent}
use Rattle.cfi_table.specs.declared.cie.Cie.{Cie}
use Rattle.cfi_table.specs.declared.fde.Fde.{Fde}
use Rattle.cfi_table.specs.declared.instruction.CallFrameInstruction.{CallFrameInstruction}
use Rattle.cfi_table.specs.Rules.{FrameState, no_rules, all_same_value}
use Rattle.cfi_table.specs.Entries.{is_cie, cie_at, after_cie, continued, after_fde, checked_fde, read_entry}
use Rattle.cfi_table.specs.Frames.{all_ok, counted_fde, fde_range, rules_with, rules_of, size_of}
use Rattle.cfi_table.specs.private.Placed.{AreRising}
use Rattle.eh_frame.specs.declared.cie.EhCie.{EhCie}
use Rattle.eh_frame.specs.Runs.{rules_after}
use Rattle.eh_frame.specs.Entries.{EhFde, EhEntry, EhContent, PassedOver, Common, Description, entry_content, entry_with, entry_of}
use Rattle.eh_frame.specs.Translation.{translated_offset, entry_body}
use Rattle.eh_frame.specs.Descriptions.{eh_range_of, eh_rules_with, eh_rules_from, eh_rules_of, eh_content_counted, eh_counted}
use Rattle.eh_frame.specs.Laws.{HasWordOperands}
use Rattle.eh_frame.proofs.Kept.{Entry}
use Rattle.prof_bytes.proofs.Outcomes.{ok_same}
use Rattle.cfi_table.proofs.AllOk.{cons_ok}
use Rattle.eh_frame.proofs.Members.{IsIn, in_flat, find_one, ok_in}
use Rattle.eh_frame.proofs.Described.{CommonRead, DescriptionRead, Facts, initial_rules, initial_words, cie_content}
use Rattle.eh_frame.proofs.EntriesBack.{CieBack, cie_back, cie_ran, FdeBack, fde_back, fde_ran, rules_up_to}
use Rattle.eh_frame.proofs.Blocks.{translated_extent, extents_in, LiesAt, block_body, block_within}

-- ---- an FDE, and what it says by both definitions

pub record Same (section : List ℕ) (fde : Fde) (g : EhFde) : Type 0 where
  pub range : fde_range fde ≡ eh_range_of g
  pub rules : (pc : ℕ) → rules_of section pc fde ≡ eh_rules_of pc g

abbrev pub Matches : List ℕ → List Fde → List EhFde → Type 0
Matches section [] [] = Unit {0}
Matches section [] (g ∷ gs) = ⊥
Matches section (f ∷ fs) [] = ⊥
Matches section (f ∷ fs) (g ∷ gs) = Same section f g × Matches section fs gs

-- ---- what is known of the whole

pub record Joined (section eh : List ℕ) (address base : ℕ) (all : List EhEntry) (extents es : List Extent) : Type 0 where
  pub small : base + 8 * length eh < 2 ^ 31
  pub bytes : IsBytes eh
  pub rising : AreRising 0 (map (λ e. e.offset) es)
  pub there : (e : Extent) → IsIn e (flat_map (extents_in base) all) → IsIn e es
  pub read : all_ok (map (entry_of eh address extents) extents) ≡ Ok all
  pub facts : (x : EhEntry) → IsIn x all → Facts eh address extents x.content
  pub within : (x : EhEntry) → IsIn x all → x.extent.offset ≤ length eh
  pub lies : (x : EhEntry) → IsIn x all → (rest : List ℕ) × LiesAt section base x rest

-- a CIE
common_back : (section eh : List ℕ) (address base : ℕ) (all : List EhEntry) (extents es : List Extent) (e : Extent) (cie : EhCie) (own : List CallFrameInstruction) (rest : List ℕ) → CommonRead eh address cie own
    → LiesAt section base (record { extent = e; content = Common cie own }) rest → CieBack section (translated_extent base (record { extent = e; content = Common cie own })) cie.return_address_register own
common_back section eh address base all extents es e cie own rest read lies =
    cie_back section (translated_extent base (record { extent = e; content = Common cie own })) cie.return_address_register own read.register
    (block_within section (translated_offset base e.offset) (size_of e) (entry_body base (Common cie own)) rest lies)
    (block_body section (translated_offset base e.offset) (size_of e) (entry_body base (Common cie own)) rest lies)

-- an entry that is read, and the FDE that counts in it, if one does
abbrev CountsAs : (List Segment → Option Fde) → Result Entry FrameFault → Type 0
CountsAs f (Err fault) = ⊥
CountsAs f (Ok r) = (segments : List Segment) → counted_fde segments r ≡ f segments

abbrev pub ReadsAs : (List Segment → Option Fde) → Result Entry FrameFault → Type 0
ReadsAs f q = (r : Entry) × (q ≡ Ok r) × CountsAs f (Ok r)

reads_as : (f : List Segment → Option Fde) (q : Result Entry FrameFault) → CountsAs f q → ReadsAs f q
reads_as f (Err fault) is = absurd is
reads_as f (Ok r) is = (r, refl, is)

reads_behind : {X : Type 0} (f : List Segment → Option Fde) (q : Result X FrameFault) (k : X → Result Entry FrameFault) (x : X) → q ≡ Ok x → CountsAs f (k x) → ReadsAs f (q >>= k)
reads_behind {X} f q k x is tells = let P : Result X FrameFault → Type 0 = λ p. ReadsAs f (p >>= k) in subst P (sym is) (reads_as f (k x) tells)

abbrev nothing : List Segment → Option Fde
nothing segments = None

abbrev only : Fde → List Segment → Option Fde
only f segments = cond (counts segments f.initial_location (f.initial_location + f.address_range)) (Some f) None

pub common_reads : (section eh : List ℕ) (address base : ℕ) (all : List EhEntry) (extents es : List Extent) (e : Extent) (cie : EhCie) (own : List CallFrameInstruction) → Joined section eh address base all extents es
    → IsIn (record { extent = e; content = Common cie own }) all → ReadsAs nothing (read_entry section es (translated_extent base (record { extent = e; content = Common cie own })))
common_reads section eh address base all extents es e cie own j is =
    let x : EhEntry = record { extent = e; content = Common cie own } in
    let read : CommonRead eh address cie own = j.facts x is in
    let s = j.lies x is in
    let back = common_back section eh address base all extents es e cie own s.0 read s.1 in
    let ran = cie_ran section (translated_extent base x) cie.return_address_register own read.final back (initial_words eh address cie own read.final j.bytes read.ran) (initial_rules eh address cie own read.final read.ran) in
    let P : Result Entry FrameFault → Type 0 = λ q. ReadsAs nothing q in
    subst P (sym (back.read es)) (reads_behind nothing (after_cie section back.cie) _ read.final ran (λ segments. refl))

-- the rules of an FDE that was written
fde_rules : (pc : ℕ) (section : List ℕ) (extents : List Extent) (e c : Extent) (g : EhFde) (initial u : FrameState) (back : CieBack section c g.cie.return_address_register g.initial) (f : FdeBack section extents e g.initial_location g.address_range back.cie g.instructions)
    → All HasWordOperands g.instructions → after_cie section back.cie ≡ Ok initial → rules_after (Some pc) initial.regs g.instructions (record initial { location = g.initial_location }) ≡ Some u
    → rules_of section pc f.fde ≡ Some (eh_rules_with g.cie u)
unfolding rules_of after_fde
fde_rules pc section extents e c g initial u back f words ran rules =
    ap (λ (d : Cie). rules_with f.fde.cie (after_cie section d >>= λ i. continued (Some pc) section f.fde i)) f.cie_is
    ∙ ap (λ (r : Result FrameState FrameFault). rules_with f.fde.cie (r >>= λ i. continued (Some pc) section f.fde i)) ran
    ∙ ap (λ (r : Result FrameState FrameFault). rules_with f.fde.cie r) (fde_ran (Some pc) section extents e g.initial_location g.address_range back.cie g.instructions initial u f back.factors words rules)
    ∙ ap (λ (d : Cie). rules_with d (Ok u)) f.cie_is
    ∙ ap (λ (n : ℕ). Some (record { cfa = u.cfa; regs = u.regs; return_register = n })) back.returns

eh_rules : (pc : ℕ) (g : EhFde) (initial u : FrameState) → rules_after None all_same_value g.initial no_rules ≡ Some initial → rules_after (Some pc) initial.regs g.instructions (record initial { location = g.initial_location }) ≡ Some u
    → eh_rules_of pc g ≡ Some (eh_rules_with g.cie u)
unfolding eh_rules_of
eh_rules pc g initial u before rules = ap (λ (o : Option FrameState). option_and_then (eh_rules_from pc g) o) before ∙ ap (λ (o : Option FrameState). option_map (eh_rules_with g.cie) o) rules

checked_as : (section : List ℕ) (f : Fde) (q : Result FrameState FrameFault) (initial final : FrameState) → q ≡ Ok initial → continued None section f initial ≡ Ok final → ReadsAs (only f) (checked_fde section f q)
checked_as section f q initial final is ran =
    let P : Result FrameState FrameFault → Type 0 = λ p. ReadsAs (only f) (checked_fde section f p) in
    subst P (sym is) (reads_behind (only f) (continued None section f initial) _ final ran (λ segments. refl))

-- an FDE, where its CIE's entry is among those of the section
abbrev pub Described : List ℕ → List Extent → Extent → EhFde → Type 0
Described section es e g = (f : Fde) × ReadsAs (only f) (read_entry section es e) × Same section f g

fde_by_cie : (section eh : List ℕ) (address base : ℕ) (extents es : List Extent) (e c : Extent) (g : EhFde) (rest : List ℕ) (d : DescriptionRead eh address extents g) → base + 8 * length eh < 2 ^ 31 → IsBytes eh → d.c.offset ≤ length eh → c.offset ≡ translated_offset base d.c.offset
    → AreRising 0 (map (λ e. e.offset) es) → IsIn c es → CieBack section c g.cie.return_address_register g.initial → LiesAt section base (record { extent = e; content = Description g }) rest
    → Described section es (translated_extent base (record { extent = e; content = Description g })) g
unfolding cie_at
fde_by_cie section eh address base extents es e c g rest d small bytes within moved rising there back lies = (
  f.fde,
  (let P : Result Entry FrameFault → Type 0 = λ q. ReadsAs (only f.fde) q in subst P (sym f.read) (checked_as section f.fde (after_cie section back.cie) d.initial d.own ran whole)),
  record {
    range = rw (f.start_is, f.range_is) refl;
    rules = λ at.
        let u = rules_up_to (Some at) d.initial.regs g.instructions (record d.initial { location = g.initial_location }) d.own d.own_rules in
        fde_rules at section es (translated_extent base (record { extent = e; content = Description g })) c g d.initial u.0 back f d.words ran u.1 ∙ sym (eh_rules at g d.initial u.0 before u.1);
  },
)
  where
    before : rules_after None all_same_value g.initial no_rules ≡ Some d.initial
    before = initial_rules eh address g.cie g.initial d.initial d.initial_ran

    ran : after_cie section back.cie ≡ Ok d.initial
    ran = cie_ran section c g.cie.return_address_register g.initial d.initial back (initial_words eh address g.cie g.initial d.initial bytes d.initial_ran) (initial_rules eh address g.cie g.initial d.initial d.initial_ran)

    found : cie_at section es (translated_offset base g.cie_offset) ≡ Some c
    found =
        ap (λ (n : ℕ). cie_at section es n) (ap (translated_offset base) d.offset ∙ sym moved)
        ∙ find_one (λ (x : Extent). x.offset) (λ (x : Extent). is_cie section x) 0 es c rising there back.marked

    f : FdeBack section es (translated_extent base (record { extent = e; content = Description g })) g.initial_location g.address_range back.cie g.instructions
    f = fde_back section es (translated_extent base (record { extent = e; content = Description g })) c (translated_offset base g.cie_offset) g.initial_location g.address_range back.cie g.instructions
        (let same = d.offset in omega arith) d.start d.range
        (block_within section (translated_offset base e.offset) (size_of e) (entry_body base (Description g)) rest lies)
        (block_body section (translated_offset base e.offset) (size_of e) (entry_body base (Description g)) rest lies)
        found back.is

    whole : continued None section f.fde d.initial ≡ Ok d.own
    whole = fde_ran None section es (translated_extent base (record { extent = e; content = Description g })) g.initial_location g.address_range back.cie g.instructions d.initial d.own f back.factors d.words d.own_rules

made_by : (eh : List ℕ) (address : ℕ) (extents : List Extent) (c : Extent) (content : EhContent) (x : EhEntry) → entry_content eh address extents c ≡ Ok content → entry_of eh address extents c ≡ Ok x → x ≡ (record { extent = c; content = content })
made_by eh address extents c content x is made =
    let content_made : entry_of eh address extents c ≡ Ok (entry_with c content) = ap (λ (r : Result EhContent FrameFault). r >>= λ k. (let u : Result EhEntry FrameFault = Ok (entry_with c k) in u)) is in
    ok_same {F = FrameFault} x (entry_with c content) (sym made ∙ content_made)

-- a CIE of an FDE is read too
common_of : (section eh : List ℕ) (address base : ℕ) (all : List EhEntry) (extents es : List Extent) (g : EhFde) → Joined section eh address base all extents es → (d : DescriptionRead eh address extents g)
    → IsIn (let x : EhEntry = record { extent = d.c; content = Common g.cie g.initial } in x) all
common_of section eh address base all extents es g j d =
    let content = cie_content eh address extents d.c g.cie g.initial d.initial d.marked d.cie d.initial_ran in
    let listed = ok_in (entry_of eh address extents) extents all d.c j.read d.there in
    let P : EhEntry → Type 0 = λ z. IsIn z all in
    subst P (made_by eh address extents d.c (Common g.cie g.initial) listed.0 content listed.1) listed.2

pub description_reads : (section eh : List ℕ) (address base : ℕ) (all : List EhEntry) (extents es : List Extent) (e : Extent) (g : EhFde) → Joined section eh address base all extents es → IsIn (let x : EhEntry = record { extent = e; content = Description g } in x) all
    → Described section es (translated_extent base (record { extent = e; content = Description g })) g
description_reads section eh address base all extents es e g j is =
    let x : EhEntry = record { extent = e; content = Description g } in
    let d : DescriptionRead eh address extents g = j.facts x is in
    let y : EhEntry = record { extent = d.c; content = Common g.cie g.initial } in
    let in_all : IsIn y all = common_of section eh address base all extents es g j d in
    let read : CommonRead eh address g.cie g.initial = j.facts y in_all in
    let t = j.lies y in_all in
    let s = j.lies x is in
    fde_by_cie section eh address base extents es e (translated_extent base y) g s.0 d j.small j.bytes (j.within y in_all) refl j.rising
    (j.there (translated_extent base y) (in_flat (extents_in base) y (translated_extent base y) all in_all (inl refl)))
    (common_back section eh address base all extents es d.c g.cie g.initial t.0 read t.1) s.1

-- ---- all of them

pub record Read (section : List ℕ) (segments : List Segment) (es some : List Extent) (all : List EhEntry) : Type 0 where
  pub reads : List Entry
  pub is : all_ok (map (read_entry section es) some) ≡ Ok reads
  pub matches : Matches section (filter_map (counted_fde segments) reads) (filter_map (eh_counted segments) all)

matched : (section : List ℕ) (segments : List Segment) (r : Entry) (f : Fde) (g : EhFde) (fs : List Fde) (gs : List EhFde) → CountsAs (only f) (Ok r) → Same section f g → Matches section fs gs
    → Matches section (cons_option (counted_fde segments r) fs) (cons_option (eh_content_counted segments (Description g)) gs)
matched section segments r f g fs gs tells same others = subst P (sym (tells segments ∙ ap (λ (b : Bool). cond b (Some f) None) bits)) (go (counts segments g.initial_location (g.initial_location + g.address_range)))
  where
    P : Option Fde → Type 0
    P o = Matches section (cons_option o fs) (cons_option (eh_content_counted segments (Description g)) gs)

    bits : counts segments f.initial_location (f.initial_location + f.address_range) ≡ counts segments g.initial_location (g.initial_location + g.address_range)
    bits = ap (λ (x : AddressRange). counts segments x.start x.end) same.range

    go : (b : Bool) → Matches section (cons_option (cond b (Some f) None) fs) (cons_option (cond b (Some g) None) gs)
    go true = (same, others)
    go false = others

one_more : (section : List ℕ) (segments : List Segment) (eh : List ℕ) (address base : ℕ) (all : List EhEntry) (extents es : List Extent) (e : Extent) (content : EhContent) (others : List EhEntry) → Joined section eh address base all extents es
    → IsIn (let x : EhEntry = record { extent = e; content = content } in x) all → Read section segments es (flat_map (extents_in base) others) others
    → Read section segments es (flat_map (extents_in base) ((record { extent = e; content = content }) ∷ others)) ((record { extent = e; content = content }) ∷ others)
one_more section segments eh address base all extents es e PassedOver others j is more = record { reads = more.reads; is = more.is; matches = more.matches }
one_more section segments eh address base all extents es e (Common cie own) others j is more =
    let read = common_reads section eh address base all extents es e cie own j is in
    record {
      reads = read.0 ∷ more.reads;
      is = cons_ok (read_entry section es (translated_extent base (record { extent = e; content = Common cie own }))) (map (read_entry section es) (flat_map (extents_in base) others)) read.0 more.reads read.1 more.is;
      matches = rw (read.2 segments) more.matches;
    }
one_more section segments eh address base all extents es e (Description g) others j is more =
    let read = description_reads section eh address base all extents es e g j is in
    record {
      reads = read.1.0 ∷ more.reads;
      is = cons_ok (read_entry section es (translated_extent base (record { extent = e; content = Description g }))) (map (read_entry section es) (flat_map (extents_in base) others)) read.1.0 more.reads read.1.1 more.is;
      matches = matched section segments read.1.0 read.0 g (filter_map (counted_fde segments) more.reads) (filter_map (eh_counted segments) others) read.1.2 read.2 more.matches;
    }

pub all_read : (section : List ℕ) (segments : List Segment) (eh : List ℕ) (address base : ℕ) (all : List EhEntry) (extents es : List Extent) (some : List EhEntry) → Joined section eh address base all extents es → ((x : EhEntry) → IsIn x some → IsIn x all)
    → Read section segments es (flat_map (extents_in base) some) some
all_read section segments eh address base all extents es [] j there = record { reads = []; is = refl; matches = tt }
all_read section segments eh address base all extents es (x ∷ some) j there =
    one_more section segments eh address base all extents es x.extent x.content some j (there x (inl refl)) (all_read section segments eh address base all extents es some j (λ y in_some. there y (inr in_some)))
