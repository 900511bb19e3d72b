-- Entries as they are read, with the CIEs that are kept.
use Rattle.std.proofs.Common.{Bor, ◌≡◌, ◌≢◌, ℕ, zero, suc, ◌+◌, ◌<◌, ◌≤◌, Bool, true, false, cond, List, [], ◌∷◌, ◌++◌, length, get_or, take, map, Option, Some, None, Result, Ok, Err, refl, sym, ap, ◌∙◌, arith}
use Rattle.std.specs.Prelude.{◌==◌, ◌&&◌, nat_lt, IfOk, find, filter, option_map}
use Rattle.std.specs.Option.{option_copied}
use Rattle.std.specs.List.{flat_map}
use Rattle.std.proofs.lemmas.Bool.Decides.{nat_tests}
use Rattle.std.proofs.lemmas.List.{append-nil}
use Rattle.std.proofs.lemmas.List.Concat.{flat_map-append}
use Rattle.prof_bytes.specs.Outcome.{◌>>=◌, FailsBy, viewed}
use Rattle.prof_bytes.specs.Fields.{Input, number_from}
use Rattle.prof_bytes.specs.declared.fail.Fail.{Fail}
use Rattle.prof_bytes.specs.declared.fail.Fail.TheVariants as fails
use Rattle.cfi_table.specs.declared.fault.FrameFault.{FrameFault}
use Rattle.cfi_table.specs.declared.extent.Extent.{Extent}
use Rattle.cfi_table.specs.Entries.{body_of, at_end}
use Rattle.cfi_table.specs.Frames.{all_ok, size_of}
use Rattle.cfi_table.specs.private.Placed.{AreRising}
use Rattle.cfi_table.proofs.AllOk.{Reads, reads_more, reads_fault, all_ok_fault, all_ok_early, given, refused}
use Rattle.cfi_table.proofs.Seen.{find_known, none_known, one_known, seen_rise}
use Rattle.cfi_table.proofs.Rising.{from_lower, filter_rises, other}
use Rattle.eh_frame.specs.declared.constants.TheConstants.{EH_CIE_ID}
use Rattle.eh_frame.specs.declared.cie.EhCie.{EhCie}
use Rattle.eh_frame.specs.declared.known_eh_cie.KnownEhCie.{KnownEhCie}
use Rattle.eh_frame.specs.Cies.{eh_cie_from}
use Rattle.eh_frame.specs.Entries.{EhEntry, EhContent, Description, eh_fde_with, eh_fields_from, is_eh_cie, is_cie_before, eh_cie_of, cie_back, content_of_cie, content_of_fde, content_by, entry_content, entry_with, entry_of, eh_extents, eh_entries}
use Rattle.cfi_table.specs.declared.instruction.CallFrameInstruction.{CallFrameInstruction}
use Rattle.cfi_table.specs.Rules.{FrameState}
use Rattle.eh_frame.specs.Runs.{cie_instructions, fde_instructions}
use Rattle.eh_frame.specs.Translation.{translated_offset, fde_head, encoded, entry_body, block_with, block_of, translated}
use Rattle.eh_frame.specs.private.Adjoining.{AreAdjoining}
use Rattle.eh_frame.specs.private.Checked.{KnownEh, known_eh, seen_eh_cie}

-- ---- a CIE among those that are kept

found_cie : (section : List ℕ) (extents : List Extent) (e : Extent) (cies : List KnownEhCie) (distance : ℕ) → map seen_eh_cie cies ≡ map (known_eh section) (filter (is_cie_before section e) extents)
    → option_map seen_eh_cie (find (λ cie. cie.offset + distance == e.offset + 4) cies) ≡ option_map (known_eh section) (cie_back section extents e distance)
unfolding cie_back
found_cie section extents e cies distance each = find_known (λ (k : KnownEh). k.offset + distance == e.offset + 4) (is_cie_before section e) seen_eh_cie (known_eh section) cies extents each

-- ---- an entry by the word after its length

pub without_id : (section : List ℕ) (address : ℕ) (extents : List Extent) (e : Extent) (fault : FrameFault) → number_from 4 (body_of section e) ≡ Err fault → entry_content section address extents e ≡ Err fault
unfolding entry_content
without_id section address extents e fault is = rw is refl

pub of_cie_fault : (section : List ℕ) (address : ℕ) (extents : List Extent) (e : Extent) (id : ℕ) (input : Input FrameFault) (fault : FrameFault) → number_from 4 (body_of section e) ≡ Ok (id, input) → id ≡ EH_CIE_ID
    → eh_cie_from e.end input ≡ Err fault → entry_content section address extents e ≡ Err fault
unfolding entry_content
of_cie_fault section address extents e id input fault is mark faulty = rw (is, mark, faulty) refl

pub of_cie : (section : List ℕ) (address : ℕ) (extents : List Extent) (e : Extent) (id : ℕ) (input : Input FrameFault) (cie : Option EhCie) → number_from 4 (body_of section e) ≡ Ok (id, input) → id ≡ EH_CIE_ID
    → eh_cie_from e.end input ≡ Ok cie → entry_content section address extents e ≡ content_of_cie section address cie
unfolding entry_content
of_cie section address extents e id input cie is mark read = rw (is, mark, read) refl

pub of_no_cie : (section : List ℕ) (address : ℕ) (extents : List Extent) (e : Extent) (id : ℕ) (input : Input FrameFault) (cies : List KnownEhCie) (r : Option (Bor KnownEhCie)) → number_from 4 (body_of section e) ≡ Ok (id, input) → id ≢ EH_CIE_ID
    → option_copied r ≡ find (λ cie. cie.offset + id == e.offset + 4) cies → r ≡ None
    → map seen_eh_cie cies ≡ map (known_eh section) (filter (is_cie_before section e) extents) → entry_content section address extents e ≡ Err (record { offset = e.offset })
unfolding entry_content
of_no_cie section address extents e id input cies r is ne found none each =
    let absent = none_known (known_eh section) (cie_back section extents e id) (ap (option_map seen_eh_cie) (sym (ap option_copied none) ∙ found) ∙ found_cie section extents e cies id each) in
    rw (is, other id EH_CIE_ID ne, absent) refl

by_known : (section : List ℕ) (address : ℕ) (e x : Extent) (input : Input FrameFault) (c : KnownEhCie) → seen_eh_cie c ≡ known_eh section x → content_by section address e input (Some x) ≡ content_of_fde section address c.offset input c.cie
by_known section address e x input c same =
    let cie : eh_cie_of section x ≡ Ok c.cie = sym (ap (λ (k : KnownEh). k.cie) same) in
    let offset : x.offset ≡ c.offset = sym (ap (λ (k : KnownEh). k.offset) same) in
    ap (λ (r : Result (Option EhCie) FrameFault). r >>= λ cie. content_of_fde section address x.offset input cie) cie
    ∙ ap (λ (n : ℕ). content_of_fde section address n input c.cie) offset

pub of_fde : (section : List ℕ) (address : ℕ) (extents : List Extent) (e : Extent) (id : ℕ) (input : Input FrameFault) (cies : List KnownEhCie) (r : Option (Bor KnownEhCie)) (c : Bor KnownEhCie) → number_from 4 (body_of section e) ≡ Ok (id, input) → id ≢ EH_CIE_ID
    → option_copied r ≡ find (λ cie. cie.offset + id == e.offset + 4) cies → r ≡ Some c
    → map seen_eh_cie cies ≡ map (known_eh section) (filter (is_cie_before section e) extents) → entry_content section address extents e ≡ content_of_fde section address c.now.offset input c.now.cie
unfolding entry_content
of_fde section address extents e id input cies r c is ne found some each =
    let p = one_known (known_eh section) (cie_back section extents e id) (seen_eh_cie c.now) (ap (option_map seen_eh_cie) (sym (ap option_copied some) ∙ found) ∙ found_cie section extents e cies id each) in
    rw (is, other id EH_CIE_ID ne, p.1) (by_known section address e p.0 input c.now p.2)

-- ---- an FDE of a CIE that is read

pub fde_body : (section : List ℕ) (address base offset : ℕ) (input next : Input FrameFault) (cie : EhCie) (fields : ℕ × ℕ) (initial : List CallFrameInstruction × FrameState) → eh_fields_from address cie input ≡ Ok (fields, next) → cie_instructions section address cie ≡ Ok initial
    → viewed (entry_body base) (content_of_fde section address offset input (Some cie)) ≡ viewed (λ (r : List CallFrameInstruction × FrameState). fde_head (translated_offset base offset) fields.0 fields.1 ++ flat_map encoded r.0) (fde_instructions address cie fields.0 next initial.1)
fde_body section address base offset input next cie fields initial read is = rw (read, is) (go (fde_instructions address cie fields.0 next initial.1))
  where
    go : (r : Result (List CallFrameInstruction × FrameState) FrameFault)
        → viewed (entry_body base) (r >>= λ own. (let u : Result EhContent FrameFault = Ok (Description (eh_fde_with cie offset initial.0 fields own.0)) in u)) ≡ viewed (λ (r : List CallFrameInstruction × FrameState). fde_head (translated_offset base offset) fields.0 fields.1 ++ flat_map encoded r.0) r
    go (Ok r) = refl
    go (Err fault) = refl

pub ok_more : {X E : Type 0} (P Q : X → Type 0) (r : Result X E) → ((x : X) → P x → Q x) → IfOk r P → IfOk r Q
ok_more P Q (Ok x) more holds = more x holds
ok_more P Q (Err e) more holds = tt

-- ---- the word says whether an entry is a CIE

pub is_cie_by : (section : List ℕ) (e : Extent) (id : ℕ) (input : Input FrameFault) → number_from 4 (body_of section e) ≡ Ok (id, input) → id ≡ EH_CIE_ID → is_eh_cie section e ≡ true
is_cie_by section e id input is mark = rw (is, mark) refl

pub cie_is : (section : List ℕ) (e : Extent) (id : ℕ) (input : Input FrameFault) (cie : Option EhCie) → number_from 4 (body_of section e) ≡ Ok (id, input) → eh_cie_from e.end input ≡ Ok cie → eh_cie_of section e ≡ Ok cie
unfolding eh_cie_of
cie_is section e id input cie is read = rw (is, read) refl

pub known_by : (section : List ℕ) (e : Extent) (id : ℕ) (input : Input FrameFault) (cie : Option EhCie) (o : Option KnownEhCie) → number_from 4 (body_of section e) ≡ Ok (id, input) → id ≡ EH_CIE_ID → eh_cie_from e.end input ≡ Ok cie
    → option_map seen_eh_cie o ≡ Some (record { offset = e.offset; cie = Ok cie }) → option_map seen_eh_cie o ≡ cond (is_eh_cie section e) (Some (known_eh section e)) None
known_by section e id input cie o is mark read made =
    made
    ∙ ap (λ (r : Result (Option EhCie) FrameFault). Some (record { offset = e.offset; cie = r })) (sym (cie_is section e id input cie is read))
    ∙ sym (ap (λ (b : Bool). cond b (Some (known_eh section e)) None) (is_cie_by section e id input is mark))

-- ---- entries that adjoin rise

pub rises : (start : ℕ) (es : List Extent) → AreAdjoining start es → AreRising start (map (λ e. e.offset) es)
rises start [] up = tt
rises start (e ∷ es) up =
    let is : e.offset ≡ start = up.0 in
    let order : start + 4 ≤ e.end = up.1 in
    (omega arith, from_lower (e.offset + 1) e.end (map (λ e. e.offset) es) (omega arith) (rises e.end es up.2))

take_rises : (low k : ℕ) (ns : List Extent) → AreRising low (map (λ e. e.offset) ns) → AreRising low (map (λ e. e.offset) (take k ns))
take_rises low zero ns up = tt
take_rises low (suc k) [] up = tt
take_rises low (suc k) (e ∷ es) up = (up.0, take_rises (e.offset + 1) k es up.1)

-- none of those from an offset on lies before it
none_before : (start : ℕ) (es : List Extent) (low : ℕ) (p : Extent → Bool) → AreAdjoining start es → low ≤ start → filter (λ c. nat_lt c.offset low && p c) es ≡ []
none_before start [] low p up le = refl
none_before start (e ∷ es) low p up le =
    let is : e.offset ≡ start = up.0 in
    let order : start + 4 ≤ e.end = up.1 in
    let not_lower : nat_lt e.offset low ≡ false = grind (arith, nat_tests) in
    rw not_lower (none_before e.end es low p up.2 (omega arith))

at_least : (start : ℕ) (es : List Extent) (k : ℕ) (d : Extent) → AreAdjoining start es → k < length es → start ≤ (get_or es k d).offset
at_least start [] k d up lt = absurd (omega arith)
at_least start (e ∷ es) zero d up lt = let is : e.offset ≡ start = up.0 in omega arith
at_least start (e ∷ es) (suc k) d up lt =
    let order : start + 4 ≤ e.end = up.1 in
    let more : e.end ≤ (get_or es k d).offset = at_least e.end es k d up.2 (omega arith) in
    omega arith

pub before_it : (start : ℕ) (es : List Extent) (k : ℕ) (d : Extent) (p : Extent → Bool) → AreAdjoining start es → k < length es → filter (λ c. nat_lt c.offset (get_or es k d).offset && p c) es ≡ filter p (take k es)
before_it start [] k d p up lt = absurd (omega arith)
before_it start (e ∷ es) zero d p up lt = none_before start (e ∷ es) e.offset p up (let is : e.offset ≡ start = up.0 in omega arith)
before_it start (e ∷ es) (suc k) d p up lt =
    let is : e.offset ≡ start = up.0 in
    let order : start + 4 ≤ e.end = up.1 in
    let more : e.end ≤ (get_or es k d).offset = at_least e.end es k d up.2 (omega arith) in
    let lower : nat_lt e.offset (get_or es k d).offset ≡ true = grind (arith, nat_tests) in
    rw lower (ap (λ (cs : List Extent). cond (p e) (e ∷ cs) cs) (before_it e.end es k d p up.2 (omega arith)))

-- the CIEs have the order of the entries
pub cies_rise : (section : List ℕ) (extents : List Extent) (k : ℕ) (cies : List KnownEhCie) → map seen_eh_cie cies ≡ map (known_eh section) (filter (is_eh_cie section) (take k extents)) → AreAdjoining 0 extents → AreRising 0 (map (λ cie. cie.offset) cies)
cies_rise section extents k cies each up =
    seen_rise (λ (k : KnownEh). k.offset) seen_eh_cie (known_eh section) cies (filter (is_eh_cie section) (take k extents)) each
    (filter_rises (λ (e : Extent). e.offset) (is_eh_cie section) 0 (take k extents) (take_rises 0 k extents (rises 0 extents up)))

-- ---- the entries that are read one after another

read_as : (section : List ℕ) (address : ℕ) (extents : List Extent) (e : Extent) (content : EhContent) → entry_content section address extents e ≡ Ok content → entry_of section address extents e ≡ Ok (entry_with e content)
read_as section address extents e content is = rw is refl

pub block_more : (section : List ℕ) (address base : ℕ) (extents : List Extent) (k : ℕ) (d : Extent) (body out next : List ℕ) → k < length extents
    → viewed (entry_body base) (entry_content section address extents (get_or extents k d)) ≡ Ok body → next ≡ out ++ block_with (size_of (get_or extents k d)) body
    → Reads (entry_of section address extents) (flat_map (block_of base)) extents k out → Reads (entry_of section address extents) (flat_map (block_of base)) extents (k + 1) next
block_more section address base extents k d body out next lt is made kept =
    let e = get_or extents k d in
    let content = given (entry_body base) (entry_content section address extents e) body is in
    reads_more (entry_of section address extents) (flat_map (block_of base)) extents k d (entry_with e content.0) out next (flat_map-append (block_of base)) lt (read_as section address extents e content.0 content.1)
    (made ∙ ap (λ (bs : List ℕ). out ++ block_with (size_of e) bs) (sym content.2) ∙ ap (λ (bs : List ℕ). out ++ bs) (sym (append-nil (block_of base (entry_with e content.0))))) kept

pub block_fault : (section : List ℕ) (address base : ℕ) (extents : List Extent) (k : ℕ) (d : Extent) (fail : Fail FrameFault) (out : List ℕ) → k < length extents
    → FailsBy fail (viewed (entry_body base) (entry_content section address extents (get_or extents k d))) → Reads (entry_of section address extents) (flat_map (block_of base)) extents k out
    → FailsBy fail (viewed (flat_map (block_of base)) (all_ok (map (entry_of section address extents) extents)))
block_fault section address base extents k d (fails.Memory memory) out lt is kept = tt
block_fault section address base extents k d (fails.Fault fault) out lt is kept =
    let faulty = refused (entry_body base) (entry_content section address extents (get_or extents k d)) fault is in
    reads_fault (entry_of section address extents) (flat_map (block_of base)) extents k d fault out lt (rw faulty refl) kept

-- ---- the section, and a faulty length after its entries

pub section_read : (section : List ℕ) (address base : ℕ) (extents : List Extent) (broken : Option FrameFault) (out : List ℕ) → (extents, broken) ≡ eh_extents section → broken ≡ None
    → viewed (flat_map (block_of base)) (all_ok (map (entry_of section address extents) extents)) ≡ Ok out → translated section address base ≡ Ok out
unfolding translated eh_entries
section_read section address base extents broken out all whole made =
    rw (← all, whole) (ap (λ (rs : List (Result EhEntry FrameFault)). viewed (flat_map (block_of base)) (all_ok rs)) (append-nil (map (entry_of section address extents) extents)) ∙ made)

pub section_broken : (section : List ℕ) (address base : ℕ) (extents : List Extent) (broken : Option FrameFault) (fault : FrameFault) (out : List ℕ) → (extents, broken) ≡ eh_extents section → broken ≡ Some fault
    → viewed (flat_map (block_of base)) (all_ok (map (entry_of section address extents) extents)) ≡ Ok out → translated section address base ≡ Err fault
unfolding translated eh_entries
section_broken section address base extents broken fault out all cut made =
    let g = given (flat_map (block_of base)) (all_ok (map (entry_of section address extents) extents)) out made in
    rw (← all, cut) (ap (λ (r : Result (List EhEntry) FrameFault). viewed (flat_map (block_of base)) r) (all_ok_fault (map (entry_of section address extents) extents) [] g.0 fault g.1))

pub section_fails : (section : List ℕ) (address base : ℕ) (extents : List Extent) (broken : Option FrameFault) (fail : Fail FrameFault) → (extents, broken) ≡ eh_extents section
    → FailsBy fail (viewed (flat_map (block_of base)) (all_ok (map (entry_of section address extents) extents))) → FailsBy fail (translated section address base)
unfolding translated eh_entries
section_fails section address base extents broken (fails.Memory memory) all failed = tt
section_fails section address base extents broken (fails.Fault fault) all failed =
    rw (← all) (ap (λ (r : Result (List EhEntry) FrameFault). viewed (flat_map (block_of base)) r)
    (all_ok_early (map (entry_of section address extents) extents) (at_end broken) fault (refused (flat_map (block_of base)) (all_ok (map (entry_of section address extents) extents)) fault failed)))
