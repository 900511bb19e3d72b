-- Entries as they are read, with the CIEs that are kept.
use Rattle.std.proofs.Common.{Bor, ◌≡◌, ◌≢◌, ℕ, suc, ◌+◌, Bool, true, false, cond, List, [], ◌∷◌, map, Option, Some, None, Result, Ok, Err, inl, inr, refl, sym, ap, subst, ◌∙◌, arith}
use Rattle.std.specs.Prelude.{◌==◌, All, IfSome, find, filter, option_map}
use Rattle.std.specs.Option.{option_copied}
use Rattle.std.specs.List.{filter_map}
use Rattle.std.proofs.lemmas.Bool.{cases_eq}
use Rattle.std.proofs.lemmas.List.{append-nil}
use Rattle.prof_bytes.specs.Outcome.{◌>>=◌, FailsBy, viewed}
use Rattle.prof_bytes.specs.Fields.{Input, number_from}
use Rattle.prof_bytes.proofs.Tests.{some_same}
use Rattle.prof_bytes.specs.declared.fail.Fail.{Fail}
use Rattle.prof_bytes.specs.declared.fail.Fail.TheVariants as fails
use Rattle.cfi_table.specs.declared.constants.TheConstants.{DW_CIE_ID}
use Rattle.cfi_table.specs.declared.fault.FrameFault.{FrameFault}
use Rattle.cfi_table.specs.declared.extent.Extent.{Extent}
use Rattle.cfi_table.specs.declared.cie.Cie.{Cie}
use Rattle.cfi_table.specs.declared.fde.Fde.{Fde}
use Rattle.cfi_table.specs.declared.known_cie.KnownCie.{KnownCie}
use Rattle.cfi_table.specs.declared.entry.FrameEntry.{FrameEntry}
use Rattle.cfi_table.specs.declared.entry.FrameEntry.TheVariants as entries
use Rattle.cfi_table.specs.Rules.{FrameState, no_rules, all_same_value}
use Rattle.cfi_table.specs.Entries.{body_of, after_cie, cie_from, cie_at, cie_of, is_cie, checked_fde, continued, fde_of, read_entry, instructions_of}
use Rattle.cfi_table.specs.Entries.{extents_of, at_end, entries_of}
use Rattle.elf_image.specs.declared.part.Segment.{Segment}
use Rattle.cfi_table.specs.Frames.{Frames, all_ok, counted_fde, frames_of}
use Rattle.cfi_table.specs.private.Placed.{IsFdeIn, IsEntryIn}
use Rattle.cfi_table.specs.private.Checking.{CfaForms, no_forms, forms_of, forms_after, run_forms}
use Rattle.elf_image.specs.Image.{counts}
use Rattle.cfi_table.specs.private.KnownCies.{Known, known, seen_cie, entry_of_cie}
use Rattle.cfi_table.proofs.AllOk.{given, refused, all_ok_fault, all_ok_early}
use Rattle.cfi_table.proofs.Forms.{all_as_forms}
use Rattle.cfi_table.proofs.Rising.{other}
use Rattle.cfi_table.proofs.Seen.{find_known, find_both, none_known, one_known}

-- ---- a CIE among those that are kept

found_cie : (section : List ℕ) (extents : List Extent) (cies : List KnownCie) (offset : ℕ) → map seen_cie cies ≡ map (known section) (filter (is_cie section) extents)
    → option_map seen_cie (find (λ cie. cie.offset == offset) cies) ≡ option_map (known section) (cie_at section extents offset)
unfolding cie_at
found_cie section extents cies offset each = find_known (λ (k : Known). k.offset == offset) (is_cie section) seen_cie (known section) cies extents each

absent_cie : (section : List ℕ) (extents : List Extent) (cies : List KnownCie) (offset : ℕ) (r : Option (Bor KnownCie)) → option_copied r ≡ find (λ cie. cie.offset == offset) cies → r ≡ None
    → map seen_cie cies ≡ map (known section) (filter (is_cie section) extents) → cie_at section extents offset ≡ None
absent_cie section extents cies offset r found none each =
    none_known (known section) (cie_at section extents offset) (ap (option_map seen_cie) (sym (ap option_copied none) ∙ found) ∙ found_cie section extents cies offset each)

present_cie : (section : List ℕ) (extents : List Extent) (cies : List KnownCie) (offset : ℕ) (r : Option (Bor KnownCie)) (c : Bor KnownCie) → option_copied r ≡ find (λ cie. cie.offset == offset) cies → r ≡ Some c
    → map seen_cie cies ≡ map (known section) (filter (is_cie section) extents) → (e : Extent) × (cie_at section extents offset ≡ Some e) × (seen_cie c.now ≡ known section e)
present_cie section extents cies offset r c found some each =
    one_known (known section) (cie_at section extents offset) (seen_cie c.now) (ap (option_map seen_cie) (sym (ap option_copied some) ∙ found) ∙ found_cie section extents cies offset each)

pub found_holds : {X : Type 0} (P : X → Type 0) (p : X → Bool) (xs : List X) → All P xs → IfSome (find p xs) P
found_holds P p [] all = tt
found_holds {X} P p (x ∷ xs) all = go (p x) (found_holds P p xs (λ k d lt. all (suc k) d (omega arith)))
  where
    go : (b : Bool) → IfSome (find p xs) P → IfSome (cond b (Some x) (find p xs)) P
    go true rest = all 0 x (omega arith)
    go false rest = rest

pub copied_holds : {X : Type 0} (P : X → Type 0) (p : X → Bool) (xs : List X) (r : Option (Bor X)) (c : Bor X) → option_copied r ≡ find p xs → r ≡ Some c → All P xs → P c.now
copied_holds {X} P p xs r c found is all =
    let Q : Option X → Type 0 = λ o. IfSome o P in
    subst Q (sym found ∙ ap option_copied is) (found_holds P p xs all)

-- ---- an entry by the word after its length

pub without_id : (section : List ℕ) (extents : List Extent) (e : Extent) (fault : FrameFault) → number_from 4 (body_of section e) ≡ Err fault → read_entry section extents e ≡ Err fault
unfolding read_entry
without_id section extents e fault is = rw is refl

-- the CIE is the entry itself
own_cie : (section : List ℕ) (extents : List Extent) (e : Extent) (id offset : ℕ) (input : Input FrameFault) → number_from 4 (body_of section e) ≡ Ok (id, input) → id ≡ DW_CIE_ID → offset ≡ cond (id == DW_CIE_ID) e.offset id
    → find (λ x. x.offset == e.offset) extents ≡ Some e → cie_at section extents offset ≡ Some e
unfolding cie_at
own_cie section extents e id offset input is mark offset_is own =
    let here : offset ≡ e.offset = rw mark at offset_is in
    let marked : is_cie section e ≡ true = rw (is, mark) refl in
    rw here (find_both (λ (x : Extent). x.offset == e.offset) (is_cie section) extents e own marked)

cie_read : (section : List ℕ) (e : Extent) (id : ℕ) (input : Input FrameFault) → number_from 4 (body_of section e) ≡ Ok (id, input) → cie_of section e ≡ cie_from e.end input
unfolding cie_of
cie_read section e id input is = rw is refl

pub of_cie : (section : List ℕ) (extents : List Extent) (e : Extent) (id offset : ℕ) (input : Input FrameFault) (cies : List KnownCie) (r : Option (Bor KnownCie)) (c : Bor KnownCie) → number_from 4 (body_of section e) ≡ Ok (id, input) → id ≡ DW_CIE_ID
    → offset ≡ cond (id == DW_CIE_ID) e.offset id → find (λ x. x.offset == e.offset) extents ≡ Some e → option_copied r ≡ find (λ cie. cie.offset == offset) cies → r ≡ Some c
    → map seen_cie cies ≡ map (known section) (filter (is_cie section) extents) → read_entry section extents e ≡ entry_of_cie section c.now.cie
unfolding read_entry
of_cie section extents e id offset input cies r c is mark offset_is own found some each =
    let p = present_cie section extents cies offset r c found some each in
    let same : e ≡ p.0 = some_same e p.0 (sym (own_cie section extents e id offset input is mark offset_is own) ∙ p.1) in
    let said : cie_from e.end input ≡ c.now.cie = sym (cie_read section e id input is) ∙ ap (cie_of section) same ∙ sym (ap (λ (k : Known). k.cie) p.2) in
    rw (is, mark, said) refl

pub of_no_cie : (section : List ℕ) (extents : List Extent) (e : Extent) (id offset : ℕ) (input : Input FrameFault) (cies : List KnownCie) (r : Option (Bor KnownCie)) → number_from 4 (body_of section e) ≡ Ok (id, input)
    → offset ≡ cond (id == DW_CIE_ID) e.offset id → find (λ x. x.offset == e.offset) extents ≡ Some e → option_copied r ≡ find (λ cie. cie.offset == offset) cies → r ≡ None
    → map seen_cie cies ≡ map (known section) (filter (is_cie section) extents) → read_entry section extents e ≡ Err (record { offset = e.offset })
unfolding read_entry
of_no_cie section extents e id offset input cies r is offset_is own found none each = elim (cases_eq id DW_CIE_ID) [
  | inl mark ↦ let there = sym absent ∙ own_cie section extents e id offset input is mark offset_is own in absurd cc
  | inr ne ↦ let here : offset ≡ id = rw (other id DW_CIE_ID ne) at offset_is in rw (is, other id DW_CIE_ID ne, rw here at absent) refl
]
  where
    absent : cie_at section extents offset ≡ None
    absent = absent_cie section extents cies offset r found none each

pub of_fde : (section : List ℕ) (extents : List Extent) (e : Extent) (id offset : ℕ) (input : Input FrameFault) (cies : List KnownCie) (r : Option (Bor KnownCie)) (c : Bor KnownCie) → number_from 4 (body_of section e) ≡ Ok (id, input) → id ≢ DW_CIE_ID
    → offset ≡ cond (id == DW_CIE_ID) e.offset id → option_copied r ≡ find (λ cie. cie.offset == offset) cies → r ≡ Some c
    → map seen_cie cies ≡ map (known section) (filter (is_cie section) extents) → read_entry section extents e ≡ fde_of section e input c.now.cie
unfolding read_entry
of_fde section extents e id offset input cies r c is ne offset_is found some each =
    let here : offset ≡ id = rw (other id DW_CIE_ID ne) at offset_is in
    let p = present_cie section extents cies id r c (rw here at found) some each in
    rw (is, other id DW_CIE_ID ne, p.1) (ap (fde_of section e input) (sym (ap (λ (k : Known). k.cie) p.2)))

-- ---- instructions that are carried out

pub cie_forms : (section : List ℕ) (cie : Cie) → forms_after (after_cie section cie) ≡ run_forms cie.factors (instructions_of section cie.initial_instructions) no_forms
unfolding after_cie
cie_forms section cie = all_as_forms all_same_value cie.factors (instructions_of section cie.initial_instructions) no_rules

done_as : (entry : FrameEntry) (r : Result FrameState FrameFault) (k : CfaForms) → forms_after r ≡ Ok k → (r >>= λ after. (let u : Result FrameEntry FrameFault = Ok entry in u)) ≡ Ok entry
done_as entry (Err fault) k e = absurd cc
done_as entry (Ok s) k e = refl

err_is : (a b : FrameFault) → (let u : Result CfaForms FrameFault = Err a in u) ≡ Err b → a ≡ b
err_is a b e = cc

fails_as : (entry : FrameEntry) (fail : Fail FrameFault) (r : Result FrameState FrameFault) → FailsBy fail (forms_after r) → FailsBy fail (r >>= λ after. (let u : Result FrameEntry FrameFault = Ok entry in u))
fails_as entry (fails.Memory memory) r e = tt
fails_as entry (fails.Fault fault) (Err f) e = ap (λ (g : FrameFault). Err g) (err_is f fault e)
fails_as entry (fails.Fault fault) (Ok s) e = absurd cc

ok_is : (a b : CfaForms) → (let u : Result CfaForms FrameFault = Ok a in u) ≡ Ok b → a ≡ b
ok_is a b e = cc

-- an FDE's instructions, carried out on the forms
own_forms : (section : List ℕ) (fde : Fde) (end : CfaForms) (s : FrameState) → (let u : Result CfaForms FrameFault = Ok end in u) ≡ forms_after (Ok s)
    → forms_after (continued None section fde s) ≡ run_forms fde.cie.factors (instructions_of section fde.instructions) end
own_forms section fde end s known =
    all_as_forms s.regs fde.cie.factors (instructions_of section fde.instructions) (record s { location = fde.initial_location })
    ∙ ap (run_forms fde.cie.factors (instructions_of section fde.instructions)) (sym (ok_is end (forms_of s) known))

pub fde_runs : (section : List ℕ) (fde : Fde) (end k : CfaForms) (r : Result FrameState FrameFault) → (let u : Result CfaForms FrameFault = Ok end in u) ≡ forms_after r
    → run_forms fde.cie.factors (instructions_of section fde.instructions) end ≡ Ok k → checked_fde section fde r ≡ Ok (entries.Fde fde)
fde_runs section fde end k (Err fault) known runs = refl
fde_runs section fde end k (Ok s) known runs = done_as (entries.Fde fde) (continued None section fde s) k (own_forms section fde end s known ∙ runs)

pub fde_fails : (section : List ℕ) (fde : Fde) (end : CfaForms) (fail : Fail FrameFault) (r : Result FrameState FrameFault) → (let u : Result CfaForms FrameFault = Ok end in u) ≡ forms_after r
    → FailsBy fail (run_forms fde.cie.factors (instructions_of section fde.instructions) end) → FailsBy fail (checked_fde section fde r)
fde_fails section fde end fail (Err fault) known runs = absurd cc
fde_fails section fde end fail (Ok s) known runs =
    let P : Result CfaForms FrameFault → Type 0 = λ q. FailsBy fail q in
    fails_as (entries.Fde fde) fail (continued None section fde s) (subst P (sym (own_forms section fde end s known)) runs)

pub fde_unchecked : (section : List ℕ) (fde : Fde) (fault : FrameFault) (r : Result FrameState FrameFault) → (let u : Result CfaForms FrameFault = Err fault in u) ≡ forms_after r → checked_fde section fde r ≡ Ok (entries.Fde fde)
fde_unchecked section fde fault (Err f) known = refl
fde_unchecked section fde fault (Ok s) known = absurd cc

-- ---- FDEs that count

pub counted_in : (section : List ℕ) (segments : List Segment) (entry : FrameEntry) (fde : Fde) → Some fde ≡ counted_fde segments entry → IsEntryIn section entry → IsFdeIn section fde
counted_in section segments entries.PassedOver fde e within = absurd cc
counted_in section segments (entries.Cie cie) fde e within = absurd cc
counted_in section segments (entries.Fde own) fde e within = go (counts segments own.initial_location (own.initial_location + own.address_range)) e
  where
    same : (a b : Fde) → Some a ≡ Some b → b ≡ a
    same a b e = cc

    go : (b : Bool) → Some fde ≡ cond b (Some own) None → IsFdeIn section fde
    go true e = let P : Fde → Type 0 = λ f. IsFdeIn section f in subst P (same fde own e) within
    go false e = absurd cc

-- ---- the frames of the entries, and of a faulty length after them

pub frames_read : (section : List ℕ) (extents : List Extent) (broken : Option FrameFault) (segments : List Segment) (fdes : List Fde) → (extents, broken) ≡ extents_of section → broken ≡ None
    → viewed (filter_map (counted_fde segments)) (all_ok (map (read_entry section extents) extents)) ≡ Ok fdes → frames_of section segments ≡ Ok (record { section = section; fdes = fdes })
unfolding frames_of entries_of
frames_read section extents broken segments fdes all whole made =
    let g = given (filter_map (counted_fde segments)) (all_ok (map (read_entry section extents) extents)) fdes made in
    rw (← all, whole) (
    ap (λ (rs : List (Result FrameEntry FrameFault)). all_ok rs >>= λ read. (let u : Result Frames FrameFault = Ok (record { section = section; fdes = filter_map (counted_fde segments) read }) in u)) (append-nil (map (read_entry section extents) extents))
    ∙ ap (λ (r : Result (List FrameEntry) FrameFault). r >>= λ read. (let u : Result Frames FrameFault = Ok (record { section = section; fdes = filter_map (counted_fde segments) read }) in u)) g.1
    ∙ ap (λ (ws : List Fde). Ok (record { section = section; fdes = ws })) g.2)

pub frames_broken : (section : List ℕ) (extents : List Extent) (broken : Option FrameFault) (fault : FrameFault) (segments : List Segment) (fdes : List Fde) → (extents, broken) ≡ extents_of section → broken ≡ Some fault
    → viewed (filter_map (counted_fde segments)) (all_ok (map (read_entry section extents) extents)) ≡ Ok fdes → frames_of section segments ≡ Err fault
unfolding frames_of entries_of
frames_broken section extents broken fault segments fdes all cut made =
    let g = given (filter_map (counted_fde segments)) (all_ok (map (read_entry section extents) extents)) fdes made in
    rw (← all, cut) (
    ap (λ (r : Result (List FrameEntry) FrameFault). r >>= λ read. (let u : Result Frames FrameFault = Ok (record { section = section; fdes = filter_map (counted_fde segments) read }) in u))
    (all_ok_fault (map (read_entry section extents) extents) [] g.0 fault g.1))

pub frames_fail : (section : List ℕ) (extents : List Extent) (broken : Option FrameFault) (fail : Fail FrameFault) (segments : List Segment) → (extents, broken) ≡ extents_of section
    → FailsBy fail (viewed (filter_map (counted_fde segments)) (all_ok (map (read_entry section extents) extents))) → FailsBy fail (frames_of section segments)
unfolding frames_of entries_of
frames_fail section extents broken (fails.Memory memory) segments all failed = tt
frames_fail section extents broken (fails.Fault fault) segments all failed =
    rw (← all) (
    ap (λ (r : Result (List FrameEntry) FrameFault). r >>= λ read. (let u : Result Frames FrameFault = Ok (record { section = section; fdes = filter_map (counted_fde segments) read }) in u))
    (all_ok_early (map (read_entry section extents) extents) (at_end broken) fault (refused (filter_map (counted_fde segments)) (all_ok (map (read_entry section extents) extents)) fault failed)))
