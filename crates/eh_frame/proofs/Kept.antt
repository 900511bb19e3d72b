-- The entries of a section are the same where bytes follow it.
use Rattle.std.proofs.Common.{◌≡◌, ℕ, ◌+◌, ◌-◌, ◌≤◌, Bool, true, false, cond, List, [], ◌∷◌, ◌++◌, length, map, Option, Some, None, Result, Ok, Err, inl, inr, refl, sym, ap, subst, ◌∙◌, arith}
use Rattle.std.specs.Prelude.{ℤ, ◌==◌, ◌&&◌, ◌||◌, IfOk, IfSome, nat_lt}
use Rattle.std.proofs.lemmas.List.{take-append-le}
use Rattle.prof_bytes.specs.Outcome.{◌>>=◌}
use Rattle.prof_bytes.specs.Reading.{left_of}
use Rattle.prof_bytes.specs.Fields.{Input, number_from, uleb_from, sleb_from, text_from}
use Rattle.cfi_table.specs.declared.constants.TheConstants.{DW_CIE_ID}
use Rattle.cfi_table.specs.declared.fault.FrameFault.{FrameFault}
use Rattle.cfi_table.specs.declared.extent.Extent.{Extent}
use Rattle.cfi_table.specs.declared.cie.Cie.{Cie}
use Rattle.cfi_table.specs.declared.fde.Fde.{Fde}
use Rattle.elf_image.specs.declared.part.Segment.{Segment}
use Rattle.elf_image.specs.Image.{counts}
use Rattle.cfi_table.specs.declared.instruction.AlignmentFactors.{AlignmentFactors}
use Rattle.cfi_table.specs.Instructions.{Reading}
use Rattle.cfi_table.specs.Rules.{FrameState}
use Rattle.cfi_table.specs.Entries.{body_of, factors_from, cie_with, cie_from_factors, cie_from_segment, cie_from_sizes, cie_from_augmentation, cie_from}
use Rattle.cfi_table.specs.Entries.{after_cie, continued, after_fde, is_cie, cie_at, cie_of, checked_cie, checked_fde, fde_fields_from, fde_with, fde_of, fde_by, read_entry}
use Rattle.cfi_table.specs.Frames.{all_ok, counted_fde, rules_with, rules_of}
use Rattle.prof_bytes.proofs.Outcomes.{bind_ok, ok_same}
use Rattle.cfi_table.proofs.AllOk.{ok_cons}
use Rattle.eh_frame.proofs.Members.{IsIn, found_in, find_front}

-- ---- a CIE's instructions end where it ends

abbrev EndsAt : ℕ → Result (Option Cie) FrameFault → Type 0
EndsAt end r = IfOk r (λ o. IfSome o (λ c. c.initial_instructions.end ≡ end))

ends_bind : {X : Type 0} (end : ℕ) (r : Reading X) (next : X × Input FrameFault → Result (Option Cie) FrameFault) → ((x : X × Input FrameFault) → EndsAt end (next x)) → EndsAt end (r >>= next)
ends_bind end (Err fault) next ends = tt
ends_bind end (Ok x) next ends = ends x

ends_either : (end : ℕ) (b : Bool) (x y : Result (Option Cie) FrameFault) → EndsAt end x → EndsAt end y → EndsAt end (cond b x y)
ends_either end true x y p q = p
ends_either end false x y p q = q

with_ends : (end : ℕ) (factors : AlignmentFactors) (register : ℕ) (input : Input FrameFault) → EndsAt end (Ok (cie_with end factors register input))
with_ends end factors register input = go (nat_lt register 32)
  where
    cie : Cie
    cie = record {
      factors = factors;
      return_address_register = register;
      initial_instructions = record { offset = end - length (left_of input.at); end = end };
    }

    go : (b : Bool) → IfSome (cond b (Some cie) None) (λ c. c.initial_instructions.end ≡ end)
    go true = refl
    go false = tt

factors_ends : (end version : ℕ) (input : Input FrameFault) → EndsAt end (cie_from_factors end version input)
unfolding cie_from_factors
factors_ends end version input = ends_bind end (factors_from version input) _ (λ r. with_ends end r.0.0 r.0.1 r.1)

segment_ends : (end version : ℕ) (input : Input FrameFault) → EndsAt end (cie_from_segment end version input)
unfolding cie_from_segment
segment_ends end version input = ends_bind end (number_from 1 input) _ (λ s. ends_either end (s.0 == 0) _ _ (factors_ends end version s.1) tt)

sizes_ends : (end version : ℕ) (input : Input FrameFault) → EndsAt end (cie_from_sizes end version input)
unfolding cie_from_sizes
sizes_ends end version input =
    ends_either end (version == 4) _ _ (ends_bind end (number_from 1 input) _ (λ a. ends_either end (a.0 == 4) _ _ (segment_ends end version a.1) tt)) (factors_ends end version input)

augmentation_ends : (end version : ℕ) (input : Input FrameFault) → EndsAt end (cie_from_augmentation end version input)
unfolding cie_from_augmentation
augmentation_ends end version input = ends_bind {X = List ℕ} end (text_from input) _ (λ t. ends_either end (length t.0 == 0) _ _ (sizes_ends end version t.1) tt)

from_ends : (end : ℕ) (input : Input FrameFault) → EndsAt end (cie_from end input)
unfolding cie_from
from_ends end input = ends_bind end (number_from 1 input) _ (λ v. ends_either end (v.0 == 1 || v.0 == 3 || v.0 == 4) _ _ (augmentation_ends end v.0 v.1) tt)

ends_of : (end : ℕ) (input : Input FrameFault) (cie : Cie) → cie_from end input ≡ Ok (Some cie) → cie.initial_instructions.end ≡ end
ends_of end input cie is = let P : Result (Option Cie) FrameFault → Type 0 = λ r. EndsAt end r in subst P is (from_ends end input)

cie_ends : (section : List ℕ) (c : Extent) (cie : Cie) → cie_of section c ≡ Ok (Some cie) → cie.initial_instructions.end ≡ c.end
unfolding cie_of
cie_ends section c cie is =
    let read = bind_ok (number_from 4 (body_of section c)) (λ id. cie_from c.end id.1) (Some cie) is in
    ends_of c.end read.0.1 cie read.2

-- ---- what is read up to an end is the same

pub body_joined : (section behind : List ℕ) (e : Extent) → e.end ≤ length section → body_of (section ++ behind) e ≡ body_of section e
body_joined section behind e le = rw (take-append-le e.end section behind le) refl

pub after_cie_joined : (section behind : List ℕ) (cie : Cie) → cie.initial_instructions.end ≤ length section → after_cie (section ++ behind) cie ≡ after_cie section cie
unfolding after_cie
after_cie_joined section behind cie le = rw (take-append-le cie.initial_instructions.end section behind le) refl

continued_joined : (limit : Option ℕ) (section behind : List ℕ) (fde : Fde) (initial : FrameState) → fde.instructions.end ≤ length section → continued limit (section ++ behind) fde initial ≡ continued limit section fde initial
continued_joined limit section behind fde initial le = rw (take-append-le fde.instructions.end section behind le) refl

cie_of_joined : (section behind : List ℕ) (c : Extent) → c.end ≤ length section → cie_of (section ++ behind) c ≡ cie_of section c
unfolding cie_of
cie_of_joined section behind c le = rw (take-append-le c.end section behind le) refl

is_cie_joined : (section behind : List ℕ) (c : Extent) → c.end ≤ length section → is_cie section c ≡ is_cie (section ++ behind) c
is_cie_joined section behind c le = rw (take-append-le c.end section behind le) refl

-- ---- an FDE's rules

pub record FdeIn (section : List ℕ) (fde : Fde) : Type 0 where
  pub own : fde.instructions.end ≤ length section
  pub initial : fde.cie.initial_instructions.end ≤ length section

-- an entry as it is read, and the FDE that counts
abbrev ArgumentOf : {X Y : Type 0} → (X → Y) → Type 0
ArgumentOf {X = X} f = X

abbrev pub Entry : Type 0
Entry = ArgumentOf (counted_fde [])

-- an FDE that counts lies in the section
abbrev pub Inside : List ℕ → Entry → Type 0
Inside section read = (segments : List Segment) (fde : Fde) → counted_fde segments read ≡ Some fde → FdeIn section fde

pub rules_joined : (section behind : List ℕ) (address : ℕ) (fde : Fde) → FdeIn section fde → rules_of (section ++ behind) address fde ≡ rules_of section address fde
unfolding rules_of after_fde
rules_joined section behind address fde inside =
    ap (λ (r : Result FrameState FrameFault). rules_with fde.cie (r >>= λ initial. continued (Some address) (section ++ behind) fde initial)) (after_cie_joined section behind fde.cie inside.initial)
    ∙ go (after_cie section fde.cie)
  where
    go : (r : Result FrameState FrameFault) → rules_with fde.cie (r >>= λ initial. continued (Some address) (section ++ behind) fde initial) ≡ rules_with fde.cie (r >>= λ initial. continued (Some address) section fde initial)
    go (Err fault) = refl
    go (Ok initial) = ap (λ (r : Result FrameState FrameFault). rules_with fde.cie r) (continued_joined (Some address) section behind fde initial inside.own)

-- ---- an entry

abbrev pub Kept : List ℕ → Result Entry FrameFault → Entry → Type 0
Kept section r read = (r ≡ Ok read) × Inside section read

kept_as : (section : List ℕ) (r : Result Entry FrameFault) (x read : Entry) → (let u : Result Entry FrameFault = Ok x in u) ≡ Ok read → r ≡ Ok x → Inside section x → Kept section r read
kept_as section r x read same is inside = let P : Entry → Type 0 = λ y. Kept section r y in subst P (ok_same {F = FrameFault} x read same) (is, inside)

none_is : (fde : Fde) → None ≡ Some fde → ⊥
none_is fde e = cc

none_counted : (section : List ℕ) (fde : Fde) → None ≡ Some fde → FdeIn section fde
none_counted section fde e = absurd (none_is fde e)

one_counted : (section : List ℕ) (b : Bool) (fde f : Fde) → FdeIn section fde → cond b (Some fde) None ≡ Some f → FdeIn section f
one_counted section true fde f inside e = let P : Fde → Type 0 = λ g. FdeIn section g in subst P (some_is fde f e) inside
  where
    some_is : (a b : Fde) → Some a ≡ Some b → a ≡ b
    some_is a b e = cc
one_counted section false fde f inside e = none_counted section f e

cie_kept : (section behind : List ℕ) (e : Extent) (input : Input FrameFault) (o : Option Cie) (read : Entry) → cie_from e.end input ≡ Ok o → e.end ≤ length section → checked_cie section o ≡ Ok read → Kept section (checked_cie (section ++ behind) o) read
cie_kept section behind e input None read is le made = kept_as section (checked_cie (section ++ behind) None) _ read made refl (λ segments fde c. none_counted section fde c)
cie_kept section behind e input (Some cie) read is le made =
    let end = ends_of e.end input cie is in
    let ran = bind_ok (after_cie section cie) _ read made in
    kept_as section (checked_cie (section ++ behind) (Some cie)) _ read ran.2 (rw (after_cie_joined section behind cie (omega arith), ran.1) refl) (λ segments fde c. none_counted section fde c)

checked_kept : (section behind : List ℕ) (fde : Fde) (r : Result FrameState FrameFault) (read : Entry) → FdeIn section fde → checked_fde section fde r ≡ Ok read → Kept section (checked_fde (section ++ behind) fde r) read
checked_kept section behind fde (Err fault) read inside made =
    kept_as section (checked_fde (section ++ behind) fde (Err fault)) _ read made refl (λ segments f c. one_counted section (counts segments fde.initial_location (fde.initial_location + fde.address_range)) fde f inside c)
checked_kept section behind fde (Ok initial) read inside made =
    let ran = bind_ok (continued None section fde initial) _ read made in
    kept_as section (checked_fde (section ++ behind) fde (Ok initial)) _ read ran.2 (rw (continued_joined None section behind fde initial inside.own, ran.1) refl)
    (λ segments f c. one_counted section (counts segments fde.initial_location (fde.initial_location + fde.address_range)) fde f inside c)

fde_kept : (section behind : List ℕ) (e c : Extent) (input : Input FrameFault) (r : Result (Option Cie) FrameFault) (read : Entry) → cie_of section c ≡ r → e.end ≤ length section → c.end ≤ length section → fde_of section e input r ≡ Ok read
    → Kept section (fde_of (section ++ behind) e input r) read
fde_kept section behind e c input (Err fault) read is le inside made =
    let fields = bind_ok (fde_fields_from input) _ read made in
    kept_as section (fde_of (section ++ behind) e input (Err fault)) _ read fields.2 (rw fields.1 refl) (λ segments fde c. none_counted section fde c)
fde_kept section behind e c input (Ok None) read is le inside made = kept_as section (fde_of (section ++ behind) e input (Ok None)) _ read made refl (λ segments fde c. none_counted section fde c)
fde_kept section behind e c input (Ok (Some cie)) read is le inside made =
    let fields = bind_ok (fde_fields_from input) (λ f. checked_fde section (fde_with e cie f.0 f.1) (after_cie section cie)) read made in
    let end = cie_ends section c cie is in
    let within : FdeIn section (fde_with e cie fields.0.0 fields.0.1) = record { own = le; initial = omega arith } in
    rw (fields.1, after_cie_joined section behind cie (omega arith)) (checked_kept section behind (fde_with e cie fields.0.0 fields.0.1) (after_cie section cie) read within fields.2)

cie_at_joined : (section behind : List ℕ) (front back : List Extent) (offset : ℕ) (c : Extent) → ((x : Extent) → IsIn x front → x.end ≤ length section) → cie_at section front offset ≡ Some c
    → (c.end ≤ length section) × (cie_at (section ++ behind) (front ++ back) offset ≡ Some c)
unfolding cie_at
cie_at_joined section behind front back offset c ends is = (
  ends c (found_in (λ (e : Extent). e.offset == offset && is_cie section e) front c is).0,
  find_front (λ (e : Extent). e.offset == offset && is_cie section e) (λ (e : Extent). e.offset == offset && is_cie (section ++ behind) e) front back c
      (λ y there. ap (λ (b : Bool). y.offset == offset && b) (is_cie_joined section behind y (ends y there))) is,
)

pub entry_kept : (section behind : List ℕ) (front back : List Extent) (e : Extent) (read : Entry) → ((x : Extent) → IsIn x front → x.end ≤ length section) → e.end ≤ length section
    → read_entry section front e ≡ Ok read → Kept section (read_entry (section ++ behind) (front ++ back) e) read
unfolding read_entry
entry_kept section behind front back e read ends le is =
    let word = bind_ok (number_from 4 (body_of section e)) (λ id. cond (id.0 == DW_CIE_ID) (cie_from e.end id.1 >>= λ cie. checked_cie section cie) (fde_by section e id.1 (cie_at section front id.0))) read is in
    either (word.0.0 == DW_CIE_ID) word.0.0 word.0.1 refl (ap (λ (i : Input FrameFault). number_from 4 i) (body_joined section behind e le) ∙ word.1) word.2
  where
    Answer : Type 0
    Answer = Kept section (number_from 4 (body_of (section ++ behind) e) >>= λ id. cond (id.0 == DW_CIE_ID) (cie_from e.end id.1 >>= λ cie. checked_cie (section ++ behind) cie) (fde_by (section ++ behind) e id.1 (cie_at (section ++ behind) (front ++ back) id.0))) read

    by : (n : ℕ) (input : Input FrameFault) (o : Option Extent) → (n == DW_CIE_ID) ≡ false → number_from 4 (body_of (section ++ behind) e) ≡ Ok (n, input) → cie_at section front n ≡ o → fde_by section e input o ≡ Ok read → Answer
    by n input None other num at made = absurd cc
    by n input (Some c) other num at made =
        let found = cie_at_joined section behind front back n c ends at in
        let kept = fde_kept section behind e c input (cie_of section c) read refl le found.0 made in
        (rw (num, other, found.1, cie_of_joined section behind c found.0) kept.0, kept.1)

    either : (b : Bool) (n : ℕ) (input : Input FrameFault) → (n == DW_CIE_ID) ≡ b → number_from 4 (body_of (section ++ behind) e) ≡ Ok (n, input)
        → cond b (cie_from e.end input >>= λ cie. checked_cie section cie) (fde_by section e input (cie_at section front n)) ≡ Ok read → Answer
    either true n input mark num made =
        let cie = bind_ok (cie_from e.end input) (λ cie. checked_cie section cie) read made in
        let kept = cie_kept section behind e input cie.0 read cie.1 le cie.2 in
        (rw (num, mark, cie.1) kept.0, kept.1)
    either false n input other num made = by n input (cie_at section front n) other num refl made

-- ---- all entries of a section

pub all_kept : (section behind : List ℕ) (front back es : List Extent) (reads : List Entry) → ((x : Extent) → IsIn x front → x.end ≤ length section) → ((x : Extent) → IsIn x es → x.end ≤ length section)
    → all_ok (map (read_entry section front) es) ≡ Ok reads → all_ok (map (read_entry (section ++ behind) (front ++ back)) es) ≡ Ok reads
all_kept section behind front back [] reads ends les is = is
all_kept section behind front back (e ∷ es) reads ends les is =
    let parts = ok_cons (read_entry section front e) (map (read_entry section front) es) reads is in
    let kept = entry_kept section behind front back e parts.0 ends (les e (inl refl)) parts.2 in
    let others = all_kept section behind front back es parts.1 ends (λ x there. les x (inr there)) parts.3 in
    rw (kept.0, others) (ap (λ (rs : List Entry). Ok rs) (sym parts.4))
