-- The rows of an FDE, made one after another.
use Rattle.std.proofs.Common.{◌≡◌, ℕ, ◌≤◌, ◌<◌, ◌^◌, inr, Bool, true, false, cond, List, length, map, Option, Some, None, Result, Ok, Err, refl, sym, subst, ap, ◌∙◌, arith}
use Rattle.std.specs.Prelude.{IfOk, IfSome, MatchOption, IsErr, min, nat_lt, find, slice_get}
use Rattle.std.specs.Option.{option_and_then}
use Rattle.std.proofs.lemmas.Bool.Decides.{nat_tests}
use Rattle.prof_bytes.specs.Outcome.{FailsBy}
use Rattle.prof_bytes.specs.Reading.{left_of}
use Rattle.prof_bytes.specs.Fields.{Input}
use Rattle.prof_bytes.specs.declared.fail.Fail.{Fail}
use Rattle.prof_bytes.specs.declared.fail.Memory.{Memory}
use Rattle.prof_bytes.specs.declared.fail.Fail.TheVariants as fails
use Rattle.address_ranges.specs.declared.ranges.AddressRange.{AddressRange}
use Rattle.address_ranges.specs.Ranges.{holds, IsFirst}
use Rattle.address_ranges.proofs.Places.{find_by_table}
use Rattle.cfi_table.specs.declared.fault.FrameFault.{FrameFault}
use Rattle.cfi_table.specs.declared.fde.Fde.{Fde}
use Rattle.cfi_table.specs.declared.rows.Row.{Row}
use Rattle.cfi_table.specs.declared.rules.Rule.{Rule}
use Rattle.cfi_table.specs.declared.rules.Rules.{Rules}
use Rattle.cfi_table.specs.Rules.{FrameState, is_past, run_all}
use Rattle.cfi_table.specs.Entries.{after_cie, after_fde}
use Rattle.cfi_table.specs.Frames.{Frames, fde_range, rules_with, rules_of}
use Rattle.cfi_table.specs.Rows.{FdeRows, row_from, IsRow, IsNextRow, AreFirst, AreOf, AreNone}
use Rattle.cfi_table.specs.private.Resuming.{resumed}
use Rattle.cfi_table.specs.private.Walking.{IsAtRow, AreRows}
use Rattle.cfi_table.proofs.Resuming.{resumed_here, resumed_past, resumed_at_end}

-- a run by the start of a row, and what it says of later addresses
pub record HasRun (section : List ℕ) (fde : Fde) (initial : List Rule) (start : ℕ) (t : FrameState) (next : Input FrameFault) : Type 0 where
  pub some : start < (fde_range fde).end
  pub low : fde.initial_location ≤ start
  pub short : length next.at.whole < 2 ^ 32
  pub ended : is_past (Some start) t ≡ false → length (left_of next.at) ≡ 0
  pub states : (address : ℕ) → start ≤ address → after_fde (Some address) section fde ≡ resumed (Some address) initial fde.cie.factors next t

pub at_row : (section : List ℕ) (fde : Fde) (initial : List Rule) (s : FrameState) (input : Input FrameFault) (next : Option ℕ) (start : ℕ) → next ≡ Some start → AreRows section fde initial s input next → IsAtRow section fde initial s input start
at_row section fde initial s input next start is rows = subst (λ (o : Option ℕ). IfSome o (IsAtRow section fde initial s input)) is rows

pub has_run : (section : List ℕ) (fde : Fde) (initial : List Rule) (s t : FrameState) (input next : Input FrameFault) (start : ℕ) → IsAtRow section fde initial s input start
    → length next.at.whole < 2 ^ 32 → (is_past (Some start) t ≡ false → length (left_of next.at) ≡ 0)
    → ((address later : ℕ) → (let o : Option ℕ = Some start in o) ≡ Some address → address ≤ later → run_all (Some later) initial fde.cie.factors input s ≡ resumed (Some later) initial fde.cie.factors next t)
    → HasRun section fde initial start t next
has_run section fde initial s t input next start at short ended later =
    let here = at.here in
    record {
      some = at.some;
      low = at.low;
      short = short;
      ended = ended;
      states = λ address le. at.states address le ∙ resumed_here address initial fde.cie.factors input s (omega arith) ∙ later start address refl le;
    }

-- the rules of a state
abbrev pub rules_in : Fde → FrameState → Rules
rules_in fde t = record { cfa = t.cfa; regs = t.regs; return_register = fde.cie.return_address_register }

rules_here : (section : List ℕ) (fde : Fde) (address : ℕ) (t : FrameState) → after_fde (Some address) section fde ≡ Ok t → rules_of section address fde ≡ Some (rules_in fde t)
unfolding rules_of
rules_here section fde address t is = ap (rules_with fde.cie) is

no_rules_here : (section : List ℕ) (fde : Fde) (address : ℕ) (fault : FrameFault) → after_fde (Some address) section fde ≡ Err fault → rules_of section address fde ≡ None
unfolding rules_of
no_rules_here section fde address fault is = ap (rules_with fde.cie) is

abbrev pub row_end : Fde → ℕ → ℕ → ℕ
row_end fde start location = cond (nat_lt start location) (min location (fde_range fde).end) (fde_range fde).end

end_past : (fde : Fde) (start location : ℕ) → start < location → row_end fde start location ≡ min location (fde_range fde).end
end_past fde start location lt =
    let past : nat_lt start location ≡ true = grind (arith, nat_tests) in
    rw past refl

end_last : (fde : Fde) (start location : ℕ) → location ≤ start → row_end fde start location ≡ (fde_range fde).end
end_last fde start location le =
    let past : nat_lt start location ≡ false = grind (arith, nat_tests) in
    rw past refl

from_behind : (fde : Fde) (address : ℕ) → (fde_range fde).end ≤ address → row_from fde address ≡ None
from_behind fde address le =
    let inside : nat_lt address (fde_range fde).end ≡ false = grind (arith, nat_tests) in
    rw inside refl

-- ---- a row that ends where the location rises above its start

pub past_row : (section : List ℕ) (fde : Fde) (initial : List Rule) (start : ℕ) (t : FrameState) (next : Input FrameFault) (row : Row) → HasRun section fde initial start t next → start < t.location
    → row ≡ record { start = start; end = row_end fde start t.location } → IsRow section fde row (Some (rules_in fde t))
past_row section fde initial start t next row run past is =
    let ends : row.end ≡ min t.location (fde_range fde).end = ap (λ (r : Row). r.end) is ∙ end_past fde start t.location past in
    let begins : row.start ≡ start = ap (λ (r : Row). r.start) is in
    let some = run.some in
    let low = run.low in
    record {
      some = omega arith;
      low = omega arith;
      within = omega arith;
      rules = λ address from to.
          rules_here section fde address t (run.states address (omega arith) ∙ resumed_past address initial fde.cie.factors next t (omega arith));
    }

pub next_past : (section : List ℕ) (fde : Fde) (initial : List Rule) (start : ℕ) (t : FrameState) (next : Input FrameFault) → HasRun section fde initial start t next → start < t.location
    → AreRows section fde initial t next (row_from fde t.location)
next_past section fde initial start t next run past = go (nat_lt t.location (fde_range fde).end) refl
  where
    go : (b : Bool) → nat_lt t.location (fde_range fde).end ≡ b → IfSome (let o : Option ℕ = cond b (Some t.location) None in o) (IsAtRow section fde initial t next)
    go false e = tt
    go true e =
        let lt : t.location < (fde_range fde).end = grind (arith, nat_tests) in
        let low = run.low in
        record {
          short = run.short;
          some = lt;
          low = omega arith;
          here = omega arith;
          states = λ address le. run.states address (omega arith);
        }

from_end_past : (fde : Fde) (start location : ℕ) → start < location → row_from fde location ≡ row_from fde (row_end fde start location)
from_end_past fde start location past = go (nat_lt location (fde_range fde).end) refl
  where
    go : (b : Bool) → nat_lt location (fde_range fde).end ≡ b → row_from fde location ≡ row_from fde (row_end fde start location)
    go true e =
        let lt : location < (fde_range fde).end = grind (arith, nat_tests) in
        let least : location ≡ min location (fde_range fde).end = omega arith in
        ap (row_from fde) (least ∙ sym (end_past fde start location past))
    go false e =
        let le : (fde_range fde).end ≤ location = grind (arith, nat_tests) in
        let least : (fde_range fde).end ≡ min location (fde_range fde).end = omega arith in
        from_behind fde location le ∙ sym (from_behind fde (fde_range fde).end (omega arith)) ∙ ap (row_from fde) (least ∙ sym (end_past fde start location past))

pub from_past : (fde : Fde) (start location end : ℕ) (next : Option ℕ) → start < location → next ≡ row_from fde location → end ≡ row_end fde start location → next ≡ row_from fde end
from_past fde start location end next past is ends = is ∙ from_end_past fde start location past ∙ sym (ap (row_from fde) ends)

-- ---- the last row

pub last_row : (section : List ℕ) (fde : Fde) (initial : List Rule) (start : ℕ) (t : FrameState) (next : Input FrameFault) (row : Row) → HasRun section fde initial start t next → t.location ≤ start
    → row ≡ record { start = start; end = row_end fde start t.location } → IsRow section fde row (Some (rules_in fde t))
last_row section fde initial start t next row run le is =
    let ends : row.end ≡ (fde_range fde).end = ap (λ (r : Row). r.end) is ∙ end_last fde start t.location le in
    let begins : row.start ≡ start = ap (λ (r : Row). r.start) is in
    let some = run.some in
    let low = run.low in
    let none = run.ended (let past : nat_lt start t.location ≡ false = grind (arith, nat_tests) in past) in
    record {
      some = omega arith;
      low = omega arith;
      within = omega arith;
      rules = λ address from to.
          rules_here section fde address t (run.states address (omega arith) ∙ resumed_at_end (Some address) initial fde.cie.factors next t none);
    }

pub from_last : (fde : Fde) (start location end : ℕ) → location ≤ start → end ≡ row_end fde start location → None ≡ row_from fde end
from_last fde start location end le ends = sym (from_behind fde (fde_range fde).end (omega arith)) ∙ ap (row_from fde) (sym (ends ∙ end_last fde start location le))

-- ---- a row whose instructions are at fault

faulty : (section : List ℕ) (fde : Fde) (initial : List Rule) (s : FrameState) (input : Input FrameFault) (start : ℕ) (fault : FrameFault) (row : Row) → IsAtRow section fde initial s input start
    → ((address later : ℕ) → (let o : Option ℕ = Some start in o) ≡ Some address → address ≤ later → run_all (Some later) initial fde.cie.factors input s ≡ Err fault)
    → row ≡ record { start = start; end = (fde_range fde).end } → IsRow section fde row None
faulty section fde initial s input start fault row at later is =
    let ends : row.end ≡ (fde_range fde).end = ap (λ (r : Row). r.end) is in
    let begins : row.start ≡ start = ap (λ (r : Row). r.start) is in
    let some = at.some in
    let low = at.low in
    let here = at.here in
    record {
      some = omega arith;
      low = omega arith;
      within = omega arith;
      rules = λ address from to.
          no_rules_here section fde address fault (at.states address (omega arith) ∙ resumed_here address initial fde.cie.factors input s (omega arith) ∙ later start address refl (omega arith));
    }

pub faulty_row : (section : List ℕ) (fde : Fde) (initial : List Rule) (s : FrameState) (input : Input FrameFault) (start : ℕ) (fail : Fail FrameFault) (fault : FrameFault) (range : AddressRange) → IsAtRow section fde initial s input start
    → fail ≡ fails.Fault fault → ((address later : ℕ) → (let o : Option ℕ = Some start in o) ≡ Some address → address ≤ later → FailsBy fail (run_all (Some later) initial fde.cie.factors input s))
    → range ≡ fde_range fde → IsRow section fde (record { start = start; end = range.end }) None
faulty_row section fde initial s input start fail fault range at is later range_is =
    let P : Fail FrameFault → Type 0 = λ f. (address later : ℕ) → (let o : Option ℕ = Some start in o) ≡ Some address → address ≤ later → FailsBy f (run_all (Some later) initial fde.cie.factors input s) in
    faulty section fde initial s input start fault (record { start = start; end = range.end }) at (subst P is later) (ap (λ (r : AddressRange). (let row : Row = record { start = start; end = r.end } in row)) range_is)

pub from_fault : (fde : Fde) (range : AddressRange) → range ≡ fde_range fde → None ≡ row_from fde range.end
from_fault fde range is = sym (from_behind fde (fde_range fde).end (omega arith)) ∙ ap (λ (r : AddressRange). row_from fde r.end) (sym is)

-- ---- the row that was made

pub row_is : (fde : Fde) (start end location : ℕ) (t : FrameState) → end ≡ row_end fde start location → location ≡ t.location
    → (let row : Row = record { start = start; end = end } in row) ≡ record { start = start; end = row_end fde start t.location }
row_is fde start end location t ends at = ap (λ (n : ℕ). (let row : Row = record { start = start; end = n } in row)) (ends ∙ ap (row_end fde start) at)

pub is_next : (section : List ℕ) (fde : Fde) (n : Option ℕ) (found : Option Rules) (before after : FdeRows) (row : Row) → record { section = section; fde = fde; next = n; rules = found } ≡ before → n ≡ Some row.start → after.next ≡ row_from fde row.end → IsRow section fde row after.rules
    → IsNextRow before after row
is_next section fde n found before after row view from to is = subst (λ (b : FdeRows). IsNextRow b after row) view (record { is = is; start = from; next = to })

-- ---- the FDE that is the first to hold all of its addresses

pub first_holder : (fdes : List Fde) (number : ℕ) (fde : Fde) → slice_get fdes number ≡ Some fde → IsFirst (map fde_range fdes) (fde_range fde).start (fde_range fde).end number
    → (address : ℕ) → holds address (fde_range fde) ≡ true → find (λ (f : Fde). holds address (fde_range f)) fdes ≡ Some fde
first_holder fdes number fde is first address held =
    let low : fde.initial_location ≤ address = grind (arith, nat_tests) in
    let high : address < (fde_range fde).end = grind (arith, nat_tests) in
    find_by_table (holds address) fde_range fdes ∙ ap (λ (o : Option ℕ). option_and_then (λ i. slice_get fdes i) o) (first address low high) ∙ is

-- what `Rows::of` makes of an FDE
abbrev pub Made : List ℕ → Fde → Result (Option FdeRows) Memory → Type 0
Made section fde r = IfOk r (λ rows. MatchOption rows (IsErr (after_cie section fde.cie)) (λ rows. rows ≡ record { section = section; fde = fde; next = row_from fde fde.initial_location; rules = None }))

fde_is_at : (frames : Frames) (fdes : List Fde) (fde : Fde) (found : Option Fde) (number : ℕ) → fdes ≡ frames.fdes → found ≡ slice_get fdes number → found ≡ Some fde → slice_get frames.fdes number ≡ Some fde
fde_is_at frames fdes fde found number all at is = sym (ap (λ (fs : List Fde). slice_get fs number) all) ∙ sym at ∙ is

pub first_of : (frames : Frames) (section : List ℕ) (fdes : List Fde) (fde : Fde) (found : Option Fde) (range : AddressRange) (number : ℕ) (r : Result (Option FdeRows) Memory) → section ≡ frames.section → fdes ≡ frames.fdes
    → found ≡ slice_get fdes number → found ≡ Some fde → range ≡ fde_range fde → IsFirst (map fde_range frames.fdes) range.start range.end number
    → Made section fde r → IfOk r (λ rows. IfSome rows (AreFirst frames))
first_of frames section fdes fde found range number (Err memory) same all at is range_is first made = tt
first_of frames section fdes fde found range number (Ok None) same all at is range_is first made = tt
first_of frames section fdes fde found range number (Ok (Some rows)) same all at is range_is first made =
    let P : AddressRange → Type 0 = λ r. IsFirst (map fde_range frames.fdes) r.start r.end number in
    subst (AreFirst frames) (sym made) (record { section = same; first = first_holder frames.fdes number fde (fde_is_at frames fdes fde found number all at is) (subst P range_is first); next = refl })

-- ---- whose rows are given

pub given_of : (frames : Frames) (section : List ℕ) (fdes : List Fde) (fde : Fde) (found : Option Fde) (number : ℕ) (r : Result (Option FdeRows) Memory) → section ≡ frames.section → fdes ≡ frames.fdes
    → found ≡ slice_get fdes number → found ≡ Some fde → Made section fde r → IfOk r (λ rows. MatchOption rows (AreNone frames number) (AreOf frames number))
given_of frames section fdes fde found number (Err memory) same all at is made = tt
given_of frames section fdes fde found number (Ok None) same all at is made =
    let P : List ℕ → Type 0 = λ bs. IsErr (after_cie bs fde.cie) in
    inr (record { fde = fde; is = fde_is_at frames fdes fde found number all at is; why = inr (subst P same made) })
given_of frames section fdes fde found number (Ok (Some rows)) same all at is made =
    fde_is_at frames fdes fde found number all at is ∙ sym (ap (λ (w : FdeRows). Some w.fde) made)
