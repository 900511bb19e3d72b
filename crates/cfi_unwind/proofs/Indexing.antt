-- An index to which unwind rules are added, and what is found in it.
use Rattle.std.proofs.Common.{Bor, cond, ◌≡◌, ℕ, ◌+◌, ◌-◌, ◌*◌, ◌<◌, ◌≤◌, ◌^◌, List, [], ◌∷◌, length, get_or, set, map, Option, Some, None, inl, inr, refl, sym, subst, ap, ◌∙◌, arith}
use Rattle.std.specs.Prelude.{IfSome, MatchOption, ◌⊎◌, find, is_some, not, slice_get, unwrap_or, option_map, min, nat_le, nat_lt, ◌&&◌, true, false, Bool}
use Rattle.std.specs.Option.{option_copied, option_and_then}
use Rattle.std.proofs.lemmas.Bool.{cases_lt}
use Rattle.std.proofs.lemmas.Bool.Decides.{nat_tests}
use Rattle.std.proofs.lemmas.List.{get_or-set_same, get_or-set_other, length-set}
use Rattle.std.proofs.lemmas.Option.{slice_get_past, unwrap_or-slice_get}
use Rattle.prof_bytes.proofs.Tests.{some_same}
use Rattle.cfi_table.specs.declared.fde.Fde.{Fde}
use Rattle.cfi_table.specs.declared.rows.Row.{Row}
use Rattle.cfi_table.specs.declared.rules.Rules.{Rules}
use Rattle.cfi_table.specs.Frames.{Frames, descriptions, fde_at, fde_range, rules_of, rules_at, starts_of, least_above, lesser}
use Rattle.cfi_table.specs.Rows.{FdeRows, row_from, IsNextRow, AreFirst}
use Rattle.cfi_table.proofs.Described.{rules_by_fde, starts_of_fdes}
use Rattle.cfi_unwind.specs.declared.index.Index.{Index}
use Rattle.cfi_unwind.specs.declared.unwind_rule.UnwindRule.{UnwindRule}
use Rattle.scope_types.specs.declared.frame.End.TheVariants.{Whole}
use Rattle.cfi_unwind.specs.declared.unwind_rule.UnwindRule.TheVariants.{Ends}
use Rattle.cfi_unwind.specs.Region.{is_in}
use Rattle.cfi_unwind.specs.Caller.{Unwinding}
use Rattle.cfi_unwind.specs.private.Index.{no_id, IsAt, IsId, IsIndexOf, IsFilled, IsRowIn, KeepsIndex, KeepsRules, EndsWhole, FindsCallers, IsFinding, IsReady}
use Rattle.cfi_unwind.proofs.Ending.{inside_region, outside_region}

-- ---- ids that are set

pub fills_nothing : (ids : List ℕ) (low id : ℕ) → IsFilled ids ids low low id
fills_nothing ids low id = record {
  as_many = refl;
  inside = λ k le lt. absurd (omega arith);
  below = λ k lt. refl;
  above = λ k le. refl;
}

pub fills_next : (before after : List ℕ) (low high id : ℕ) → low ≤ high → high < length before → IsFilled before after low high id → IsFilled before (set after high id) low (high + 1) id
fills_next before after low high id le lt filled =
    let same = filled.as_many in
    record {
      as_many = length-set after high id ∙ same;
      inside = λ k from to. inside k from to (cases_lt k high);
      below = λ k under. get_or-set_other after high k id 0 (λ e. omega arith) ∙ filled.below k under;
      above = λ k over. get_or-set_other after high k id 0 (λ e. omega arith) ∙ filled.above k (omega arith);
    }
  where
    inside : (k : ℕ) → low ≤ k → k < high + 1 → (k < high) ⊎ (high ≤ k) → get_or (set after high id) k 0 ≡ id
    inside k from to (inl before) = get_or-set_other after high k id 0 (λ e. omega arith) ∙ filled.inside k from before
    inside k from to (inr here) =
        let is : k ≡ high = omega arith in
        let same = filled.as_many in
        ap (λ (i : ℕ). get_or (set after high id) i 0) is ∙ get_or-set_same after high id 0 (omega arith)

-- ---- an index that stays one

still_id : (unwind_rules after : List UnwindRule) (id : ℕ) (found : Option Rules) → KeepsRules unwind_rules after → IsId unwind_rules id found → IsId after id found
still_id unwind_rules after id found keeps (inl none) = inl none
still_id unwind_rules after id found keeps (inr at) = inr (keeps id found at)

-- and some ids are set to that of an unwind rule that follows the rules there
pub keeps_filled : (rules : ℕ → Option Rules) (index after : Index) (low high id : ℕ) → after.first ≡ index.first → IsFilled index.ids.items after.ids.items low high id → KeepsRules index.unwind_rules.items after.unwind_rules.items
    → length after.unwind_rules.items ≤ 2 ^ 20 → ((k : ℕ) → low ≤ k → k < high → IsAt after.unwind_rules.items id (rules (4 * (index.first + k))))
    → KeepsIndex rules index after
keeps_filled rules index after low high id first filled keeps few follows is = record {
  ids = λ k lt.
      let P : ℕ → Type 0 = λ f. IsId after.unwind_rules.items (get_or after.ids.items k 0) (rules (4 * (f + k))) in
      let len = filled.as_many in
      subst P (sym first) (there k (omega arith) (cases_lt k low) (cases_lt k high));
  nowhere = λ some.
      let len = filled.as_many in
      keeps 0 None (is.nowhere (omega arith));
  few = few;
}
  where
    Here : ℕ → ℕ → Type 0
    Here k n = IsId after.unwind_rules.items n (rules (4 * (index.first + k)))

    stays : (k : ℕ) → k < length index.ids.items → Here k (get_or index.ids.items k 0)
    stays k lt = still_id index.unwind_rules.items after.unwind_rules.items (get_or index.ids.items k 0) (rules (4 * (index.first + k))) keeps (is.ids k lt)

    there : (k : ℕ) → k < length index.ids.items → (k < low) ⊎ (low ≤ k) → (k < high) ⊎ (high ≤ k) → Here k (get_or after.ids.items k 0)
    there k lt (inl under) side = subst (Here k) (sym (filled.below k under)) (stays k lt)
    there k lt (inr from) (inr over) = subst (Here k) (sym (filled.above k over)) (stays k lt)
    there k lt (inr from) (inl to) = subst (Here k) (sym (filled.inside k from to)) (inr (follows k from to))

-- ---- rows

-- one id is set, or is not
pub keeps_one : (rules : ℕ → Option Rules) (index after : Index) (k id pc : ℕ) → after.first ≡ index.first → after.ids.items ≡ set index.ids.items k id → k < length index.ids.items → KeepsRules index.unwind_rules.items after.unwind_rules.items
    → length after.unwind_rules.items ≤ 2 ^ 20 → pc ≡ 4 * (index.first + k) → IsAt after.unwind_rules.items id (rules pc) → KeepsIndex rules index after
keeps_one rules index after k id pc first ids lt keeps few number at =
    let one : IsFilled index.ids.items (set index.ids.items k id) k (k + 1) id = fills_next index.ids.items index.ids.items k k id (omega arith) lt (fills_nothing index.ids.items k id) in
    let P : ℕ → Type 0 = λ n. IsAt after.unwind_rules.items id (rules n) in
    keeps_filled rules index after k (k + 1) id first (subst (λ (ps : List ℕ). IsFilled index.ids.items ps k (k + 1) id) (sym ids) one) keeps few (λ j le less.
    let is : pc ≡ 4 * (index.first + j) = omega arith in
    subst P is at)

in_range : (low high n : ℕ) → low ≤ n → n < high → (nat_le low n && nat_lt n high) ≡ true
in_range low high n le lt = grind (arith, nat_tests)

-- what the next row of an FDE that is the first to hold its addresses says
pub row_is_in : (frames : Frames) (rows before after : FdeRows) (row : Row) (found : Option Rules) → AreFirst frames rows → before.section ≡ rows.section → before.fde ≡ rows.fde → IsNextRow before after row → found ≡ after.rules → IsRowIn (rules_at (descriptions frames)) row found
row_is_in frames rows before after row found first section fde next is address from to =
    let low = next.is.low in
    let high = next.is.within in
    let own : rules_of before.section address before.fde ≡ after.rules = next.is.rules address from to in
    let is_low : (fde_range before.fde).start ≡ (fde_range rows.fde).start = ap (λ (f : Fde). (fde_range f).start) fde in
    let is_high : (fde_range before.fde).end ≡ (fde_range rows.fde).end = ap (λ (f : Fde). (fde_range f).end) fde in
    let a : (fde_range rows.fde).start ≤ address = omega arith in
    let b : address < (fde_range rows.fde).end = omega arith in
    let held = in_range (fde_range rows.fde).start (fde_range rows.fde).end address a b in
    rules_by_fde frames address
    ∙ ap (λ (o : Option Fde). option_and_then (rules_of frames.section address) o) (first.first address held)
    ∙ ap (λ (s : List ℕ). rules_of s address rows.fde) (sym (section ∙ first.section))
    ∙ ap (λ (f : Fde). rules_of before.section address f) (sym fde)
    ∙ own
    ∙ sym is

pub next_is : (found : Option Row) (row : Row) (before after : FdeRows) → found ≡ Some row → MatchOption found (before.next ≡ None) (IsNextRow before after) → IsNextRow before after row
next_is found row before after is next = subst (λ (o : Option Row). MatchOption o (before.next ≡ None) (IsNextRow before after)) is next

pub found_first : (found : Option FdeRows) (rows : FdeRows) (frames : Frames) → found ≡ Some rows → IfSome found (AreFirst frames) → AreFirst frames rows
found_first found rows frames is first = subst (λ (o : Option FdeRows). IfSome o (AreFirst frames)) is first

-- how many addresses lie from the next row on
abbrev pub room_of : Fde → Option ℕ → ℕ
room_of fde None = 0
room_of fde (Some address) = (fde_range fde).end - address

pub room_shrinks : (before after : FdeRows) (row : Row) → after.fde ≡ before.fde → IsNextRow before after row → room_of after.fde after.next < room_of before.fde before.next
room_shrinks before after row fde next =
    let was : room_of before.fde before.next ≡ (fde_range before.fde).end - row.start = ap (room_of before.fde) next.start in
    let is : room_of after.fde after.next ≡ room_of before.fde (row_from before.fde row.end) = ap (λ (f : Fde). room_of f after.next) fde ∙ ap (room_of before.fde) next.next in
    let less = less_from (nat_lt row.end (fde_range before.fde).end) in
    omega (arith, was, is, less)
  where
    less_from : (b : Bool) → room_of before.fde (let o : Option ℕ = cond b (Some row.end) None in o) < (fde_range before.fde).end - row.start
    less_from true = (let some = next.is.some in let within = next.is.within in omega arith)
    less_from false = (let some = next.is.some in let within = next.is.within in omega arith)

-- ---- addresses that no FDE holds

-- no FDE holds an address from one on that none holds and above which none starts
abbrev held : ℕ → Fde → Bool
held address fde = nat_le fde.initial_location address && nat_lt address (fde.initial_location + fde.address_range)

not_held : (pc address : ℕ) (fde : Fde) → pc ≤ address → held pc fde ≡ false → nat_lt pc fde.initial_location ≡ false → held address fde ≡ false
not_held pc address fde le none above = grind (arith, nat_tests)

held_by_none_from : (fdes : List Fde) (pc address : ℕ) → pc ≤ address → find (held pc) fdes ≡ None → least_above pc (map (λ (f : Fde). f.initial_location) fdes) ≡ None → find (held address) fdes ≡ None
held_by_none_from [] pc address le none above = refl
held_by_none_from (fde ∷ fdes) pc address le none above = go (held_by_none_from fdes pc address le) (held pc fde) (nat_lt pc fde.initial_location) refl refl none above
  where
    Above : Bool → Type 0
    Above b = (let o : Option ℕ = cond b (lesser fde.initial_location (least_above pc (map (λ (f : Fde). f.initial_location) fdes))) (least_above pc (map (λ (f : Fde). f.initial_location) fdes)) in o) ≡ None

    Found : Bool → Type 0
    Found b = (let o : Option Fde = cond b (Some fde) (find (held pc) fdes) in o) ≡ None

    some : (o : Option ℕ) → lesser fde.initial_location o ≡ None → ⊥
    some None e = absurd cc
    some (Some n) e = absurd cc

    go : (find (held pc) fdes ≡ None → least_above pc (map (λ (f : Fde). f.initial_location) fdes) ≡ None → find (held address) fdes ≡ None) → (here later : Bool) → held pc fde ≡ here → nat_lt pc fde.initial_location ≡ later → Found here → Above later → find (held address) (fde ∷ fdes) ≡ None
    go rest true later is at found up = absurd cc
    go rest false true is at found up = absurd (some (least_above pc (map (λ (f : Fde). f.initial_location) fdes)) up)
    go rest false false is at found up = rw (not_held pc address fde le is at) (rest found up)

no_rules : (frames : Frames) (address : ℕ) → fde_at frames address ≡ None → rules_at (descriptions frames) address ≡ None
no_rules frames address none = rules_by_fde frames address ∙ ap (λ (o : Option Fde). option_and_then (rules_of frames.section address) o) none

no_fde : (o : Option Fde) → option_map (λ (f : Fde). f.offset) o ≡ None → o ≡ None
no_fde None e = refl
no_fde (Some fde) e = absurd cc

pub no_rules_at : (frames : Frames) (address : ℕ) → option_map (λ (f : Fde). f.offset) (fde_at frames address) ≡ None → rules_at (descriptions frames) address ≡ None
no_rules_at frames address none = no_rules frames address (no_fde (fde_at frames address) none)

pub no_rules_from : (frames : Frames) (pc address : ℕ) → pc ≤ address → option_map (λ (f : Fde). f.offset) (fde_at frames pc) ≡ None → least_above pc (starts_of (descriptions frames)) ≡ None
    → rules_at (descriptions frames) address ≡ None
no_rules_from frames pc address le none above =
    no_rules frames address (held_by_none_from frames.fdes pc address le (no_fde (fde_at frames pc) none) (sym (ap (least_above pc) (starts_of_fdes frames)) ∙ above))

pub none_if : {X : Type 0} (o : Option X) (b : Bool) → is_some o ≡ not b → b ≡ true → o ≡ None
none_if None b e is = refl
none_if (Some x) true e is = absurd cc
none_if (Some x) false e is = absurd cc

-- words after all FDEs get the first unwind rule
pub keeps_after_fdes : (rules : ℕ → Option Rules) (index after : Index) (low count : ℕ) → after.first ≡ index.first → after.unwind_rules.items ≡ index.unwind_rules.items → IsFilled index.ids.items after.ids.items low count 0 → low < length index.ids.items → count ≤ length index.ids.items
    → ((address : ℕ) → 4 * (index.first + low) ≤ address → rules address ≡ None) → KeepsIndex rules index after
keeps_after_fdes rules index after low count first items filled some within none is =
    let few = is.few in
    keeps_filled rules index after low count 0 first filled (λ id found at. subst (λ (rs : List UnwindRule). IsAt rs id found) (sym items) at) (let long = ap (λ (rs : List UnwindRule). length rs) items in omega arith)
    (λ k le lt. subst (λ (o : Option Rules). IsAt after.unwind_rules.items 0 o) (sym (none (4 * (index.first + k)) (omega arith))) (subst (λ (rs : List UnwindRule). IsAt rs 0 None) (sym items) (is.nowhere (omega arith)))) is

-- ---- the entry region

no_region : (low high n : ℕ) → (n < low) ⊎ (high ≤ n) → (nat_le low n && nat_lt n high) ≡ false
no_region low high n (inl under) = grind (arith, nat_tests)
no_region low high n (inr over) = grind (arith, nat_tests)

-- paths end whole at the addresses of the region, and elsewhere the rules are followed
pub ends_in : (u : Unwinding) (index after : Index) (start end low high id : ℕ) → after.first ≡ index.first → IsFilled index.ids.items after.ids.items low high id → KeepsRules index.unwind_rules.items after.unwind_rules.items
    → length after.unwind_rules.items ≤ 2 ^ 20 → EndsWhole after.unwind_rules.items id → u.region.0 ≤ 4 * start → 4 * start < u.region.0 + 4 → u.region.1 ≤ 4 * end → 4 * end < u.region.1 + 4
    → high ≡ min (end - index.first) (length index.ids.items) → low ≡ min (start - index.first) high → IsIndexOf u.rules index → IsReady u after
ends_in u index after start end low high id first filled keeps few ends start_from start_to end_from end_to at_high at_low is = record {
  few = few;
  ids = λ k lt.
      let P : ℕ → Type 0 = λ f. Found (4 * (f + k)) (get_or after.ids.items k 0) in
      let len = filled.as_many in
      subst P (sym first) (there k (omega arith) (cases_lt k low) (cases_lt k high));
}
  where
    Found : ℕ → ℕ → Type 0
    Found pc n = (n ≡ no_id) ⊎ IsFinding u pc after.unwind_rules.items n

    followed : (pc n : ℕ) → is_in u.region pc ≡ false → IsId index.unwind_rules.items n (u.rules pc) → Found pc n
    followed pc n outside (inl none) = inl none
    followed pc n outside (inr at) =
        let still = keeps n (u.rules pc) at in
        inr (record {
          unwind_rule = still.unwind_rule;
          has = still.has;
          finds = λ words registers all. still.follows words registers all ∙ sym (outside_region u words (record { pc = pc; registers = registers }) outside);
        })

    ended : (pc : ℕ) → is_in u.region pc ≡ true → IsFinding u pc after.unwind_rules.items id
    ended pc within = record {
      unwind_rule = Ends Whole;
      has = ends;
      finds = λ words registers all. sym (inside_region u words (record { pc = pc; registers = registers }) within);
    }

    there : (k : ℕ) → k < length index.ids.items → (k < low) ⊎ (low ≤ k) → (k < high) ⊎ (high ≤ k) → Found (4 * (index.first + k)) (get_or after.ids.items k 0)
    there k lt (inl under) side =
        subst (Found (4 * (index.first + k))) (sym (filled.below k under)) (followed (4 * (index.first + k)) (get_or index.ids.items k 0) (no_region u.region.0 u.region.1 (4 * (index.first + k)) (inl (omega arith))) (is.ids k lt))
    there k lt (inr from) (inr over) =
        subst (Found (4 * (index.first + k))) (sym (filled.above k over)) (followed (4 * (index.first + k)) (get_or index.ids.items k 0) (no_region u.region.0 u.region.1 (4 * (index.first + k)) (inr (omega arith))) (is.ids k lt))
    there k lt (inr from) (inl to) =
        subst (Found (4 * (index.first + k))) (sym (filled.inside k from to)) (inr (ended (4 * (index.first + k)) (in_range u.region.0 u.region.1 (4 * (index.first + k)) (omega arith) (omega arith))))

-- ---- what is found

-- the unwind rule at an id finds the callers at the address
rule_there : (u : Unwinding) (pc : ℕ) (unwind_rules : List UnwindRule) (id : ℕ) (r : Option (Bor UnwindRule)) → length unwind_rules ≤ 2 ^ 20 → (id ≡ no_id) ⊎ IsFinding u pc unwind_rules id → option_copied r ≡ slice_get unwind_rules id
    → IfSome r (λ unwind_rule. FindsCallers u pc unwind_rule.now)
rule_there u pc unwind_rules id None few at e = tt
rule_there u pc unwind_rules id (Some unwind_rule) few (inr at) e =
    let P : UnwindRule → Type 0 = λ s. FindsCallers u pc s in
    subst P (sym (some_same unwind_rule.now at.unwind_rule (e ∙ at.has))) at.finds
rule_there u pc unwind_rules id (Some unwind_rule) few (inl none) e =
    let wrong : Some unwind_rule.now ≡ None = e ∙ slice_get_past unwind_rules id (omega arith) in
    absurd cc

pub rule_with : (u : Unwinding) (index : Index) (pc k id : ℕ) (r : Option (Bor UnwindRule)) → IsReady u index → Some id ≡ slice_get index.ids.items k → 4 * (index.first + k) ≡ pc
    → option_copied r ≡ slice_get index.unwind_rules.items id → IfSome r (λ unwind_rule. FindsCallers u pc unwind_rule.now)
rule_with u index pc k id r is id_is number found = go (cases_lt k (length index.ids.items))
  where
    here : get_or index.ids.items k 0 ≡ id
    here = sym (unwrap_or-slice_get index.ids.items k 0) ∙ ap (λ (o : Option ℕ). unwrap_or o 0) (sym id_is)

    go : (k < length index.ids.items) ⊎ (length index.ids.items ≤ k) → IfSome r (λ unwind_rule. FindsCallers u pc unwind_rule.now)
    go (inl lt) =
        let P : ℕ → Type 0 = λ n. (n ≡ no_id) ⊎ IsFinding u (4 * (index.first + k)) index.unwind_rules.items n in
        let Q : ℕ → Type 0 = λ n. (id ≡ no_id) ⊎ IsFinding u n index.unwind_rules.items id in
        rule_there u pc index.unwind_rules.items id r is.few (subst Q number (subst P here (is.ids k lt))) found
    go (inr past) = let wrong : Some id ≡ None = id_is ∙ slice_get_past index.ids.items k past in absurd cc

-- ---- an address's unwind rule that is made anew

-- it stays an index, and the latest rules have their unwind rule
pub record Grows (rules : ℕ → Option Rules) (start after : Index) (id : ℕ) (found : Option Rules) : Type 0 where
  pub as_many : length after.ids.items ≡ length start.ids.items
  pub keeps : KeepsIndex rules start after
  pub latest : IsIndexOf rules start → 0 < length after.ids.items → IsAt after.unwind_rules.items id found

pub grows_one : (rules : ℕ → Option Rules) (start index after : Index) (k pc id last next : ℕ) (found latest : Option Rules) → k < length index.ids.items → length index.ids.items ≡ length start.ids.items
    → KeepsIndex rules start index → (IsIndexOf rules start → 0 < length index.ids.items → IsAt index.unwind_rules.items last found)
    → after.first ≡ index.first → after.ids.items ≡ set index.ids.items k id → KeepsRules index.unwind_rules.items after.unwind_rules.items → length after.unwind_rules.items ≤ 2 ^ 20 → pc ≡ 4 * (index.first + k)
    → (IsAt index.unwind_rules.items 0 None → IsAt index.unwind_rules.items last found → IsAt after.unwind_rules.items id (rules pc)) → (IsAt index.unwind_rules.items last found → IsAt after.unwind_rules.items next latest)
    → Grows rules start after next latest
grows_one rules start index after k pc id last next found latest lt many keeps_so_far at_last first ids keeps few number at to_next =
    let some : 0 < length index.ids.items = omega arith in
    let len : length after.ids.items ≡ length index.ids.items = ap (λ (ps : List ℕ). length ps) ids ∙ length-set index.ids.items k id in
    record {
      as_many = len ∙ many;
      keeps = λ is. keeps_one rules index after k id pc first ids lt keeps few number (at ((keeps_so_far is).nowhere some) (at_last is some)) (keeps_so_far is);
      latest = λ is there. to_next (at_last is some);
    }
