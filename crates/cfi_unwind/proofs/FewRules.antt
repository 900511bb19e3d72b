-- The few registers that are not kept, recovered one after another, are those that the rules give.
use Rattle.std.proofs.Common.{◌≡◌, ℕ, zero, suc, ◌+◌, ◌<◌, ◌≤◌, Bool, true, false, cond, List, [], ◌∷◌, ◌++◌, length, take, map, get_or, set, Option, Some, None, refl, sym, subst, ap, ap₂, ◌∙◌, arith}
use Rattle.std.specs.Prelude.{◌||◌, if◌then◌else◌, is_none, unwrap_or}
use Rattle.std.specs.List.{list_any, filter_map, range_with_len}
use Rattle.std.proofs.lemmas.List.{append-nil, get_or-set_other, length-set, map-id, take_all, take_more, take_more_set, get_or-map, length-map, map-append}
use Rattle.std.proofs.lemmas.List.Elements.{filter_map-append}
use Rattle.std.proofs.lemmas.List.Folds.{list_any-append, list_any_at, list_any_more}
use Rattle.std.proofs.lemmas.List.FromFn.{map-range_with_len_more}
use Rattle.prof_bytes.proofs.Tests.{or_false}
use Rattle.cfi_table.specs.declared.rules.Rule.{Rule}
use Rattle.cfi_table.specs.declared.rules.Rule.TheVariants as rules
use Rattle.cfi_table.specs.Rules.{rule_at, AreSameValue}
use Rattle.cfi_unwind.specs.declared.unwind_rule.RegisterRule.{RegisterRule}
use Rattle.cfi_unwind.specs.declared.saved_registers.SavedRegister.{SavedRegister}
use Rattle.prof_bytes.specs.Number.{word_sum}
use Rattle.cfi_unwind.specs.Caller.{Words, is_expression, is_unmapped, recovered, recovered_all}
use Rattle.cfi_unwind.specs.private.UnwindRules.{is_kept, is_unmapped_register, recovered_each, saved_rule, AreSaved, Recovers}
use Rattle.cfi_unwind.proofs.Recovering.{value_at, given_by, rule_here}

-- ---- one register more

pub recovered_push : (words : Words) (registers : List ℕ) (cfa : ℕ) (few : List RegisterRule) (each : RegisterRule) (values : List ℕ)
    → recovered_each words registers cfa (few ++ each ∷ []) values ≡ set (recovered_each words registers cfa few values) each.register (recovered words registers cfa (get_or registers each.register 0) each.rule)
recovered_push words registers cfa [] each values = refl
recovered_push words registers cfa (c ∷ few) each values = recovered_push words registers cfa few each _

-- the first of them are recovered, and each could be loaded
pub record RecoveringEach (words : Words) (registers : List ℕ) (cfa : ℕ) (few : List RegisterRule) (count : ℕ) (values : List ℕ) : Type 0 where
  pub so_far : values ≡ recovered_each words registers cfa (take count few) registers
  pub mapped : list_any (is_unmapped_register words cfa) (take count few) ≡ false

pub goes_on : (words : Words) (registers : List ℕ) (cfa : ℕ) (few : List RegisterRule) (count : ℕ) (values : List ℕ) (own value : ℕ) (d : RegisterRule) → count < length few → own ≡ get_or registers (get_or few count d).register 0
    → Some value ≡ cond (is_unmapped words cfa (get_or few count d).rule) None (Some (recovered words registers cfa own (get_or few count d).rule))
    → RecoveringEach words registers cfa few count values → RecoveringEach words registers cfa few (count + 1) (set values (get_or few count d).register value)
goes_on words registers cfa few count values own value d low is_own made before =
    let each : RegisterRule = get_or few count d in
    let given = given_by (is_unmapped words cfa each.rule) (recovered words registers cfa own each.rule) value made in
    let value_is : value ≡ recovered words registers cfa (get_or registers each.register 0) each.rule = given.1 ∙ ap (λ (v : ℕ). recovered words registers cfa v each.rule) is_own in
    record {
      so_far =
          ap₂ (λ (vs : List ℕ) (v : ℕ). set vs each.register v) before.so_far value_is
          ∙ sym (recovered_push words registers cfa (take count few) each registers)
          ∙ sym (ap (λ (cs : List RegisterRule). recovered_each words registers cfa cs registers) (take_more few count d low));
      mapped = list_any_more (is_unmapped_register words cfa) few count d low ∙ ap₂ (λ (a b : Bool). a || b) before.mapped given.0;
    }

-- ---- registers that are loaded

loaded : (o : Option ℕ) (value : ℕ) → Some value ≡ o → Some value ≡ cond (is_none o) None (Some (unwrap_or o 0))
loaded None value e = absurd cc
loaded (Some here) value e = e

missing : (o : Option ℕ) → None ≡ o → is_none o ≡ true
missing None e = refl
missing (Some here) e = absurd cc

rule_of : (saved : List SavedRegister) (count : ℕ) (d : SavedRegister) → count < length saved → get_or (map saved_rule saved) count (saved_rule d) ≡ saved_rule (get_or saved count d)
rule_of saved count d low = get_or-map saved_rule saved count d (saved_rule d) low

as_many : (saved : List SavedRegister) → length (map saved_rule saved) ≡ length saved
as_many saved = length-map saved saved_rule

pub loads_next : (words : Words) (registers : List ℕ) (cfa : ℕ) (saved : List SavedRegister) (count : ℕ) (values : List ℕ) (value : ℕ) (d : SavedRegister) → count < length saved → Some value ≡ words (word_sum cfa (get_or saved count d).offset)
    → RecoveringEach words registers cfa (map saved_rule saved) count values → RecoveringEach words registers cfa (map saved_rule saved) (count + 1) (set values (get_or saved count d).register value)
loads_next words registers cfa saved count values value d low found before =
    let each : SavedRegister = get_or saved count d in
    let here = rule_of saved count d low in
    let many = as_many saved in
    let Made : RegisterRule → Type 0 = λ r. Some value ≡ cond (is_unmapped words cfa r.rule) None (Some (recovered words registers cfa (get_or registers r.register 0) r.rule)) in
    let made : Made (get_or (map saved_rule saved) count (saved_rule d)) = subst Made (sym here) (loaded (words (word_sum cfa each.offset)) value found) in
    let Next : RegisterRule → Type 0 = λ r. RecoveringEach words registers cfa (map saved_rule saved) (count + 1) (set values r.register value) in
    subst Next here (goes_on words registers cfa (map saved_rule saved) count values (get_or registers (get_or (map saved_rule saved) count (saved_rule d)).register 0) value (saved_rule d) (omega arith) refl made before)

pub fails_loading : (words : Words) (cfa : ℕ) (saved : List SavedRegister) (count : ℕ) (d : SavedRegister) → count < length saved → None ≡ words (word_sum cfa (get_or saved count d).offset) → list_any (is_unmapped_register words cfa) (map saved_rule saved) ≡ true
fails_loading words cfa saved count d low none =
    let many = as_many saved in
    list_any_at (is_unmapped_register words cfa) (map saved_rule saved) count (saved_rule d) (omega arith)
    (ap (is_unmapped_register words cfa) (rule_of saved count d low) ∙ missing (words (word_sum cfa (get_or saved count d).offset)) none)

pub all_loaded : (words : Words) (registers : List ℕ) (cfa : ℕ) (saved : List SavedRegister) (count : ℕ) (values : List ℕ) → length saved ≤ count → RecoveringEach words registers cfa (map saved_rule saved) count values
    → (list_any (is_unmapped_register words cfa) (map saved_rule saved) ≡ false) × (values ≡ recovered_each words registers cfa (map saved_rule saved) registers)
all_loaded words registers cfa saved count values past before =
    let many = as_many saved in
    let whole : take count (map saved_rule saved) ≡ map saved_rule saved = take_all count (map saved_rule saved) (omega arith) in (
      ap (list_any (is_unmapped_register words cfa)) (sym whole) ∙ before.mapped,
      before.so_far ∙ ap (λ (cs : List RegisterRule). recovered_each words registers cfa cs registers) whole,
    )

-- ---- those among the first registers

-- a register and its rule, unless it is kept
abbrev pub unless_kept : List Rule → ℕ → Option RegisterRule
unless_kept regs number = if is_kept (rule_at regs number) then None else Some (record { register = number; rule = rule_at regs number })

-- the registers below a number that are not kept
abbrev pub not_kept_to : List Rule → ℕ → List RegisterRule
not_kept_to regs count = filter_map (unless_kept regs) (range_with_len 0 count)

range_more : (n : ℕ) → range_with_len 0 (n + 1) ≡ range_with_len 0 n ++ n ∷ []
range_more n = sym (map-id (range_with_len 0 (n + 1))) ∙ map-range_with_len_more (λ (k : ℕ). k) 0 n n (omega arith) ∙ ap (λ (ks : List ℕ). ks ++ n ∷ []) (map-id (range_with_len 0 n))

not_kept_more : (regs : List Rule) (n : ℕ) → not_kept_to regs (n + 1) ≡ not_kept_to regs n ++ filter_map (unless_kept regs) (n ∷ [])
not_kept_more regs n = ap (filter_map (unless_kept regs)) (range_more n) ∙ filter_map-append (unless_kept regs) (range_with_len 0 n) (n ∷ [])

pub passes_kept : (regs : List Rule) (n : ℕ) → is_kept (rule_at regs n) ≡ true → not_kept_to regs (n + 1) ≡ not_kept_to regs n
passes_kept regs n kept = not_kept_more regs n ∙ rw kept (append-nil (not_kept_to regs n))

pub takes_rule : (regs : List Rule) (n : ℕ) → is_kept (rule_at regs n) ≡ false → not_kept_to regs (n + 1) ≡ not_kept_to regs n ++ record { register = n; rule = rule_at regs n } ∷ []
takes_rule regs n other = not_kept_more regs n ∙ rw other refl

-- the first so many are those among the first registers that are not kept
pub record Listed (regs : List Rule) (n count : ℕ) (few : List RegisterRule) : Type 0 where
  pub all : length few ≡ 32
  pub less : count ≤ n
  pub so_far : take count few ≡ not_kept_to regs n

pub keeps_next : (regs : List Rule) (n j : ℕ) (d : Rule) (kept : Bool) (count : ℕ) (few : List RegisterRule) → n < 32 → length regs ≡ 32 → length few ≡ 32 → count ≤ n → j ≡ n → kept ≡ is_kept (get_or regs j d) → kept ≡ true
    → take count few ≡ not_kept_to regs n → Listed regs (n + 1) count few
keeps_next regs n j d kept count few low full all less same looked is_true before =
    let is : is_kept (rule_at regs n) ≡ true = ap is_kept (sym (rule_here regs n d (omega arith)) ∙ ap (λ (i : ℕ). get_or regs i d) (sym same)) ∙ sym looked ∙ is_true in
    record { all = all; less = omega arith; so_far = before ∙ sym (passes_kept regs n is) }

pub takes_next : (regs : List Rule) (n j : ℕ) (d : Rule) (kept : Bool) (count : ℕ) (few : List RegisterRule) → n < 32 → length regs ≡ 32 → length few ≡ 32 → count ≤ n → j ≡ n → kept ≡ is_kept (get_or regs j d) → kept ≡ false
    → take count few ≡ not_kept_to regs n → Listed regs (n + 1) (count + 1) (set few count (record { register = n; rule = get_or regs j d }))
takes_next regs n j d kept count few low full all less same looked is_false before =
    let here : get_or regs j d ≡ rule_at regs n = ap (λ (i : ℕ). get_or regs i d) same ∙ rule_here regs n d (omega arith) in
    let is : is_kept (rule_at regs n) ≡ false = ap is_kept (sym here) ∙ sym looked ∙ is_false in
    let next : RegisterRule = record { register = n; rule = get_or regs j d } in
    record {
      all = length-set few count next ∙ all;
      less = omega arith;
      so_far =
          take_more_set few count next (omega arith)
          ∙ ap₂ (λ (cs : List RegisterRule) (rule : Rule). cs ++ record { register = n; rule = rule } ∷ []) before here
          ∙ sym (takes_rule regs n is);
    }

-- ---- and what they make

-- those of the first registers make the values that the rules of these give, and leave the others
record RecoveredTo (words : Words) (registers : List ℕ) (cfa : ℕ) (regs : List Rule) (n : ℕ) (few : List RegisterRule) (values : List ℕ) : Type 0 where
  pub made : recovered_each words registers cfa few registers ≡ values
  pub count : length values ≡ 32
  pub so_far : take n values ≡ map (value_at words registers cfa regs) (range_with_len 0 n)
  pub rest : (k : ℕ) → n ≤ k → get_or values k 0 ≡ get_or registers k 0
  pub mapped : list_any (is_unmapped_register words cfa) few ≡ list_any (is_unmapped words cfa) (take n regs)

pub kept_rule : (rule : Rule) → is_kept rule ≡ true → rule ≡ rules.Kept
kept_rule rules.Kept e = refl
kept_rule rules.Undefined e = absurd cc
kept_rule (rules.Saved offset) e = absurd cc
kept_rule (rules.Sum offset) e = absurd cc
kept_rule (rules.Copy source) e = absurd cc
kept_rule rules.Expression e = absurd cc

rule_next : (words : Words) (cfa : ℕ) (regs : List Rule) (n : ℕ) → n < length regs → list_any (is_unmapped words cfa) (take (n + 1) regs) ≡ (list_any (is_unmapped words cfa) (take n regs) || is_unmapped words cfa (rule_at regs n))
rule_next words cfa regs n low =
    list_any_more (is_unmapped words cfa) regs n rules.Kept low ∙ ap (λ (rule : Rule). list_any (is_unmapped words cfa) (take n regs) || is_unmapped words cfa rule) (rule_here regs n rules.Kept low)

kept_next : (words : Words) (registers : List ℕ) (cfa : ℕ) (regs : List Rule) (n : ℕ) (values : List ℕ) → n < 32 → length regs ≡ 32 → is_kept (rule_at regs n) ≡ true
    → RecoveredTo words registers cfa regs n (not_kept_to regs n) values → RecoveredTo words registers cfa regs (n + 1) (not_kept_to regs (n + 1)) values
kept_next words registers cfa regs n values low full kept before =
    let is : rule_at regs n ≡ rules.Kept = kept_rule (rule_at regs n) kept in
    let short : n < length values = (let e = before.count in omega arith) in
    record {
      made = ap (λ (cs : List RegisterRule). recovered_each words registers cfa cs registers) (passes_kept regs n kept) ∙ before.made;
      count = before.count;
      so_far =
          take_more values n 0 short
          ∙ ap₂ (λ (xs : List ℕ) (x : ℕ). xs ++ x ∷ []) before.so_far (before.rest n (omega arith) ∙ sym (ap (recovered words registers cfa (get_or registers n 0)) is))
          ∙ sym (map-range_with_len_more (value_at words registers cfa regs) 0 n n (omega arith));
      rest = λ k above. before.rest k (omega arith);
      mapped =
          ap (list_any (is_unmapped_register words cfa)) (passes_kept regs n kept)
          ∙ before.mapped
          ∙ sym (or_false (list_any (is_unmapped words cfa) (take n regs)))
          ∙ sym (ap (λ (rule : Rule). list_any (is_unmapped words cfa) (take n regs) || is_unmapped words cfa rule) is)
          ∙ sym (rule_next words cfa regs n (omega arith));
    }

rule_recovered : (words : Words) (registers : List ℕ) (cfa : ℕ) (regs : List Rule) (n : ℕ) (values : List ℕ) → n < 32 → length regs ≡ 32 → is_kept (rule_at regs n) ≡ false
    → RecoveredTo words registers cfa regs n (not_kept_to regs n) values → RecoveredTo words registers cfa regs (n + 1) (not_kept_to regs (n + 1)) (set values n (value_at words registers cfa regs n))
rule_recovered words registers cfa regs n values low full other before =
    let short : n < length values = (let e = before.count in omega arith) in
    let here : RegisterRule = record { register = n; rule = rule_at regs n } in
    record {
      made =
          ap (λ (cs : List RegisterRule). recovered_each words registers cfa cs registers) (takes_rule regs n other)
          ∙ recovered_push words registers cfa (not_kept_to regs n) here registers
          ∙ ap (λ (vs : List ℕ). set vs n (value_at words registers cfa regs n)) before.made;
      count = length-set values n (value_at words registers cfa regs n) ∙ before.count;
      so_far =
          take_more_set values n (value_at words registers cfa regs n) short
          ∙ ap (λ (xs : List ℕ). xs ++ value_at words registers cfa regs n ∷ []) before.so_far
          ∙ sym (map-range_with_len_more (value_at words registers cfa regs) 0 n n (omega arith));
      rest = λ k above. get_or-set_other values n k (value_at words registers cfa regs n) 0 (λ e. omega arith) ∙ before.rest k (omega arith);
      mapped =
          ap (list_any (is_unmapped_register words cfa)) (takes_rule regs n other)
          ∙ list_any-append (is_unmapped_register words cfa) (not_kept_to regs n) (here ∷ [])
          ∙ ap₂ (λ (a b : Bool). a || b) before.mapped (or_false (is_unmapped words cfa (rule_at regs n)))
          ∙ sym (rule_next words cfa regs n (omega arith));
    }

-- some values are made of the first registers
record Made (words : Words) (registers : List ℕ) (cfa : ℕ) (regs : List Rule) (n : ℕ) : Type 0 where
  pub values : List ℕ
  pub is : RecoveredTo words registers cfa regs n (not_kept_to regs n) values

next : (words : Words) (registers : List ℕ) (cfa : ℕ) (regs : List Rule) (n : ℕ) (b : Bool) → is_kept (rule_at regs n) ≡ b → n < 32 → length regs ≡ 32 → Made words registers cfa regs n → Made words registers cfa regs (n + 1)
next words registers cfa regs n true is low full before = record { values = before.values; is = kept_next words registers cfa regs n before.values low full is before.is }
next words registers cfa regs n false is low full before = record { values = set before.values n (value_at words registers cfa regs n); is = rule_recovered words registers cfa regs n before.values low full is before.is }

made_to : (words : Words) (registers : List ℕ) (cfa : ℕ) (regs : List Rule) (n : ℕ) → n ≤ 32 → length registers ≡ 32 → length regs ≡ 32 → Made words registers cfa regs n
made_to words registers cfa regs zero low all full = record { values = registers; is = record { made = refl; count = all; so_far = refl; rest = λ k above. refl; mapped = refl } }
made_to words registers cfa regs (suc n) low all full =
    let below : n < 32 = omega arith in
    subst (λ (k : ℕ). Made words registers cfa regs k) (omega arith) (next words registers cfa regs n (is_kept (rule_at regs n)) refl below full (made_to words registers cfa regs n (omega arith) all full))

-- the few of all registers do what the rules say
pub all_not_kept : (regs : List Rule) (few : List RegisterRule) (n : ℕ) → n ≡ 32 → length regs ≡ 32 → few ≡ not_kept_to regs n → Recovers few regs
unfolding recovered_all
all_not_kept regs few n end full is words registers cfa all =
    let done = made_to words registers cfa regs 32 (omega arith) all full in
    let here = done.is in
    let those : few ≡ not_kept_to regs 32 = is ∙ ap (not_kept_to regs) end in
    record {
      mapped = ap (list_any (is_unmapped_register words cfa)) those ∙ here.mapped ∙ ap (list_any (is_unmapped words cfa)) (take_all 32 regs (omega arith));
      made =
          ap (λ (cs : List RegisterRule). recovered_each words registers cfa cs registers) those
          ∙ here.made
          ∙ sym (take_all 32 done.values (let e = here.count in omega arith))
          ∙ here.so_far;
    }

-- ---- where each of the others is saved

-- the saved ones are those among the first registers that are not kept, and no rule of these is an expression
pub record SavedTo (regs : List Rule) (n : ℕ) (saved : List SavedRegister) : Type 0 where
  pub so_far : map saved_rule saved ≡ not_kept_to regs n
  pub expression : list_any is_expression (take n regs) ≡ false

no_more : (regs : List Rule) (n j : ℕ) (d rule : Rule) → n < 32 → length regs ≡ 32 → j ≡ n → rule ≡ get_or regs j d → is_expression rule ≡ false → list_any is_expression (take n regs) ≡ false
    → list_any is_expression (take (n + 1) regs) ≡ false
no_more regs n j d rule low full same looked none before =
    list_any_more is_expression regs n d (omega arith)
    ∙ ap₂ (λ (a b : Bool). a || b) before (ap (λ (i : ℕ). is_expression (get_or regs i d)) (sym same) ∙ ap is_expression (sym looked) ∙ none)

rule_is : (regs : List Rule) (n j : ℕ) (d rule : Rule) → n < 32 → length regs ≡ 32 → j ≡ n → rule ≡ get_or regs j d → rule_at regs n ≡ rule
rule_is regs n j d rule low full same looked = sym (rule_here regs n d (omega arith)) ∙ ap (λ (i : ℕ). get_or regs i d) (sym same) ∙ sym looked

pub kept_on : (regs : List Rule) (n j : ℕ) (d rule : Rule) (saved : List SavedRegister) → n < 32 → length regs ≡ 32 → j ≡ n → rule ≡ get_or regs j d → rule ≡ rules.Kept → SavedTo regs n saved → SavedTo regs (n + 1) saved
kept_on regs n j d rule saved low full same looked kept before =
    record {
      so_far = before.so_far ∙ sym (passes_kept regs n (ap is_kept (rule_is regs n j d rule low full same looked ∙ kept)));
      expression = no_more regs n j d rule low full same looked (ap is_expression kept) before.expression;
    }

pub saved_on : (regs : List Rule) (n j : ℕ) (d rule : Rule) (offset : ℕ) (saved next : List SavedRegister) → n < 32 → length regs ≡ 32 → j ≡ n → rule ≡ get_or regs j d → rule ≡ rules.Saved offset
    → next ≡ saved ++ record { register = n; offset = offset } ∷ [] → SavedTo regs n saved → SavedTo regs (n + 1) next
saved_on regs n j d rule offset saved next low full same looked is pushed before =
    let here : rule_at regs n ≡ rules.Saved offset = rule_is regs n j d rule low full same looked ∙ is in
    record {
      so_far =
          ap (map saved_rule) pushed
          ∙ map-append saved_rule saved (record { register = n; offset = offset } ∷ [])
          ∙ ap₂ (λ (cs : List RegisterRule) (r : Rule). cs ++ record { register = n; rule = r } ∷ []) before.so_far (sym here)
          ∙ sym (takes_rule regs n (ap is_kept here));
      expression = no_more regs n j d rule low full same looked (ap is_expression is) before.expression;
    }

-- registers that are kept up to another one
pub kept_up_to : (regs : List Rule) (from count to : ℕ) (saved : List SavedRegister) → from + count ≡ to → to ≤ 32 → length regs ≡ 32 → AreSameValue regs from to → SavedTo regs from saved → SavedTo regs to saved
kept_up_to regs from zero to saved end low full same before = subst (λ (n : ℕ). SavedTo regs n saved) (omega arith) before
kept_up_to regs from (suc count) to saved end low full same before =
    let last : ℕ = from + count in
    let under : last < 32 = omega arith in
    let kept : get_or regs last rules.Kept ≡ rules.Kept = rule_here regs last rules.Kept (omega arith) ∙ same last (omega arith) (omega arith) in
    let so_far = kept_up_to regs from count last saved refl (omega arith) full (λ register above below. same register above (omega arith)) before in
    subst (λ (n : ℕ). SavedTo regs n saved) (omega arith) (kept_on regs last last rules.Kept (get_or regs last rules.Kept) saved under full refl refl kept so_far)

pub all_saved : (regs : List Rule) (n : ℕ) (saved : List SavedRegister) → n ≡ 32 → length regs ≡ 32 → SavedTo regs n saved → AreSaved saved regs
all_saved regs n saved end full done = record {
  recovers = all_not_kept regs (map saved_rule saved) n end full done.so_far;
  expression = ap (list_any is_expression) (sym (take_all n regs (omega arith))) ∙ done.expression;
}
