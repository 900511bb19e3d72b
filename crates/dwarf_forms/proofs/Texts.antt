-- Texts of sections: the first bytes of a text, and which texts end.
use Rattle.std.proofs.Common.{◌≡◌, ◌==◌, ℕ, zero, suc, ◌+◌, ◌-◌, ◌<◌, ◌≤◌, ◌≢◌, Bool, true, false, cond, not, List, [], ◌∷◌, length, take, drop, get_or, Option, Some, None, inl, inr, refl, sym, ap, ◌∙◌, arith}
use Rattle.std.specs.Prelude.{nat_lt, is_some, option_map, unwrap_or}
use Rattle.std.specs.List.{position_or_len}
use Rattle.std.proofs.lemmas.Bool.{cases_lt, lt-ltb, le-ltb, ltb-false, eqb-true}
use Rattle.std.proofs.lemmas.List.{length-drop, get_or-drop, take_all, take-take}
use Rattle.std.proofs.lemmas.List.Sums.{take_while-cons, fails_before_first, passes_at_first}
use Rattle.dwarf_forms.specs.Sections.{before_zero, text_in}
use Rattle.dwarf_forms.specs.private.Texts.{AreEndedBefore}

abbrev pub is_zero : ℕ → Bool
is_zero byte = byte == 0

-- the index of the first 0 byte
abbrev pub first_zero : List ℕ → ℕ
first_zero bytes = position_or_len is_zero bytes

-- the text at the front, where a 0 byte follows it or not
abbrev pub front_text : List ℕ → Bool → Option (List ℕ)
front_text bytes ends = option_map (λ (r : List ℕ × ℕ). r.0) (option_map (λ (end : ℕ). (take end bytes, end + 1)) (cond ends (Some (first_zero bytes)) None))

abbrev has_zero : List ℕ → Bool
has_zero bytes = nat_lt (first_zero bytes) (length bytes)

-- ---- the first bytes of a text

one_more : (n byte : ℕ) (few all : List ℕ) (b : Bool) → few ≡ take n all → cond b (byte ∷ few) [] ≡ take (suc n) (cond b (byte ∷ all) [])
one_more n byte few all true same = ap (λ (bytes : List ℕ). byte ∷ bytes) same
one_more n byte few all false same = refl

pub cut_text : (n : ℕ) (bytes : List ℕ) → before_zero (take n bytes) ≡ take n (before_zero bytes)
cut_text zero bytes = refl
cut_text (suc n) [] = refl
cut_text (suc n) (byte ∷ bytes) =
    take_while-cons (λ b. not (is_zero b)) byte (take n bytes)
    ∙ one_more n byte (before_zero (take n bytes)) (before_zero bytes) (not (is_zero byte)) (cut_text n bytes)
    ∙ sym (ap (λ (text : List ℕ). take (suc n) text) (take_while-cons (λ b. not (is_zero b)) byte bytes))

or_all : (bytes : List ℕ) (b : Bool) → has_zero bytes ≡ b → unwrap_or (front_text bytes b) bytes ≡ before_zero bytes
or_all bytes true is = refl
or_all bytes false is = sym (take_all (first_zero bytes) bytes (ltb-false _ _ is))

-- the bytes before the first 0 byte are those that were found, or all
pub front_or_all : (bytes : List ℕ) → unwrap_or (text_in bytes 0) bytes ≡ before_zero bytes
front_or_all bytes = or_all bytes (has_zero bytes) refl

-- what is before a 0 byte has none
pub front_whole : (bytes : List ℕ) → before_zero (take (first_zero bytes) bytes) ≡ take (first_zero bytes) bytes
front_whole bytes = cut_text (first_zero bytes) bytes ∙ take-take (first_zero bytes) (first_zero bytes) bytes (omega arith)

-- the first bytes of the text that is at the front of all of these
pub cut_front : (front all : List ℕ) (most : ℕ) (found : Option (List ℕ)) → front ≡ take most all → found ≡ text_in front 0
    → unwrap_or found front ≡ take most (before_zero all)
cut_front front all most found cut is =
    ap (λ (o : Option (List ℕ)). unwrap_or o front) is ∙ front_or_all front
    ∙ ap (λ (bytes : List ℕ). before_zero bytes) cut ∙ cut_text most all

-- ---- which texts end

front_is : (bytes : List ℕ) (b : Bool) → is_some (front_text bytes b) ≡ b
front_is bytes true = refl
front_is bytes false = refl

some_front : (bytes : List ℕ) (b : Bool) → b ≡ true → Some (before_zero bytes) ≡ front_text bytes b
some_front bytes true is = refl
some_front bytes false is = absurd cc

no_front : (bytes : List ℕ) (b : Bool) → b ≡ false → None ≡ front_text bytes b
no_front bytes true is = absurd cc
no_front bytes false is = refl

has_at : (section : List ℕ) (end offset : ℕ) → AreEndedBefore section end → has_zero (drop offset section) ≡ nat_lt offset end
has_at section end offset are = sym (front_is (drop offset section) (has_zero (drop offset section))) ∙ are.ended offset

pub text_there : (section : List ℕ) (end offset : ℕ) → AreEndedBefore section end → offset < end → Some (before_zero (drop offset section)) ≡ text_in section offset
text_there section end offset are lt = some_front (drop offset section) (has_zero (drop offset section)) (has_at section end offset are ∙ lt-ltb offset end lt)

pub no_text : (section : List ℕ) (end offset : ℕ) → AreEndedBefore section end → end ≤ offset → None ≡ text_in section offset
no_text section end offset are le = no_front (drop offset section) (has_zero (drop offset section)) (has_at section end offset are ∙ le-ltb offset end le)

-- ---- the last 0 byte

-- no 0 byte lies at an index or behind it
abbrev pub NoneFrom : List ℕ → ℕ → Type 0
NoneFrom section end = (k : ℕ) → end ≤ k → k < length section → get_or section k 0 ≢ 0

pub one_nearer : (section : List ℕ) (end : ℕ) → 0 < end → get_or section (end - 1) 0 ≢ 0 → NoneFrom section end → NoneFrom section (end - 1)
one_nearer section end lt own none = λ k le within.
    elim (cases_lt k end) [
      | inl before ↦
          let last : end - 1 ≡ k = omega arith in
          (λ is. own (ap (λ (i : ℕ). get_or section i 0) last ∙ is))
      | inr behind ↦ none k behind within
    ]

zero_ahead : (section : List ℕ) (end offset : ℕ) → end ≤ length section → get_or section (end - 1) 0 ≡ 0 → offset < end
    → first_zero (drop offset section) < length (drop offset section)
zero_ahead section end offset within there lt =
    let long = length-drop offset section in
    elim (cases_lt (first_zero (drop offset section)) (length (drop offset section))) [
      | inl found ↦ found
      | inr past ↦
          let at : offset + (end - 1 - offset) ≡ end - 1 = omega arith in
          let own : get_or (drop offset section) (end - 1 - offset) 0 ≡ 0 =
          get_or-drop offset section (end - 1 - offset) 0 ∙ ap (λ (i : ℕ). get_or section i 0) at ∙ there in
          let no : is_zero (get_or (drop offset section) (end - 1 - offset) 0) ≡ false =
          fails_before_first is_zero (drop offset section) (end - 1 - offset) 0 (omega arith) in
          let e : true ≡ false = sym (ap is_zero own) ∙ no in
          absurd cc
    ]

none_ahead : (section : List ℕ) (end offset : ℕ) → NoneFrom section end → end ≤ offset → length (drop offset section) ≤ first_zero (drop offset section)
none_ahead section end offset none le =
    let long = length-drop offset section in
    elim (cases_lt (first_zero (drop offset section)) (length (drop offset section))) [
      | inl found ↦
          let own : get_or (drop offset section) (first_zero (drop offset section)) 0 ≡ get_or section (offset + first_zero (drop offset section)) 0 =
          get_or-drop offset section (first_zero (drop offset section)) 0 in
          let zero_there : get_or (drop offset section) (first_zero (drop offset section)) 0 ≡ 0 =
          eqb-true _ _ (passes_at_first is_zero (drop offset section) 0 found) in
          absurd (none (offset + first_zero (drop offset section)) (omega arith) (omega arith) (sym own ∙ zero_there))
      | inr past ↦ past
    ]

ended_at : (section : List ℕ) (end offset : ℕ) → end ≤ length section → NoneFrom section end → (0 < end → get_or section (end - 1) 0 ≡ 0)
    → has_zero (drop offset section) ≡ nat_lt offset end
ended_at section end offset within none last =
    elim (cases_lt offset end) [
      | inl lt ↦
          let some = zero_ahead section end offset within (last (omega arith)) lt in
          lt-ltb _ _ some ∙ sym (lt-ltb offset end lt)
      | inr ge ↦ le-ltb _ _ (none_ahead section end offset none ge) ∙ sym (le-ltb offset end ge)
    ]

-- the last 0 byte lies before an offset, if there is any
pub are_ended : (section : List ℕ) (end : ℕ) → end ≤ length section → NoneFrom section end → (0 < end → get_or section (end - 1) 0 ≡ 0) → AreEndedBefore section end
are_ended section end within none last = record {
  within = within;
  ended = λ offset. front_is (drop offset section) (has_zero (drop offset section)) ∙ ended_at section end offset within none last;
}
