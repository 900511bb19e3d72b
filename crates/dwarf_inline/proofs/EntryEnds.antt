-- Where an entry and its descendants end.
use Rattle.std.proofs.Math.ListN.{set}
use Rattle.std.proofs.Common.{◌≡◌, ℕ, ◌+◌, ◌-◌, ◌<◌, ◌≤◌, Bool, true, false, inl, inr, List, length, drop, get_or, sym, ap, ◌∙◌, subst, arith, length-drop, ◌≢◌, length-set, get_or-set_other, get_or-set_same}
use Rattle.std.specs.Prelude.{nat_lt}
use Rattle.std.specs.List.{prefix_len}
use Rattle.std.proofs.lemmas.List.{get_or-drop}
use Rattle.std.proofs.lemmas.List.Folds.{length-prefix_len}
use Rattle.std.proofs.lemmas.List.Sums.{prefix_len-le-length, prefix_len_passes, prefix_len_stops}
use Rattle.std.proofs.lemmas.Bool.{cases_lt, ltb-true, lt-ltb}
use Rattle.dwarf_inline.specs.private.Ends.{entry_end, AreEndsFrom}
use Rattle.dwarf_inline.proofs.Lists.{any_default}

prefix_reaches : {X : Type 0} (p : X → Bool) (xs : List X) (n : ℕ) (d : X) → n ≤ length xs → ((k : ℕ) → k < n → p (get_or xs k d) ≡ true) → n ≤ prefix_len p xs
prefix_reaches p xs n d le all =
    elim (cases_lt (prefix_len p xs) n) [
      | inl lt ↦
          let passes : p (get_or xs (prefix_len p xs) d) ≡ true = all (prefix_len p xs) lt in
          let stops : p (get_or xs (prefix_len p xs) d) ≡ false = prefix_len_stops p xs d (omega arith) in
          absurd cc
      | inr ge ↦ ge
    ]

abbrev reach : List ℕ → ℕ → ℕ → ℕ
reach depths i depth = prefix_len (nat_lt depth) (drop (i + 1) depths)

end_is : (depths : List ℕ) (i depth : ℕ) → entry_end depths i depth ≡ i + 1 + reach depths i depth
unfolding entry_end
end_is depths i depth = ap (λ (n : ℕ). i + 1 + n) (length-prefix_len (nat_lt depth) (drop (i + 1) depths))

pub end_behind : (depths : List ℕ) (i depth : ℕ) → i < entry_end depths i depth
end_behind depths i depth = omega (arith, end_is depths i depth)

pub end_within : (depths : List ℕ) (i depth : ℕ) → i < length depths → entry_end depths i depth ≤ length depths
end_within depths i depth lt =
    omega (arith, end_is depths i depth, prefix_len-le-length (nat_lt depth) (drop (i + 1) depths), length-drop (i + 1) depths)

-- the depths up to the end are deeper
pub deeper_within : (depths : List ℕ) (i depth j : ℕ) (d : ℕ) → i < j → j < entry_end depths i depth → depth < (get_or depths j d)
deeper_within depths i depth j d lt within =
    let k : ℕ = j - (i + 1) in
    let near : k < reach depths i depth = omega (arith, end_is depths i depth) in
    let deep : nat_lt depth (get_or (drop (i + 1) depths) k d) ≡ true = prefix_len_passes (nat_lt depth) (drop (i + 1) depths) k d near in
    let at : i + 1 + k ≡ j = omega arith in
    let there : get_or (drop (i + 1) depths) k d ≡ get_or depths j d = get_or-drop (i + 1) depths k d ∙ ap (λ (n : ℕ). get_or depths n d) at in
    ltb-true _ _ (sym (ap (λ (e : ℕ). nat_lt depth e) there) ∙ deep)

-- the end lies no nearer than an index up to which the depths are deeper
pub end_reaches : (depths : List ℕ) (i depth j : ℕ) (d : ℕ) → i < j → j ≤ length depths
    → ((k : ℕ) → i < k → k < j → depth < (get_or depths k d)) → j ≤ entry_end depths i depth
end_reaches depths i depth j d lt le all =
    let n : ℕ = j - (i + 1) in
    let short : n ≤ length (drop (i + 1) depths) = omega (arith, length-drop (i + 1) depths) in
    let far : n ≤ reach depths i depth =
    prefix_reaches (nat_lt depth) (drop (i + 1) depths) n d short
    (λ k near. ap (λ (e : ℕ). nat_lt depth e) (get_or-drop (i + 1) depths k d) ∙ lt-ltb _ _ (all (i + 1 + k) (omega arith) (omega arith))) in
    omega (arith, end_is depths i depth)

-- after a deeper entry and its descendants the depths up to the end go on
pub jumps : (depths : List ℕ) (i depth j : ℕ) (d : ℕ) → i < j → j < length depths → depth < (get_or depths j d)
    → j ≤ entry_end depths i depth → entry_end depths j (get_or depths j d) ≤ entry_end depths i depth
jumps depths i depth j d lt there deep covered =
    let inner : ℕ = (get_or depths j d) in
    end_reaches depths i depth (entry_end depths j inner) d
    (omega (arith, end_behind depths j inner)) (end_within depths j inner there)
    (λ k after before. elim (cases_lt k j) [
      | inl nearer ↦ deeper_within depths i depth k d after (omega arith)
      | inr ge ↦ elim (cases_lt j k) [
        | inl farther ↦ let more : inner < (get_or depths k d) = deeper_within depths j inner k d farther before in omega arith
        | inr le ↦
            let same : j ≡ k = omega arith in
            subst (λ (n : ℕ). depth < (get_or depths n d)) same deep
      ]
    ])

pub jump_step : (depths : List ℕ) (ends : List ℕ) (at depth end : ℕ) (d : ℕ) → AreEndsFrom depths (at + 1) ends → at < end → end < length depths
    → depth < (get_or depths end d) → end ≤ entry_end depths at depth
    → (end < get_or ends end 0) × (get_or ends end 0 ≤ length depths) × (get_or ends end 0 ≤ entry_end depths at depth)
jump_step depths ends at depth end d are behind within deep covered =
    let is : get_or ends end 0 ≡ entry_end depths end (get_or depths end d) = are.are end d (omega arith) within in
    let far : entry_end depths end (get_or depths end d) ≤ entry_end depths at depth = jumps depths at depth end d behind within deep covered in
    (omega (arith, end_behind depths end (get_or depths end d)), omega (arith, end_within depths end (get_or depths end d) within), omega arith)

pub stops_at_end : (depths : List ℕ) (i depth j : ℕ) → i < length depths → length depths ≤ j → j ≤ entry_end depths i depth → j ≡ entry_end depths i depth
stops_at_end depths i depth j lt past covered = omega (arith, end_within depths i depth lt)

pub stops_at : (depths : List ℕ) (i depth j : ℕ) (d : ℕ) → i < j → (get_or depths j d) ≤ depth → j ≤ entry_end depths i depth → j ≡ entry_end depths i depth
stops_at depths i depth j d lt flat covered =
    elim (cases_lt j (entry_end depths i depth)) [
      | inl within ↦ let deep : depth < (get_or depths j d) = deeper_within depths i depth j d lt within in absurd (omega arith)
      | inr past ↦ omega arith
    ]

-- one end more
pub one_more_end : (depths : List ℕ) (ends : List ℕ) (start at end : ℕ) (d : ℕ) → start ≡ at + 1 → AreEndsFrom depths start ends → at < length depths
    → end ≡ entry_end depths at (get_or depths at d) → AreEndsFrom depths at (set ends at end)
one_more_end depths ends start at end d next are lt is = record {
  long = length-set ends at end ∙ are.long;
  are = λ i e from there. elim (cases_lt at i) [
    | inl later ↦
        let ne : i ≢ at = omega arith in
        get_or-set_other ends at i end 0 ne ∙ are.are i e (omega arith) there
    | inr le ↦
        let same : i ≡ at = omega arith in
        let room : at < length ends = rw (are.long) lt in
        let here : get_or (set ends at end) at 0 ≡ entry_end depths at (get_or depths at e) =
        get_or-set_same ends at end 0 room ∙ is ∙ ap (λ (x : ℕ). entry_end depths at x) (any_default depths at d e lt) in
        subst (λ (n : ℕ). get_or (set ends at end) n 0 ≡ entry_end depths n (get_or depths n e)) (sym same) here
  ];
}
