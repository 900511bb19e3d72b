-- The first path that is the same as one before it, among keys that are sorted.
use Rattle.std.proofs.Common.{◌≡◌, inl, inr, ℕ, ◌+◌, ◌-◌, ◌<◌, ◌≤◌, ◌==◌, ◌&&◌, nat_eq, nat_lt, Bool, true, false, cond, List, [], ◌∷◌, length, get_or, take, map, All, Contains, Less, Equal, Greater, Ordering, refl, sym, ap, subst, ◌∙◌, arith, true≢false}
use Rattle.std.specs.Prelude.{slice_get, Some, None, Option, MatchOption}
use Rattle.std.specs.Cmp.{IsTotalOrder, on_total}
use Rattle.std.specs.Cmp.Lexicographic.{pointwise, slice_cmp, same_text}
use Rattle.std.specs.List.{IsDistinct}
use Rattle.std.specs.List.Sorted.{IsSorted, IsPermutation}
use Rattle.std.specs.Ordering.{nat_cmp, is_lt, is_eq, ordering_then, ordering_reverse}
use Rattle.std.proofs.lemmas.Bool.{cases_eq, cases_lt, eq-eqb, ne_eqb, lt-ltb, and_parts, and_from}
use Rattle.std.proofs.lemmas.Cmp.{then_total, nat_cmp_total, nat_list_cmp_total}
use Rattle.std.proofs.lemmas.List.{get_or-take, get_or_default, length-take-le}
use Rattle.std.proofs.lemmas.List.Folds.{Any-from_list_any, list_any_at}
use Rattle.std.proofs.lemmas.List.MinMax.{ranks_by}
use Rattle.std.proofs.lemmas.List.Sorted.{sorted_far, Contains-permutation, All-permutation, length_permutation}
use Rattle.std.proofs.lemmas.Map.Keys.{IsDistinct-from_apart, IsDistinct-IsPermutation, apart_from_distinct}
use Rattle.std.proofs.lemmas.Map.Text.{is_eq-slice_cmp}
use Rattle.std.proofs.lemmas.Option.{slice_get_within, get_or_from_slice_get, slice_get-get_or}
use Rattle.scope_types.specs.declared.frame.Counted.{Counted}
use Rattle.scope_types.specs.declared.frame.End.{End}
use Rattle.scope_types.specs.declared.frame.End.TheVariants.{Whole, Partial}
use Rattle.scope_types.specs.declared.frame.Frame.{Frame}
use Rattle.scope_types.specs.declared.frame.PartialCause.TheVariants.{NoFde, NoCfa, Expression, Unmapped, Depth}
use Rattle.scope_types.specs.Ends.{end_number, end_of_number}
use Rattle.scope_types.specs.Raw.{Raw, same_raw}
use Rattle.scope_types.specs.private.SameRaw.{raw_decides}
use Rattle.thread_cct.specs.declared.repeats.NumberedPath.{NumberedPath}
use Rattle.thread_cct.specs.Adding.{has_path}
use Rattle.thread_cct.specs.Listing.{frame_at, is_among, is_repeat, HasNoRepeat, IsFirstRepeat}
use Rattle.thread_cct.specs.private.Keys.{AreKeys, HasNoTie, IsKeyOf, IsLeastTie, IsNumbered, is_tied, key_order}

-- ---- the order of keys

abbrev path_order : NumberedPath → NumberedPath → Ordering
path_order a b = ordering_then (nat_cmp a.pc b.pc) (ordering_then (nat_cmp a.end b.end) (slice_cmp nat_cmp a.callers.now b.callers.now))

path_total : IsTotalOrder path_order
path_total = then_total (on_total (λ (k : NumberedPath). k.pc) nat_cmp_total) (then_total (on_total (λ (k : NumberedPath). k.end) nat_cmp_total) (on_total (λ (k : NumberedPath). k.callers.now) nat_list_cmp_total))

key_total : IsTotalOrder key_order
key_total = then_total (on_total (λ (k : NumberedPath). k.pc) nat_cmp_total) (then_total (on_total (λ (k : NumberedPath). k.end) nat_cmp_total) (then_total (on_total (λ (k : NumberedPath). k.callers.now) nat_list_cmp_total) (on_total (λ (k : NumberedPath). k.number) nat_cmp_total)))

then_together : (a b c d : Ordering) → ordering_then a (ordering_then b (ordering_then c d)) ≡ ordering_then (ordering_then a (ordering_then b c)) d
then_together Less b c d = refl
then_together Greater b c d = refl
then_together Equal Less c d = refl
then_together Equal Greater c d = refl
then_together Equal Equal c d = refl

key_split : (a b : NumberedPath) → key_order a b ≡ ordering_then (path_order a b) (nat_cmp a.number b.number)
key_split a b = then_together (nat_cmp a.pc b.pc) (nat_cmp a.end b.end) (slice_cmp nat_cmp a.callers.now b.callers.now) (nat_cmp a.number b.number)

then_equal : (a b : Ordering) → ordering_then a b ≡ Equal → (a ≡ Equal) × (b ≡ Equal)
then_equal Less b e = absurd cc
then_equal Equal b e = (refl, e)
then_equal Greater b e = absurd cc

nat_equal : (a b : ℕ) → nat_cmp a b ≡ Equal → a ≡ b
nat_equal a b e =
    elim (cases_eq a b) [
      | inl is ↦ is
      | inr apart ↦ elim (nat_lt a b) as (λ t. cond t Less (cond (a == b) Equal Greater) ≡ Equal → a ≡ b) [
        | true ↦ λ f. absurd cc
        | false ↦ λ f. (let not_same : (a == b) ≡ false = ne_eqb a b apart in let two : Greater ≡ Equal = sym (ap (λ t. cond t Equal Greater) not_same) ∙ f in absurd cc)
      ] e
    ]

nat_less : (a b : ℕ) → a < b → nat_cmp a b ≡ Less
nat_less a b lt = ap (λ t. cond t Less (cond (a == b) Equal Greater)) (lt-ltb a b lt)

-- a number is less, or is not
nat_not_less : (a b : ℕ) → is_lt (nat_cmp a b) ≡ false → b ≤ a
nat_not_less a b e =
    elim (cases_lt a b) [
      | inl lt ↦ absurd (true≢false (sym (ap is_lt (nat_less a b lt)) ∙ e))
      | inr le ↦ le
    ]

itself : (o : Ordering) → o ≡ ordering_reverse o → o ≡ Equal
itself Less e = absurd cc
itself Equal e = refl
itself Greater e = absurd cc

equal_back : (a b : NumberedPath) → path_order a b ≡ Equal → path_order b a ≡ Equal
equal_back a b e = path_total.antisymm b a ∙ ap ordering_reverse e

-- ---- keys that tie

tied_from : (a b : NumberedPath) → path_order a b ≡ Equal → is_tied a b ≡ true
tied_from a b e =
    let first = then_equal (nat_cmp a.pc b.pc) (ordering_then (nat_cmp a.end b.end) (slice_cmp nat_cmp a.callers.now b.callers.now)) e in
    let rest = then_equal (nat_cmp a.end b.end) (slice_cmp nat_cmp a.callers.now b.callers.now) first.1 in
    let callers : pointwise nat_eq a.callers.now b.callers.now ≡ true = sym (is_eq-slice_cmp a.callers.now b.callers.now) ∙ ap is_eq rest.1 in
    and_from (a.pc == b.pc) (a.end == b.end && pointwise nat_eq a.callers.now b.callers.now) (eq-eqb a.pc b.pc (nat_equal a.pc b.pc first.0))
    (and_from (a.end == b.end) (pointwise nat_eq a.callers.now b.callers.now) (eq-eqb a.end b.end (nat_equal a.end b.end rest.0)) callers)

eqb_same : (a b : ℕ) → (a == b) ≡ true → a ≡ b
eqb_same a b e = elim (cases_eq a b) [ inl is ↦ is | inr apart ↦ absurd (true≢false (sym e ∙ ne_eqb a b apart)) ]

record Same (a b : NumberedPath) : Type 0 where
  pub pc : a.pc ≡ b.pc
  pub end : a.end ≡ b.end
  pub callers : a.callers.now ≡ b.callers.now

tied_same : (a b : NumberedPath) → is_tied a b ≡ true → Same a b
tied_same a b e =
    let first = and_parts (a.pc == b.pc) (a.end == b.end && pointwise nat_eq a.callers.now b.callers.now) e in
    let rest = and_parts (a.end == b.end) (pointwise nat_eq a.callers.now b.callers.now) first.1 in
    record { pc = eqb_same a.pc b.pc first.0; end = eqb_same a.end b.end rest.0; callers = same_text a.callers.now b.callers.now (sym rest.1) }

same_equal : (a b : NumberedPath) → Same a b → path_order a b ≡ Equal
same_equal a b s =
    let one : path_order a a ≡ path_order a b = λ i. ordering_then (nat_cmp a.pc (s.pc i)) (ordering_then (nat_cmp a.end (s.end i)) (slice_cmp nat_cmp a.callers.now (s.callers i))) in
    sym one ∙ itself (path_order a a) (path_total.antisymm a a)

-- ---- the keys of paths

end_again : (e : End) → end_of_number (end_number e) ≡ e
end_again Whole = refl
end_again (Partial NoFde) = refl
end_again (Partial NoCfa) = refl
end_again (Partial Expression) = refl
end_again (Partial Unmapped) = refl
end_again (Partial Depth) = refl

pcs_again : (pcs : List ℕ) → map (λ (f : Frame). f.pc) (map frame_at pcs) ≡ pcs
pcs_again [] = refl
pcs_again (pc ∷ pcs) = ap (λ (l : List ℕ). pc ∷ l) (pcs_again pcs)

-- paths whose keys tie are one
tied_paths : (c e : Counted) (a b : NumberedPath) → IsKeyOf c a → IsKeyOf e b → is_tied a b ≡ true → c.path ≡ e.path
tied_paths c e a b key_c key_e tied =
    let s = tied_same a b tied in
    let ends : c.path.end ≡ e.path.end = sym (end_again c.path.end) ∙ ap end_of_number (sym key_c.end ∙ s.end ∙ key_e.end) ∙ end_again e.path.end in
    let frames : c.path.frames ≡ e.path.frames = key_c.frames ∙ (λ i. map frame_at (s.pc i ∷ s.callers i)) ∙ sym key_e.frames in
    λ i. record { end = ends i; frames = frames i }

-- and the keys of one path tie
paths_tied : (c e : Counted) (a b : NumberedPath) → IsKeyOf c a → IsKeyOf e b → c.path ≡ e.path → path_order a b ≡ Equal
paths_tied c e a b key_c key_e same =
    let pcs : a.pc ∷ a.callers.now ≡ b.pc ∷ b.callers.now =
    sym (pcs_again (a.pc ∷ a.callers.now)) ∙ ap (map (λ (f : Frame). f.pc)) (sym key_c.frames ∙ ap (λ (r : Raw). r.frames) same ∙ key_e.frames) ∙ pcs_again (b.pc ∷ b.callers.now) in
    let pc : a.pc ≡ b.pc = cc in
    let callers : a.callers.now ≡ b.callers.now = cc in
    same_equal a b (record { pc = pc; end = key_c.end ∙ ap (λ (r : Raw). end_number r.end) same ∙ sym key_e.end; callers = callers })

-- a key that lies between two of one path is of that path
between : (a b x : NumberedPath) → path_order a b ≡ Equal → is_lt (key_order x a) ≡ false → is_lt (key_order b x) ≡ false → path_order x b ≡ Equal
between a b x equal x_a b_x =
    let like : path_order a x ≡ path_order b x = path_total.congr a b x equal in
    let back : path_order x a ≡ ordering_reverse (path_order b x) = path_total.antisymm x a ∙ ap ordering_reverse like in
    let first : is_lt (ordering_then (ordering_reverse (path_order b x)) (nat_cmp x.number a.number)) ≡ false = ap (λ (o : Ordering). is_lt (ordering_then o (nat_cmp x.number a.number))) (sym back) ∙ sym (ap is_lt (key_split x a)) ∙ x_a in
    let second : is_lt (ordering_then (path_order b x) (nat_cmp b.number x.number)) ≡ false = sym (ap is_lt (key_split b x)) ∙ b_x in
    equal_back b x (only_equal (path_order b x) (nat_cmp x.number a.number) (nat_cmp b.number x.number) first second)
  where
    only_equal : (o p q : Ordering) → is_lt (ordering_then (ordering_reverse o) p) ≡ false → is_lt (ordering_then o q) ≡ false → o ≡ Equal
    only_equal Less p q e f = absurd cc
    only_equal Equal p q e f = refl
    only_equal Greater p q e f = absurd cc

-- ---- lists of paths

among : (cs : List Counted) (k : ℕ) → is_repeat cs k ≡ true → (c : Counted) × (slice_get cs k ≡ Some c) × (has_path c.path (take k cs) ≡ true)
among cs k e =
    elim (slice_get cs k) as (λ o. is_among o (take k cs) ≡ true → (c : Counted) × (o ≡ Some c) × (has_path c.path (take k cs) ≡ true)) [
      | None ↦ λ f. absurd cc
      | Some c ↦ λ f. (c, refl, f)
    ] e

repeat_at : (cs : List Counted) (i k : ℕ) (c e : Counted) → i < k → slice_get cs i ≡ Some c → slice_get cs k ≡ Some e → e.path ≡ c.path → is_repeat cs k ≡ true
repeat_at cs i k c e lt at_i at_k same =
    let within : k < length cs = slice_get_within cs k e at_k in
    let long = length-take-le k cs (omega (arith, within)) in
    let here : get_or (take k cs) i c ≡ c = get_or-take k cs i c lt ∙ get_or_from_slice_get cs i c c at_i in
    let test : same_raw e.path (get_or (take k cs) i c).path ≡ true = (raw_decides e.path (get_or (take k cs) i c).path).1 (same ∙ ap (λ (x : Counted). x.path) (sym here)) in
    let there : has_path e.path (take k cs) ≡ true = list_any_at (λ (x : Counted). same_raw e.path x.path) (take k cs) i c (omega (arith, long, lt)) test in
    ap (λ (o : Option Counted). is_among o (take k cs)) at_k ∙ there

-- a path that repeats one before it, and the one that it repeats
pub record RepeatsAt (cs : List Counted) (k : ℕ) : Type 0 where
  pub before : ℕ
  pub less : before < k
  pub within : k < length cs
  pub first : Counted
  pub second : Counted
  pub at_before : slice_get cs before ≡ Some first
  pub at : slice_get cs k ≡ Some second
  pub same : first.path ≡ second.path

pub repeats_at : (cs : List Counted) (k : ℕ) → is_repeat cs k ≡ true → RepeatsAt cs k
repeats_at cs k repeats =
    let found = among cs k repeats in
    let c : Counted = found.0 in
    let any = Any-from_list_any (λ (x : Counted). same_raw c.path x.path) (take k cs) found.2 in
    let j : ℕ = any.0 in
    let e : Counted = any.1 in
    let within : k < length cs = slice_get_within cs k c found.1 in
    let long = length-take-le k cs (omega (arith, within)) in
    let less : j < k = (let lt = any.2 in omega (arith, lt, long)) in
    record {
      before = j;
      less = less;
      within = within;
      first = e;
      second = c;
      at_before = slice_get-get_or cs j e (omega (arith, less, within)) ∙ ap (λ (x : Counted). Some x) (sym (get_or-take k cs j e less) ∙ any.3);
      at = found.1;
      same = sym ((raw_decides c.path e.path).0 any.4);
    }

-- ---- sorted keys

abbrev same_number : NumberedPath → NumberedPath → Bool
same_number a b = a.number == b.number

flips : (a b : NumberedPath) → same_number a b ≡ same_number b a
flips a b = elim (cases_eq a.number b.number) [ inl is ↦ eq-eqb a.number b.number is ∙ sym (eq-eqb b.number a.number (sym is)) | inr apart ↦ ne_eqb a.number b.number apart ∙ sym (ne_eqb b.number a.number (λ e. apart (sym e))) ]

some_same : (x y : Counted) → ◌≡◌ {A = Option Counted} (Some x) (Some y) → x ≡ y
some_same x y e = cc

one_of : (keys : List NumberedPath) → 0 < length keys → NumberedPath
one_of [] some = absurd (omega (arith, some))
one_of (key ∷ keys) some = key

module _ (cs : List Counted) (old new : List NumberedPath) (are : AreKeys cs old) (moved : IsPermutation old new) (up : IsSorted key_order new) where
  numbered : All (IsNumbered cs) new
  numbered = All-permutation (IsNumbered cs) old new moved are.each

  apart_old : (i j : ℕ) (d : NumberedPath) → i < j → j < length old → same_number (get_or old i d) (get_or old j d) ≡ false
  apart_old i j d lt within =
      let a = are.order i d (omega (arith, lt, within)) in
      let b = are.order j d within in
      ne_eqb (get_or old i d).number (get_or old j d).number (λ e. absurd (omega (arith, a, b, e, lt)))

  distinct : IsDistinct same_number new
  distinct = IsDistinct-IsPermutation same_number flips old new moved (IsDistinct-from_apart same_number old apart_old)

  rises : (i j : ℕ) (d : NumberedPath) → i ≤ j → j < length new → is_lt (key_order (get_or new j d) (get_or new i d)) ≡ false
  rises i j d le within = sorted_far (λ x y. is_lt (key_order x y)) (ranks_by key_total (λ (k : NumberedPath). k)) new up i j d le within

  -- of two keys that tie side by side the second has a path that repeats the first's
  tie_repeats : (i : ℕ) (d : NumberedPath) → i + 1 < length new → is_tied (get_or new i d) (get_or new (i + 1) d) ≡ true → is_repeat cs (get_or new (i + 1) d).number ≡ true
  tie_repeats i d within tied =
      let a : NumberedPath = get_or new i d in
      let b : NumberedPath = get_or new (i + 1) d in
      let first : IsNumbered cs a = numbered i d (omega (arith, within)) in
      let second : IsNumbered cs b = numbered (i + 1) d within in
      let same = tied_paths first.path second.path a b first.is second.is tied in
      let equal : path_order b a ≡ Equal = equal_back a b (same_equal a b (tied_same a b tied)) in
      let not_less : is_lt (nat_cmp b.number a.number) ≡ false = sym (ap is_lt (key_split b a ∙ ap (λ (o : Ordering). ordering_then o (nat_cmp b.number a.number)) equal)) ∙ rises i (i + 1) d (omega arith) within in
      let le : a.number ≤ b.number = nat_not_less b.number a.number not_less in
      let other : same_number a b ≡ false = apart_from_distinct same_number new i (i + 1) d distinct (omega arith) within in
      let less : a.number < b.number =
      elim (cases_lt a.number b.number) [
        | inl lt ↦ lt
        | inr ge ↦ (let is : a.number ≡ b.number = omega (arith, le, ge) in absurd (true≢false (sym (eq-eqb a.number b.number is) ∙ other)))
      ] in
      repeat_at cs a.number b.number first.path second.path less first.at second.at (sym same)

  record TiesAt (k : ℕ) : Type 0 where
    pub at : ℕ
    pub below : at + 1 < length new
    pub tied : (d : NumberedPath) → is_tied (get_or new at d) (get_or new (at + 1) d) ≡ true
    pub is : (d : NumberedPath) → (get_or new (at + 1) d).number ≡ k

  -- where the key of a path is
  record KeyAt (k : ℕ) (c : Counted) (d : NumberedPath) : Type 0 where
    pub at : ℕ
    pub below : at < length new
    pub number : (get_or new at d).number ≡ k
    pub key : IsKeyOf c (get_or new at d)

  key_at : (k : ℕ) (c : Counted) (d : NumberedPath) → slice_get cs k ≡ Some c → KeyAt k c d
  key_at k c d at_k =
      let within : k < length cs = slice_get_within cs k c at_k in
      let many = are.many in
      let below : k < length old = omega (arith, within, many) in
      let here : get_or old k (get_or old k d) ≡ get_or old k d = get_or_default old k (get_or old k d) d below in
      let has : Contains new (get_or old k d) = Contains-permutation old new (get_or old k d) moved (k, below, here) in
      let is : get_or new has.0 d ≡ get_or old k d = get_or_default new has.0 d (get_or old k d) has.1 ∙ has.2 in
      let number : (get_or new has.0 d).number ≡ k = ap (λ (x : NumberedPath). x.number) is ∙ are.order k d below in
      let found : IsNumbered cs (get_or new has.0 d) = numbered has.0 d has.1 in
      let path : found.path ≡ c = some_same found.path c (sym found.at ∙ ap (slice_get cs) number ∙ at_k) in
      record { at = has.0; below = has.1; number = number; key = subst (λ (x : Counted). IsKeyOf x (get_or new has.0 d)) path found.is }

  -- the key of a path that repeats one before it ties with the key before it
  repeat_ties : (k : ℕ) → is_repeat cs k ≡ true → TiesAt k
  repeat_ties k repeats =
      let r : RepeatsAt cs k = repeats_at cs k repeats in
      let k_within : k < length cs = r.within in
      let j_below : r.before < k = r.less in
      let many = length_permutation old new moved in
      let count = are.many in
      let d : NumberedPath = one_of new (omega (arith, many, count, k_within)) in
      let first : KeyAt r.before r.first d = key_at r.before r.first d r.at_before in
      let second : KeyAt k r.second d = key_at k r.second d r.at in
      let a : NumberedPath = get_or new first.at d in
      let b : NumberedPath = get_or new second.at d in
      let equal : path_order a b ≡ Equal = paths_tied r.first r.second a b first.key second.key r.same in
      let numbers : nat_cmp a.number b.number ≡ Less = (λ i. nat_cmp (first.number i) (second.number i)) ∙ nat_less r.before k j_below in
      let less : key_order a b ≡ Less = key_split a b ∙ ap (λ (o : Ordering). ordering_then o (nat_cmp a.number b.number)) equal ∙ numbers in
      let before : first.at < second.at =
      elim (cases_lt first.at second.at) [
        | inl lt ↦ lt
        | inr ge ↦ absurd (true≢false (sym (ap is_lt less) ∙ rises second.at first.at d ge first.below))
      ] in
      let at : ℕ = second.at - 1 in
      let next : at + 1 ≡ second.at = omega (arith, before) in
      let second_below = second.below in
      let x : NumberedPath = get_or new at d in
      let x_a : is_lt (key_order x a) ≡ false = rises first.at at d (omega (arith, before)) (omega (arith, second_below, before)) in
      let b_x : is_lt (key_order b x) ≡ false = rises at second.at d (omega (arith, before)) second.below in
      let tied : is_tied x b ≡ true = tied_from x b (between a b x equal x_a b_x) in
      let in_range : at + 1 < length new = omega (arith, next, second_below) in
      record {
        at = at;
        below = in_range;
        tied = λ f. (λ i. is_tied (get_or_default new at f d (omega (arith, in_range)) i) (get_or new (at + 1) f)) ∙ (λ i. is_tied x (get_or_default new (at + 1) f d in_range i)) ∙ ap (λ (n : ℕ). is_tied x (get_or new n d)) next ∙ tied;
        is = λ f. ap (λ (y : NumberedPath). y.number) (get_or_default new (at + 1) f d in_range ∙ ap (λ (n : ℕ). get_or new n d) next) ∙ second.number;
      }

  pub no_ties : HasNoTie new (length new) → HasNoRepeat cs
  no_ties none k =
      elim (is_repeat cs k) as (λ t. is_repeat cs k ≡ t → t ≡ false) [
        | true ↦ λ e. (
            let ties : TiesAt k = repeat_ties k e in
            let many = length_permutation old new moved in
            let below = ties.below in
            let d : NumberedPath = one_of new (omega (arith, below)) in
            absurd (true≢false (sym (ties.tied d) ∙ none ties.at d ties.below)))
        | false ↦ λ e. refl
      ] refl

  pub least_tie_first : (k : ℕ) → IsLeastTie new (length new) k → IsFirstRepeat cs k
  least_tie_first k least =
      let within = least.below in
      let d : NumberedPath = one_of new (omega (arith, within)) in
      record {
        is = ap (is_repeat cs) (sym (least.is d)) ∙ tie_repeats least.at d least.below (least.tied d);
        first = λ j lt.
            elim (is_repeat cs j) as (λ t. is_repeat cs j ≡ t → t ≡ false) [
              | true ↦ λ e. (
                  let ties : TiesAt j = repeat_ties j e in
                  let le = least.least ties.at d ties.below (ties.tied d) in
                  let is = ties.is d in
                  absurd (omega (arith, le, is, lt)))
              | false ↦ λ e. refl
            ] refl;
      }

  pub first_found : (found : Option ℕ) → MatchOption found (HasNoTie new (length new)) (IsLeastTie new (length new)) → MatchOption found (HasNoRepeat cs) (IsFirstRepeat cs)
  first_found None none = no_ties none
  first_found (Some k) least = least_tie_first k least
