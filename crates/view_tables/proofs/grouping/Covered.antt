-- Sums over the numbers of nodes, and over frames with their descendants.
use Rattle.std.proofs.Common.{◌≡◌, ℕ, zero, suc, ◌+◌, ◌-◌, ◌<◌, ◌≤◌, Bool, true, false, cond, ◌||◌, List, ◌∷◌, length, get_or, drop, map, refl, sym, ap, subst, ◌∙◌, arith, inl, inr, nat_lt, add-one}
use Rattle.std.specs.Prelude.{filter}
use Rattle.std.specs.List.{range_with_len}
use Rattle.std.proofs.Math.Seq.{drop-cons}
use Rattle.std.proofs.lemmas.Bool.{cases_eq, cases_lt, lt-ltb, le-ltb}
use Rattle.std.proofs.lemmas.List.{drop_all}
use Rattle.view_tables.specs.declared.groups.occurrence.Split.{Split}
use Rattle.view_tables.specs.private.groups.Frames.{covered, sum_below}

-- ---- sums

pub sum_more : (f : ℕ → ℕ) (n : ℕ) → sum_below f (n + 1) ≡ sum_below f n + f n
unfolding sum_below
sum_more f n = ap (sum_below f) (add-one n)

pub sum_none : (f : ℕ → ℕ) → sum_below f 0 ≡ 0
unfolding sum_below
sum_none f = refl

pub sum_same : (f g : ℕ → ℕ) (n : ℕ) → ((j : ℕ) → j < n → f j ≡ g j) → sum_below f n ≡ sum_below g n
unfolding sum_below
sum_same f g zero same = refl
sum_same f g (suc n) same = λ i. sum_same f g n (λ j lt. same j (omega arith)) i + same n (omega arith) i

-- a longer sum, by how much it is longer
sum_rises_by : (f : ℕ → ℕ) (a k : ℕ) → sum_below f a ≤ sum_below f (a + k)
unfolding sum_below
sum_rises_by f a zero = let e : a ≡ a + 0 = omega arith in let s = ap (sum_below f) e in omega (arith, s)
sum_rises_by f a (suc k) =
    let e : a + suc k ≡ suc (a + k) = omega arith in
    let s = ap (sum_below f) e in
    let rest = sum_rises_by f a k in
    omega (arith, s, rest)

pub sum_rises : (f : ℕ → ℕ) (a b : ℕ) → a ≤ b → sum_below f a ≤ sum_below f b
sum_rises f a b le =
    let e : a + (b - a) ≡ b = omega arith in
    let s = ap (sum_below f) e in
    let r = sum_rises_by f a (b - a) in
    omega (arith, s, r)

pub sum_at : (f : ℕ → ℕ) (i n : ℕ) → i < n → sum_below f i + f i ≤ sum_below f n
sum_at f i n lt =
    let r = sum_rises f (i + 1) n (omega arith) in
    let m = sum_more f i in
    omega (arith, r, m)

-- two sums that are alike from a on
sum_alike_by : (f g : ℕ → ℕ) (a k : ℕ) → ((j : ℕ) → a ≤ j → j < a + k → f j ≡ g j) → sum_below f (a + k) + sum_below g a ≡ sum_below g (a + k) + sum_below f a
unfolding sum_below
sum_alike_by f g a zero same =
    let e : a + 0 ≡ a = omega arith in
    let s = ap (sum_below f) e in
    let t = ap (sum_below g) e in
    omega (arith, s, t)
sum_alike_by f g a (suc k) same =
    let e : a + suc k ≡ suc (a + k) = omega arith in
    let s = ap (sum_below f) e in
    let t = ap (sum_below g) e in
    let here = same (a + k) (omega arith) (omega arith) in
    let rest = sum_alike_by f g a k (λ j le lt. same j le (omega arith)) in
    omega (arith, s, t, here, rest)

pub sum_alike : (f g : ℕ → ℕ) (a b : ℕ) → a ≤ b → ((j : ℕ) → a ≤ j → j < b → f j ≡ g j) → sum_below f b + sum_below g a ≡ sum_below g b + sum_below f a
sum_alike f g a b le same =
    let e : a + (b - a) ≡ b = omega arith in
    let s = ap (sum_below f) e in
    let t = ap (sum_below g) e in
    let r = sum_alike_by f g a (b - a) (λ j low lt. same j low (omega arith)) in
    omega (arith, s, t, r)

-- ---- frames with their descendants

-- nodes by their parents. What passes `mark` is marked, what passes `below` is marked or lies below a marked node
module _ (n : ℕ) (parent : ℕ → ℕ) (mark below : ℕ → Bool) (w : ℕ → ℕ) (ends sums : List ℕ)
    (is_below : (j : ℕ) → j < n → below j ≡ (mark j || below (parent j))) (none_past : (j : ℕ) → n ≤ j → below j ≡ false)
    (before : (j : ℕ) → j < n → parent j < n → parent j < j)
    (behind : (i : ℕ) → i < n → i < get_or ends i 0) (within : (i : ℕ) → i < n → get_or ends i 0 ≤ n)
    (inside : (i : ℕ) → i < n → (j : ℕ) → i < j → j < get_or ends i 0 → (i ≤ parent j) × (parent j < j))
    (outside : (i : ℕ) → i < n → (j : ℕ) → get_or ends i 0 ≤ j → j < n → parent j < get_or ends i 0 → parent j < i)
    (are_sums : (k : ℕ) → k ≤ n → get_or sums k 0 ≡ sum_below w k) where
  -- a marked node's descendants
  all_below : (i : ℕ) → i < n → mark i ≡ true → (fuel j : ℕ) → j < fuel → i ≤ j → j < get_or ends i 0 → below j ≡ true
  all_below i lt marked zero j less le end = absurd (omega arith)
  all_below i lt marked (suc fuel) j less le end =
      let last = within i lt in
      let here : j < n = omega (arith, last) in
      elim (cases_eq j i) [
        | inl same ↦ ap below same ∙ is_below i lt ∙ ap (λ b. b || below (parent i)) marked
        | inr apart ↦
            let p = inside i lt j (omega arith) end in
            let up = all_below i lt marked fuel (parent j) (let q = p.1 in omega (arith, q)) p.0 (let q = p.1 in omega (arith, q)) in
            is_below j here ∙ ap (λ b. mark j || b) up ∙ or_true (mark j)
      ]
    where
      or_true : (b : Bool) → (b || true) ≡ true
      or_true true = refl
      or_true false = refl

  -- from x on no parent before x is marked or below a marked node
  abbrev IsClear : ℕ → Type 0
  IsClear x = (j : ℕ) → x ≤ j → j < n → parent j < x → below (parent j) ≡ false

  abbrev weight : ℕ → ℕ
  weight j = cond (below j) (w j) 0

  not_below : (x : ℕ) → x < n → IsClear x → mark x ≡ false → below x ≡ false
  not_below x lt clear plain =
      is_below x lt ∙ ap (λ b. b || below (parent x)) plain ∙ elim (cases_lt (parent x) n) [
        | inl in_range ↦ clear x (omega arith) lt (before x lt in_range)
        | inr past ↦ none_past (parent x) past
      ]

  clear_next : (x : ℕ) → x < n → IsClear x → below x ≡ false → IsClear (x + 1)
  clear_next x lt clear plain j le inside_n up = elim (cases_eq (parent j) x) [
    | inl same ↦ ap below same ∙ plain
    | inr apart ↦ clear j (omega arith) inside_n (omega arith)
  ]

  clear_end : (x : ℕ) → x < n → IsClear x → IsClear (get_or ends x 0)
  clear_end x lt clear j le inside_n up =
      let low = outside x lt j le inside_n up in
      let b = behind x lt in
      clear j (omega (arith, b)) inside_n low

  whole_run : (x : ℕ) → x < n → mark x ≡ true → sum_below weight (get_or ends x 0) + sum_below w x ≡ sum_below w (get_or ends x 0) + sum_below weight x
  whole_run x lt marked =
      let b = behind x lt in
      sum_alike weight w x (get_or ends x 0) (omega (arith, b)) (λ j le less. ap (λ t. cond t (w j) 0) (all_below x lt marked (suc j) j (omega arith) le less))

  abbrev marked_from : ℕ → ℕ → List ℕ
  marked_from a k = filter mark (range_with_len a k)

  -- what a list of frames that starts before, at or after x leaves to count, where all before x is counted
  abbrev IsLeft : ℕ → ℕ → List ℕ → Type 0
  IsLeft r x fs = sum_below weight x + covered ends sums r fs ≡ sum_below weight n

  skip : (r x a : ℕ) (fs : List ℕ) (b : Bool) → a < r → IsLeft r x fs → IsLeft r x (cond b (a ∷ fs) fs)
  skip r x a fs true less left =
      ap (λ t. sum_below weight x + cond t (covered ends sums r fs) ((get_or sums (get_or ends a 0) 0 - get_or sums a 0) + covered ends sums (get_or ends a 0) fs)) (lt-ltb a r less) ∙ left
  skip r x a fs false less left = left

  take_run : (r a : ℕ) (fs : List ℕ) → a < n → r ≤ a → mark a ≡ true → IsLeft (get_or ends a 0) (get_or ends a 0) fs → IsLeft r a (a ∷ fs)
  take_run r a fs lt le e left =
      let b = behind a lt in
      let far = within a lt in
      let run = whole_run a lt e in
      let upto = are_sums (get_or ends a 0) far in
      let from = are_sums a (omega (arith, lt)) in
      let up = sum_rises w a (get_or ends a 0) (omega (arith, b)) in
      ap (λ t. sum_below weight a + cond t (covered ends sums r fs) ((get_or sums (get_or ends a 0) 0 - get_or sums a 0) + covered ends sums (get_or ends a 0) fs)) (le-ltb a r le)
      ∙ omega (arith, run, left, upto, from, up)

  pass : (r a : ℕ) (fs : List ℕ) → a < n → below a ≡ false → IsLeft r (a + 1) fs → IsLeft r a fs
  pass r a fs lt plain left =
      let here : weight a ≡ 0 = ap (λ t. cond t (w a) 0) plain in
      let more = sum_more weight a in
      omega (arith, here, more, left)

  counted : (k a r x : ℕ) → a + k ≡ n → r ≤ x → a ≤ x → (a < x → x ≡ r) → x ≤ n → IsClear x → IsLeft r x (filter mark (range_with_len a k))
  counted zero a r x all rx ax same xn clear =
      let e : x ≡ n = omega arith in
      let s = ap (sum_below weight) e in
      omega (arith, s)
  counted (suc k) a r x all rx ax same xn clear =
      let fs : List ℕ = filter mark (range_with_len (a + 1) k) in
      let lt : a < n = omega arith in
      elim (cases_lt a x) [
        | inl less ↦
            let at = same less in
            skip r x a fs (mark a) (omega (arith, at, less)) (counted k (a + 1) r x (omega arith) rx (omega arith) (λ z. at) xn clear)
        | inr ge ↦
            let here : a ≡ x = omega arith in
            let clear_a : IsClear a = (λ j low inside_n up. clear j (omega (arith, here)) inside_n (omega (arith, here))) in
            subst (λ (y : ℕ). IsLeft r y (cond (mark a) (a ∷ fs) fs)) here
            (elim (mark a) as (λ b. mark a ≡ b → IsLeft r a (cond b (a ∷ fs) fs)) [
              | true ↦ λ e.
                  let b = behind a lt in
                  take_run r a fs lt (omega (arith, here)) e (counted k (a + 1) (get_or ends a 0) (get_or ends a 0) (omega arith) (omega arith) (omega (arith, b)) (λ z. refl) (within a lt) (clear_end a lt clear_a))
              | false ↦ λ e.
                  let plain = not_below a lt clear_a e in
                  pass r a fs lt plain (counted k (a + 1) r (a + 1) (omega arith) (omega (arith, here)) (omega arith) (λ z. absurd (omega arith)) (omega arith) (clear_next a lt clear_a plain))
            ] refl)
      ]

  -- what the marked nodes and their descendants weigh
  pub covered_is : covered ends sums 0 (filter mark (range_with_len 0 n)) ≡ sum_below (λ j. cond (below j) (w j) 0) n
  covered_is =
      let left = counted n 0 0 0 (omega arith) (omega arith) (omega arith) (λ z. absurd (omega arith)) (omega arith) (λ j low inside_n up. absurd (omega arith)) in
      let none = sum_none weight in
      omega (arith, left, none)

-- ---- as the code counts

abbrev pub left : List ℕ → List ℕ → ℕ → List Split → ℕ
left ends sums reach group = covered ends sums reach (map (λ s. s.rest.frame) group)

module _ (ends sums : List ℕ) (group : List Split) (i : ℕ) (s : Split) (reach : ℕ) (lt : i < length group) (is : s ≡ get_or group i s) where
  left_more : left ends sums reach (drop i group) ≡ cond (nat_lt s.rest.frame reach) (left ends sums reach (drop (i + 1) group))
      ((get_or sums (get_or ends s.rest.frame 0) 0 - get_or sums s.rest.frame 0) + left ends sums (get_or ends s.rest.frame 0) (drop (i + 1) group))
  left_more = ap (left ends sums reach) (drop-cons group i s lt ∙ (λ k. sym is k ∷ drop (sym (add-one i) k) group))

  pub left_counted : s.rest.frame < reach → left ends sums reach (drop i group) ≡ left ends sums reach (drop (i + 1) group)
  left_counted less =
      left_more ∙ ap (λ b. cond b (left ends sums reach (drop (i + 1) group)) ((get_or sums (get_or ends s.rest.frame 0) 0 - get_or sums s.rest.frame 0) + left ends sums (get_or ends s.rest.frame 0) (drop (i + 1) group))) (lt-ltb s.rest.frame reach less)

  pub left_counts : reach ≤ s.rest.frame → left ends sums reach (drop i group) ≡ (get_or sums (get_or ends s.rest.frame 0) 0 - get_or sums s.rest.frame 0) + left ends sums (get_or ends s.rest.frame 0) (drop (i + 1) group)
  left_counts le =
      left_more ∙ ap (λ b. cond b (left ends sums reach (drop (i + 1) group)) ((get_or sums (get_or ends s.rest.frame 0) 0 - get_or sums s.rest.frame 0) + left ends sums (get_or ends s.rest.frame 0) (drop (i + 1) group))) (le-ltb s.rest.frame reach le)

pub none_left : (ends sums : List ℕ) (group : List Split) (i reach : ℕ) → length group ≤ i → left ends sums reach (drop i group) ≡ 0
none_left ends sums group i reach le = ap (left ends sums reach) (drop_all i group le)

pub ruleset cover_steps = (left_counted, left_counts, none_left)
