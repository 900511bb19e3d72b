-- What a chain of items leaves of occurrences, and what these weigh.
use Rattle.std.proofs.Common.{◌≡◌, ℕ, zero, suc, ◌+◌, ◌*◌, ◌<◌, ◌≤◌, ◌^◌, Bool, true, false, cond, ◌&&◌, ◌||◌, List, [], ◌∷◌, ◌++◌, length, map, filter, count_by, sum_by, All, refl, sym, ap, subst, ◌∙◌, arith}
use Rattle.std.specs.Prelude.{slice_index}
use Rattle.std.specs.List.{AllByRecursion, flat_map, range_with_len}
use Rattle.std.proofs.Math.Nat.{mul-le-mul_left}
use Rattle.std.proofs.lemmas.List.{map-append, length-map}
use Rattle.std.proofs.lemmas.List.Concat.{flat_map-append}
use Rattle.std.proofs.lemmas.List.Elements.{All-from_recursion, filter-append}
use Rattle.std.proofs.lemmas.List.Sums.{sum_by-cons, count_by-le-length}
use Rattle.tree_types.specs.declared.content.Content.{Content}
use Rattle.tree_types.specs.Database.{naming_in}
use Rattle.tree_types.specs.OfContent.{IsProfile}
use Rattle.tree_types.specs.PathsOf.{paths_of}
use Rattle.tree_types.specs.Tree.{node_at}
use Rattle.tree_types.proofs.PathsAgain.{sum_by-map}
use Rattle.view_tables.specs.declared.groups.frames.Frames.{Frames}
use Rattle.view_tables.specs.declared.groups.occurrence.Split.{Split}
use Rattle.view_tables.specs.declared.groups.occurrence.View.{View}
use Rattle.view_tables.specs.Views.{Item, Sequences, begins_with, ends, holds_chain, same_item}
use Rattle.view_tables.specs.private.groups.Frames.{AreFrames, AreRanges, covered, parent_at, sum_below, weight_if}
use Rattle.view_tables.specs.private.groups.Occurrences.{AreSplits, Held, cut_of, cut_one, cuts, has_frame, held, item_seen, narrowed, node_items, of_item, occurrence_at, sample_at, content_samples, ups}
use Rattle.view_tables.proofs.grouping.Covered.{covered_is, sum_more, sum_none, sum_rises, sum_same}
use Rattle.view_tables.proofs.grouping.Cuts.{a_frame_adds, no_frame_skips}
use Rattle.view_tables.proofs.grouping.Descendants.{parent_less}
use Rattle.view_tables.proofs.grouping.NodeWeights.{no_sample}
use Rattle.view_tables.proofs.grouping.Ups.{ups_at}

-- ---- parts

of_item_append : (a : Item) (xs ys : List (Item × Held)) → of_item a (xs ++ ys) ≡ of_item a xs ++ of_item a ys
of_item_append a xs ys = ap (map (λ (s : Item × Held). s.1)) (filter-append (λ (s : Item × Held). same_item a s.0) xs ys) ∙ map-append (λ (s : Item × Held). s.1) (filter (λ (s : Item × Held). same_item a s.0) xs) (filter (λ (s : Item × Held). same_item a s.0) ys)

cuts_append : (xs ys : List Held) → cuts (xs ++ ys) ≡ cuts xs ++ cuts ys
cuts_append xs ys = flat_map-append (λ (h : Held). cut_one h.0 h.1) xs ys

narrowed_append : (chain : List Item) (xs ys : List Held) → narrowed chain (xs ++ ys) ≡ narrowed chain xs ++ narrowed chain ys
narrowed_append [] xs ys = refl
narrowed_append (a ∷ chain) xs ys =
    ap (λ (cs : List (Item × Held)). narrowed chain (of_item a cs)) (cuts_append xs ys)
    ∙ ap (narrowed chain) (of_item_append a (cuts xs) (cuts ys))
    ∙ narrowed_append chain (of_item a (cuts xs)) (of_item a (cuts ys))

pub narrowed_more : (chain : List Item) (a : Item) (hs : List Held) → narrowed (chain ++ a ∷ []) hs ≡ of_item a (cuts (narrowed chain hs))
narrowed_more [] a hs = refl
narrowed_more (b ∷ chain) a hs = narrowed_more chain a (of_item b (cuts hs))

narrowed_none : (chain : List Item) → narrowed chain [] ≡ []
narrowed_none [] = refl
narrowed_none (a ∷ chain) = narrowed_none chain

-- ---- the frames that a chain leaves

abbrev frames_of : List Held → List ℕ
frames_of hs = map (λ h. h.0) hs

abbrev kept : Bool → ℕ → List ℕ
kept b frame = cond b (frame ∷ []) []

one_kept : (chain : List Item) (frame : ℕ) (items : List Item) → frames_of (narrowed chain ((frame, items) ∷ [])) ≡ kept (begins_with chain items) frame
one_kept [] frame items = refl
one_kept (a ∷ chain) frame [] = ap frames_of (narrowed_none chain)
one_kept (a ∷ chain) frame (b ∷ items) =
    elim (same_item a b) as (λ t. frames_of (narrowed chain (map (λ (s : Item × Held). s.1) (cond t ((b, (frame, items)) ∷ []) []))) ≡ kept (t && begins_with chain items) frame) [
      | true ↦ one_kept chain frame items
      | false ↦ ap frames_of (narrowed_none chain)
    ]

module _ (view : View) (c : Content) (chain : List Item) where
  -- the frames whose items begin with the chain
  abbrev pub mark : ℕ → Bool
  mark number = has_frame view (ups c number) && begins_with chain (node_items view c number)

  one_mark : (b : Bool) (number : ℕ) → frames_of (narrowed chain (cond b ((number, node_items view c number) ∷ []) [])) ≡ kept (b && begins_with chain (node_items view c number)) number
  one_mark true number = one_kept chain number (node_items view c number)
  one_mark false number = ap frames_of (narrowed_none chain)

  put_front : (b : Bool) (number : ℕ) (fs : List ℕ) → kept b number ++ fs ≡ cond b (number ∷ fs) fs
  put_front true number fs = refl
  put_front false number fs = refl

  pub marks_left : (a n : ℕ) → frames_of (narrowed chain (flat_map (occurrence_at view c) (range_with_len a n))) ≡ filter mark (range_with_len a n)
  marks_left a zero = ap frames_of (narrowed_none chain)
  marks_left a (suc n) =
      let rest : List Held = flat_map (occurrence_at view c) (range_with_len (a + 1) n) in
      ap frames_of (narrowed_append chain (occurrence_at view c a) rest)
      ∙ map-append (λ (h : Held). h.0) (narrowed chain (occurrence_at view c a)) (narrowed chain rest)
      ∙ (λ i. one_mark (has_frame view (ups c a)) a i ++ marks_left (a + 1) n i)
      ∙ put_front (mark a) a (filter mark (range_with_len (a + 1) n))

-- ---- what holds of a frame with its descendants

module _ (view : View) (c : Content) (chain : List Item) (profile : IsProfile c) where
  abbrev is_mark : ℕ → Bool
  is_mark number = mark view c chain number

  abbrev below : ℕ → Bool
  below number = holds_chain chain (sample_at view c number)

  own_sample : (number : ℕ) → number < length c.nodes → has_frame view (ups c number) ≡ true → sample_at view c number ≡ node_items view c number ∷ sample_at view c (parent_at c number)
  own_sample number lt there = a_frame_adds view (naming_in c.names) (ups c number) (node_at c.nodes number).scope (ups c (parent_at c number)) (ups_at c number _ profile lt) there

  upper_sample : (number : ℕ) → number < length c.nodes → has_frame view (ups c number) ≡ false → sample_at view c number ≡ sample_at view c (parent_at c number)
  upper_sample number lt none = no_frame_skips view (naming_in c.names) (ups c number) (node_at c.nodes number).scope (ups c (parent_at c number)) (ups_at c number _ profile lt) none

  below_is : (number : ℕ) → number < length c.nodes → below number ≡ (is_mark number || below (parent_at c number))
  below_is number lt =
      let begins : Bool = begins_with chain (node_items view c number) in
      elim (has_frame view (ups c number)) as (λ b. has_frame view (ups c number) ≡ b → below number ≡ ((b && begins) || below (parent_at c number))) [
        | true ↦ λ e. ap (holds_chain chain) (own_sample number lt e)
        | false ↦ λ e. ap (holds_chain chain) (upper_sample number lt e)
      ] refl

  none_past : (number : ℕ) → length c.nodes ≤ number → below number ≡ false
  none_past number past = ap (holds_chain chain) (no_sample view c number past)

  ends_is : (number : ℕ) → number < length c.nodes → has_frame view (ups c number) ≡ true → ends chain (sample_at view c number) ≡ begins_with chain (node_items view c number)
  ends_is number lt there = ap (ends chain) (own_sample number lt there) ∙ or_false (begins_with chain (node_items view c number))
    where
      or_false : (b : Bool) → (b || false) ≡ b
      or_false true = refl
      or_false false = refl

  module _ (frames : Frames) (are : AreFrames view c frames) where
    abbrev w : ℕ → ℕ
    w number = slice_index frames.weights.items number

    sums_are : (k : ℕ) → k ≤ length c.nodes → slice_index frames.sums.items k ≡ sum_below w k
    sums_are k le = are.sums.each k (let long = are.weights.long in omega (arith, le, long))

    abbrev marks : List ℕ
    marks = filter is_mark (range_with_len 0 (length c.nodes))

    -- the inclusive value of a chain
    pub marks_cover : covered frames.ends.items frames.sums.items 0 marks ≡ c.period * count_by (holds_chain chain) (content_samples view c)
    marks_cover =
        covered_is (length c.nodes) (parent_at c) is_mark below w frames.ends.items frames.sums.items below_is none_past (λ j lt up. parent_less c j profile lt up)
        (λ i lt. (are.ends.each i (omega arith) lt).behind) (λ i lt. (are.ends.each i (omega arith) lt).within)
        (λ i lt. (are.ends.each i (omega arith) lt).inside) (λ i lt. (are.ends.each i (omega arith) lt).outside) sums_are
        ∙ sym (are.weights.samples (holds_chain chain) refl)

    filter_sum : (a n : ℕ) → sum_by w (filter is_mark (range_with_len a n)) ≡ sum_by (λ j. cond (is_mark j) (w j) 0) (range_with_len a n)
    filter_sum a zero = refl
    filter_sum a (suc n) =
        let rest : List ℕ = filter is_mark (range_with_len (a + 1) n) in
        elim (is_mark a) as (λ b. sum_by w (cond b (a ∷ rest) rest) ≡ cond b (w a) 0 + sum_by (λ j. cond (is_mark j) (w j) 0) (range_with_len (a + 1) n)) [
          | true ↦ sum_by-cons w a rest ∙ ap (λ n. w a + n) (filter_sum (a + 1) n)
          | false ↦ filter_sum (a + 1) n ∙ (let z : sum_by (λ j. cond (is_mark j) (w j) 0) (range_with_len (a + 1) n) ≡ 0 + sum_by (λ j. cond (is_mark j) (w j) 0) (range_with_len (a + 1) n) = omega arith in z)
        ] ∙ sym (sum_by-cons (λ j. cond (is_mark j) (w j) 0) a (range_with_len (a + 1) n))

    range_sum : (f : ℕ → ℕ) (a n : ℕ) → sum_below f a + sum_by f (range_with_len a n) ≡ sum_below f (a + n)
    range_sum f a zero = let e : sum_below f (a + 0) ≡ sum_below f a = ap (sum_below f) (let z : a + 0 ≡ a = omega arith in z) in omega (arith, e)
    range_sum f a (suc n) =
        let first = sum_by-cons f a (range_with_len (a + 1) n) in
        let rest = range_sum f (a + 1) n in
        let more = sum_more f a in
        let e : sum_below f (a + suc n) ≡ sum_below f ((a + 1) + n) = ap (sum_below f) (let z : a + suc n ≡ (a + 1) + n = omega arith in z) in
        omega (arith, first, rest, more, e)

    -- the exclusive value of a chain
    pub marks_weigh : sum_by w marks ≡ c.period * count_by (ends chain) (content_samples view c)
    marks_weigh =
        let all = range_sum (λ j. cond (is_mark j) (w j) 0) 0 (length c.nodes) in
        let none = sum_none (λ j. cond (is_mark j) (w j) 0) in
        let from_start : sum_below (λ j. cond (is_mark j) (w j) 0) (0 + length c.nodes) ≡ sum_below (λ j. cond (is_mark j) (w j) 0) (length c.nodes) =
        ap (sum_below (λ j. cond (is_mark j) (w j) 0)) (let z : 0 + length c.nodes ≡ length c.nodes = omega arith in z) in
        let listed : sum_by (λ j. cond (is_mark j) (w j) 0) (range_with_len 0 (length c.nodes)) ≡ sum_below (λ j. cond (is_mark j) (w j) 0) (length c.nodes) = omega (arith, all, none, from_start) in
        filter_sum 0 (length c.nodes) ∙ listed
        ∙ sum_same (λ j. cond (is_mark j) (w j) 0) (weight_if (λ j. ends chain (sample_at view c j)) frames.weights.items) (length c.nodes) same_weight
        ∙ sym (are.weights.samples (ends chain) refl)
      where
        same_weight : (j : ℕ) → j < length c.nodes → cond (is_mark j) (w j) 0 ≡ cond (ends chain (sample_at view c j)) (w j) 0
        same_weight j lt =
            elim (has_frame view (ups c j)) as (λ b. has_frame view (ups c j) ≡ b → cond (b && begins_with chain (node_items view c j)) (w j) 0 ≡ cond (ends chain (sample_at view c j)) (w j) 0) [
              | true ↦ λ e. ap (λ b. cond b (w j) 0) (sym (ends_is j lt e))
              | false ↦ λ e. sym (ap (λ v. cond (ends chain (sample_at view c j)) v 0) (are.weights.none j (omega arith) e) ∙ nothing (ends chain (sample_at view c j)))
            ] refl
          where
            nothing : (b : Bool) → ◌≡◌ {A = ℕ} (cond b 0 0) 0
            nothing true = refl
            nothing false = refl

    value_few : (t : Sequences → Bool) → c.period * count_by t (content_samples view c) ≤ 2 ^ 52
    value_few t =
        let some = count_by-le-length t (content_samples view c) in
        let all : length (content_samples view c) ≡ length (paths_of c) = length-map (paths_of c) _ in
        let most : c.period * count_by t (content_samples view c) ≤ c.period * length (paths_of c) = mul-le-mul_left c.period (omega (arith, some, all)) in
        let small = are.small in
        omega (arith, most, small)

    pub cover_few : covered frames.ends.items frames.sums.items 0 marks ≤ 2 ^ 52
    cover_few = let few = value_few (holds_chain chain) in let is = marks_cover in omega (arith, few, is)

    pub weigh_few : sum_by w marks ≤ 2 ^ 52
    weigh_few = let few = value_few (ends chain) in let is = marks_weigh in omega (arith, few, is)

-- ---- a group of splits

abbrev pub group : Item → List Split → List Split
group item splits = filter (λ s. same_item item (item_seen s.item)) splits

abbrev pub group_frames : List Split → List ℕ
group_frames splits = map (λ s. s.rest.frame) splits

module _ (view : View) (c : Content) (item : Item) where
  pub group_held : (splits : List Split) → map (λ s. held view c s.rest) (group item splits) ≡ of_item item (map (cut_of view c) splits)
  group_held [] = refl
  group_held (s ∷ splits) =
      elim (same_item item (item_seen s.item)) as (λ b. map (λ s. held view c s.rest) (cond b (s ∷ group item splits) (group item splits))
      ≡ map (λ (x : Item × Held). x.1) (cond b (cut_of view c s ∷ filter (λ x. same_item item x.0) (map (cut_of view c) splits)) (filter (λ x. same_item item x.0) (map (cut_of view c) splits)))) [
        | true ↦ ap (λ (hs : List Held). held view c s.rest ∷ hs) (group_held splits)
        | false ↦ group_held splits
      ]

held_frames : (view : View) (c : Content) (splits : List Split) → frames_of (map (λ s. held view c s.rest) splits) ≡ group_frames splits
held_frames view c [] = refl
held_frames view c (s ∷ splits) = ap (λ (fs : List ℕ). s.rest.frame ∷ fs) (held_frames view c splits)

module _ (view : View) (c : Content) (chain : List Item) (item : Item) (splits found : List Split) (are : AreSplits view c chain splits) (is : found ≡ group item splits) where
  abbrev longer : List Item
  longer = chain ++ item ∷ []

  group_marks : group_frames found ≡ filter (mark view c longer) (range_with_len 0 (length c.nodes))
  group_marks =
      ap group_frames is ∙ sym (held_frames view c (group item splits)) ∙ ap frames_of (group_held view c item splits ∙ are item)
      ∙ marks_left view c longer 0 (length c.nodes)

  all_inside : (p : ℕ → Bool) (a n m : ℕ) → a + n ≡ m → AllByRecursion (λ x. x < m) (filter p (range_with_len a n))
  all_inside p a zero m e = tt
  all_inside p a (suc n) m e =
      let rest = all_inside p (a + 1) n m (omega arith) in
      elim (p a) as (λ b. AllByRecursion (λ x. x < m) (cond b (a ∷ filter p (range_with_len (a + 1) n)) (filter p (range_with_len (a + 1) n)))) [
        | true ↦ ((let lt : a < m = omega arith in lt), rest)
        | false ↦ rest
      ]

  of_frames : (m : ℕ) (ss : List Split) → AllByRecursion (λ x. x < m) (group_frames ss) → AllByRecursion (λ (s : Split). s.rest.frame < m) ss
  of_frames m [] all = tt
  of_frames m (s ∷ ss) all = (all.0, of_frames m ss all.1)

  pub group_inside : (m : ℕ) → m ≡ length c.nodes → All (λ s. s.rest.frame < m) found
  group_inside m long = All-from_recursion (λ (s : Split). s.rest.frame < m) found
      (of_frames m found (subst (λ (fs : List ℕ). AllByRecursion (λ x. x < m) fs) (sym group_marks)
      (all_inside (mark view c longer) 0 (length c.nodes) m (let z : 0 + length c.nodes ≡ m = omega (arith, long) in z))))

  module _ (profile : IsProfile c) (frames : Frames) (all : AreFrames view c frames) where
    pub group_covers : covered frames.ends.items frames.sums.items 0 (group_frames found) ≡ c.period * count_by (holds_chain longer) (content_samples view c)
    group_covers = ap (covered frames.ends.items frames.sums.items 0) group_marks ∙ marks_cover view c longer profile frames all

    pub group_weighs : sum_by (λ s. slice_index frames.weights.items s.rest.frame) found ≡ c.period * count_by (ends longer) (content_samples view c)
    group_weighs =
        sym (sum_by-map (slice_index frames.weights.items) (λ (s : Split). s.rest.frame) found)
        ∙ ap (sum_by (slice_index frames.weights.items)) group_marks ∙ marks_weigh view c longer profile frames all

    pub cover_small : covered frames.ends.items frames.sums.items 0 (group_frames found) ≤ 2 ^ 52
    cover_small = let few = cover_few view c longer profile frames all in let is = ap (covered frames.ends.items frames.sums.items 0) group_marks in omega (arith, few, is)

    pub weigh_small : sum_by (λ s. slice_index frames.weights.items s.rest.frame) found ≤ 2 ^ 52
    weigh_small = (
        let few = weigh_few view c longer profile frames all in
        let is = sym (sum_by-map (slice_index frames.weights.items) (λ (s : Split). s.rest.frame) found) ∙ ap (sum_by (slice_index frames.weights.items)) group_marks in
        omega (arith, few, is)
        )

-- the ends and sums of frames
pub ranges_of : (view : View) (c : Content) (frames : Frames) → AreFrames view c frames → AreRanges frames.ends.items frames.sums.items
ranges_of view c frames all =
    let ends_long = all.ends.long in
    let weights_long = all.weights.long in
    let sums_long = all.sums.long in
    record {
      long = omega (arith, ends_long, weights_long, sums_long);
      within = λ k lt. (let last = (all.ends.each k (omega arith) (omega (arith, lt, ends_long))).within in omega (arith, last, weights_long, sums_long));
      rise = λ k lt.
          let its = all.ends.each k (omega arith) (omega (arith, lt, ends_long)) in
          let behind = its.behind in
          let last = its.within in
          let low = all.sums.each k (omega (arith, lt, ends_long, weights_long)) in
          let high = all.sums.each (slice_index frames.ends.items k) (omega (arith, last, weights_long)) in
          let up = sum_rises (slice_index frames.weights.items) k (slice_index frames.ends.items k) (omega (arith, behind)) in
          omega (arith, low, high, up);
    }
