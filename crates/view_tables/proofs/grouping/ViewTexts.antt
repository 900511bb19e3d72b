-- The rows of a view, one after another.
use Rattle.std.proofs.Common.{◌≡◌, ℕ, zero, suc, ◌+◌, ◌-◌, ◌*◌, ◌<◌, ◌≤◌, List, [], ◌∷◌, ◌++◌, length, get_or, take, map, filter, All, refl, sym, ap, subst, ◌∙◌, arith, take_all, append-nil, append_assoc}
use Rattle.std.specs.Prelude.{reverse}
use Rattle.std.specs.List.{flat_map}
use Rattle.std.proofs.lemmas.List.{length-map, get_or-map, map-append}
use Rattle.prof_bytes.proofs.Appending.{append_more, two_parts}
use Rattle.tree_types.specs.declared.content.Content.{Content}
use Rattle.tree_types.specs.Database.{naming_in}
use Rattle.tree_types.specs.PathsOf.{paths_of}
use Rattle.tree_types.proofs.Selecting.{flat_map_of_map, map_of_map}
use Rattle.view_tables.specs.declared.groups.item.ItemRef.{ItemRef}
use Rattle.view_tables.specs.declared.groups.item.RowRef.{RowRef}
use Rattle.view_tables.specs.declared.groups.occurrence.Occurrence.{Occurrence}
use Rattle.view_tables.specs.declared.groups.occurrence.Split.{Split}
use Rattle.view_tables.specs.declared.groups.occurrence.View.{View}
use Rattle.view_tables.specs.Views.{Item, ViewRow, Sequences, rows_under, same_item, view_row, view_rows, view_table}
use Rattle.view_tables.specs.private.groups.Occurrences.{AreOccurrences, AreSplits, all_occurrences, held, item_seen, items_seen, mark_of, narrowed, row_seen, view_sample, content_samples}
use Rattle.view_tables.specs.declared.groups.occurrence.View.TheVariants.{Callers, Flat}
use Rattle.view_tables.specs.Callers.{callers}
use Rattle.view_tables.specs.Flat.{flat}
use Rattle.view_tables.specs.private.Values.{total_value}
use Rattle.view_tables.proofs.grouping.Narrowed.{group, group_held}
use Rattle.view_tables.proofs.NamesFound.{names_ascend}
use Rattle.view_tables.proofs.RowSums.{exclusive_within, inclusive_most, inclusive_some}

-- ---- the occurrences of a longer chain

module _ (view : View) (c : Content) where
  pub group_occurrences : (chain longer : List Item) (item : Item) (splits : List Split) (occurrences : List Occurrence) → AreSplits view c chain splits → occurrences ≡ map (λ s. s.rest) (group item splits) → longer ≡ chain ++ item ∷ [] → AreOccurrences view c longer occurrences
  group_occurrences chain longer item splits occurrences are is more =
      ap (map (held view c)) is ∙ map_of_map (held view c) (λ (s : Split). s.rest) (group item splits) ∙ group_held view c item splits ∙ are item
      ∙ ap (λ (l : List Item). narrowed l (all_occurrences view c)) (sym more)

  -- ---- text

  abbrev samples : List Sequences
  samples = content_samples view c

  pub as_many_samples : length samples ≡ length (paths_of c)
  as_many_samples = length-map (paths_of c) (λ p. view_sample view (naming_in c.names) (reverse p.path))

  pub total_is : (total : ℕ) → total ≡ total_value c → total ≡ c.period * length samples
  total_is total is = is ∙ ap (λ (k : ℕ). c.period * k) (sym as_many_samples)

  -- a row and those under it
  abbrev pub row_text : ℕ → List Item → ViewRow → List ℕ
  row_text levels chain r = view_row (naming_in c.names) (mark_of view) (c.period * length samples) (length chain) r
      ++ view_rows c.period (naming_in c.names) (mark_of view) samples levels (chain ++ r.item ∷ [])

  -- of a row of the code
  abbrev pub seen_text : ℕ → List Item → RowRef → List ℕ
  seen_text levels chain r = row_text levels chain (row_seen r)

  pub view_more : (start now one after : List ℕ) (levels total level : ℕ) (chain longer : List Item) (rows : List RowRef) (i : ℕ) (r : RowRef) → i < length rows → r ≡ get_or rows i r → total ≡ total_value c → level ≡ length chain
      → now ≡ start ++ flat_map (seen_text levels chain) (take i rows)
      → one ≡ now ++ view_row (naming_in c.names) (mark_of view) total level (row_seen r)
      → longer ≡ chain ++ item_seen r.item ∷ []
      → after ≡ one ++ view_rows c.period (naming_in c.names) (mark_of view) samples levels longer
      → after ≡ start ++ flat_map (seen_text levels chain) (take (i + 1) rows)
  view_more start now one after levels total level chain longer rows i r lt is all deep so_far row more below =
      append_more (seen_text levels chain) start now after rows i r lt is so_far
      (two_parts now one after (view_row (naming_in c.names) (mark_of view) (c.period * length samples) (length chain) (row_seen r)) (view_rows c.period (naming_in c.names) (mark_of view) samples levels (chain ++ item_seen r.item ∷ []))
      (row ∙ (λ k. now ++ view_row (naming_in c.names) (mark_of view) (total_is total all k) (deep k) (row_seen r)))
      (below ∙ ap (λ (l : List Item). one ++ view_rows c.period (naming_in c.names) (mark_of view) samples levels l) more))

  pub view_none : (out : List ℕ) (levels : ℕ) (chain : List Item) → levels ≡ 0 → out ≡ out ++ view_rows c.period (naming_in c.names) (mark_of view) samples levels chain
  unfolding view_rows
  view_none out levels chain none = sym (ap (λ (k : ℕ). out ++ view_rows c.period (naming_in c.names) (mark_of view) samples k chain) none ∙ append-nil out)

  under_is : (levels : ℕ) (chain : List Item) → view_rows c.period (naming_in c.names) (mark_of view) samples (suc levels) chain ≡ flat_map (row_text levels chain) (rows_under c.period samples chain)
  unfolding view_rows
  under_is levels chain = refl

  pub view_all : (start out : List ℕ) (levels : ℕ) (chain : List Item) (rows : List RowRef) (i : ℕ) → (levels ≡ 0 → ⊥) → length rows ≤ i → map row_seen rows ≡ rows_under c.period samples chain
      → out ≡ start ++ flat_map (seen_text (levels - 1) chain) (take i rows) → out ≡ start ++ view_rows c.period (naming_in c.names) (mark_of view) samples levels chain
  view_all start out zero chain rows i some le are so_far = absurd (some refl)
  view_all start out (suc levels) chain rows i some le are so_far =
      so_far ∙ ap (λ (k : ℕ). start ++ flat_map (seen_text k chain) (take i rows)) (let e : suc levels - 1 ≡ levels = omega arith in e)
      ∙ ap (λ (rs : List RowRef). start ++ flat_map (seen_text levels chain) rs) (take_all i rows le)
      ∙ ap (λ (l : List ℕ). start ++ l) (sym (flat_map_of_map (row_text levels chain) row_seen rows))
      ∙ ap (λ (rs : List ViewRow). start ++ flat_map (row_text levels chain) rs) are
      ∙ ap (λ (l : List ℕ). start ++ l) (sym (under_is levels chain))

  -- rows of the code have values within the total
  pub all_seen_within : (chain : List Item) (rows : List RowRef) → map row_seen rows ≡ rows_under c.period samples chain
      → All (λ r. (0 < r.inclusive.0) × (r.inclusive.0 ≤ total_value c) × (r.exclusive ≤ total_value c)) rows
  all_seen_within chain rows are i d lt =
      let at : row_seen (get_or rows i d) ≡ get_or (rows_under c.period samples chain) i (row_seen (get_or rows i d)) =
      sym (get_or-map row_seen rows i d (row_seen (get_or rows i d)) lt) ∙ ap (λ (rs : List ViewRow). get_or rs i (row_seen (get_or rows i d))) are in
      let long : length rows ≡ length (rows_under c.period samples chain) = sym (length-map rows row_seen) ∙ ap length are in
      let inside : i < length (rows_under c.period samples chain) = omega (arith, lt, long) in
      let some : 0 < (get_or rows i d).inclusive.0 = subst (λ (r : ViewRow). 0 < r.inclusive) (sym at) (inclusive_some c.period samples chain i (row_seen (get_or rows i d)) inside) in
      let whole : (get_or rows i d).inclusive.0 ≤ c.period * length samples = subst (λ (r : ViewRow). r.inclusive ≤ c.period * length samples) (sym at) (inclusive_most c.period samples chain i (row_seen (get_or rows i d)) inside) in
      let most : (get_or rows i d).inclusive.0 ≤ total_value c = subst (λ (k : ℕ). (get_or rows i d).inclusive.0 ≤ c.period * k) as_many_samples whole in
      let less : (get_or rows i d).exclusive ≤ (get_or rows i d).inclusive.0 = subst (λ (r : ViewRow). r.exclusive ≤ r.inclusive) (sym at) (exclusive_within c.period samples chain i (row_seen (get_or rows i d)) inside) in
      (some, most, omega (arith, most, less))

  pub narrowed_occurrences : (chain longer : List ItemRef) (item : ItemRef) (splits : List Split) (occurrences : List Occurrence) → AreSplits view c (items_seen chain) splits
      → occurrences ≡ map (λ s. s.rest) (filter (λ s. same_item (item_seen item) (item_seen s.item)) splits) → longer ≡ chain ++ item ∷ [] → AreOccurrences view c (items_seen longer) occurrences
  narrowed_occurrences chain longer item splits occurrences are is more =
      group_occurrences (items_seen chain) (items_seen longer) (item_seen item) splits occurrences are is (ap items_seen more ∙ map-append item_seen chain (item ∷ []))

pub longer_seen : (chain longer : List ItemRef) (item : ItemRef) → longer ≡ chain ++ item ∷ [] → items_seen longer ≡ items_seen chain ++ item_seen item ∷ []
longer_seen chain longer item more = ap items_seen more ∙ map-append item_seen chain (item ∷ [])

regroup : (out v s m l n : List ℕ) → ((((out ++ v) ++ s) ++ m) ++ l) ++ n ≡ out ++ (((v ++ s) ++ (m ++ l)) ++ n)
regroup out v s m l n = simp append_assoc

-- the parts of a row, one after the other
pub five_parts : (out a b d e f v s m l n : List ℕ) → a ≡ out ++ v → b ≡ a ++ s → d ≡ b ++ m → e ≡ d ++ l → f ≡ e ++ n → f ≡ out ++ (((v ++ s) ++ (m ++ l)) ++ n)
five_parts out a b d e f v s m l n ea eb ed ee ef =
    let whole : f ≡ ((((out ++ v) ++ s) ++ m) ++ l) ++ n = cc in
    whole ∙ regroup out v s m l n

pub callers_is : (c : Content) (depth levels : ℕ) → levels ≡ depth + 1 → view_table c.period (naming_in c.names) (mark_of Callers) (content_samples Callers c) levels ≡ callers c.period (naming_in c.names) depth (paths_of c)
unfolding callers
callers_is c depth levels e = ap (view_table c.period (naming_in c.names) (mark_of Callers) (content_samples Callers c)) e

pub flat_is : (c : Content) → view_table c.period (naming_in c.names) (mark_of Flat) (content_samples Flat c) 3 ≡ flat c.period (naming_in c.names) (paths_of c)
unfolding flat
flat_is c = refl

pub ruleset level_steps = (all_seen_within)

pub ruleset narrow_steps = (narrowed_occurrences, longer_seen)

pub ruleset row_steps = (names_ascend, view_more, view_none, view_all)

pub ruleset table_steps = (names_ascend, two_parts)
